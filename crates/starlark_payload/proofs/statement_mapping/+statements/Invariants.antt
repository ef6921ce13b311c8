use Rattle.std.proofs.Common.{◌+◌, ◌*◌, length}
use Rattle.starlark_ast.specs.View.{stmt_view}
use Rattle.starlark_payload.specs.Mapped.{seen}
use Rattle.starlark_payload.specs.Payloads.{gives, stmt_payloads}
use Rattle.starlark_payload.specs.StatementWeights.{def_weight, for_weight, stmt_weight}
use Rattle.starlark_payload.specs.Weights.{both_weight, node_weight, total}
use Rattle.starlark_payload.proofs.Loops.{Done}
use Rattle.starlark_payload.proofs.statement_mapping.+statements.Given as goal

abbrev pub decreases-statement : goal.decreases-statement
decreases-statement g l = 1 + 3 * stmt_weight l.x

abbrev pub decreases-branch : goal.decreases-branch
decreases-branch g l = 3 * stmt_weight l.x

abbrev pub decreases-branches : goal.decreases-branches
decreases-branches g l = 3 * stmt_weight l.x

abbrev pub decreases-for_loop : goal.decreases-for_loop
decreases-for_loop g l = 3 * for_weight l.x

abbrev pub decreases-suite : goal.decreases-suite
decreases-suite g l = 2 + 3 * stmt_weight l.x.value.node

abbrev pub decreases-suites : goal.decreases-suites
decreases-suites g l = 2 + 3 * both_weight stmt_weight l.x.value

abbrev pub decreases-def : goal.decreases-def
decreases-def g l = 3 * def_weight l.x

abbrev pub decreases-statements : goal.decreases-statements
decreases-statements g l = 3 * total (node_weight stmt_weight) l.xs.items

abbrev pub invariant-statements-loop-x : goal.invariant-statements-loop-x
invariant-statements-loop-x g l =
    Done (gives g.F.AstPayloadFunction.gives_load g.F.AstPayloadFunction.gives_ident g.F.AstPayloadFunction.gives_ident_assign g.F.AstPayloadFunction.gives_def g.F.AstPayloadFunction.gives_type_expr)
    (λ y. stmt_payloads y.node) (λ y. stmt_payloads y.node) (seen stmt_view) (seen stmt_view) l.fn.f l.fn.xs.items l.rest.items l.f l.done.items

abbrev pub decreases-statements-loop-x : goal.decreases-statements-loop-x
decreases-statements-loop-x g l = length l.rest.items
