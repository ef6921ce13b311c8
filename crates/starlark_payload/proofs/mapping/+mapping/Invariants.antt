use Rattle.std.proofs.Common.{◌+◌, ◌*◌, length}
use Rattle.starlark_payload.specs.Around.{both_at}
use Rattle.starlark_payload.specs.Mapped.{seen}
use Rattle.starlark_payload.proofs.Loops.{Done}
use Rattle.starlark_payload.specs.Weights.{argument_weight, both_weight, clause_weight, expr_weight, for_clause_weight, maybe_weight, node_weight, parameter_weight, target_weight, three_weight, total, type_weight, unboxed}
use Rattle.starlark_payload.specs.Payloads.{argument_payloads, both_of, clause_payloads, expr_payloads, gives, parameter_payloads, target_payloads}
use Rattle.starlark_ast.specs.View.{argument_view, clause_view, expr_view, parameter_view, target_view}
use Rattle.starlark_payload.proofs.mapping.+mapping.Given as goal

abbrev pub decreases-expression : goal.decreases-expression
decreases-expression g l = 4 * expr_weight l.x

abbrev pub decreases-boxed_expression : goal.decreases-boxed_expression
decreases-boxed_expression g l = 1 + 4 * expr_weight l.x.value.node

abbrev pub decreases-maybe_expression : goal.decreases-maybe_expression
decreases-maybe_expression g l = 2 + 4 * maybe_weight expr_weight (unboxed l.x)

abbrev pub decreases-pair : goal.decreases-pair
decreases-pair g l = 1 + 4 * both_weight expr_weight l.x.value

abbrev pub decreases-triple : goal.decreases-triple
decreases-triple g l = 1 + 4 * three_weight expr_weight l.x.value

abbrev pub decreases-boxed_type : goal.decreases-boxed_type
decreases-boxed_type g l = 4 * type_weight l.x.value.node

abbrev pub decreases-maybe_boxed_type : goal.decreases-maybe_boxed_type
decreases-maybe_boxed_type g l = 1 + 4 * maybe_weight type_weight (unboxed l.x)

abbrev pub decreases-parameter : goal.decreases-parameter
decreases-parameter g l = 4 * parameter_weight l.x

abbrev pub decreases-target : goal.decreases-target
decreases-target g l = 4 * target_weight l.x

abbrev pub decreases-for_clause : goal.decreases-for_clause
decreases-for_clause g l = 4 * for_clause_weight l.x.value

abbrev pub decreases-clause : goal.decreases-clause
decreases-clause g l = 4 * clause_weight l.x.value

abbrev pub decreases-expressions : goal.decreases-expressions
decreases-expressions g l = 4 * total (node_weight expr_weight) l.xs.items

abbrev pub invariant-expressions-loop-x : goal.invariant-expressions-loop-x
invariant-expressions-loop-x g l =
    Done (gives g.F.AstPayloadFunction.gives_load g.F.AstPayloadFunction.gives_ident g.F.AstPayloadFunction.gives_ident_assign g.F.AstPayloadFunction.gives_def g.F.AstPayloadFunction.gives_type_expr)
    (λ y. expr_payloads y.node) (λ y. expr_payloads y.node) (seen expr_view) (seen expr_view) l.fn.f l.fn.xs.items l.rest.items l.f l.done.items

abbrev pub decreases-expressions-loop-x : goal.decreases-expressions-loop-x
decreases-expressions-loop-x g l = length l.rest.items

abbrev pub decreases-pairs : goal.decreases-pairs
decreases-pairs g l = 4 * total (both_weight expr_weight) l.xs.items

abbrev pub invariant-pairs-loop-x : goal.invariant-pairs-loop-x
invariant-pairs-loop-x g l =
    Done (gives g.F.AstPayloadFunction.gives_load g.F.AstPayloadFunction.gives_ident g.F.AstPayloadFunction.gives_ident_assign g.F.AstPayloadFunction.gives_def g.F.AstPayloadFunction.gives_type_expr)
    (both_of expr_payloads) (both_of expr_payloads) (both_at expr_view) (both_at expr_view) l.fn.f l.fn.xs.items l.rest.items l.f l.done.items

abbrev pub decreases-pairs-loop-x : goal.decreases-pairs-loop-x
decreases-pairs-loop-x g l = length l.rest.items

abbrev pub decreases-arguments : goal.decreases-arguments
decreases-arguments g l = 4 * total (node_weight argument_weight) l.xs.items

abbrev pub invariant-arguments-loop-x : goal.invariant-arguments-loop-x
invariant-arguments-loop-x g l =
    Done (gives g.F.AstPayloadFunction.gives_load g.F.AstPayloadFunction.gives_ident g.F.AstPayloadFunction.gives_ident_assign g.F.AstPayloadFunction.gives_def g.F.AstPayloadFunction.gives_type_expr)
    (λ y. argument_payloads y.node) (λ y. argument_payloads y.node) (seen argument_view) (seen argument_view) l.fn.f l.fn.xs.items l.rest.items l.f l.done.items

abbrev pub decreases-arguments-loop-x : goal.decreases-arguments-loop-x
decreases-arguments-loop-x g l = length l.rest.items

abbrev pub decreases-parameters : goal.decreases-parameters
decreases-parameters g l = 4 * total (node_weight parameter_weight) l.xs.items

abbrev pub invariant-parameters-loop-x : goal.invariant-parameters-loop-x
invariant-parameters-loop-x g l =
    Done (gives g.F.AstPayloadFunction.gives_load g.F.AstPayloadFunction.gives_ident g.F.AstPayloadFunction.gives_ident_assign g.F.AstPayloadFunction.gives_def g.F.AstPayloadFunction.gives_type_expr)
    (λ y. parameter_payloads y.node) (λ y. parameter_payloads y.node) (seen parameter_view) (seen parameter_view) l.fn.f l.fn.xs.items l.rest.items l.f l.done.items

abbrev pub decreases-parameters-loop-x : goal.decreases-parameters-loop-x
decreases-parameters-loop-x g l = length l.rest.items

abbrev pub decreases-targets : goal.decreases-targets
decreases-targets g l = 4 * total (node_weight target_weight) l.xs.items

abbrev pub invariant-targets-loop-x : goal.invariant-targets-loop-x
invariant-targets-loop-x g l =
    Done (gives g.F.AstPayloadFunction.gives_load g.F.AstPayloadFunction.gives_ident g.F.AstPayloadFunction.gives_ident_assign g.F.AstPayloadFunction.gives_def g.F.AstPayloadFunction.gives_type_expr)
    (λ y. target_payloads y.node) (λ y. target_payloads y.node) (seen target_view) (seen target_view) l.fn.f l.fn.xs.items l.rest.items l.f l.done.items

abbrev pub decreases-targets-loop-x : goal.decreases-targets-loop-x
decreases-targets-loop-x g l = length l.rest.items

abbrev pub decreases-clauses : goal.decreases-clauses
decreases-clauses g l = 4 * total clause_weight l.xs.items

abbrev pub invariant-clauses-loop-x : goal.invariant-clauses-loop-x
invariant-clauses-loop-x g l =
    Done (gives g.F.AstPayloadFunction.gives_load g.F.AstPayloadFunction.gives_ident g.F.AstPayloadFunction.gives_ident_assign g.F.AstPayloadFunction.gives_def g.F.AstPayloadFunction.gives_type_expr)
    clause_payloads clause_payloads clause_view clause_view l.fn.f l.fn.xs.items l.rest.items l.f l.done.items

abbrev pub decreases-clauses-loop-x : goal.decreases-clauses-loop-x
decreases-clauses-loop-x g l = length l.rest.items
