use Rattle.std.proofs.Common.{◌+◌, ◌*◌, ◌≡◌, None, take}
use Rattle.starlark_ast.specs.StatementViews.{statements_of}
use Rattle.starlark_ast.specs.View.{stmt_at}
use Rattle.starlark_rulebook.specs.Kept as kept
use Rattle.starlark_rulebook.specs.Rules.{first_finding}
use Rattle.starlark_visit.specs.Sizes.{statement_size, sequence_size}
use Rattle.starlark_faults.proofs.kept.+statements.Given as goal

abbrev pub decreases-statement_fault : goal.decreases-statement_fault
decreases-statement_fault g l = 3 * statement_size (stmt_at l.x.now)

abbrev pub decreases-statements_fault : goal.decreases-statements_fault
decreases-statements_fault g l = 3 * sequence_size (statements_of l.xs.now) + 1

abbrev pub decreases-if_fault : goal.decreases-if_fault
decreases-if_fault g l = 3 * statement_size (stmt_at l.body.now) + 1

abbrev pub decreases-if_else_fault : goal.decreases-if_else_fault
decreases-if_else_fault g l = 3 * (statement_size (stmt_at l.body.now) + statement_size (stmt_at l.other.now)) + 2

abbrev pub decreases-for_fault : goal.decreases-for_fault
decreases-for_fault g l = 3 * statement_size (stmt_at l.x.now.body.value) + 1

abbrev pub decreases-def_fault : goal.decreases-def_fault
decreases-def_fault g l = 3 * statement_size (stmt_at l.x.now.body.value) + 1

abbrev pub invariant-statements_fault-loop-x : goal.invariant-statements_fault-loop-x
invariant-statements_fault-loop-x g l = None ≡ first_finding (kept.kept_sequence l.dialect (statements_of (take l.x-index l.xs)))
