use Rattle.std.proofs.Common.{◌≡◌, ◌+◌, take}
use Rattle.starlark_clone.specs.Copies.{sequence_by}
use Rattle.starlark_clone.specs.Replacing.{replaced_sequence}
use Rattle.starlark_ast.specs.Shown.{nowhere}
use Rattle.starlark_ast.specs.StatementViews.{statements_of}
use Rattle.starlark_ast.specs.View.{stmt_at, stmt_view}
use Rattle.starlark_ast.proofs.Blocks.{statement_size, sequence_size}
use Rattle.starlark_clone.proofs.again_statements.+statements.Given as goal

abbrev pub decreases-statement : goal.decreases-statement
decreases-statement g l = statement_size (stmt_view l.x.now nowhere)

abbrev pub decreases-body : goal.decreases-body
decreases-body g l = 1 + statement_size (stmt_at l.x.now)

abbrev pub decreases-bodies : goal.decreases-bodies
decreases-bodies g l = 1 + (statement_size (stmt_at l.x.now.0) + statement_size (stmt_at l.x.now.1))

abbrev pub decreases-several : goal.decreases-several
decreases-several g l = sequence_size (statements_of l.xs.now)

abbrev pub decreases-for_parts : goal.decreases-for_parts
decreases-for_parts g l = 2 + statement_size (stmt_at l.x.now.body.value)

abbrev pub decreases-def_parts : goal.decreases-def_parts
decreases-def_parts g l = 2 + statement_size (stmt_at l.x.now.body.value)

abbrev pub invariant-several-loop-x : goal.invariant-several-loop-x
invariant-several-loop-x g l = sequence_by g.M.MakeStatements.says l.all.items ≡ replaced_sequence (g.R.Rename.renames l.by) (statements_of (take l.x-index l.xs))
