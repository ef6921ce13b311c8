use Rattle.std.proofs.Common.{◌+◌, take}
use Rattle.std.specs.Fmt.{HasWritten, IsPlainFormatter}
use Rattle.starlark_ast.specs.Printing.{sequence_text}
use Rattle.starlark_ast.specs.Shown.{nowhere}
use Rattle.starlark_ast.specs.StatementViews.{statements_of}
use Rattle.starlark_ast.specs.View.{stmt_at, stmt_view}
use Rattle.starlark_ast.proofs.Blocks.{statement_size, sequence_size}
use Rattle.starlark_ast.proofs.lines.+lines.Given as goal

abbrev pub decreases-write_statement : goal.decreases-write_statement
decreases-write_statement g l = statement_size (stmt_view l.x.now nowhere)

abbrev pub decreases-write_statements : goal.decreases-write_statements
decreases-write_statements g l = sequence_size (statements_of l.xs.now)

abbrev pub decreases-write_body : goal.decreases-write_body
decreases-write_body g l = 1 + statement_size (stmt_at l.body.now)

abbrev pub decreases-write_if : goal.decreases-write_if
decreases-write_if g l = 2 + statement_size (stmt_at l.body.now)

abbrev pub decreases-write_if_else : goal.decreases-write_if_else
decreases-write_if_else g l = 2 + (statement_size (stmt_at l.body.now) + statement_size (stmt_at l.other.now))

abbrev pub decreases-write_for : goal.decreases-write_for
decreases-write_for g l = 2 + statement_size (stmt_at l.x.now.body.value)

abbrev pub decreases-write_def : goal.decreases-write_def
decreases-write_def g l = 2 + statement_size (stmt_at l.x.now.body.value)

abbrev pub invariant-write_statements-loop-x : goal.invariant-write_statements-loop-x
invariant-write_statements-loop-x g l =
    IsPlainFormatter l.fn.f → HasWritten g.W.Write.write_str_gives l.fn.f (sequence_text l.depth (statements_of (take l.x-index l.xs))) l.f
