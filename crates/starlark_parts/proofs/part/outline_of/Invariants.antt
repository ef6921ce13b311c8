use Rattle.std.proofs.Common.{length}
use Rattle.starlark_ast.specs.View.{stmt_at}
use Rattle.starlark_parts.specs.Cursor.{IsAt}
use Rattle.starlark_parts.specs.Walk.{left}
use Rattle.starlark_parts.proofs.Reading.{SoFar}
use Rattle.starlark_parts.proofs.part.outline_of.Given as goal

abbrev pub invariant-loop-statement : goal.invariant-loop-statement
invariant-loop-statement l = record { at : IsAt l.text l.cursor; far : SoFar l.text (stmt_at l.tree) l.items.items (left l.walk) }

abbrev pub decreases-loop-statement : goal.decreases-loop-statement
decreases-loop-statement l = length (left l.walk)
