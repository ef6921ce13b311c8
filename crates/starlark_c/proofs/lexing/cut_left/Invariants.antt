use Rattle.std.proofs.Common.{◌≡◌, ◌+◌, length}
use Rattle.starlark_c.specs.Counts.{widths}
use Rattle.starlark_c.proofs.lexing.cut_left.Given as goal

abbrev pub invariant-loop-answer : goal.invariant-loop-answer
invariant-loop-answer l = (l.tally.tokens + length l.lexer.left.items ≡ length l.fn.lexer.left.items) × (l.tally.bytes + widths l.lexer.left.items ≡ widths l.fn.lexer.left.items)

abbrev pub decreases-loop-answer : goal.decreases-loop-answer
decreases-loop-answer l = length l.lexer.left.items
