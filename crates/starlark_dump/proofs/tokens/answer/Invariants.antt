use Rattle.std.proofs.Common.{length}
use Rattle.starlark_dump.proofs.tokens.answer.Given as goal

abbrev pub decreases-loop-item : goal.decreases-loop-item
decreases-loop-item l = length l.lexer.left.items
