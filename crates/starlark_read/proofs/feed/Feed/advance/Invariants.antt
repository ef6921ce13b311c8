use Rattle.std.proofs.Common.{◌≡◌, ◌≤◌, length}
use Rattle.starlark_read.specs.Asides.{in_all}
use Rattle.starlark_grammar.specs.Language.{uncommented}
use Rattle.starlark_read.specs.Reads.{behind_token}
use Rattle.starlark_read.proofs.feed.Feed.advance.Given as goal

abbrev pub invariant-loop-answer : goal.invariant-loop-answer
invariant-loop-answer l = (uncommented l.fn.self.lexer.left ≡ uncommented l.self.lexer.left) × (in_all l.self ≡ in_all l.fn.self) × (behind_token l.fn.self.lexer.left.items ≡ behind_token l.self.lexer.left.items) × (l.fn.self.lexer.place ≤ l.self.lexer.place) × (l.ahead ≡ l.fn.ahead)

abbrev pub decreases-loop-answer : goal.decreases-loop-answer
decreases-loop-answer l = length l.self.lexer.left.items
