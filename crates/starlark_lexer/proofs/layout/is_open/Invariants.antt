use Rattle.std.proofs.Common.{◌≡◌, drop}
use Rattle.starlark_lexer.specs.Widths.{has}
use Rattle.starlark_lexer.proofs.layout.is_open.Given as goal

abbrev pub invariant-loop-x : goal.invariant-loop-x
invariant-loop-x l = has (drop l.x-index l.widths) l.width ≡ has l.widths l.width
