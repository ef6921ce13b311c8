use Rattle.std.proofs.Common.{◌≡◌, take, true}
use Rattle.std.specs.Char.{is_digit}
use Rattle.std.specs.List.{list_all}
use Rattle.starlark_lexer.proofs.number.is_digits.Given as goal

abbrev pub invariant-loop-digit : goal.invariant-loop-digit
invariant-loop-digit l = list_all (λ c. is_digit c l.base) (take l.digit-index l.digits) ≡ true
