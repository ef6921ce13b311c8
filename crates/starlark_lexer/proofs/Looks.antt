-- What is counted at the pieces of a body.
use Rattle.std.proofs.Common.{◌≡◌, ◌≤◌, ◌+◌, ◌*◌, ℕ, true, refl, subst, arith}
use Rattle.std.specs.Prelude.{Option, None, Some}
use Rattle.starlark_lexer.specs.declared.literal.Piece.{Piece}
use Rattle.starlark_lexer.specs.declared.literal.Piece.TheVariants.{Closing, Field, Stop, Wrong, Nothing, Char, Byte, Same}
use Rattle.starlark_lexer.specs.declared.literal.Ending.{Ending}
use Rattle.starlark_lexer.specs.declared.token.FStringQuote.{FStringQuote}
use Rattle.starlark_lexer.specs.Fronts.{due, ending_at, is_item, owed, passed, width}

pub item_passed : (q : FStringQuote) (p : Piece) → is_item p ≡ true → passed q p ≡ width p
item_passed q Closing h = cc
item_passed q Field h = cc
item_passed q Stop h = refl
item_passed q (Wrong n) h = refl
item_passed q (Nothing n) h = refl
item_passed q (Char c n) h = refl
item_passed q (Byte b n) h = refl
item_passed q (Same n) h = refl

pub on_passed : (q : FStringQuote) (i : ℕ) (p : Piece) → ending_at i p ≡ None → passed q p ≡ width p
on_passed q i Closing h = cc
on_passed q i Field h = cc
on_passed q i Stop h = refl
on_passed q i (Wrong n) h = refl
on_passed q i (Nothing n) h = refl
on_passed q i (Char c n) h = refl
on_passed q i (Byte b n) h = refl
on_passed q i (Same n) h = refl

-- a piece that ends no body is found with five looks more than it has bytes, at most
pub item_due : (i : ℕ) (p : Piece) → ending_at i p ≡ None → due p ≤ width p + 5
item_due i Closing h = cc
item_due i Field h = cc
item_due i Stop h = cc
item_due i (Wrong n) h = cc
item_due i (Nothing n) h = omega arith
item_due i (Char c n) h = omega arith
item_due i (Byte b n) h = omega arith
item_due i (Same n) h = omega arith

abbrev owed_in : Option Ending → ℕ
owed_in None = 0
owed_in (Some e) = owed e

-- eight looks for each byte before the piece, one behind them, and those for the piece
pub end_owed : (i : ℕ) (p : Piece) (e : Ending) → ending_at i p ≡ Some e → 8 * i + 1 + due p ≤ owed e
end_owed i Closing e h = subst (λ o. 8 * i + 1 + due Closing ≤ owed_in o) h (omega arith)
end_owed i Field e h = subst (λ o. 8 * i + 1 + due Field ≤ owed_in o) h (omega arith)
end_owed i Stop e h = subst (λ o. 8 * i + 1 + due Stop ≤ owed_in o) h (omega arith)
end_owed i (Wrong n) e h = subst (λ o. 8 * i + 1 + (n + 13) ≤ owed_in o) h (omega arith)
end_owed i (Nothing n) e h = cc
end_owed i (Char c n) e h = cc
end_owed i (Byte b n) e h = cc
end_owed i (Same n) e h = cc
