-- Dedents open and close no bracket, and leave the last line end where it is.
use Rattle.std.proofs.Common.{◌≡◌, ℕ, List, ◌++◌, refl, zero, suc}
use Rattle.std.specs.Prelude.{count_by}
use Rattle.starlark_lexer.specs.Items.{Item, opening_item, closing_item, dedents, newline_span}

pub dedents_opened : (i n : ℕ) (xs : List Item) → count_by opening_item (dedents i n ++ xs) ≡ count_by opening_item xs
dedents_opened i zero xs = refl
dedents_opened i (suc n) xs = dedents_opened i n xs

pub dedents_closed : (i n : ℕ) (xs : List Item) → count_by closing_item (dedents i n ++ xs) ≡ count_by closing_item xs
dedents_closed i zero xs = refl
dedents_closed i (suc n) xs = dedents_closed i n xs

pub dedents_span : (i n : ℕ) (xs : List Item) → newline_span (dedents i n ++ xs) ≡ newline_span xs
dedents_span i zero xs = refl
dedents_span i (suc n) xs = dedents_span i n xs
