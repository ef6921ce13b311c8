-- Lexemes that close what is open.
use Rattle.std.specs.Prelude.{ℕ, List, ◌∷◌, []}
use Rattle.starlark_lexer.specs.Items.{Lexeme, newline, dedent, identifier, fstring_expr_end, fstring_end}
use Rattle.starlark_cutting.specs.Spelling.{Plain, lexeme_of}
use Rattle.starlark_cutting.specs.Opened.{Nest, outside, in_field, in_text, Goes_to}
use Rattle.starlark_completion.specs.Ending.{copies}

-- those that are put behind texts, with which all is closed, and behind them a line end and so many Dedents
pub data Closes (k : ℕ) : Nest → List Lexeme → Type 0 where
  line_ends : Closes k (outside 0) (newline ∷ copies k dedent)
  by_plain : {r : Nest} {xs : List Lexeme} (p : Plain) (t : Nest) → Goes_to (lexeme_of p) r t → Closes k t xs → Closes k r (lexeme_of p ∷ xs)
  by_letter : {r : Nest} {xs : List Lexeme} → Closes k (in_field 0 r) xs → Closes k (in_field 0 r) (identifier (115 ∷ []) ∷ xs)
  by_field : {r : Nest} {xs : List Lexeme} → Closes k (in_text r) xs → Closes k (in_field 0 r) (fstring_expr_end ∷ xs)
  by_text : {r : Nest} {xs : List Lexeme} → Closes k r xs → Closes k (in_text r) (fstring_end ∷ xs)
