-- Where a place of a text is among f-strings and brackets that are open, and what is put behind a text that is cut off there.
use Rattle.std.specs.Prelude.{◌≡◌, ℕ, suc, Bool, true, false, List, [], ◌∷◌, IsAscii}
use Rattle.starlark_lexer.specs.Items.{Lexeme, comment, identifier, opening_round, opening_square, opening_curly, closing_round, closing_square, closing_curly, fstring_start, fstring_text, fstring_expr_start, fstring_bang, fstring_expr_end, fstring_end, Item}
use Rattle.starlark_cutting.specs.Cutting.{IsFinished}
use Rattle.starlark_cutting.specs.Spelling.{Plain, lexeme_of}

-- where a place is: outside all f-strings or in a field, with so many brackets open there, or in the text of an f-string; and where that f-string stands
pub data Nest : Type 0 where
  outside : ℕ → Nest
  in_field : ℕ → Nest → Nest
  in_text : Nest → Nest

-- with one bracket more
abbrev pub deeper : Nest → Nest
deeper (outside n) = outside (suc n)
deeper (in_field n m) = in_field (suc n) m
deeper (in_text m) = in_text m

abbrev pub within_text : Nest → Bool
within_text (in_text m) = true
within_text _ = false

-- where the place before a lexeme is, and where the one behind it is
abbrev pub Goes_to : Lexeme → Nest → Nest → Type 0
Goes_to opening_round m n = (within_text m ≡ false) × (n ≡ deeper m)
Goes_to opening_square m n = (within_text m ≡ false) × (n ≡ deeper m)
Goes_to opening_curly m n = (within_text m ≡ false) × (n ≡ deeper m)
Goes_to closing_round m n = (within_text m ≡ false) × (m ≡ deeper n)
Goes_to closing_square m n = (within_text m ≡ false) × (m ≡ deeper n)
Goes_to closing_curly m n = (within_text m ≡ false) × (m ≡ deeper n)
Goes_to (fstring_start q) m n = (within_text m ≡ false) × (n ≡ in_text m)
Goes_to (fstring_text v) m n = (within_text m ≡ true) × (n ≡ m)
Goes_to fstring_expr_start m n = (k : Nest) × ((m ≡ in_text k) × (n ≡ in_field 0 k))
Goes_to fstring_bang m n = (k : Nest) × ((m ≡ in_field 0 k) × (n ≡ m))
Goes_to fstring_expr_end m n = (k : Nest) × ((m ≡ in_field 0 k) × (n ≡ in_text k))
Goes_to fstring_end m n = m ≡ in_text n
Goes_to (comment v) m n = n ≡ m
Goes_to x m n = (within_text m ≡ false) × (n ≡ m)

-- the same of lexemes one behind the other
abbrev pub Way : Nest → List Lexeme → Nest → Type 0
Way m [] n = m ≡ n
Way m (x ∷ xs) n = (k : Nest) × (Goes_to x m k × Way k xs n)

-- what is put behind a text: a word, the letter of a conversion, the brace that ends a field, and the quotes that end an f-string
pub data Put : Type 0 where
  plain : Plain → Put
  a_letter : Put
  field_end : Put
  string_end : Put

abbrev pub put_lexeme : Put → Lexeme
put_lexeme (plain p) = lexeme_of p
put_lexeme a_letter = identifier (115 ∷ [])
put_lexeme field_end = fstring_expr_end
put_lexeme string_end = fstring_end

abbrev pub put_lexemes : List Put → List Lexeme
put_lexemes [] = []
put_lexemes (x ∷ xs) = put_lexeme x ∷ put_lexemes xs

abbrev pub is_text : Lexeme → Bool
is_text (fstring_text v) = true
is_text _ = false

-- With some bytes and a line feed behind it the text is cut into the items of the front, those lexemes, the line end and the end of the text.
pub record IsFinishedBy (text : List ℕ) (front : List Item) (xs : List Lexeme) : Type 0 where
  pub bytes : List ℕ
  -- each of them is an ASCII byte
  pub ascii : IsAscii bytes
  pub finished : IsFinished text bytes front xs
