-- The words that are put behind a text, as lexemes, and that they are ASCII.
use Rattle.std.proofs.Common.{◌≡◌, [], ◌∷◌, refl, arith, IsAscii}
use Rattle.std.specs.Prelude.{Some}
use Rattle.std.proofs.lemmas.Str.Ascii.{IsAscii-nil, IsAscii-cons}
use Rattle.starlark_lexer.specs.Items.{newline, item, nothing, with_items, identifier, keyword_else, keyword_in, keyword_pass, comma, colon, equal, opening_round, closing_round, closing_square, closing_curly}
use Rattle.starlark_lexer.specs.Classes.{meaning, token, keyword_of, is_reserved, operator_of}
use Rattle.starlark_lexer.specs.Literals.{opening_of}
use Rattle.starlark_lexer.specs.Lex.{Lex, start, is_over}
use Rattle.starlark_lexer.specs.Lex as rules
use Rattle.starlark_lexer.proofs.Widths.{no_lines}
use Rattle.starlark_cutting.specs.Spelling.{Plain, spelling}
use Rattle.starlark_cutting.specs.Spelling as plain

pub a_name : meaning (120 ∷ []) ≡ Some (token (identifier (120 ∷ [])))
unfolding meaning keyword_of is_reserved
a_name = refl

pub an_else : meaning (101 ∷ 108 ∷ 115 ∷ 101 ∷ []) ≡ Some (token keyword_else)
unfolding meaning keyword_of
an_else = refl

pub an_in : meaning (105 ∷ 110 ∷ []) ≡ Some (token keyword_in)
unfolding meaning keyword_of
an_in = refl

pub a_pass : meaning (112 ∷ 97 ∷ 115 ∷ 115 ∷ []) ≡ Some (token keyword_pass)
unfolding meaning keyword_of
a_pass = refl

pub a_comma : meaning (44 ∷ []) ≡ Some (token comma)
unfolding meaning opening_of operator_of
a_comma = refl

pub a_colon : meaning (58 ∷ []) ≡ Some (token colon)
unfolding meaning opening_of operator_of
a_colon = refl

pub an_equal : meaning (61 ∷ []) ≡ Some (token equal)
unfolding meaning opening_of operator_of
an_equal = refl

pub an_opening : meaning (40 ∷ []) ≡ Some (token opening_round)
unfolding meaning opening_of operator_of
an_opening = refl

pub a_round : meaning (41 ∷ []) ≡ Some (token closing_round)
unfolding meaning opening_of operator_of
a_round = refl

pub a_square : meaning (93 ∷ []) ≡ Some (token closing_square)
unfolding meaning opening_of operator_of
a_square = refl

pub a_curly : meaning (125 ∷ []) ≡ Some (token closing_curly)
unfolding meaning opening_of operator_of
a_curly = refl

-- the bytes of a word
pub ascii : (p : Plain) → IsAscii (spelling p)
ascii plain.a_name = IsAscii-cons 120 [] (omega arith) IsAscii-nil
ascii plain.an_else = IsAscii-cons 101 (108 ∷ 115 ∷ 101 ∷ []) (omega arith) (IsAscii-cons 108 (115 ∷ 101 ∷ []) (omega arith) (IsAscii-cons 115 (101 ∷ []) (omega arith) (IsAscii-cons 101 [] (omega arith) IsAscii-nil)))
ascii plain.an_in = IsAscii-cons 105 (110 ∷ []) (omega arith) (IsAscii-cons 110 [] (omega arith) IsAscii-nil)
ascii plain.a_pass = IsAscii-cons 112 (97 ∷ 115 ∷ 115 ∷ []) (omega arith) (IsAscii-cons 97 (115 ∷ 115 ∷ []) (omega arith) (IsAscii-cons 115 (115 ∷ []) (omega arith) (IsAscii-cons 115 [] (omega arith) IsAscii-nil)))
ascii plain.a_comma = IsAscii-cons 44 [] (omega arith) IsAscii-nil
ascii plain.a_colon = IsAscii-cons 58 [] (omega arith) IsAscii-nil
ascii plain.an_equal = IsAscii-cons 61 [] (omega arith) IsAscii-nil
ascii plain.an_opening = IsAscii-cons 40 [] (omega arith) IsAscii-nil
ascii plain.a_round = IsAscii-cons 41 [] (omega arith) IsAscii-nil
ascii plain.a_square = IsAscii-cons 93 [] (omega arith) IsAscii-nil
ascii plain.a_curly = IsAscii-cons 125 [] (omega arith) IsAscii-nil
ascii plain.a_string = IsAscii-cons 34 (34 ∷ []) (omega arith) (IsAscii-cons 34 [] (omega arith) IsAscii-nil)

-- the empty text is cut into one line end
pub empty_text : Lex start [] (with_items (item 0 newline 0 ∷ []) nothing)
empty_text = is_over start [] (with_items (item 0 newline 0 ∷ []) nothing) (rules.last_line start [] [] refl refl (record { once = no_lines.once; each = λ x. no_lines.each x }))
