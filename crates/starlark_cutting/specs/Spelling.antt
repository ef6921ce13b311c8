-- Lexemes that are put behind a text, and how they are spelled.
use Rattle.std.specs.Prelude.{ℕ, List, [], ◌∷◌}
use Rattle.starlark_lexer.specs.Items.{Lexeme, identifier, string, keyword_else, keyword_in, keyword_pass, comma, colon, equal, opening_round, closing_round, closing_square, closing_curly}

-- the lexemes that are put behind a text
pub data Plain : Type 0 where
  a_name an_else an_in a_pass a_comma a_colon an_equal an_opening a_round a_square a_curly a_string : Plain

-- as lexemes
abbrev pub lexeme_of : Plain → Lexeme
lexeme_of a_name = identifier (120 ∷ [])
lexeme_of an_else = keyword_else
lexeme_of an_in = keyword_in
lexeme_of a_pass = keyword_pass
lexeme_of a_comma = comma
lexeme_of a_colon = colon
lexeme_of an_equal = equal
lexeme_of an_opening = opening_round
lexeme_of a_round = closing_round
lexeme_of a_square = closing_square
lexeme_of a_curly = closing_curly
lexeme_of a_string = string []

-- as bytes
abbrev pub spelling : Plain → List ℕ
spelling a_name = 120 ∷ []
spelling an_else = 101 ∷ 108 ∷ 115 ∷ 101 ∷ []
spelling an_in = 105 ∷ 110 ∷ []
spelling a_pass = 112 ∷ 97 ∷ 115 ∷ 115 ∷ []
spelling a_comma = 44 ∷ []
spelling a_colon = 58 ∷ []
spelling an_equal = 61 ∷ []
spelling an_opening = 40 ∷ []
spelling a_round = 41 ∷ []
spelling a_square = 93 ∷ []
spelling a_curly = 125 ∷ []
spelling a_string = 34 ∷ 34 ∷ []
