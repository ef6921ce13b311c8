-- What the tokens of an expression without operators come to.
use Rattle.std.specs.Prelude.{ℕ, List, [], ◌∷◌, Option, Some, None, Bool, true, false}
use Rattle.starlark_place.specs.Place.{Extent}
use Rattle.starlark_lexer.specs.Items.{Lexeme, Item, fstring_start, opening_round, opening_square, opening_curly}
use Rattle.starlark_ast.specs.Tree as tree
use Rattle.starlark_grammar.specs.Tables.{Bracket, round, square, curly, Beginning, leaf, beginning, conversion}
use Rattle.starlark_grammar.specs.Sorts.{name_of, text_of}

-- a token that is an expression
abbrev pub is_leaf : Option Beginning → Bool
is_leaf (Some (leaf l)) = true
is_leaf _ = false

abbrev pub leaf_ahead : List Item → Bool
leaf_ahead [] = false
leaf_ahead (x ∷ xs) = is_leaf (beginning x.lexeme)

-- a token that begins one of several tokens without operators
abbrev pub is_opening : Lexeme → Bool
is_opening opening_round = true
is_opening opening_square = true
is_opening opening_curly = true
is_opening (fstring_start q) = true
is_opening _ = false

abbrev pub opening_ahead : List Item → Bool
opening_ahead [] = false
opening_ahead (x ∷ xs) = is_opening x.lexeme

-- members behind a first comma, with the brackets and without
abbrev pub gathered : Bracket → tree.Members → Extent → Extent → tree.Expr
gathered round ms outer inner = tree.tuple ms inner
gathered square ms outer inner = tree.list ms outer
gathered curly ms outer inner = tree.dict ms outer

-- an f-string begins
abbrev pub is_quoted : Lexeme → Bool
is_quoted (fstring_start q) = true
is_quoted _ = false

abbrev pub quoted_ahead : List Item → Bool
quoted_ahead [] = false
quoted_ahead (x ∷ xs) = is_quoted x.lexeme

-- the text of an f-string that the tokens begin with
abbrev pub text_ahead : List Item → Option (List ℕ)
text_ahead [] = None
text_ahead (x ∷ xs) = text_of x.lexeme

-- what a name asks for behind `!`
abbrev pub converted : Option (List ℕ) → Option (List ℕ)
converted None = None
converted (Some n) = conversion n

abbrev pub conversion_ahead : List Item → Option (List ℕ)
conversion_ahead [] = None
conversion_ahead (x ∷ xs) = converted (name_of x.lexeme)
