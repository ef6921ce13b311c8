-- Where the comments of a text stand.
use Rattle.std.specs.Prelude.{◌≡◌, ℕ, [], ◌∷◌, if◌then◌else◌, Bool, true, false, List, length}
use Rattle.std.specs.List.{All}
use Rattle.starlark_place.specs.Place.{Extent, Holds, extent}
use Rattle.starlark_lexer.specs.Items.{Item, Lexed}
use Rattle.starlark_lexer.specs.Lex.{Lex, start}
use Rattle.starlark_grammar.specs.Language.{is_comment}

-- the places of those among the lexemes
abbrev pub comments_in : List Item → List Extent
comments_in [] = []
comments_in (x ∷ xs) = if is_comment x.lexeme then extent x.begin x.end ∷ comments_in xs else comments_in xs

-- for each of them, whether the lexeme right before it is a comment, too, and before them all where the first says so
abbrev pub joined_in : Bool → List Item → List Bool
joined_in b [] = []
joined_in b (x ∷ xs) = if is_comment x.lexeme then b ∷ joined_in true xs else joined_in false xs

-- These are the places of the comments of the text, and for each whether the lexeme right before it is a comment, too.
pub record AreComments (text : List ℕ) (places : List Extent) (joined : List Bool) : Type 0 where
  pub lexed : Lexed
  pub lexes : Lex start text lexed
  pub stand : places ≡ comments_in lexed.items
  pub follow : joined ≡ joined_in false lexed.items

-- The places cut no character of the text, and for each of them it is told whether the lexeme right before it is a comment, too.
pub record AreHeld (text : List ℕ) (places : List Extent) (joined : List Bool) : Type 0 where
  pub held : All (Holds text) places
  pub paired : length joined ≡ length places
