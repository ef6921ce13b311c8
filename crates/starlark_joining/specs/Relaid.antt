-- Tokens with other line ends that make the same tree, but for places.
use Rattle.std.specs.Prelude.{◌≡◌, ℕ, List, [], ◌∷◌, Bool, true, false}
use Rattle.starlark_lexer.specs.Items.{Lexeme, newline, dedent, keyword_elif, keyword_else, Item, item}
use Rattle.starlark_ast.specs.Tree.{Statement}
use Rattle.starlark_grammar.specs.Grammar.{Derives}
use Rattle.starlark_joining.specs.Same.{SameStatement}

-- any two places
abbrev pub Anywhere : ℕ → ℕ → Type 0
Anywhere x y = Unit {0}

-- an `if` goes on with it
abbrev pub is_else : Lexeme → Bool
is_else keyword_else = true
is_else keyword_elif = true
is_else _ = false

-- no `if` goes on with the first of them
abbrev pub NoElse : List Item → Type 0
NoElse [] = Unit {0}
NoElse (x ∷ xs) = is_else x.lexeme ≡ false

-- a line begins behind it
abbrev pub ends_row : Lexeme → Bool
ends_row newline = true
ends_row dedent = true
ends_row _ = false

-- The second tokens are the first, at any places, with other line ends. Before both stands whether a line begins with the first of them.
pub data Relaid : Bool → List Item → List Item → Type 0 where
  no_token : {b : Bool} → Relaid b [] []
  same_token : {b : Bool} {i j u v : ℕ} {x : Lexeme} {xs ys : List Item} → Relaid (ends_row x) xs ys → Relaid b (item i x j ∷ xs) (item u x v ∷ ys)
  -- at a line's beginning a line end is left out
  left_out : {i j : ℕ} {xs ys : List Item} → Relaid true xs ys → Relaid true (item i newline j ∷ xs) ys
  -- or put in, if no `if` goes on there
  put_in : {u v : ℕ} {xs ys : List Item} → NoElse xs → Relaid true xs ys → Relaid true xs (item u newline v ∷ ys)
  -- before a Dedent one is put in
  put_before : {b : Bool} {i j u v : ℕ} {xs ys : List Item} → Relaid b (item i dedent j ∷ xs) ys → Relaid b (item i dedent j ∷ xs) (item u newline v ∷ ys)

-- the tokens are of Module, with that tree but for places
pub record DerivesSame (us : List Item) (raw : Statement) : Type 0 where
  pub tree : Statement
  pub derives : Derives us tree
  pub same : SameStatement Anywhere raw tree
