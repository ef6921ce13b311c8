-- Outlines of texts, and of texts one behind another.
use Rattle.std.specs.Prelude.{◌≡◌, ℕ, ◌+◌, List, [], ◌∷◌, ◌++◌, map, Some}
use Rattle.starlark_place.specs.Place.{line_feeds}
use Rattle.starlark_place.specs.Resolved.{resolved}
use Rattle.starlark_place.specs.declared.resolved.ResolvedPos.{ResolvedPos}
use Rattle.starlark_lexer.specs.declared.dialect.Dialect.{Dialect}
use Rattle.starlark_ast.specs.Tree.{Statement, statement_place}
use Rattle.starlark_grammar.specs.Language.{Language}
use Rattle.starlark_parts.specs.Bare.{bare}
use Rattle.starlark_parts.specs.Tops.{top_level, word_of}
use Rattle.starlark_parts.specs.declared.word.OutlineItem.{OutlineItem}

-- the line and column of the text at which a statement begins
abbrev pub beginning : List ℕ → Statement → ResolvedPos
beginning text s = resolved text (statement_place s).begin

-- The items are those of a tree of the text: for each statement at its top, in order, its word, and the line and column at which it begins.
pub record AreItems (text : List ℕ) (tree : Statement) (items : List OutlineItem) : Type 0 where
  pub words : map (λ x. Some x.word) items ≡ map word_of (top_level tree)
  pub begins : map (λ x. x.begin) items ≡ map (beginning text) (top_level tree)

-- The text is in the language.
pub record IsInLanguage (dialect : Dialect) (text : List ℕ) : Type 0 where
  pub tree : Statement
  pub language : Language dialect text tree

-- The items are the outline of the text: the text is in the language, and they are those of its tree.
pub record IsOutline (dialect : Dialect) (text : List ℕ) (items : List OutlineItem) : Type 0 where
  pub tree : Statement
  pub language : Language dialect text tree
  pub all : AreItems text tree items

-- a place behind so many lines
abbrev pub place_down : ℕ → ResolvedPos → ResolvedPos
place_down n p = record { line = n + p.line; column = p.column }

-- an item behind so many lines
abbrev pub item_down : ℕ → OutlineItem → OutlineItem
item_down n x = record { word = x.word; begin = place_down n x.begin }

-- an outline behind so many lines
abbrev pub items_down : ℕ → List OutlineItem → List OutlineItem
items_down n xs = map (item_down n) xs

-- The outlines of texts, part after part, behind so many lines: that of each is moved down by the line feeds before it.
pub data AreOutlines (dialect : Dialect) : ℕ → List (List ℕ) → List OutlineItem → Type 0 where
  no_texts : {n : ℕ} → AreOutlines dialect n [] []
  and_text : {n : ℕ} {text : List ℕ} {texts : List (List ℕ)} {xs ys : List OutlineItem} → IsOutline dialect text xs → AreOutlines dialect (n + line_feeds text) texts ys → AreOutlines dialect n (text ∷ texts) (items_down n xs ++ ys)

-- a statement, and the line and column at which it begins
pub record Placed : Type 0 where
  pub statement : Statement
  pub begin : ResolvedPos

abbrev pub placed : List ℕ → Statement → Placed
placed text s = record { statement = s; begin = beginning text s }

-- statements behind so many lines
abbrev pub all_down : ℕ → List Placed → List Placed
all_down n xs = map (λ x. record { statement = x.statement; begin = place_down n x.begin }) xs

-- The statements of a text: the text is in the language, and they are those at the top of its tree, in order, each with its beginning.
pub record AreStatements (dialect : Dialect) (text : List ℕ) (xs : List Placed) : Type 0 where
  pub tree : Statement
  pub language : Language dialect text tree
  pub all : xs ≡ map (placed text) (top_level tree)

-- The statements of texts, part after part, behind so many lines: the beginnings in each are moved down by the line feeds before it.
pub data AreAllStatements (dialect : Dialect) : ℕ → List (List ℕ) → List Placed → Type 0 where
  no_statements : {n : ℕ} → AreAllStatements dialect n [] []
  and_statements : {n : ℕ} {text : List ℕ} {texts : List (List ℕ)} {xs ys : List Placed} → AreStatements dialect text xs → AreAllStatements dialect (n + line_feeds text) texts ys → AreAllStatements dialect n (text ∷ texts) (all_down n xs ++ ys)

-- The statements show the outline of the text: they have its words, and its beginnings, in order.
pub record ShowOutline (dialect : Dialect) (text : List ℕ) (xs : List Placed) : Type 0 where
  pub items : List OutlineItem
  pub outline : IsOutline dialect text items
  pub words : map (λ x. word_of x.statement) xs ≡ map (λ y. Some y.word) items
  pub begins : map (λ x. x.begin) xs ≡ map (λ y. y.begin) items

-- The statements are, but for their places, those at the top of a tree of the text, in order.
pub record AreTops (dialect : Dialect) (text : List ℕ) (xs : List Placed) : Type 0 where
  pub tree : Statement
  pub language : Language dialect text tree
  pub same : map (λ x. bare x.statement) xs ≡ map bare (top_level tree)
