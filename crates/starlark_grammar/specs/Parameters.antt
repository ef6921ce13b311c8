-- The grammar of parameters and types of a `def` (docs/LANGUAGE.md, Grammar). What the relations and letters stand for: Expressions.
use Rattle.std.specs.Prelude.{ℕ, List, ◌∷◌}
use Rattle.starlark_grammar.specs.Spans.{stretch}
use Rattle.starlark_lexer.specs.Items.{Item, item, identifier, comma, colon, equal, slash, star, star_star, minus_greater, closing_round}
use Rattle.starlark_ast.specs.Tree as tree
use Rattle.starlark_ast.specs.Tree.{Annotation, Expr, Member, Members, Name, Stars, double_starred, name_at, plain, starred}
use Rattle.starlark_grammar.specs.Nodes.{named, type_at}
use Rattle.starlark_grammar.specs.Expressions.{Level}

-- ["*" | "**"] Ident, with its begin and its end
pub data Naming : List Item → List Item → Stars → Name → ℕ → ℕ → Type 0 where
  by_itself : {n : List ℕ} {i j : ℕ} {a : List Item} → Naming (item i (identifier n) j ∷ a) a plain (name_at n (stretch i j)) i j
  named_behind_star : {n : List ℕ} {g h i j : ℕ} {a : List Item} → Naming (item g star h ∷ item i (identifier n) j ∷ a) a starred (name_at n (stretch i j)) g j
  named_behind_stars : {n : List ℕ} {g h i j : ℕ} {a : List Item} → Naming (item g star_star h ∷ item i (identifier n) j ∷ a) a double_starred (name_at n (stretch i j)) g j

-- "/" | "*" [Ident [":" Test]] | "**" Ident [":" Test] | Ident [":" Test] ["=" Test]
pub data Parameter : List Item → List Item → Member → Type 0 where
  a_slash : {i j : ℕ} {a : List Item} → Parameter (item i slash j ∷ a) a (tree.slash (stretch i j))
  a_star : {i j : ℕ} {a : List Item} → Parameter (item i star j ∷ a) a (tree.no_args (stretch i j))
  a_name : {p e : ℕ} {a b : List Item} {k : Stars} {n : Name} → Naming a b k n p e → Parameter a b (named k n tree.untyped tree.absent (stretch p e))
  a_type : {p d g h e : ℕ} {a b c : List Item} {k : Stars} {n : Name} {t : Expr} → Naming a (item g colon h ∷ b) k n p d → Level 12 b c t e → Parameter a c (named k n (type_at t) tree.absent (stretch p e))
  a_default : {p d g h e : ℕ} {a b c : List Item} {n : Name} {r : Expr} → Naming a (item g equal h ∷ b) plain n p d → Level 12 b c r e → Parameter a c (named plain n tree.untyped (tree.present r) (stretch p e))
  a_type_default : {p d g h f i j e : ℕ} {a b c z : List Item} {n : Name} {t r : Expr} → Naming a (item g colon h ∷ b) plain n p d → Level 12 b (item i equal j ∷ c) t f → Level 12 c z r e → Parameter a z (named plain n (type_at t) (tree.present r) (stretch p e))

-- parameters, each with a comma behind it
pub data SomeParams : List Item → List Item → Members → Type 0 where
  no_param : {a : List Item} → SomeParams a a tree.none
  next_param : {i j : ℕ} {a b c : List Item} {ps : Members} {p : Member} → SomeParams a b ps → Parameter b (item i comma j ∷ c) p → SomeParams a c (tree.more ps p)

-- "(" was read. [Param ("," Param)* [","]] ")"
pub data Parameters : List Item → List Item → Members → Type 0 where
  with_last_comma : {i j : ℕ} {a b : List Item} {ps : Members} → SomeParams a (item i closing_round j ∷ b) ps → Parameters a b ps
  without_last_comma : {i j : ℕ} {a b c : List Item} {ps : Members} {p : Member} → SomeParams a b ps → Parameter b (item i closing_round j ∷ c) p → Parameters a c (tree.more ps p)

-- ["->" Test] ":"
pub data Result : List Item → List Item → Annotation → Type 0 where
  untyped : {i j : ℕ} {a : List Item} → Result (item i colon j ∷ a) a tree.untyped
  a_result : {g h i j e : ℕ} {a b : List Item} {t : Expr} → Level 12 a (item i colon j ∷ b) t e → Result (item g minus_greater h ∷ a) b (type_at t)
