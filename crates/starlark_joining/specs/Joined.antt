-- What two texts, one behind the other, have in common with each of them.
use Rattle.std.specs.Prelude.{ℕ, max, List, [], ◌∷◌, Option}
use Rattle.starlark_place.specs.Place.{Extent}
use Rattle.starlark_lexer.specs.Items.{Lexeme, Item, item}
use Rattle.starlark_ast.specs.declared.ast.AssignOp.{AssignOp}
use Rattle.starlark_ast.specs.Tree.{Expr, Annotation, Sequence, no_statements, add_statement}
use Rattle.starlark_grammar.specs.Events.{Event, Shape, typed, assigned, looped, shaped}
use Rattle.starlark_joining.specs.Same.{SameAnnotation, SameExpr, SameSpan}

-- two constructs that rules look at, the same but for their places
pub data SameEvent (R : ℕ → ℕ → Type 0) : Event → Event → Type 0 where
  same_typed : {x y : Expr} → SameExpr R x y → SameEvent R (typed x) (typed y)
  same_assigned : {x y : Expr} {a b : Annotation} {o : Option AssignOp} → SameExpr R x y → SameAnnotation R a b → SameEvent R (assigned x a o) (assigned y b o)
  same_looped : {x y : Expr} → SameExpr R x y → SameEvent R (looped x) (looped y)
  same_shaped : {k : Shape} {s r : Extent} → SameSpan R s r → SameEvent R (shaped k s) (shaped k r)

-- tokens that are the same but for their places
pub data SameItems (R : ℕ → ℕ → Type 0) : List Item → List Item → Type 0 where
  no_items : SameItems R [] []
  and_item : {i j u v : ℕ} {x : Lexeme} {xs ys : List Item} → R i u → R j v → SameItems R xs ys → SameItems R (item i x j ∷ xs) (item u x v ∷ ys)

-- statements behind others
abbrev pub behind : Sequence → Sequence → Sequence
behind base no_statements = base
behind base (add_statement ss s) = add_statement (behind base ss) s

-- what stands to two places stands to the greater ones
abbrev pub Greater : (ℕ → ℕ → Type 0) → Type 0
Greater R = (i j u v : ℕ) → R i u → R j v → R (max i j) (max u v)
