-- Parts of nodes that are made one by one: each is seen by what says which plain data it is at a place.
use Rattle.std.specs.Prelude.{List, fold, Option, Some, None}
use Rattle.std.specs.declared.alloc.Global.{Global}
use Rattle.std.specs.declared.boxed.Box.{Box}
use Rattle.starlark_place.specs.Place.{Extent}
use Rattle.starlark_place.specs.declared.pos.Spanned.{Spanned}
use Rattle.starlark_ast.specs.Tree as tree
use Rattle.starlark_ast.specs.View.{members}

module _ {X : Type 0} where
  -- what a node is at its own place
  abbrev pub seen : {Y : Type 0} → (X → Extent → Y) → Spanned X → Y
  seen f x = f x.node x.span

  -- members of a tuple, a list or an f-string
  abbrev pub items_by : (X → Extent → tree.Expr) → List (Spanned X) → tree.Members
  items_by f xs = members (λ x. tree.item (f x.node x.span)) xs

  -- members of a dict
  abbrev pub pairs_by : (X → Extent → tree.Expr) → List (Spanned X × Spanned X) → tree.Members
  pairs_by f xs = members (λ x. tree.pair (f x.0.node x.0.span) (f x.1.node x.1.span)) xs

  -- arguments or parameters
  abbrev pub members_by : (X → Extent → tree.Member) → List (Spanned X) → tree.Members
  members_by f xs = members (λ x. f x.node x.span) xs

  -- clauses behind the first
  abbrev pub clauses_by : tree.Clause → (X → tree.Clause) → List X → tree.Clauses
  clauses_by first f xs = fold (λ cs x. tree.and_clause cs (f x)) (tree.and_clause tree.no_clauses first) xs

  abbrev pub bound_by : (X → Extent → tree.Expr) → Option (Box (Spanned X) Global) → tree.Bound
  bound_by f None = tree.absent
  bound_by f (Some x) = tree.present (f x.value.node x.value.span)

  abbrev pub type_by : (X → Extent → tree.Annotation) → Option (Box (Spanned X) Global) → tree.Annotation
  type_by f None = tree.untyped
  type_by f (Some x) = f x.value.node x.value.span

  abbrev pub maybe_by : (X → Extent → tree.Expr) → Option (Spanned X) → Option tree.Expr
  maybe_by f None = None
  maybe_by f (Some x) = Some (f x.node x.span)

  abbrev pub maybe_type_by : (X → Extent → tree.Annotation) → Option (Spanned X) → tree.Annotation
  maybe_type_by f None = tree.untyped
  maybe_type_by f (Some x) = f x.node x.span

  -- statements in a row
  abbrev pub sequence_by : (X → Extent → tree.Statement) → List (Spanned X) → tree.Sequence
  sequence_by f xs = fold (λ ss x. tree.add_statement ss (f x.node x.span)) tree.no_statements xs
