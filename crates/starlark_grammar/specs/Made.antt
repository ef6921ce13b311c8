-- What is made of several parts: each is seen by what says which plain data it is.
use Rattle.std.specs.Prelude.{Bool, true, false, List, fold, Option, Some, None}
use Rattle.starlark_place.specs.Place.{Extent}
use Rattle.starlark_ast.specs.Tree as tree
use Rattle.starlark_ast.specs.View.{comma_at, ident_at, members, text_at}
use Rattle.starlark_ast.specs.declared.ast.LoadArgP.{LoadArgP}
use Rattle.starlark_grammar.specs.declared.make.Sign.{Sign}
use Rattle.starlark_grammar.specs.declared.make.Sign.TheVariants as sign

module _ {X : Type 0} where
  -- members of a tuple, a list or an f-string
  abbrev pub items_of : (X → tree.Expr) → List X → tree.Members
  items_of f xs = members (λ x. tree.item (f x)) xs

  -- members of a dict
  abbrev pub pairs_of : (X → tree.Expr) → List (X × X) → tree.Members
  pairs_of f xs = members (λ x. tree.pair (f x.0) (f x.1)) xs

  -- clauses behind the first
  abbrev pub clauses_of : tree.Clause → (X → tree.Clause) → List X → tree.Clauses
  clauses_of first f xs = fold (λ cs x. tree.and_clause cs (f x)) (tree.and_clause tree.no_clauses first) xs

  abbrev pub symbols_of : (X → tree.Symbol × Option Extent) → List X → tree.Symbols
  symbols_of f xs = fold (λ ss x. tree.add_symbol ss (f x).0 (f x).1) tree.no_symbols xs

  abbrev pub sequence_of : (X → tree.Statement) → List X → tree.Sequence
  sequence_of f xs = fold (λ ss x. tree.add_statement ss (f x)) tree.no_statements xs

  abbrev pub bound_of : (X → tree.Expr) → Option X → tree.Bound
  bound_of f None = tree.absent
  bound_of f (Some x) = tree.present (f x)

  abbrev pub annotation_of : (X → tree.Annotation) → Option X → tree.Annotation
  annotation_of f None = tree.untyped
  annotation_of f (Some x) = f x

  abbrev pub maybe_of : (X → tree.Expr) → Option X → Option tree.Expr
  maybe_of f None = None
  maybe_of f (Some x) = Some (f x)

module _ {P L I A D T : Type 0} where
  -- what a load binds, and the place of the comma behind it
  abbrev pub symbol_at : LoadArgP P L I A D T → tree.Symbol × Option Extent
  symbol_at x = (tree.symbol (ident_at x.local) (text_at x.their), comma_at x.comma)

-- a clause with `for`
abbrev pub goes_over : tree.Clause → Bool
goes_over (tree.for_clause t q) = true
goes_over (tree.if_clause q) = false

abbrev pub sign_of : Sign → tree.Sign
sign_of sign.Not = tree.Not
sign_of sign.Minus = tree.Minus
sign_of sign.Plus = tree.Plus
sign_of sign.BitNot = tree.BitNot

abbrev pub maybe_sign : Option Sign → Option tree.Sign
maybe_sign None = None
maybe_sign (Some s) = Some (sign_of s)
