-- Lists of symbols, built at their end.
use Rattle.std.proofs.Common.{◌≡◌, ap, ◌∙◌, sym, List, [], ◌∷◌, ◌++◌, flat_map, append-nil}
use Rattle.std.proofs.lemmas.Grind.{flat_map-append}
use Rattle.std.proofs.lemmas.List.Sums.{fold-append}
use Rattle.starlark_ast.specs.Tree as tree
use Rattle.starlark_ast.specs.View.{comma_at, ident_at, symbols, text_at}
use Rattle.starlark_ast.specs.declared.ast.LoadArgP.{LoadArgP}

pub flat_map_last : {X Y : Type 0} (h : X → List Y) (xs : List X) (x : X) → flat_map h (xs ++ x ∷ []) ≡ flat_map h xs ++ h x
flat_map_last h xs x = flat_map-append h xs (x ∷ []) ∙ ap (λ q. flat_map h xs ++ q) (append-nil (h x))

-- the payloads of what is done, of the next, and of what is left behind it
pub flat_map_split : {X Y : Type 0} (h : X → List Y) (front : List X) (x : X) (back : List X) → flat_map h (front ++ x ∷ back) ≡ flat_map h front ++ (h x ++ flat_map h back)
flat_map_split h front x back = flat_map-append h front (x ∷ back)

module _ {P L I A D T P' L' I' A' D' T' : Type 0} where
  pub symbols_last : (xs : List (LoadArgP P L I A D T)) (x : LoadArgP P L I A D T) (ys : List (LoadArgP P' L' I' A' D' T')) (y : LoadArgP P' L' I' A' D' T') → symbols ys ≡ symbols xs → ident_at y.local ≡ ident_at x.local → text_at y.their ≡ text_at x.their → comma_at y.comma ≡ comma_at x.comma → symbols (ys ++ y ∷ []) ≡ symbols (xs ++ x ∷ [])
  symbols_last xs x ys y e f g h =
      fold-append (λ ss x. tree.add_symbol ss (tree.symbol (ident_at x.local) (text_at x.their)) (comma_at x.comma)) tree.no_symbols ys (y ∷ [])
      ∙ (ap (λ q. tree.add_symbol q (tree.symbol (ident_at y.local) (text_at y.their)) (comma_at y.comma)) e
      ∙ (ap (λ q. tree.add_symbol (symbols xs) (tree.symbol q (text_at y.their)) (comma_at y.comma)) f
      ∙ (ap (λ q. tree.add_symbol (symbols xs) (tree.symbol (ident_at x.local) q) (comma_at y.comma)) g
      ∙ (ap (λ q. tree.add_symbol (symbols xs) (tree.symbol (ident_at x.local) (text_at x.their)) q) h
      ∙ sym (fold-append (λ ss x. tree.add_symbol ss (tree.symbol (ident_at x.local) (text_at x.their)) (comma_at x.comma)) tree.no_symbols xs (x ∷ []))))))
