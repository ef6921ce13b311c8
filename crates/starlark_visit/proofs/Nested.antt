-- How many lists of targets are in a target.
use Rattle.std.proofs.Common.{◌≡◌, sym, ap, ◌∙◌, List, ℕ, ◌+◌, ◌<◌, ◌≤◌, length, get_or, arith}
use Rattle.std.proofs.lemmas.List.Folds.{fold-map}
use Rattle.std.proofs.lemmas.List.Sums.{get_or-le-sum_by}
use Rattle.std.specs.List.{sum_by}
use Rattle.std.specs.declared.alloc.Global.{Global}
use Rattle.std.specs.declared.vec.Vec.{Vec}
use Rattle.starlark_place.specs.declared.pos.Spanned.{Spanned}
use Rattle.starlark_ast.specs.declared.ast.AssignTargetP.{AssignTargetP, AssignTargetP-F, fold-AssignTargetP, fold-roll-AssignTargetP}
use Rattle.starlark_ast.specs.declared.ast.AssignTargetP.TheVariants as target
use Rattle.starlark_ast.specs.declared.ast.ArgumentP.TheOpen as layer

module _ {P L I A D T : Type 0} where
  abbrev pub lists_layer : AssignTargetP-F P L I A D T (Unit {0}) ℕ (Unit {0}) (Unit {0}) (Unit {0}) (Unit {0}) (Unit {0}) (Unit {0}) (Unit {0}) (Unit {0}) → ℕ
  lists_layer (layer.AssignTargetP::Tuple xs) = sum_by (λ x. x.node) xs.items + 1
  lists_layer (layer.AssignTargetP::Index x) = 0
  lists_layer (layer.AssignTargetP::Dot x name) = 0
  lists_layer (layer.AssignTargetP::Identifier x) = 0

  abbrev pub lists : AssignTargetP P L I A D T → ℕ
  lists = fold-AssignTargetP P L I A D T (Unit {0}) ℕ (Unit {0}) (Unit {0}) (Unit {0}) (Unit {0}) (Unit {0}) (Unit {0}) (Unit {0}) (Unit {0}) (λ x. tt) lists_layer (λ x. tt) (λ x. tt) (λ x. tt) (λ x. tt) (λ x. tt) (λ x. tt) (λ x. tt) (λ x. tt)

  pub lists-Tuple : (xs : Vec (Spanned (AssignTargetP P L I A D T)) Global) → lists (target.Tuple xs) ≡ sum_by (λ x. lists x.node) xs.items + 1
  lists-Tuple xs =
      ap lists (sym (target.rolls-Tuple xs)) ∙ fold-roll-AssignTargetP P L I A D T _ _ _ _ _ _ _ _ _ _ (λ x. tt) lists_layer (λ x. tt) (λ x. tt) (λ x. tt) (λ x. tt) (λ x. tt) (λ x. tt) (λ x. tt) (λ x. tt) (layer.AssignTargetP::Tuple xs) ∙ ap (λ n. n + 1) (fold-map _ _ 0 xs.items)

  -- less in one of a list
  pub lists_fall : (s : AssignTargetP P L I A D T) (xs : Vec (Spanned (AssignTargetP P L I A D T)) Global) (ys : List (Spanned (AssignTargetP P L I A D T))) (i : ℕ) (x : Spanned (AssignTargetP P L I A D T)) (t : ℕ) → s ≡ target.Tuple xs → ys ≡ xs.items → i < length ys → x ≡ get_or ys i x → lists s ≡ t → lists x.node < t
  lists_fall s xs ys i x t is all below here measure =
      let le : lists (get_or ys i x).node ≤ sum_by (λ x. lists x.node) ys = get_or-le-sum_by (λ x. lists x.node) ys i x below in
      let at_x : lists x.node ≡ lists (get_or ys i x).node = ap (λ y. lists y.node) here in
      let whole : t ≡ sum_by (λ x. lists x.node) ys + 1 = sym measure ∙ ap lists is ∙ lists-Tuple xs ∙ ap (λ zs. sum_by (λ x. lists x.node) zs + 1) (sym all) in
      omega (arith, le, at_x, whole)
