-- Targets out of expressions, one member after the other.
use Rattle.std.proofs.Common.{◌<◌, ◌≤◌, ◌≡◌, refl, sym, ap, ◌∙◌, List, [], ◌∷◌, ◌++◌, fold, Option, Some, None, arith}
use Rattle.std.proofs.lemmas.List.Sums.{fold-append}
use Rattle.starlark_place.specs.declared.pos.Spanned.{Spanned}
use Rattle.starlark_ast.specs.declared.ast.ExprP.{ExprP}
use Rattle.starlark_ast.specs.declared.ast.AssignTargetP.{AssignTargetP}
use Rattle.starlark_ast.specs.Tree as t
use Rattle.starlark_ast.specs.Tree.{Members}
use Rattle.starlark_ast.specs.View.{expr_at, target_at}
use Rattle.starlark_ast.specs.Views.{items_of, targets_of}
use Rattle.starlark_rules.specs.Assignable.{weight, weights}
use Rattle.starlark_rulebook.specs.Rules.{first_of}
use Rattle.starlark_rulebook.specs.Targets as targets

pub none_first : {A : Type 0} (o p : Option A) → first_of o p ≡ None → o ≡ None
none_first None p e = refl
none_first (Some a) p e = absurd (cc)

pub none_second : {A : Type 0} (o p : Option A) → first_of o p ≡ None → p ≡ None
none_second None p e = e
none_second (Some a) p e = absurd (cc)

module _ {P L I A D T : Type 0} where
  -- items behind others
  abbrev behind : Members → List (Spanned (ExprP P L I A D T)) → Members
  behind ms xs = fold (λ ns y. t.more ns (t.item (expr_at y))) ms xs

  clean_before : (ms : Members) (xs : List (Spanned (ExprP P L I A D T))) → targets.targets_fault (behind ms xs) ≡ None → targets.targets_fault ms ≡ None
  clean_before ms [] e = e
  clean_before ms (x ∷ xs) e = none_first (targets.targets_fault ms) (targets.target_fault (expr_at x)) (clean_before (t.more ms (t.item (expr_at x))) xs e)

  heavier : (ms : Members) (xs : List (Spanned (ExprP P L I A D T))) → weights ms ≤ weights (behind ms xs)
  heavier ms [] = omega arith
  heavier ms (x ∷ xs) = omega (arith, heavier (t.more ms (t.item (expr_at x))) xs)

  -- one of several
  pub clean_member : (front : List (Spanned (ExprP P L I A D T))) (x : Spanned (ExprP P L I A D T)) (back xs : List (Spanned (ExprP P L I A D T))) → front ++ (x ∷ back) ≡ xs → targets.targets_fault (items_of xs) ≡ None → targets.target_fault (expr_at x) ≡ None
  clean_member front x back xs e clean =
      none_second (targets.targets_fault (items_of front)) (targets.target_fault (expr_at x))
      (clean_before (t.more (items_of front) (t.item (expr_at x))) back
      (sym (ap targets.targets_fault (ap items_of (sym e) ∙ fold-append (λ ns y. t.more ns (t.item (expr_at y))) t.none front (x ∷ back))) ∙ clean))

  pub lighter_member : (front : List (Spanned (ExprP P L I A D T))) (x : Spanned (ExprP P L I A D T)) (back xs : List (Spanned (ExprP P L I A D T))) → front ++ (x ∷ back) ≡ xs → weight (expr_at x) < weights (items_of xs)
  lighter_member front x back xs e =
      let same : weights (items_of xs) ≡ weights (behind (t.more (items_of front) (t.item (expr_at x))) back) = ap weights (ap items_of (sym e) ∙ fold-append (λ ns y. t.more ns (t.item (expr_at y))) t.none front (x ∷ back)) in
      omega (arith, same, heavier (t.more (items_of front) (t.item (expr_at x))) back)

  -- one more of both
  pub converted_more : (front : List (Spanned (ExprP P L I A D T))) (x : Spanned (ExprP P L I A D T)) (done after : List (Spanned (AssignTargetP P L I A D T))) (y : Spanned (AssignTargetP P L I A D T)) → after ≡ done ++ (y ∷ []) → targets_of done ≡ targets.targets_of (items_of front) → target_at y ≡ targets.target_of (expr_at x) → targets_of after ≡ targets.targets_of (items_of (front ++ (x ∷ [])))
  converted_more front x done after y is so here =
      ap targets_of is ∙ fold-append (λ ns z. t.more ns (t.item (target_at z))) t.none done (y ∷ []) ∙ ap (λ ms. t.more ms (t.item (target_at y))) so ∙ ap (λ z. t.more (targets.targets_of (items_of front)) (t.item z)) here ∙ sym (ap targets.targets_of (fold-append (λ ns z. t.more ns (t.item (expr_at z))) t.none front (x ∷ [])))
