-- The places below each variant.
use Rattle.std.proofs.Common.{◌≡◌, ◌⊎◌, inl, inr, sym, ap, ◌∙◌, [], ◌∷◌, flat_map}
use Rattle.std.proofs.lemmas.List.Folds.{flat_map-map}
use Rattle.std.specs.declared.alloc.Global.{Global}
use Rattle.std.specs.declared.boxed.Box.{Box}
use Rattle.std.specs.declared.string.String.{String}
use Rattle.std.specs.declared.vec.Vec.{Vec}
use Rattle.starlark_place.specs.declared.pos.Spanned.{Spanned}
use Rattle.starlark_ast.specs.Places.{E, children, expr_layer, assigned_places, assigned_layer, target_places, target_layer}
use Rattle.starlark_ast.specs.declared.ast.AssignIdentP.{AssignIdentP}
use Rattle.starlark_ast.specs.declared.ast.AssignTargetP.{AssignTargetP, fold-roll-AssignTargetP, para-roll-AssignTargetP}
use Rattle.starlark_ast.specs.declared.ast.AssignTargetP.TheVariants as target
use Rattle.starlark_ast.specs.declared.ast.ExprP.{ExprP}
use Rattle.starlark_ast.specs.declared.ast.ExprP.TheVariants as expr
use Rattle.starlark_ast.specs.declared.ast.ArgumentP.TheOpen as layer

module _ {P L I A D T : Type 0} where
  -- what stands behind a sign or a `not`
  pub children-signed : (y : ExprP P L I A D T) (x : Box (E P L I A D T) Global) → (y ≡ expr.Not x) ⊎ (y ≡ expr.Minus x) ⊎ (y ≡ expr.Plus x) ⊎ (y ≡ expr.BitNot x) → children y ≡ x.value ∷ []
  children-signed y x (inl h) = ap children h ∙ ap expr_layer (expr.outs-Not x)
  children-signed y x (inr (inl h)) = ap children h ∙ ap expr_layer (expr.outs-Minus x)
  children-signed y x (inr (inr (inl h))) = ap children h ∙ ap expr_layer (expr.outs-Plus x)
  children-signed y x (inr (inr (inr h))) = ap children h ∙ ap expr_layer (expr.outs-BitNot x)

  pub target_places-Tuple : (xs : Vec (Spanned (AssignTargetP P L I A D T)) Global) → target_places (target.Tuple xs) ≡ flat_map (λ x. target_places x.node) xs.items
  target_places-Tuple xs =
      ap target_places (sym (target.rolls-Tuple xs)) ∙ para-roll-AssignTargetP P L I A D T _ _ _ _ _ _ _ _ _ _ (λ x. tt) target_layer (λ x. tt) (λ x. tt) (λ x. tt) (λ x. tt) (λ x. tt) (λ x. tt) (λ x. tt) (λ x. tt) (layer.AssignTargetP::Tuple xs) ∙ flat_map-map _ _ xs.items

  pub target_places-Index : (x : Box (E P L I A D T × E P L I A D T) Global) → target_places (target.Index x) ≡ x.value.0 ∷ x.value.1 ∷ []
  target_places-Index x =
      ap target_places (sym (target.rolls-Index x)) ∙ para-roll-AssignTargetP P L I A D T _ _ _ _ _ _ _ _ _ _ (λ x. tt) target_layer (λ x. tt) (λ x. tt) (λ x. tt) (λ x. tt) (λ x. tt) (λ x. tt) (λ x. tt) (λ x. tt) (layer.AssignTargetP::Index x)

  pub target_places-Dot : (x : Box (E P L I A D T) Global) (name : Spanned (String Global)) → target_places (target.Dot x name) ≡ x.value ∷ []
  target_places-Dot x name =
      ap target_places (sym (target.rolls-Dot x name)) ∙ para-roll-AssignTargetP P L I A D T _ _ _ _ _ _ _ _ _ _ (λ x. tt) target_layer (λ x. tt) (λ x. tt) (λ x. tt) (λ x. tt) (λ x. tt) (λ x. tt) (λ x. tt) (λ x. tt) (layer.AssignTargetP::Dot x name)

  pub target_places-Identifier : (x : Spanned (AssignIdentP P L I A D T)) → target_places (target.Identifier x) ≡ []
  target_places-Identifier x =
      ap target_places (sym (target.rolls-Identifier x)) ∙ para-roll-AssignTargetP P L I A D T _ _ _ _ _ _ _ _ _ _ (λ x. tt) target_layer (λ x. tt) (λ x. tt) (λ x. tt) (λ x. tt) (λ x. tt) (λ x. tt) (λ x. tt) (λ x. tt) (layer.AssignTargetP::Identifier x)

  pub assigned-Tuple : (xs : Vec (Spanned (AssignTargetP P L I A D T)) Global) → assigned_places (target.Tuple xs) ≡ flat_map (λ x. assigned_places x.node) xs.items
  assigned-Tuple xs =
      ap assigned_places (sym (target.rolls-Tuple xs)) ∙ fold-roll-AssignTargetP P L I A D T _ _ _ _ _ _ _ _ _ _ (λ x. tt) assigned_layer (λ x. tt) (λ x. tt) (λ x. tt) (λ x. tt) (λ x. tt) (λ x. tt) (λ x. tt) (λ x. tt) (layer.AssignTargetP::Tuple xs) ∙ flat_map-map _ _ xs.items

  pub assigned-Index : (x : Box (E P L I A D T × E P L I A D T) Global) → assigned_places (target.Index x) ≡ []
  assigned-Index x =
      ap assigned_places (sym (target.rolls-Index x)) ∙ fold-roll-AssignTargetP P L I A D T _ _ _ _ _ _ _ _ _ _ (λ x. tt) assigned_layer (λ x. tt) (λ x. tt) (λ x. tt) (λ x. tt) (λ x. tt) (λ x. tt) (λ x. tt) (λ x. tt) (layer.AssignTargetP::Index x)

  pub assigned-Dot : (x : Box (E P L I A D T) Global) (name : Spanned (String Global)) → assigned_places (target.Dot x name) ≡ []
  assigned-Dot x name =
      ap assigned_places (sym (target.rolls-Dot x name)) ∙ fold-roll-AssignTargetP P L I A D T _ _ _ _ _ _ _ _ _ _ (λ x. tt) assigned_layer (λ x. tt) (λ x. tt) (λ x. tt) (λ x. tt) (λ x. tt) (λ x. tt) (λ x. tt) (λ x. tt) (layer.AssignTargetP::Dot x name)

  pub assigned-Identifier : (x : Spanned (AssignIdentP P L I A D T)) → assigned_places (target.Identifier x) ≡ x ∷ []
  assigned-Identifier x =
      ap assigned_places (sym (target.rolls-Identifier x)) ∙ fold-roll-AssignTargetP P L I A D T _ _ _ _ _ _ _ _ _ _ (λ x. tt) assigned_layer (λ x. tt) (λ x. tt) (λ x. tt) (λ x. tt) (λ x. tt) (λ x. tt) (λ x. tt) (λ x. tt) (layer.AssignTargetP::Identifier x)
