-- The plain data of a type that was taken apart, an index of two.
use Rattle.std.proofs.Common.{◌≡◌, sym, ap, ◌∙◌}
use Rattle.std.specs.declared.alloc.Global.{Global}
use Rattle.std.specs.declared.boxed.Box.{Box}
use Rattle.starlark_place.specs.Place.{Extent}
use Rattle.starlark_place.specs.declared.pos.Spanned.{Spanned}
use Rattle.starlark_rules.specs.Forms.{form_at, form_step, form_view, path_view}
use Rattle.starlark_rulebook.specs.Types.{index2_form}
use Rattle.starlark_rules.specs.declared.type_expr.TypePathP.{TypePathP}
use Rattle.starlark_rules.specs.declared.type_expr.TypeExprUnpackP.{TypeExprUnpackP, fold-roll-TypeExprUnpackP}
use Rattle.starlark_rules.specs.declared.type_expr.TypeExprUnpackP.TheOpen as layer
use Rattle.starlark_rules.specs.declared.type_expr.TypeExprUnpackP.TheVariants as type

module _ {P L I A D T : Type 0} where
  pub form_view-Index2 : (p : Spanned (TypePathP P L I A D T)) (x y : Box (Spanned (TypeExprUnpackP P L I A D T)) Global) (s : Extent) → form_view (type.Index2 p x y) s ≡ index2_form (path_view p.node) p.span (form_at x.value) (form_at y.value) s
  form_view-Index2 p x y s = ap (λ q. form_view q s) (sym (type.rolls-Index2 p x y)) ∙ ap (λ q. q s) (fold-roll-TypeExprUnpackP P L I A D T _ form_step (layer.Index2 p x y))
