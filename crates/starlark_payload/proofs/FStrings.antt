-- F-strings that stand in no expression: their plain data and their payloads.
use Rattle.std.proofs.Common.{◌≡◌, sym, ap, ◌∙◌, map, string_bytes}
use Rattle.std.proofs.lemmas.List.Folds.{flat_map-map}
use mathlib.Core.Path.{fun_ext}
use Rattle.starlark_place.specs.Place.{Extent}
use Rattle.starlark_ast.specs.Tree as tree
use Rattle.starlark_ast.specs.View.{expr_view, fstring_view, members}
use Rattle.starlark_ast.specs.Views.{members-map, view-fstring}
use Rattle.starlark_ast.specs.declared.ast.FStringP.{FStringP, fold_out-FStringP}
use Rattle.starlark_payload.specs.Mapped.{seen}
use Rattle.starlark_payload.specs.Payloads.{all_of, argument_step, call_args_step, clause_step, expr_payloads, expr_step, for_clause_step, fstring_payloads, fstring_step, lambda_step, parameter_step, target_step, type_step}

module _ {P L I A D T : Type 0} where
  pub fstring_is : (x : FStringP P L I A D T) → fstring_view x ≡ (λ (u s : Extent). tree.fstring (string_bytes x.format.node) x.format.span (members tree.item (map (seen expr_view) x.expressions.items)) u s)
  fstring_is x = fun_ext (λ u. fun_ext (λ s. view-fstring x u s ∙ ap (λ q. tree.fstring (string_bytes x.format.node) x.format.span q u s) (sym (members-map tree.item (seen expr_view) tree.none x.expressions.items))))

  pub fstring_payloads_are : (x : FStringP P L I A D T) → fstring_payloads x ≡ all_of expr_payloads x.expressions.items
  fstring_payloads_are x = fold_out-FStringP P L I A D T _ _ _ _ _ _ _ _ _ _ argument_step target_step clause_step expr_step parameter_step call_args_step fstring_step for_clause_step lambda_step type_step x ∙ flat_map-map (λ x. x.node) _ x.expressions.items
