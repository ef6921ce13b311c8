-- What stays of arguments and of lists of targets.
use Rattle.std.proofs.Common.{◌≡◌, ap, List, ◌++◌}
use Rattle.starlark_place.specs.declared.pos.Spanned.{Spanned}
use Rattle.starlark_write.specs.Beside as beside
use Rattle.starlark_write.specs.Beside.{AtPlace, KeepsAllPlaces, KeepsArgument, KeepsPlaces, KeepsTarget, KeepsTargets}
use Rattle.starlark_ast.specs.declared.ast.AssignTargetP.{AssignTargetP}
use Rattle.starlark_ast.specs.Access.{argument_expr, argument_expr_layer}
use Rattle.starlark_ast.specs.Lending.{with_expr, with_expr_layer}
use Rattle.starlark_ast.specs.Places.{E}
use Rattle.starlark_ast.specs.declared.ast.ArgumentP.{ArgumentP, ArgumentP-F, out-ArgumentP, roll-ArgumentP, roll-out-ArgumentP}
use Rattle.starlark_ast.specs.declared.ast.ClauseP.{ClauseP}
use Rattle.starlark_ast.specs.declared.ast.ExprP.{ExprP}
use Rattle.starlark_ast.specs.declared.ast.ParameterP.{ParameterP}
use Rattle.starlark_ast.specs.declared.ast.CallArgsP.{CallArgsP}
use Rattle.starlark_ast.specs.declared.ast.FStringP.{FStringP}
use Rattle.starlark_ast.specs.declared.ast.ForClauseP.{ForClauseP}
use Rattle.starlark_ast.specs.declared.ast.LambdaP.{LambdaP}
use Rattle.starlark_ast.specs.declared.ast.TypeExprP.{TypeExprP}
use Rattle.starlark_ast.specs.declared.ast.ArgumentP.TheOpen as layer
use Rattle.starlark_ast.specs.declared.ast.ArgumentP.TheVariants as argument
use Rattle.starlark_write.proofs.Lent.{seen, seen_left}
use Rattle.starlark_write.proofs.Loops as loops
use Rattle.starlark_write.proofs.Loops.{Both}

-- another value at the same place
abbrev pub with_node : {X : Type 0} → Spanned X → X → Spanned X
with_node x y = record { span = x.span; node = y }

module _ {P L I A D T : Type 0} where
  pub targets_rest : (xs ys zs : List (Spanned (AssignTargetP P L I A D T))) → Both (AtPlace KeepsTarget) xs ys → KeepsTargets (xs ++ zs) (ys ++ zs)
  targets_rest xs ys zs loops.none = beside.targets_rest zs
  targets_rest xs ys zs (loops.more k h) = beside.targets_more k.span k.node (targets_rest _ _ zs h)

  pub places_rest : (xs ys zs : List (Spanned (AssignTargetP P L I A D T))) → Both (AtPlace KeepsPlaces) xs ys → KeepsAllPlaces (xs ++ zs) (ys ++ zs)
  places_rest xs ys zs loops.none = beside.all_places_rest zs
  places_rest xs ys zs (loops.more k h) = beside.all_places_more k.span k.node (places_rest _ _ zs h)

  -- an argument with another expression
  layer_kept : (l : ArgumentP-F P L I A D T (ArgumentP P L I A D T) (AssignTargetP P L I A D T) (ClauseP P L I A D T) (ExprP P L I A D T) (ParameterP P L I A D T) (CallArgsP P L I A D T) (FStringP P L I A D T) (ForClauseP P L I A D T) (LambdaP P L I A D T) (TypeExprP P L I A D T)) (y : E P L I A D T) → (argument_expr (with_expr_layer l y) ≡ y) × KeepsArgument (roll-ArgumentP P L I A D T l) (with_expr_layer l y)
  layer_kept (layer.Positional x) y = (ap argument_expr_layer (argument.outs-Positional y), seen KeepsArgument (argument.rolls-Positional x) (beside.positional x y))
  layer_kept (layer.Named name x) y = (ap argument_expr_layer (argument.outs-Named name y), seen KeepsArgument (argument.rolls-Named name x) (beside.named name x y))
  layer_kept (layer.ArgumentP::Args x) y = (ap argument_expr_layer (argument.outs-Args y), seen KeepsArgument (argument.rolls-Args x) (beside.args x y))
  layer_kept (layer.ArgumentP::KwArgs x) y = (ap argument_expr_layer (argument.outs-KwArgs y), seen KeepsArgument (argument.rolls-KwArgs x) (beside.kwargs x y))

  pub expr_of_with : (s : ArgumentP P L I A D T) (y : E P L I A D T) → argument_expr (with_expr s y) ≡ y
  expr_of_with s y = (layer_kept (out-ArgumentP P L I A D T s) y).0

  pub argument_kept : (s : ArgumentP P L I A D T) (y : E P L I A D T) → KeepsArgument s (with_expr s y)
  argument_kept s y = seen_left KeepsArgument (roll-out-ArgumentP P L I A D T s) (layer_kept (out-ArgumentP P L I A D T s) y).1
