-- The place of an expression is that which stands beside it.
use Rattle.std.proofs.Common.{◌≡◌, sym, ap, ◌∙◌, refl}
use Rattle.starlark_place.specs.Place.{Extent}
use Rattle.starlark_place.specs.declared.pos.Spanned.{Spanned}
use Rattle.starlark_ast.specs.Tree.{Expr, place}
use Rattle.starlark_ast.specs.View.{expr_view, expr_at, literal_view}
use Rattle.starlark_ast.specs.Views.{expr_view-Tuple, expr_view-Dot, expr_view-Call, expr_view-Index, expr_view-Index2, expr_view-Slice, expr_view-Identifier, expr_view-Lambda, expr_view-Literal, expr_view-Not, expr_view-Minus, expr_view-Plus, expr_view-BitNot, expr_view-Op, expr_view-If, expr_view-List, expr_view-Dict, expr_view-ListComprehension, expr_view-DictComprehension, expr_view-FString, view-fstring, view-lambda}
use Rattle.starlark_ast.specs.declared.ast.ArgumentP.{ArgumentP}
use Rattle.starlark_ast.specs.declared.ast.AssignTargetP.{AssignTargetP}
use Rattle.starlark_ast.specs.declared.ast.AstLiteral.{AstLiteral}
use Rattle.starlark_ast.specs.declared.ast.AstLiteral.TheVariants as literal
use Rattle.starlark_ast.specs.declared.ast.ClauseP.{ClauseP}
use Rattle.starlark_ast.specs.declared.ast.ExprP.{ExprP, ExprP-F, out-ExprP, roll-ExprP, roll-out-ExprP}
use Rattle.starlark_ast.specs.declared.ast.ParameterP.{ParameterP}
use Rattle.starlark_ast.specs.declared.ast.CallArgsP.{CallArgsP}
use Rattle.starlark_ast.specs.declared.ast.FStringP.{FStringP}
use Rattle.starlark_ast.specs.declared.ast.ForClauseP.{ForClauseP}
use Rattle.starlark_ast.specs.declared.ast.LambdaP.{LambdaP}
use Rattle.starlark_ast.specs.declared.ast.TypeExprP.{TypeExprP}
use Rattle.starlark_ast.specs.declared.ast.ArgumentP.TheOpen as layer
use Rattle.starlark_ast.specs.declared.ast.ExprP.TheVariants as expr

literal_place : (x : AstLiteral) (s : Extent) → place (literal_view x s) ≡ s
literal_place (literal.Int n) s = refl
literal_place (literal.Float x) s = refl
literal_place (literal.String x) s = refl
literal_place (literal.Bytes x) s = refl
literal_place literal.Ellipsis s = refl

-- a node that is one variant
by_variant : {X : Type 0} (view : X → Extent → Expr) (made : Extent → Expr) {y x : X} → y ≡ x → ((s : Extent) → view x s ≡ made s) → ((s : Extent) → place (made s) ≡ s) → (s : Extent) → place (view y s) ≡ s
by_variant view made {y} {x} e v k s = ap (λ q. place (view q s)) e ∙ ap place (v s) ∙ k s

module _ {P L I A D T : Type 0} where
  layer_place : (y : ExprP-F P L I A D T (ArgumentP P L I A D T) (AssignTargetP P L I A D T) (ClauseP P L I A D T) (ExprP P L I A D T) (ParameterP P L I A D T) (CallArgsP P L I A D T) (FStringP P L I A D T) (ForClauseP P L I A D T) (LambdaP P L I A D T) (TypeExprP P L I A D T)) (s : Extent) → place (expr_view (roll-ExprP P L I A D T y) s) ≡ s
  layer_place (layer.ExprP::Tuple xs) = by_variant expr_view _ (expr.rolls-Tuple xs) (expr_view-Tuple xs) (λ _. refl)
  layer_place (layer.ExprP::Dot x name) = by_variant expr_view _ (expr.rolls-Dot x name) (expr_view-Dot x name) (λ _. refl)
  layer_place (layer.Call x args) = by_variant expr_view _ (expr.rolls-Call x args) (expr_view-Call x args) (λ _. refl)
  layer_place (layer.ExprP::Index x) = by_variant expr_view _ (expr.rolls-Index x) (expr_view-Index x) (λ _. refl)
  layer_place (layer.Index2 x) = by_variant expr_view _ (expr.rolls-Index2 x) (expr_view-Index2 x) (λ _. refl)
  layer_place (layer.Slice x a b c) = by_variant expr_view _ (expr.rolls-Slice x a b c) (expr_view-Slice x a b c) (λ _. refl)
  layer_place (layer.ExprP::Identifier x) = by_variant expr_view _ (expr.rolls-Identifier x) (expr_view-Identifier x) (λ _. refl)
  layer_place (layer.Lambda x) = by_variant expr_view _ (expr.rolls-Lambda x) (λ s. expr_view-Lambda x s ∙ view-lambda x s) (λ _. refl)
  layer_place (layer.Literal x) = by_variant expr_view _ (expr.rolls-Literal x) (expr_view-Literal P L I A D T x) (literal_place x)
  layer_place (layer.Not x) = by_variant expr_view _ (expr.rolls-Not x) (expr_view-Not x) (λ _. refl)
  layer_place (layer.Minus x) = by_variant expr_view _ (expr.rolls-Minus x) (expr_view-Minus x) (λ _. refl)
  layer_place (layer.Plus x) = by_variant expr_view _ (expr.rolls-Plus x) (expr_view-Plus x) (λ _. refl)
  layer_place (layer.BitNot x) = by_variant expr_view _ (expr.rolls-BitNot x) (expr_view-BitNot x) (λ _. refl)
  layer_place (layer.Op x op y) = by_variant expr_view _ (expr.rolls-Op x op y) (expr_view-Op x op y) (λ _. refl)
  layer_place (layer.ExprP::If x) = by_variant expr_view _ (expr.rolls-If x) (expr_view-If x) (λ _. refl)
  layer_place (layer.List xs) = by_variant expr_view _ (expr.rolls-List xs) (expr_view-List xs) (λ _. refl)
  layer_place (layer.Dict xs) = by_variant expr_view _ (expr.rolls-Dict xs) (expr_view-Dict xs) (λ _. refl)
  layer_place (layer.ListComprehension x first rest) = by_variant expr_view _ (expr.rolls-ListComprehension x first rest) (expr_view-ListComprehension x first rest) (λ _. refl)
  layer_place (layer.DictComprehension x first rest) = by_variant expr_view _ (expr.rolls-DictComprehension x first rest) (expr_view-DictComprehension x first rest) (λ _. refl)
  layer_place (layer.FString x) = by_variant expr_view _ (expr.rolls-FString x) (λ s. expr_view-FString x s ∙ view-fstring x.node x.span s) (λ _. refl)

  pub place_at : (x : Spanned (ExprP P L I A D T)) → place (expr_at x) ≡ x.span
  place_at x = ap (λ q. place (expr_view q x.span)) (sym (roll-out-ExprP P L I A D T x.node)) ∙ layer_place (out-ExprP P L I A D T x.node) x.span
