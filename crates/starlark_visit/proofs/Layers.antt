-- The plain tree of one layer of an expression, so that a law on plain trees is a case split over layers.
use Rattle.std.proofs.Common.{◌≡◌, sym, ap, ◌∙◌}
use Rattle.std.specs.Prelude.{string_bytes}
use Rattle.starlark_place.specs.Place.{Extent}
use Rattle.starlark_ast.specs.Tree as t
use Rattle.starlark_ast.specs.Tree.{Expr}
use Rattle.starlark_ast.specs.View.{members, expr_at, expr_view, argument_at, parameter_at, boxed_expr, ident_view, literal_view}
use Rattle.starlark_ast.specs.Views.{items_of, pairs_of, clauses_of, expr_view-Tuple, expr_view-Dot, expr_view-Call, expr_view-Index, expr_view-Index2, expr_view-Slice, expr_view-Identifier, expr_view-Lambda, expr_view-Literal, expr_view-Not, expr_view-Minus, expr_view-Plus, expr_view-BitNot, expr_view-Op, expr_view-If, expr_view-List, expr_view-Dict, expr_view-ListComprehension, expr_view-DictComprehension, expr_view-FString, view-args, view-fstring, view-lambda}
use Rattle.starlark_ast.specs.Places.{E}
use Rattle.starlark_ast.specs.declared.ast.ArgumentP.{ArgumentP}
use Rattle.starlark_ast.specs.declared.ast.AssignTargetP.{AssignTargetP}
use Rattle.starlark_ast.specs.declared.ast.ClauseP.{ClauseP}
use Rattle.starlark_ast.specs.declared.ast.ExprP.{ExprP, ExprP-F, out-ExprP, roll-ExprP, roll-out-ExprP}
use Rattle.starlark_ast.specs.declared.ast.ParameterP.{ParameterP}
use Rattle.starlark_ast.specs.declared.ast.CallArgsP.{CallArgsP, out-CallArgsP}
use Rattle.starlark_ast.specs.declared.ast.FStringP.{FStringP, out-FStringP}
use Rattle.starlark_ast.specs.declared.ast.ForClauseP.{ForClauseP}
use Rattle.starlark_ast.specs.declared.ast.LambdaP.{LambdaP, out-LambdaP}
use Rattle.starlark_ast.specs.declared.ast.TypeExprP.{TypeExprP}
use Rattle.starlark_ast.specs.declared.ast.ArgumentP.TheOpen as layer
use Rattle.starlark_ast.specs.declared.ast.ExprP.TheVariants as expr

-- an expression with those right in it as they are
abbrev pub ExprLayer : (P L I A D T : Type 0) → Type 0
ExprLayer P L I A D T = ExprP-F P L I A D T (ArgumentP P L I A D T) (AssignTargetP P L I A D T) (ClauseP P L I A D T) (ExprP P L I A D T) (ParameterP P L I A D T) (CallArgsP P L I A D T) (FStringP P L I A D T) (ForClauseP P L I A D T) (LambdaP P L I A D T) (TypeExprP P L I A D T)

module _ {P L I A D T : Type 0} where
  -- its plain tree
  abbrev pub layer_at : ExprLayer P L I A D T → Extent → Expr
  layer_at (layer.ExprP::Tuple xs) s = t.tuple (items_of xs.items) s
  layer_at (layer.ExprP::Dot x name) s = t.dot (expr_at x.value) (string_bytes name.node) name.span s
  layer_at (layer.Call x args) s = t.call (expr_at x.value) (members argument_at (out-CallArgsP P L I A D T args).args.items) s
  layer_at (layer.ExprP::Index x) s = t.index (expr_at x.value.0) (t.single (expr_at x.value.1)) s
  layer_at (layer.Index2 x) s = t.index (expr_at x.value.0) (t.double (expr_at x.value.1) (expr_at x.value.2)) s
  layer_at (layer.Slice x a b c) s = t.index (expr_at x.value) (t.slice (boxed_expr a) (boxed_expr b) (boxed_expr c)) s
  layer_at (layer.ExprP::Identifier x) s = ident_view x s
  layer_at (layer.Lambda x) s = let l = out-LambdaP P L I A D T x in t.lambda (members parameter_at l.params.items) (expr_at l.body.value) s
  layer_at (layer.Literal x) s = literal_view x s
  layer_at (layer.Not x) s = t.signed t.Not (expr_at x.value) s
  layer_at (layer.Minus x) s = t.signed t.Minus (expr_at x.value) s
  layer_at (layer.Plus x) s = t.signed t.Plus (expr_at x.value) s
  layer_at (layer.BitNot x) s = t.signed t.BitNot (expr_at x.value) s
  layer_at (layer.Op x o y) s = t.operation (expr_at x.value) o (expr_at y.value) s
  layer_at (layer.ExprP::If x) s = t.choice (expr_at x.value.0) (expr_at x.value.1) (expr_at x.value.2) s
  layer_at (layer.List xs) s = t.list (items_of xs.items) s
  layer_at (layer.Dict xs) s = t.dict (pairs_of xs.items) s
  layer_at (layer.ListComprehension x first rest) s = t.comprehension (t.item (expr_at x.value)) (clauses_of first.value rest.items) s
  layer_at (layer.DictComprehension x first rest) s = t.comprehension (t.pair (expr_at x.value.0) (expr_at x.value.1)) (clauses_of first.value rest.items) s
  layer_at (layer.FString x) s = let f = out-FStringP P L I A D T x.node in t.fstring (string_bytes f.format.node) f.format.span (items_of f.expressions.items) x.span s

  -- the plain tree of an equal node
  rolled : {x y : ExprP P L I A D T} (s : Extent) (v : Expr) → x ≡ y → expr_view y s ≡ v → expr_view x s ≡ v
  rolled s v e h = ap (λ q. expr_view q s) e ∙ h

  -- by variant
  layer_view : (l : ExprLayer P L I A D T) (s : Extent) → expr_view (roll-ExprP P L I A D T l) s ≡ layer_at l s
  layer_view (layer.ExprP::Tuple xs) s = rolled s _ (expr.rolls-Tuple xs) (expr_view-Tuple xs s)
  layer_view (layer.ExprP::Dot x name) s = rolled s _ (expr.rolls-Dot x name) (expr_view-Dot x name s)
  layer_view (layer.Call x args) s = rolled s _ (expr.rolls-Call x args) (expr_view-Call x args s ∙ ap (λ q. t.call (expr_at x.value) q s) (view-args args))
  layer_view (layer.ExprP::Index x) s = rolled s _ (expr.rolls-Index x) (expr_view-Index x s)
  layer_view (layer.Index2 x) s = rolled s _ (expr.rolls-Index2 x) (expr_view-Index2 x s)
  layer_view (layer.Slice x a b c) s = rolled s _ (expr.rolls-Slice x a b c) (expr_view-Slice x a b c s)
  layer_view (layer.ExprP::Identifier x) s = rolled s _ (expr.rolls-Identifier x) (expr_view-Identifier x s)
  layer_view (layer.Lambda x) s = rolled s _ (expr.rolls-Lambda x) (expr_view-Lambda x s ∙ view-lambda x s)
  layer_view (layer.Literal x) s = rolled s _ (expr.rolls-Literal x) (expr_view-Literal P L I A D T x s)
  layer_view (layer.Not x) s = rolled s _ (expr.rolls-Not x) (expr_view-Not x s)
  layer_view (layer.Minus x) s = rolled s _ (expr.rolls-Minus x) (expr_view-Minus x s)
  layer_view (layer.Plus x) s = rolled s _ (expr.rolls-Plus x) (expr_view-Plus x s)
  layer_view (layer.BitNot x) s = rolled s _ (expr.rolls-BitNot x) (expr_view-BitNot x s)
  layer_view (layer.Op x o y) s = rolled s _ (expr.rolls-Op x o y) (expr_view-Op x o y s)
  layer_view (layer.ExprP::If x) s = rolled s _ (expr.rolls-If x) (expr_view-If x s)
  layer_view (layer.List xs) s = rolled s _ (expr.rolls-List xs) (expr_view-List xs s)
  layer_view (layer.Dict xs) s = rolled s _ (expr.rolls-Dict xs) (expr_view-Dict xs s)
  layer_view (layer.ListComprehension x first rest) s = rolled s _ (expr.rolls-ListComprehension x first rest) (expr_view-ListComprehension x first rest s)
  layer_view (layer.DictComprehension x first rest) s = rolled s _ (expr.rolls-DictComprehension x first rest) (expr_view-DictComprehension x first rest s)
  layer_view (layer.FString x) s = rolled s _ (expr.rolls-FString x) (expr_view-FString x s ∙ view-fstring x.node x.span s)

  -- every expression is that of its layer
  pub expr_by_layer : (x : E P L I A D T) → expr_at x ≡ layer_at (out-ExprP P L I A D T x.node) x.span
  expr_by_layer x = ap (λ q. expr_view q x.span) (sym (roll-out-ExprP P L I A D T x.node)) ∙ layer_view (out-ExprP P L I A D T x.node) x.span
