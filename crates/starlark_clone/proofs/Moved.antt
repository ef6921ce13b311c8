-- An expression at one place decides it at each place.
use Rattle.std.proofs.Common.{◌≡◌, ◌∙◌, refl, sym, ap}
use Rattle.starlark_place.specs.Place.{Extent}
use Rattle.starlark_ast.specs.Tree as tree
use Rattle.starlark_ast.specs.Tree.{Expr, place}
use Rattle.starlark_ast.specs.View.{expr_view, literal_view}
use Rattle.starlark_ast.specs.Views.{expr_view-Tuple, expr_view-Dot, expr_view-Call, expr_view-Index, expr_view-Index2, expr_view-Slice, expr_view-Identifier, expr_view-Lambda, expr_view-Literal, expr_view-Not, expr_view-Minus, expr_view-Plus, expr_view-BitNot, expr_view-Op, expr_view-If, expr_view-List, expr_view-Dict, expr_view-ListComprehension, expr_view-DictComprehension, expr_view-FString, view-fstring, view-lambda}
use Rattle.starlark_ast.specs.declared.ast.ArgumentP.{ArgumentP}
use Rattle.starlark_ast.specs.declared.ast.AssignTargetP.{AssignTargetP}
use Rattle.starlark_ast.specs.declared.ast.AstLiteral.{AstLiteral}
use Rattle.starlark_ast.specs.declared.ast.AstLiteral.TheVariants as literal
use Rattle.starlark_ast.specs.declared.ast.ClauseP.{ClauseP}
use Rattle.starlark_ast.specs.declared.ast.ExprP.{ExprP, ExprP-F, out-ExprP, roll-ExprP, roll-out-ExprP}
use Rattle.starlark_ast.specs.declared.ast.ParameterP.{ParameterP}
use Rattle.starlark_ast.specs.declared.ast.CallArgsP.{CallArgsP}
use Rattle.starlark_ast.specs.declared.ast.FStringP.{FStringP}
use Rattle.starlark_ast.specs.declared.ast.ForClauseP.{ForClauseP}
use Rattle.starlark_ast.specs.declared.ast.LambdaP.{LambdaP}
use Rattle.starlark_ast.specs.declared.ast.TypeExprP.{TypeExprP}
use Rattle.starlark_ast.specs.declared.ast.ArgumentP.TheOpen as layer
use Rattle.starlark_ast.specs.declared.ast.ExprP.TheVariants as expr

-- the same at another place; `...` stands there as a whole
abbrev pub moved : Extent → Expr → Expr
moved v (tree.leaf (tree.name n) u s) = tree.leaf (tree.name n) u v
moved v (tree.leaf (tree.int n) u s) = tree.leaf (tree.int n) u v
moved v (tree.leaf (tree.float x) u s) = tree.leaf (tree.float x) u v
moved v (tree.leaf (tree.string x) u s) = tree.leaf (tree.string x) u v
moved v (tree.leaf (tree.bytes x) u s) = tree.leaf (tree.bytes x) u v
moved v (tree.leaf tree.ellipsis u s) = tree.leaf tree.ellipsis v v
moved v (tree.tuple ms s) = tree.tuple ms v
moved v (tree.list ms s) = tree.list ms v
moved v (tree.dict ms s) = tree.dict ms v
moved v (tree.comprehension m cs s) = tree.comprehension m cs v
moved v (tree.dot x n u s) = tree.dot x n u v
moved v (tree.index x b s) = tree.index x b v
moved v (tree.call x ms s) = tree.call x ms v
moved v (tree.lambda ms x s) = tree.lambda ms x v
moved v (tree.signed o x s) = tree.signed o x v
moved v (tree.operation x o y s) = tree.operation x o y v
moved v (tree.choice c x y s) = tree.choice c x y v
moved v (tree.fstring f u ms w s) = tree.fstring f u ms w v

-- what is the same at one place and then moved, and where it stands
abbrev IsMoved : (Extent → Expr) → Extent → Extent → Type 0
IsMoved x s v = (moved v (x s) ≡ x v) × (place (x s) ≡ s)

by_move : {X : Type 0} (view : X → Extent → Expr) (made : Extent → Expr) {y x : X} → y ≡ x → ((s : Extent) → view x s ≡ made s) → ((s v : Extent) → IsMoved made s v) → (s v : Extent) → IsMoved (view y) s v
by_move view made {y} {x} e look k s v =
    let there : (w : Extent) → view y w ≡ made w = λ w. ap (λ q. view q w) e ∙ look w in
    (ap (moved v) (there s) ∙ (k s v).0 ∙ sym (there v), ap place (there s) ∙ (k s v).1)

literal_moves : (x : AstLiteral) (s v : Extent) → IsMoved (literal_view x) s v
literal_moves (literal.Int n) s v = (refl, refl)
literal_moves (literal.Float x) s v = (refl, refl)
literal_moves (literal.String x) s v = (refl, refl)
literal_moves (literal.Bytes x) s v = (refl, refl)
literal_moves literal.Ellipsis s v = (refl, refl)

module _ {P L I A D T : Type 0} where
  layer_moves : (y : ExprP-F P L I A D T (ArgumentP P L I A D T) (AssignTargetP P L I A D T) (ClauseP P L I A D T) (ExprP P L I A D T) (ParameterP P L I A D T) (CallArgsP P L I A D T) (FStringP P L I A D T) (ForClauseP P L I A D T) (LambdaP P L I A D T) (TypeExprP P L I A D T)) (s v : Extent) → IsMoved (expr_view (roll-ExprP P L I A D T y)) s v
  layer_moves (layer.ExprP::Tuple xs) = by_move expr_view _ (expr.rolls-Tuple xs) (expr_view-Tuple xs) (λ _ _. (refl, refl))
  layer_moves (layer.ExprP::Dot x name) = by_move expr_view _ (expr.rolls-Dot x name) (expr_view-Dot x name) (λ _ _. (refl, refl))
  layer_moves (layer.Call x args) = by_move expr_view _ (expr.rolls-Call x args) (expr_view-Call x args) (λ _ _. (refl, refl))
  layer_moves (layer.ExprP::Index x) = by_move expr_view _ (expr.rolls-Index x) (expr_view-Index x) (λ _ _. (refl, refl))
  layer_moves (layer.Index2 x) = by_move expr_view _ (expr.rolls-Index2 x) (expr_view-Index2 x) (λ _ _. (refl, refl))
  layer_moves (layer.Slice x a b c) = by_move expr_view _ (expr.rolls-Slice x a b c) (expr_view-Slice x a b c) (λ _ _. (refl, refl))
  layer_moves (layer.ExprP::Identifier x) = by_move expr_view _ (expr.rolls-Identifier x) (expr_view-Identifier x) (λ _ _. (refl, refl))
  layer_moves (layer.Lambda x) = by_move expr_view _ (expr.rolls-Lambda x) (λ s. expr_view-Lambda x s ∙ view-lambda x s) (λ _ _. (refl, refl))
  layer_moves (layer.Literal x) = by_move expr_view _ (expr.rolls-Literal x) (expr_view-Literal P L I A D T x) (literal_moves x)
  layer_moves (layer.Not x) = by_move expr_view _ (expr.rolls-Not x) (expr_view-Not x) (λ _ _. (refl, refl))
  layer_moves (layer.Minus x) = by_move expr_view _ (expr.rolls-Minus x) (expr_view-Minus x) (λ _ _. (refl, refl))
  layer_moves (layer.Plus x) = by_move expr_view _ (expr.rolls-Plus x) (expr_view-Plus x) (λ _ _. (refl, refl))
  layer_moves (layer.BitNot x) = by_move expr_view _ (expr.rolls-BitNot x) (expr_view-BitNot x) (λ _ _. (refl, refl))
  layer_moves (layer.Op x op y) = by_move expr_view _ (expr.rolls-Op x op y) (expr_view-Op x op y) (λ _ _. (refl, refl))
  layer_moves (layer.ExprP::If x) = by_move expr_view _ (expr.rolls-If x) (expr_view-If x) (λ _ _. (refl, refl))
  layer_moves (layer.List xs) = by_move expr_view _ (expr.rolls-List xs) (expr_view-List xs) (λ _ _. (refl, refl))
  layer_moves (layer.Dict xs) = by_move expr_view _ (expr.rolls-Dict xs) (expr_view-Dict xs) (λ _ _. (refl, refl))
  layer_moves (layer.ListComprehension x first rest) = by_move expr_view _ (expr.rolls-ListComprehension x first rest) (expr_view-ListComprehension x first rest) (λ _ _. (refl, refl))
  layer_moves (layer.DictComprehension x first rest) = by_move expr_view _ (expr.rolls-DictComprehension x first rest) (expr_view-DictComprehension x first rest) (λ _ _. (refl, refl))
  layer_moves (layer.FString x) = by_move expr_view _ (expr.rolls-FString x) (λ s. expr_view-FString x s ∙ view-fstring x.node x.span s) (λ _ _. (refl, refl))

  moves : (x : ExprP P L I A D T) (s v : Extent) → IsMoved (expr_view x) s v
  moves x s v = by_move expr_view (expr_view (roll-ExprP P L I A D T (out-ExprP P L I A D T x))) (sym (roll-out-ExprP P L I A D T x)) (λ _. refl) (layer_moves (out-ExprP P L I A D T x)) s v

  -- two that are the same at one place are so at each
  pub same_anywhere : (x y : ExprP P L I A D T) (s : Extent) → expr_view x s ≡ expr_view y s → (v : Extent) → expr_view x v ≡ expr_view y v
  same_anywhere x y s e v = sym (moves x s v).0 ∙ ap (moved v) e ∙ (moves y s v).0

  -- an expression stands at its place
  pub stands : (x : ExprP P L I A D T) (s : Extent) → place (expr_view x s) ≡ s
  stands x s = (moves x s s).1
