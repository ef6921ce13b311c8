-- What is printed, and how large it is, are the same at each place.
use Rattle.std.proofs.Common.{ℕ, ◌≡◌, sym, ap, ◌∙◌, refl, List}
use Rattle.starlark_place.specs.Place.{Extent}
use Rattle.starlark_ast.specs.Printing.{expr_text, member_text}
use Rattle.starlark_ast.specs.Tree.{Expr, Member}
use Rattle.starlark_ast.specs.View.{argument_view, expr_view, literal_view, parameter_view, target_view}
use Rattle.starlark_ast.specs.Views.{expr_view-Tuple, expr_view-Dot, expr_view-Call, expr_view-Index, expr_view-Index2, expr_view-Slice, expr_view-Identifier, expr_view-Lambda, expr_view-Literal, expr_view-Not, expr_view-Minus, expr_view-Plus, expr_view-BitNot, expr_view-Op, expr_view-If, expr_view-List, expr_view-Dict, expr_view-ListComprehension, expr_view-DictComprehension, expr_view-FString, argument_view-Positional, argument_view-Named, argument_view-Args, argument_view-KwArgs, parameter_view-Slash, parameter_view-Normal, parameter_view-NoArgs, parameter_view-Args, parameter_view-KwArgs, target_view-Tuple, target_view-Index, target_view-Dot, target_view-Identifier, view-fstring, view-lambda}
use Rattle.starlark_ast.specs.declared.ast.ArgumentP.{ArgumentP, ArgumentP-F, out-ArgumentP, roll-ArgumentP, roll-out-ArgumentP}
use Rattle.starlark_ast.specs.declared.ast.AssignTargetP.{AssignTargetP, AssignTargetP-F, out-AssignTargetP, roll-AssignTargetP, roll-out-AssignTargetP}
use Rattle.starlark_ast.specs.declared.ast.AstLiteral.{AstLiteral}
use Rattle.starlark_ast.specs.declared.ast.AstLiteral.TheVariants as literal
use Rattle.starlark_ast.specs.declared.ast.ClauseP.{ClauseP}
use Rattle.starlark_ast.specs.declared.ast.ExprP.{ExprP, ExprP-F, out-ExprP, roll-ExprP, roll-out-ExprP}
use Rattle.starlark_ast.specs.declared.ast.ParameterP.{ParameterP, ParameterP-F, out-ParameterP, roll-ParameterP, roll-out-ParameterP}
use Rattle.starlark_ast.specs.declared.ast.CallArgsP.{CallArgsP}
use Rattle.starlark_ast.specs.declared.ast.FStringP.{FStringP}
use Rattle.starlark_ast.specs.declared.ast.ForClauseP.{ForClauseP}
use Rattle.starlark_ast.specs.declared.ast.LambdaP.{LambdaP}
use Rattle.starlark_ast.specs.declared.ast.TypeExprP.{TypeExprP}
use Rattle.starlark_ast.specs.declared.ast.ArgumentP.TheOpen as layer
use Rattle.starlark_ast.specs.declared.ast.ArgumentP.TheVariants as argument
use Rattle.starlark_ast.specs.declared.ast.AssignTargetP.TheVariants as target
use Rattle.starlark_ast.specs.declared.ast.ExprP.TheVariants as expr
use Rattle.starlark_ast.specs.declared.ast.ParameterP.TheVariants as param
use Rattle.starlark_ast.proofs.Sizes.{size, member_size}

-- what counts of an expression, and of a member
abbrev seen : Expr → List ℕ × ℕ
seen x = (expr_text x, size x)

abbrev seen_member : Member → List ℕ × ℕ
seen_member x = (member_text x, member_size x)

-- a node that is one variant looks at each place as that does
pub by_variant : {X Y Z : Type 0} (h : Y → Z) (view : X → Extent → Y) (made : Extent → Y) {y x : X} → y ≡ x → ((s : Extent) → view x s ≡ made s) → ((s t : Extent) → h (made s) ≡ h (made t)) → (s t : Extent) → h (view y s) ≡ h (view y t)
by_variant h view made {y} {x} e v k s t = ap (λ q. h (view q s)) e ∙ ap h (v s) ∙ k s t ∙ sym (ap h (v t)) ∙ sym (ap (λ q. h (view q t)) e)

literal_seen : (x : AstLiteral) (s t : Extent) → seen (literal_view x s) ≡ seen (literal_view x t)
literal_seen (literal.Int n) s t = refl
literal_seen (literal.Float x) s t = refl
literal_seen (literal.String x) s t = refl
literal_seen (literal.Bytes x) s t = refl
literal_seen literal.Ellipsis s t = refl

module _ {P L I A D T : Type 0} where
  expr_layer : (y : ExprP-F P L I A D T (ArgumentP P L I A D T) (AssignTargetP P L I A D T) (ClauseP P L I A D T) (ExprP P L I A D T) (ParameterP P L I A D T) (CallArgsP P L I A D T) (FStringP P L I A D T) (ForClauseP P L I A D T) (LambdaP P L I A D T) (TypeExprP P L I A D T)) (s t : Extent) → seen (expr_view (roll-ExprP P L I A D T y) s) ≡ seen (expr_view (roll-ExprP P L I A D T y) t)
  expr_layer (layer.ExprP::Tuple xs) = by_variant seen expr_view _ (expr.rolls-Tuple xs) (expr_view-Tuple xs) (λ _ _. refl)
  expr_layer (layer.ExprP::Dot x name) = by_variant seen expr_view _ (expr.rolls-Dot x name) (expr_view-Dot x name) (λ _ _. refl)
  expr_layer (layer.Call x args) = by_variant seen expr_view _ (expr.rolls-Call x args) (expr_view-Call x args) (λ _ _. refl)
  expr_layer (layer.ExprP::Index x) = by_variant seen expr_view _ (expr.rolls-Index x) (expr_view-Index x) (λ _ _. refl)
  expr_layer (layer.Index2 x) = by_variant seen expr_view _ (expr.rolls-Index2 x) (expr_view-Index2 x) (λ _ _. refl)
  expr_layer (layer.Slice x a b c) = by_variant seen expr_view _ (expr.rolls-Slice x a b c) (expr_view-Slice x a b c) (λ _ _. refl)
  expr_layer (layer.ExprP::Identifier x) = by_variant seen expr_view _ (expr.rolls-Identifier x) (expr_view-Identifier x) (λ _ _. refl)
  expr_layer (layer.Lambda x) = by_variant seen expr_view _ (expr.rolls-Lambda x) (λ s. expr_view-Lambda x s ∙ view-lambda x s) (λ _ _. refl)
  expr_layer (layer.Literal x) = by_variant seen expr_view _ (expr.rolls-Literal x) (expr_view-Literal P L I A D T x) (literal_seen x)
  expr_layer (layer.Not x) = by_variant seen expr_view _ (expr.rolls-Not x) (expr_view-Not x) (λ _ _. refl)
  expr_layer (layer.Minus x) = by_variant seen expr_view _ (expr.rolls-Minus x) (expr_view-Minus x) (λ _ _. refl)
  expr_layer (layer.Plus x) = by_variant seen expr_view _ (expr.rolls-Plus x) (expr_view-Plus x) (λ _ _. refl)
  expr_layer (layer.BitNot x) = by_variant seen expr_view _ (expr.rolls-BitNot x) (expr_view-BitNot x) (λ _ _. refl)
  expr_layer (layer.Op x op y) = by_variant seen expr_view _ (expr.rolls-Op x op y) (expr_view-Op x op y) (λ _ _. refl)
  expr_layer (layer.ExprP::If x) = by_variant seen expr_view _ (expr.rolls-If x) (expr_view-If x) (λ _ _. refl)
  expr_layer (layer.List xs) = by_variant seen expr_view _ (expr.rolls-List xs) (expr_view-List xs) (λ _ _. refl)
  expr_layer (layer.Dict xs) = by_variant seen expr_view _ (expr.rolls-Dict xs) (expr_view-Dict xs) (λ _ _. refl)
  expr_layer (layer.ListComprehension x first rest) = by_variant seen expr_view _ (expr.rolls-ListComprehension x first rest) (expr_view-ListComprehension x first rest) (λ _ _. refl)
  expr_layer (layer.DictComprehension x first rest) = by_variant seen expr_view _ (expr.rolls-DictComprehension x first rest) (expr_view-DictComprehension x first rest) (λ _ _. refl)
  expr_layer (layer.FString x) = by_variant seen expr_view _ (expr.rolls-FString x) (λ s. expr_view-FString x s ∙ view-fstring x.node x.span s) (λ _ _. refl)

  expr_seen : (x : ExprP P L I A D T) (s t : Extent) → seen (expr_view x s) ≡ seen (expr_view x t)
  expr_seen x s t = by_variant seen expr_view (expr_view (roll-ExprP P L I A D T (out-ExprP P L I A D T x))) (sym (roll-out-ExprP P L I A D T x)) (λ _. refl) (expr_layer (out-ExprP P L I A D T x)) s t

  argument_layer : (y : ArgumentP-F P L I A D T (ArgumentP P L I A D T) (AssignTargetP P L I A D T) (ClauseP P L I A D T) (ExprP P L I A D T) (ParameterP P L I A D T) (CallArgsP P L I A D T) (FStringP P L I A D T) (ForClauseP P L I A D T) (LambdaP P L I A D T) (TypeExprP P L I A D T)) (s t : Extent) → seen_member (argument_view (roll-ArgumentP P L I A D T y) s) ≡ seen_member (argument_view (roll-ArgumentP P L I A D T y) t)
  argument_layer (layer.Positional x) = by_variant seen_member argument_view _ (argument.rolls-Positional x) (argument_view-Positional x) (λ _ _. refl)
  argument_layer (layer.Named n x) = by_variant seen_member argument_view _ (argument.rolls-Named n x) (argument_view-Named n x) (λ _ _. refl)
  argument_layer (layer.ArgumentP::Args x) = by_variant seen_member argument_view _ (argument.rolls-Args x) (argument_view-Args x) (λ _ _. refl)
  argument_layer (layer.ArgumentP::KwArgs x) = by_variant seen_member argument_view _ (argument.rolls-KwArgs x) (argument_view-KwArgs x) (λ _ _. refl)

  argument_seen : (x : ArgumentP P L I A D T) (s t : Extent) → seen_member (argument_view x s) ≡ seen_member (argument_view x t)
  argument_seen x s t = by_variant seen_member argument_view (argument_view (roll-ArgumentP P L I A D T (out-ArgumentP P L I A D T x))) (sym (roll-out-ArgumentP P L I A D T x)) (λ _. refl) (argument_layer (out-ArgumentP P L I A D T x)) s t

  parameter_layer : (y : ParameterP-F P L I A D T (ArgumentP P L I A D T) (AssignTargetP P L I A D T) (ClauseP P L I A D T) (ExprP P L I A D T) (ParameterP P L I A D T) (CallArgsP P L I A D T) (FStringP P L I A D T) (ForClauseP P L I A D T) (LambdaP P L I A D T) (TypeExprP P L I A D T)) (s t : Extent) → seen_member (parameter_view (roll-ParameterP P L I A D T y) s) ≡ seen_member (parameter_view (roll-ParameterP P L I A D T y) t)
  parameter_layer layer.Slash = by_variant seen_member parameter_view _ param.rolls-Slash (parameter_view-Slash P L I A D T) (λ _ _. refl)
  parameter_layer (layer.Normal x a d) = by_variant seen_member parameter_view _ (param.rolls-Normal x a d) (parameter_view-Normal x a d) (λ _ _. refl)
  parameter_layer layer.NoArgs = by_variant seen_member parameter_view _ param.rolls-NoArgs (parameter_view-NoArgs P L I A D T) (λ _ _. refl)
  parameter_layer (layer.ParameterP::Args x a) = by_variant seen_member parameter_view _ (param.rolls-Args x a) (parameter_view-Args x a) (λ _ _. refl)
  parameter_layer (layer.ParameterP::KwArgs x a) = by_variant seen_member parameter_view _ (param.rolls-KwArgs x a) (parameter_view-KwArgs x a) (λ _ _. refl)

  parameter_seen : (x : ParameterP P L I A D T) (s t : Extent) → seen_member (parameter_view x s) ≡ seen_member (parameter_view x t)
  parameter_seen x s t = by_variant seen_member parameter_view (parameter_view (roll-ParameterP P L I A D T (out-ParameterP P L I A D T x))) (sym (roll-out-ParameterP P L I A D T x)) (λ _. refl) (parameter_layer (out-ParameterP P L I A D T x)) s t

  target_layer : (y : AssignTargetP-F P L I A D T (ArgumentP P L I A D T) (AssignTargetP P L I A D T) (ClauseP P L I A D T) (ExprP P L I A D T) (ParameterP P L I A D T) (CallArgsP P L I A D T) (FStringP P L I A D T) (ForClauseP P L I A D T) (LambdaP P L I A D T) (TypeExprP P L I A D T)) (s t : Extent) → seen (target_view (roll-AssignTargetP P L I A D T y) s) ≡ seen (target_view (roll-AssignTargetP P L I A D T y) t)
  target_layer (layer.AssignTargetP::Tuple xs) = by_variant seen target_view _ (target.rolls-Tuple xs) (target_view-Tuple xs) (λ _ _. refl)
  target_layer (layer.AssignTargetP::Index x) = by_variant seen target_view _ (target.rolls-Index x) (target_view-Index x) (λ _ _. refl)
  target_layer (layer.AssignTargetP::Dot x name) = by_variant seen target_view _ (target.rolls-Dot x name) (target_view-Dot x name) (λ _ _. refl)
  target_layer (layer.AssignTargetP::Identifier x) = by_variant seen target_view _ (target.rolls-Identifier x) (target_view-Identifier x) (λ _ _. refl)

  target_seen : (x : AssignTargetP P L I A D T) (s t : Extent) → seen (target_view x s) ≡ seen (target_view x t)
  target_seen x s t = by_variant seen target_view (target_view (roll-AssignTargetP P L I A D T (out-AssignTargetP P L I A D T x))) (sym (roll-out-AssignTargetP P L I A D T x)) (λ _. refl) (target_layer (out-AssignTargetP P L I A D T x)) s t

  -- texts

  pub expr_anywhere : (x : ExprP P L I A D T) (s t : Extent) → expr_text (expr_view x s) ≡ expr_text (expr_view x t)
  expr_anywhere x s t = ap (λ q. q.0) (expr_seen x s t)

  pub argument_anywhere : (x : ArgumentP P L I A D T) (s t : Extent) → member_text (argument_view x s) ≡ member_text (argument_view x t)
  argument_anywhere x s t = ap (λ q. q.0) (argument_seen x s t)

  pub parameter_anywhere : (x : ParameterP P L I A D T) (s t : Extent) → member_text (parameter_view x s) ≡ member_text (parameter_view x t)
  parameter_anywhere x s t = ap (λ q. q.0) (parameter_seen x s t)

  pub target_anywhere : (x : AssignTargetP P L I A D T) (s t : Extent) → expr_text (target_view x s) ≡ expr_text (target_view x t)
  target_anywhere x s t = ap (λ q. q.0) (target_seen x s t)

  -- sizes

  pub expr_as_large : (x : ExprP P L I A D T) (s t : Extent) → size (expr_view x s) ≡ size (expr_view x t)
  expr_as_large x s t = ap (λ q. q.1) (expr_seen x s t)

  pub argument_as_large : (x : ArgumentP P L I A D T) (s t : Extent) → member_size (argument_view x s) ≡ member_size (argument_view x t)
  argument_as_large x s t = ap (λ q. q.1) (argument_seen x s t)

  pub parameter_as_large : (x : ParameterP P L I A D T) (s t : Extent) → member_size (parameter_view x s) ≡ member_size (parameter_view x t)
  parameter_as_large x s t = ap (λ q. q.1) (parameter_seen x s t)

  pub target_as_large : (x : AssignTargetP P L I A D T) (s t : Extent) → size (target_view x s) ≡ size (target_view x t)
  target_as_large x s t = ap (λ q. q.1) (target_seen x s t)
