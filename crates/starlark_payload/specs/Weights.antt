-- The form of a node, and how large it is: what the maps of trees go down by.
use Rattle.std.specs.Prelude.{ℕ, suc, ◌+◌, List, [], ◌∷◌, Option, Some, None}
use Rattle.std.specs.declared.alloc.Global.{Global}
use Rattle.std.specs.declared.boxed.Box.{Box}
use Rattle.starlark_place.specs.declared.pos.Spanned.{Spanned}
use Rattle.starlark_ast.specs.declared.ast.ArgumentP.{ArgumentP, ArgumentP-F, fold-ArgumentP}
use Rattle.starlark_ast.specs.declared.ast.AssignTargetP.{AssignTargetP, AssignTargetP-F, fold-AssignTargetP, out-AssignTargetP}
use Rattle.starlark_ast.specs.declared.ast.ClauseP.{ClauseP, ClauseP-F, fold-ClauseP, out-ClauseP}
use Rattle.starlark_ast.specs.declared.ast.ExprP.{ExprP, ExprP-F, fold-ExprP, out-ExprP}
use Rattle.starlark_ast.specs.declared.ast.ParameterP.{ParameterP, ParameterP-F, fold-ParameterP, out-ParameterP}
use Rattle.starlark_ast.specs.declared.ast.CallArgsP.{CallArgsP, CallArgsP-F}
use Rattle.starlark_ast.specs.declared.ast.FStringP.{FStringP, FStringP-F}
use Rattle.starlark_ast.specs.declared.ast.ForClauseP.{ForClauseP, ForClauseP-F, fold-ForClauseP}
use Rattle.starlark_ast.specs.declared.ast.LambdaP.{LambdaP, LambdaP-F}
use Rattle.starlark_ast.specs.declared.ast.TypeExprP.{TypeExprP, TypeExprP-F, fold-TypeExprP}
use Rattle.starlark_ast.specs.declared.ast.ArgumentP.TheOpen as layer
use Rattle.starlark_payload.specs.declared.nodes.Shape.{Shape}
use Rattle.starlark_payload.specs.declared.nodes.Shape.TheVariants as shape
use Rattle.starlark_payload.specs.declared.nodes.TargetShape.{TargetShape}
use Rattle.starlark_payload.specs.declared.nodes.TargetShape.TheVariants as target
use Rattle.starlark_payload.specs.declared.nodes.ParameterShape.{ParameterShape}
use Rattle.starlark_payload.specs.declared.nodes.ParameterShape.TheVariants as parameter
use Rattle.starlark_payload.specs.declared.nodes.ClauseShape.{ClauseShape}
use Rattle.starlark_payload.specs.declared.nodes.ClauseShape.TheVariants as clause

-- of a list: one more for each
abbrev pub total : {X : Type 0} → (X → ℕ) → List X → ℕ
total w [] = 0
total w (x ∷ xs) = suc (w x + total w xs)

abbrev pub node_weight : {X : Type 0} → (X → ℕ) → Spanned X → ℕ
node_weight w x = w x.node

abbrev pub both_weight : {X : Type 0} → (X → ℕ) → Spanned X × Spanned X → ℕ
both_weight w x = w x.0.node + w x.1.node

abbrev pub three_weight : {X : Type 0} → (X → ℕ) → Spanned X × Spanned X × Spanned X → ℕ
three_weight w x = w x.0.node + (w x.1.node + w x.2.node)

abbrev pub maybe_weight : {X : Type 0} → (X → ℕ) → Option (Spanned X) → ℕ
maybe_weight w None = 0
maybe_weight w (Some x) = w x.node

abbrev pub boxed_weight : {X : Type 0} → (X → ℕ) → Option (Box (Spanned X) Global) → ℕ
boxed_weight w None = 0
boxed_weight w (Some x) = w x.value.node

-- what a box holds, if there is one
abbrev pub unboxed : {X : Type 0} → Option (Box X Global) → Option X
unboxed None = None
unboxed (Some x) = Some x.value

abbrev pub known : ℕ → ℕ
known n = n

module _ {P L I A D T : Type 0} where
  abbrev pub expr_shape_layer : ExprP-F P L I A D T (ArgumentP P L I A D T) (AssignTargetP P L I A D T) (ClauseP P L I A D T) (ExprP P L I A D T) (ParameterP P L I A D T) (CallArgsP P L I A D T) (FStringP P L I A D T) (ForClauseP P L I A D T) (LambdaP P L I A D T) (TypeExprP P L I A D T) → Shape
  expr_shape_layer (layer.ExprP::Tuple xs) = shape.Many
  expr_shape_layer (layer.ExprP::Dot x name) = shape.One
  expr_shape_layer (layer.Call x args) = shape.Call
  expr_shape_layer (layer.ExprP::Index x) = shape.Index
  expr_shape_layer (layer.Index2 x) = shape.Three
  expr_shape_layer (layer.Slice x a b c) = shape.Slice
  expr_shape_layer (layer.ExprP::Identifier x) = shape.Name
  expr_shape_layer (layer.Lambda x) = shape.Lambda
  expr_shape_layer (layer.Literal x) = shape.Literal
  expr_shape_layer (layer.Not x) = shape.One
  expr_shape_layer (layer.Minus x) = shape.One
  expr_shape_layer (layer.Plus x) = shape.One
  expr_shape_layer (layer.BitNot x) = shape.One
  expr_shape_layer (layer.Op x op y) = shape.Operation
  expr_shape_layer (layer.ExprP::If x) = shape.Three
  expr_shape_layer (layer.List xs) = shape.Many
  expr_shape_layer (layer.Dict xs) = shape.Dict
  expr_shape_layer (layer.ListComprehension x first rest) = shape.ListComprehension
  expr_shape_layer (layer.DictComprehension x first rest) = shape.DictComprehension
  expr_shape_layer (layer.FString x) = shape.Many

  abbrev pub expr_shape : ExprP P L I A D T → Shape
  expr_shape x = expr_shape_layer (out-ExprP P L I A D T x)

  abbrev pub target_shape_layer : AssignTargetP-F P L I A D T (ArgumentP P L I A D T) (AssignTargetP P L I A D T) (ClauseP P L I A D T) (ExprP P L I A D T) (ParameterP P L I A D T) (CallArgsP P L I A D T) (FStringP P L I A D T) (ForClauseP P L I A D T) (LambdaP P L I A D T) (TypeExprP P L I A D T) → TargetShape
  target_shape_layer (layer.AssignTargetP::Tuple xs) = target.Tuple
  target_shape_layer (layer.AssignTargetP::Index x) = target.Index
  target_shape_layer (layer.AssignTargetP::Dot x name) = target.Dot
  target_shape_layer (layer.AssignTargetP::Identifier x) = target.Name

  abbrev pub target_shape : AssignTargetP P L I A D T → TargetShape
  target_shape x = target_shape_layer (out-AssignTargetP P L I A D T x)

  abbrev pub parameter_shape_layer : ParameterP-F P L I A D T (ArgumentP P L I A D T) (AssignTargetP P L I A D T) (ClauseP P L I A D T) (ExprP P L I A D T) (ParameterP P L I A D T) (CallArgsP P L I A D T) (FStringP P L I A D T) (ForClauseP P L I A D T) (LambdaP P L I A D T) (TypeExprP P L I A D T) → ParameterShape
  parameter_shape_layer (layer.Slash) = parameter.Marker
  parameter_shape_layer (layer.Normal x type default) = parameter.Normal
  parameter_shape_layer (layer.NoArgs) = parameter.Marker
  parameter_shape_layer (layer.ParameterP::Args x type) = parameter.Starred
  parameter_shape_layer (layer.ParameterP::KwArgs x type) = parameter.Starred

  abbrev pub parameter_shape : ParameterP P L I A D T → ParameterShape
  parameter_shape x = parameter_shape_layer (out-ParameterP P L I A D T x)

  abbrev pub clause_shape_layer : ClauseP-F P L I A D T (ArgumentP P L I A D T) (AssignTargetP P L I A D T) (ClauseP P L I A D T) (ExprP P L I A D T) (ParameterP P L I A D T) (CallArgsP P L I A D T) (FStringP P L I A D T) (ForClauseP P L I A D T) (LambdaP P L I A D T) (TypeExprP P L I A D T) → ClauseShape
  clause_shape_layer (layer.For x) = clause.For
  clause_shape_layer (layer.ClauseP::If x) = clause.If

  abbrev pub clause_shape : ClauseP P L I A D T → ClauseShape
  clause_shape x = clause_shape_layer (out-ClauseP P L I A D T x)

  -- one layer
  abbrev pub argument_weights : ArgumentP-F P L I A D T ℕ ℕ ℕ ℕ ℕ ℕ ℕ ℕ ℕ ℕ → ℕ
  argument_weights (layer.Positional x) = suc x.node
  argument_weights (layer.Named name x) = suc x.node
  argument_weights (layer.ArgumentP::Args x) = suc x.node
  argument_weights (layer.ArgumentP::KwArgs x) = suc x.node

  abbrev pub target_weights : AssignTargetP-F P L I A D T ℕ ℕ ℕ ℕ ℕ ℕ ℕ ℕ ℕ ℕ → ℕ
  target_weights (layer.AssignTargetP::Tuple xs) = suc (total (node_weight known) xs.items)
  target_weights (layer.AssignTargetP::Index x) = suc (both_weight known x.value)
  target_weights (layer.AssignTargetP::Dot x name) = suc x.value.node
  target_weights (layer.AssignTargetP::Identifier x) = 0

  abbrev pub clause_weights : ClauseP-F P L I A D T ℕ ℕ ℕ ℕ ℕ ℕ ℕ ℕ ℕ ℕ → ℕ
  clause_weights (layer.For x) = suc x
  clause_weights (layer.ClauseP::If x) = suc x.node

  abbrev pub expr_weights : ExprP-F P L I A D T ℕ ℕ ℕ ℕ ℕ ℕ ℕ ℕ ℕ ℕ → ℕ
  expr_weights (layer.ExprP::Tuple xs) = suc (total (node_weight known) xs.items)
  expr_weights (layer.ExprP::Dot x name) = suc x.value.node
  expr_weights (layer.Call x args) = suc (x.value.node + args)
  expr_weights (layer.ExprP::Index x) = suc (both_weight known x.value)
  expr_weights (layer.Index2 x) = suc (three_weight known x.value)
  expr_weights (layer.Slice x a b c) = suc (x.value.node + (boxed_weight known a + (boxed_weight known b + boxed_weight known c)))
  expr_weights (layer.ExprP::Identifier x) = 0
  expr_weights (layer.Lambda x) = x
  expr_weights (layer.Literal x) = 0
  expr_weights (layer.Not x) = suc x.value.node
  expr_weights (layer.Minus x) = suc x.value.node
  expr_weights (layer.Plus x) = suc x.value.node
  expr_weights (layer.BitNot x) = suc x.value.node
  expr_weights (layer.Op x op y) = suc (x.value.node + y.value.node)
  expr_weights (layer.ExprP::If x) = suc (three_weight known x.value)
  expr_weights (layer.List xs) = suc (total (node_weight known) xs.items)
  expr_weights (layer.Dict xs) = suc (total (both_weight known) xs.items)
  expr_weights (layer.ListComprehension x first rest) = suc (x.value.node + (first.value + total known rest.items))
  expr_weights (layer.DictComprehension x first rest) = suc (both_weight known x.value + (first.value + total known rest.items))
  expr_weights (layer.FString x) = suc x.node

  abbrev pub parameter_weights : ParameterP-F P L I A D T ℕ ℕ ℕ ℕ ℕ ℕ ℕ ℕ ℕ ℕ → ℕ
  parameter_weights layer.Slash = 0
  parameter_weights (layer.Normal x type default) = suc (boxed_weight known type + boxed_weight known default)
  parameter_weights layer.NoArgs = 0
  parameter_weights (layer.ParameterP::Args x type) = suc (boxed_weight known type)
  parameter_weights (layer.ParameterP::KwArgs x type) = suc (boxed_weight known type)

  abbrev pub call_args_weights : CallArgsP-F P L I A D T ℕ ℕ ℕ ℕ ℕ ℕ ℕ ℕ ℕ ℕ → ℕ
  call_args_weights x = total (node_weight known) x.args.items

  abbrev pub fstring_weights : FStringP-F P L I A D T ℕ ℕ ℕ ℕ ℕ ℕ ℕ ℕ ℕ ℕ → ℕ
  fstring_weights x = total (node_weight known) x.expressions.items

  abbrev pub for_clause_weights : ForClauseP-F P L I A D T ℕ ℕ ℕ ℕ ℕ ℕ ℕ ℕ ℕ ℕ → ℕ
  for_clause_weights x = suc (x.var.node + x.over.node)

  abbrev pub lambda_weights : LambdaP-F P L I A D T ℕ ℕ ℕ ℕ ℕ ℕ ℕ ℕ ℕ ℕ → ℕ
  lambda_weights x = suc (total (node_weight known) x.params.items + x.body.value.node)

  abbrev pub type_weights : TypeExprP-F P L I A D T ℕ ℕ ℕ ℕ ℕ ℕ ℕ ℕ ℕ ℕ → ℕ
  type_weights x = suc x.expr.node

  abbrev pub argument_weight : ArgumentP P L I A D T → ℕ
  argument_weight = fold-ArgumentP P L I A D T _ _ _ _ _ _ _ _ _ _ argument_weights target_weights clause_weights expr_weights parameter_weights call_args_weights fstring_weights for_clause_weights lambda_weights type_weights

  abbrev pub target_weight : AssignTargetP P L I A D T → ℕ
  target_weight = fold-AssignTargetP P L I A D T _ _ _ _ _ _ _ _ _ _ argument_weights target_weights clause_weights expr_weights parameter_weights call_args_weights fstring_weights for_clause_weights lambda_weights type_weights

  abbrev pub clause_weight : ClauseP P L I A D T → ℕ
  clause_weight = fold-ClauseP P L I A D T _ _ _ _ _ _ _ _ _ _ argument_weights target_weights clause_weights expr_weights parameter_weights call_args_weights fstring_weights for_clause_weights lambda_weights type_weights

  abbrev pub expr_weight : ExprP P L I A D T → ℕ
  expr_weight = fold-ExprP P L I A D T _ _ _ _ _ _ _ _ _ _ argument_weights target_weights clause_weights expr_weights parameter_weights call_args_weights fstring_weights for_clause_weights lambda_weights type_weights

  abbrev pub parameter_weight : ParameterP P L I A D T → ℕ
  parameter_weight = fold-ParameterP P L I A D T _ _ _ _ _ _ _ _ _ _ argument_weights target_weights clause_weights expr_weights parameter_weights call_args_weights fstring_weights for_clause_weights lambda_weights type_weights

  abbrev pub for_clause_weight : ForClauseP P L I A D T → ℕ
  for_clause_weight = fold-ForClauseP P L I A D T _ _ _ _ _ _ _ _ _ _ argument_weights target_weights clause_weights expr_weights parameter_weights call_args_weights fstring_weights for_clause_weights lambda_weights type_weights

  abbrev pub type_weight : TypeExprP P L I A D T → ℕ
  type_weight = fold-TypeExprP P L I A D T _ _ _ _ _ _ _ _ _ _ argument_weights target_weights clause_weights expr_weights parameter_weights call_args_weights fstring_weights for_clause_weights lambda_weights type_weights
