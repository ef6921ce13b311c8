-- The places that visitors go over, in order.
use Rattle.std.specs.Prelude.{List, [], ◌∷◌, ◌++◌, map, flat_map, Option, Some, None}
use Rattle.std.specs.declared.alloc.Global.{Global}
use Rattle.std.specs.declared.boxed.Box.{Box}
use Rattle.starlark_place.specs.declared.pos.Spanned.{Spanned}
use Rattle.starlark_ast.specs.Access.{argument_expr}
use Rattle.starlark_ast.specs.declared.ast.AssignIdentP.{AssignIdentP}
use Rattle.starlark_ast.specs.declared.ast.ArgumentP.{ArgumentP}
use Rattle.starlark_ast.specs.declared.ast.AssignTargetP.{AssignTargetP, AssignTargetP-F, fold-AssignTargetP, para-AssignTargetP}
use Rattle.starlark_ast.specs.declared.ast.ClauseP.{ClauseP, ClauseP-F, out-ClauseP}
use Rattle.starlark_ast.specs.declared.ast.ExprP.{ExprP, ExprP-F, out-ExprP}
use Rattle.starlark_ast.specs.declared.ast.ParameterP.{ParameterP, ParameterP-F, out-ParameterP}
use Rattle.starlark_ast.specs.declared.ast.CallArgsP.{CallArgsP, out-CallArgsP}
use Rattle.starlark_ast.specs.declared.ast.FStringP.{FStringP, out-FStringP}
use Rattle.starlark_ast.specs.declared.ast.ForClauseP.{ForClauseP, out-ForClauseP}
use Rattle.starlark_ast.specs.declared.ast.LambdaP.{LambdaP, out-LambdaP}
use Rattle.starlark_ast.specs.declared.ast.TypeExprP.{TypeExprP, out-TypeExprP}
use Rattle.starlark_ast.specs.declared.ast.ArgumentP.TheOpen as layer

-- what a box holds, where there is one
abbrev pub maybe_place : {X : Type 0} → Option (Box X Global) → List X
maybe_place None = []
maybe_place (Some x) = x.value ∷ []

abbrev pub pair_places : {X : Type 0} → X × X → List X
pair_places x = x.0 ∷ x.1 ∷ []

-- an expression with its place
abbrev pub E : (P L I A D T : Type 0) → Type 0
E P L I A D T = Spanned (ExprP P L I A D T)

module _ {P L I A D T : Type 0} where
  -- the expression of a type
  abbrev pub type_place : Spanned (TypeExprP P L I A D T) → E P L I A D T
  type_place x = (out-TypeExprP P L I A D T x.node).expr

  abbrev pub maybe_type_place : Option (Box (Spanned (TypeExprP P L I A D T)) Global) → List (E P L I A D T)
  maybe_type_place None = []
  maybe_type_place (Some x) = type_place x.value ∷ []

  abbrev pub argument_place : Spanned (ArgumentP P L I A D T) → E P L I A D T
  argument_place x = argument_expr x.node

  abbrev pub parameter_layer : ParameterP-F P L I A D T (ArgumentP P L I A D T) (AssignTargetP P L I A D T) (ClauseP P L I A D T) (ExprP P L I A D T) (ParameterP P L I A D T) (CallArgsP P L I A D T) (FStringP P L I A D T) (ForClauseP P L I A D T) (LambdaP P L I A D T) (TypeExprP P L I A D T) → List (E P L I A D T)
  parameter_layer layer.Slash = []
  parameter_layer (layer.Normal x type default) = maybe_type_place type ++ maybe_place default
  parameter_layer layer.NoArgs = []
  parameter_layer (layer.ParameterP::Args x type) = maybe_type_place type
  parameter_layer (layer.ParameterP::KwArgs x type) = maybe_type_place type

  -- of a parameter its type's expression and its default
  abbrev pub parameter_places : ParameterP P L I A D T → List (E P L I A D T)
  parameter_places x = parameter_layer (out-ParameterP P L I A D T x)

  abbrev pub target_layer : AssignTargetP-F P L I A D T (ArgumentP P L I A D T × Unit {0}) (AssignTargetP P L I A D T × List (E P L I A D T)) (ClauseP P L I A D T × Unit {0}) (ExprP P L I A D T × Unit {0}) (ParameterP P L I A D T × Unit {0}) (CallArgsP P L I A D T × Unit {0}) (FStringP P L I A D T × Unit {0}) (ForClauseP P L I A D T × Unit {0}) (LambdaP P L I A D T × Unit {0}) (TypeExprP P L I A D T × Unit {0}) → List (E P L I A D T)
  target_layer (layer.AssignTargetP::Tuple xs) = flat_map (λ x. x.node.1) xs.items
  target_layer (layer.AssignTargetP::Index x) = record { span = x.value.0.span; node = x.value.0.node.0 } ∷ record { span = x.value.1.span; node = x.value.1.node.0 } ∷ []
  target_layer (layer.AssignTargetP::Dot x name) = record { span = x.value.span; node = x.value.node.0 } ∷ []
  target_layer (layer.AssignTargetP::Identifier x) = []

  -- of a target the expressions in its Dot and Index members
  abbrev pub target_places : AssignTargetP P L I A D T → List (E P L I A D T)
  target_places = para-AssignTargetP P L I A D T (Unit {0}) (List (E P L I A D T)) (Unit {0}) (Unit {0}) (Unit {0}) (Unit {0}) (Unit {0}) (Unit {0}) (Unit {0}) (Unit {0}) (λ x. tt) target_layer (λ x. tt) (λ x. tt) (λ x. tt) (λ x. tt) (λ x. tt) (λ x. tt) (λ x. tt) (λ x. tt)

  -- of a clause that goes over values those of its target, and what it goes over
  abbrev pub for_clause_places : ForClauseP P L I A D T → List (E P L I A D T)
  for_clause_places x = let c = out-ForClauseP P L I A D T x in target_places c.var.node ++ c.over ∷ []

  abbrev pub clause_layer : ClauseP-F P L I A D T (ArgumentP P L I A D T) (AssignTargetP P L I A D T) (ClauseP P L I A D T) (ExprP P L I A D T) (ParameterP P L I A D T) (CallArgsP P L I A D T) (FStringP P L I A D T) (ForClauseP P L I A D T) (LambdaP P L I A D T) (TypeExprP P L I A D T) → List (E P L I A D T)
  clause_layer (layer.For x) = for_clause_places x
  clause_layer (layer.ClauseP::If x) = x ∷ []

  abbrev pub clause_places : ClauseP P L I A D T → List (E P L I A D T)
  clause_places x = clause_layer (out-ClauseP P L I A D T x)

  abbrev pub expr_layer : ExprP-F P L I A D T (ArgumentP P L I A D T) (AssignTargetP P L I A D T) (ClauseP P L I A D T) (ExprP P L I A D T) (ParameterP P L I A D T) (CallArgsP P L I A D T) (FStringP P L I A D T) (ForClauseP P L I A D T) (LambdaP P L I A D T) (TypeExprP P L I A D T) → List (E P L I A D T)
  expr_layer (layer.ExprP::Tuple xs) = xs.items
  expr_layer (layer.ExprP::Dot x name) = x.value ∷ []
  expr_layer (layer.Call x args) = x.value ∷ map argument_place (out-CallArgsP P L I A D T args).args.items
  expr_layer (layer.ExprP::Index x) = x.value.0 ∷ x.value.1 ∷ []
  expr_layer (layer.Index2 x) = x.value.0 ∷ x.value.1 ∷ x.value.2 ∷ []
  expr_layer (layer.Slice x a b c) = x.value ∷ maybe_place a ++ (maybe_place b ++ maybe_place c)
  expr_layer (layer.ExprP::Identifier x) = []
  expr_layer (layer.Lambda x) = let l = out-LambdaP P L I A D T x in flat_map (λ p. parameter_places p.node) l.params.items ++ l.body.value ∷ []
  expr_layer (layer.Literal x) = []
  expr_layer (layer.Not x) = x.value ∷ []
  expr_layer (layer.Minus x) = x.value ∷ []
  expr_layer (layer.Plus x) = x.value ∷ []
  expr_layer (layer.BitNot x) = x.value ∷ []
  expr_layer (layer.Op x op y) = x.value ∷ y.value ∷ []
  expr_layer (layer.ExprP::If x) = x.value.0 ∷ x.value.1 ∷ x.value.2 ∷ []
  expr_layer (layer.List xs) = xs.items
  expr_layer (layer.Dict xs) = flat_map pair_places xs.items
  expr_layer (layer.ListComprehension x first rest) = for_clause_places first.value ++ (flat_map clause_places rest.items ++ x.value ∷ [])
  expr_layer (layer.DictComprehension x first rest) = for_clause_places first.value ++ (flat_map clause_places rest.items ++ x.value.0 ∷ x.value.1 ∷ [])
  expr_layer (layer.FString x) = (out-FStringP P L I A D T x.node).expressions.items

  -- The expressions right below an expression, in order.
  abbrev pub children : ExprP P L I A D T → List (E P L I A D T)
  children x = expr_layer (out-ExprP P L I A D T x)

  abbrev pub assigned_layer : AssignTargetP-F P L I A D T (Unit {0}) (List (Spanned (AssignIdentP P L I A D T))) (Unit {0}) (Unit {0}) (Unit {0}) (Unit {0}) (Unit {0}) (Unit {0}) (Unit {0}) (Unit {0}) → List (Spanned (AssignIdentP P L I A D T))
  assigned_layer (layer.AssignTargetP::Tuple xs) = flat_map (λ x. x.node) xs.items
  assigned_layer (layer.AssignTargetP::Index x) = []
  assigned_layer (layer.AssignTargetP::Dot x name) = []
  assigned_layer (layer.AssignTargetP::Identifier x) = x ∷ []

  -- the identifiers that a target assigns, in order
  abbrev pub assigned_places : AssignTargetP P L I A D T → List (Spanned (AssignIdentP P L I A D T))
  assigned_places = fold-AssignTargetP P L I A D T (Unit {0}) (List (Spanned (AssignIdentP P L I A D T))) (Unit {0}) (Unit {0}) (Unit {0}) (Unit {0}) (Unit {0}) (Unit {0}) (Unit {0}) (Unit {0}) (λ x. tt) assigned_layer (λ x. tt) (λ x. tt) (λ x. tt) (λ x. tt) (λ x. tt) (λ x. tt) (λ x. tt) (λ x. tt)
