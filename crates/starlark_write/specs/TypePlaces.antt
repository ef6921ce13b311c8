-- The types in a tree, in order: a node's own, and then those in what stands right below it. What stands in a type is not looked into.
use Rattle.std.specs.Prelude.{List, [], ◌++◌, flat_map, Option, Some, None}
use Rattle.std.specs.declared.alloc.Global.{Global}
use Rattle.std.specs.declared.boxed.Box.{Box}
use Rattle.starlark_place.specs.declared.pos.Spanned.{Spanned}
use Rattle.starlark_ast.specs.Places.{E, maybe_place}
use Rattle.starlark_ast.specs.Statements.{maybe_here}
use Rattle.starlark_ast.specs.declared.ast.AssignP.{AssignP}
use Rattle.starlark_ast.specs.declared.ast.ArgumentP.{ArgumentP, ArgumentP-F, para-ArgumentP}
use Rattle.starlark_ast.specs.declared.ast.AssignTargetP.{AssignTargetP, AssignTargetP-F, para-AssignTargetP}
use Rattle.starlark_ast.specs.declared.ast.ClauseP.{ClauseP, ClauseP-F, para-ClauseP}
use Rattle.starlark_ast.specs.declared.ast.ExprP.{ExprP, ExprP-F, para-ExprP}
use Rattle.starlark_ast.specs.declared.ast.ParameterP.{ParameterP, ParameterP-F, out-ParameterP, para-ParameterP}
use Rattle.starlark_ast.specs.declared.ast.CallArgsP.{CallArgsP, CallArgsP-F, para-CallArgsP}
use Rattle.starlark_ast.specs.declared.ast.FStringP.{FStringP, FStringP-F, para-FStringP}
use Rattle.starlark_ast.specs.declared.ast.ForClauseP.{ForClauseP, ForClauseP-F, para-ForClauseP}
use Rattle.starlark_ast.specs.declared.ast.LambdaP.{LambdaP, LambdaP-F, para-LambdaP}
use Rattle.starlark_ast.specs.declared.ast.TypeExprP.{TypeExprP}
use Rattle.starlark_ast.specs.declared.ast.ArgumentP.TheOpen as layer
use Rattle.starlark_ast.specs.declared.ast.DefP.{DefP, DefP-F, fold-DefP}
use Rattle.starlark_ast.specs.declared.ast.ForP.{ForP, ForP-F, fold-ForP}
use Rattle.starlark_ast.specs.declared.ast.StmtP.{StmtP, StmtP-F, fold-StmtP}
use Rattle.starlark_ast.specs.declared.ast.StmtP.TheOpen as stmt

-- a type with its place
abbrev pub Y : (P L I A D T : Type 0) → Type 0
Y P L I A D T = Spanned (TypeExprP P L I A D T)

-- those in each, one behind another
abbrev pub all_in : {X Z : Type 0} → List (Spanned (X × List Z)) → List Z
all_in xs = flat_map (λ x. x.node.1) xs

abbrev pub maybe_in : {X Z : Type 0} → Option (Box (Spanned (X × List Z)) Global) → List Z
maybe_in None = []
maybe_in (Some x) = x.value.node.1

-- a node whose parts stand beside the types in them
abbrev pub Over : (P L I A D T : Type 0) → ((P L I A D T a b c d e f g h i j : Type 0) → Type 0) → Type 0
Over P L I A D T F = F P L I A D T (ArgumentP P L I A D T × List (Y P L I A D T)) (AssignTargetP P L I A D T × List (Y P L I A D T)) (ClauseP P L I A D T × List (Y P L I A D T)) (ExprP P L I A D T × List (Y P L I A D T)) (ParameterP P L I A D T × List (Y P L I A D T)) (CallArgsP P L I A D T × List (Y P L I A D T)) (FStringP P L I A D T × List (Y P L I A D T)) (ForClauseP P L I A D T × List (Y P L I A D T)) (LambdaP P L I A D T × List (Y P L I A D T)) (TypeExprP P L I A D T × Unit {0})

module _ {P L I A D T : Type 0} where
  abbrev pub own_layer : ParameterP-F P L I A D T (ArgumentP P L I A D T) (AssignTargetP P L I A D T) (ClauseP P L I A D T) (ExprP P L I A D T) (ParameterP P L I A D T) (CallArgsP P L I A D T) (FStringP P L I A D T) (ForClauseP P L I A D T) (LambdaP P L I A D T) (TypeExprP P L I A D T) → List (Y P L I A D T)
  own_layer layer.Slash = []
  own_layer (layer.Normal x type default) = maybe_place type
  own_layer layer.NoArgs = []
  own_layer (layer.ParameterP::Args x type) = maybe_place type
  own_layer (layer.ParameterP::KwArgs x type) = maybe_place type

  -- the type of a parameter, where it has one
  abbrev pub own_type : ParameterP P L I A D T → List (Y P L I A D T)
  own_type x = own_layer (out-ParameterP P L I A D T x)

  abbrev pub argument_step : Over P L I A D T ArgumentP-F → List (Y P L I A D T)
  argument_step (layer.Positional x) = x.node.1
  argument_step (layer.Named name x) = x.node.1
  argument_step (layer.ArgumentP::Args x) = x.node.1
  argument_step (layer.ArgumentP::KwArgs x) = x.node.1

  abbrev pub target_step : Over P L I A D T AssignTargetP-F → List (Y P L I A D T)
  target_step (layer.AssignTargetP::Tuple xs) = all_in xs.items
  target_step (layer.AssignTargetP::Index x) = x.value.0.node.1 ++ x.value.1.node.1
  target_step (layer.AssignTargetP::Dot x name) = x.value.node.1
  target_step (layer.AssignTargetP::Identifier x) = []

  abbrev pub clause_step : Over P L I A D T ClauseP-F → List (Y P L I A D T)
  clause_step (layer.For x) = x.1
  clause_step (layer.ClauseP::If x) = x.node.1

  abbrev pub expr_step : Over P L I A D T ExprP-F → List (Y P L I A D T)
  expr_step (layer.ExprP::Tuple xs) = all_in xs.items
  expr_step (layer.ExprP::Dot x name) = x.value.node.1
  expr_step (layer.Call x args) = x.value.node.1 ++ args.1
  expr_step (layer.ExprP::Index x) = x.value.0.node.1 ++ x.value.1.node.1
  expr_step (layer.Index2 x) = x.value.0.node.1 ++ (x.value.1.node.1 ++ x.value.2.node.1)
  expr_step (layer.Slice x a b c) = x.value.node.1 ++ (maybe_in a ++ (maybe_in b ++ maybe_in c))
  expr_step (layer.ExprP::Identifier x) = []
  expr_step (layer.Lambda x) = x.1
  expr_step (layer.Literal x) = []
  expr_step (layer.Not x) = x.value.node.1
  expr_step (layer.Minus x) = x.value.node.1
  expr_step (layer.Plus x) = x.value.node.1
  expr_step (layer.BitNot x) = x.value.node.1
  expr_step (layer.Op x op y) = x.value.node.1 ++ y.value.node.1
  expr_step (layer.ExprP::If x) = x.value.0.node.1 ++ (x.value.1.node.1 ++ x.value.2.node.1)
  expr_step (layer.List xs) = all_in xs.items
  expr_step (layer.Dict xs) = flat_map (λ x. x.0.node.1 ++ x.1.node.1) xs.items
  expr_step (layer.ListComprehension x first rest) = first.value.1 ++ (flat_map (λ c. c.1) rest.items ++ x.value.node.1)
  expr_step (layer.DictComprehension x first rest) = first.value.1 ++ (flat_map (λ c. c.1) rest.items ++ (x.value.0.node.1 ++ x.value.1.node.1))
  expr_step (layer.FString x) = x.node.1

  -- of a parameter those in its default; its own type is its owner's
  abbrev pub parameter_step : Over P L I A D T ParameterP-F → List (Y P L I A D T)
  parameter_step layer.Slash = []
  parameter_step (layer.Normal x type default) = maybe_in default
  parameter_step layer.NoArgs = []
  parameter_step (layer.ParameterP::Args x type) = []
  parameter_step (layer.ParameterP::KwArgs x type) = []

  abbrev pub call_args_step : Over P L I A D T CallArgsP-F → List (Y P L I A D T)
  call_args_step x = all_in x.args.items

  abbrev pub fstring_step : Over P L I A D T FStringP-F → List (Y P L I A D T)
  fstring_step x = all_in x.expressions.items

  abbrev pub for_clause_step : Over P L I A D T ForClauseP-F → List (Y P L I A D T)
  for_clause_step x = x.var.node.1 ++ x.over.node.1

  -- the types of its parameters, those in their defaults, those in the body
  abbrev pub lambda_step : Over P L I A D T LambdaP-F → List (Y P L I A D T)
  lambda_step x = flat_map (λ p. own_type p.node.0) x.params.items ++ (all_in x.params.items ++ x.body.value.node.1)

  abbrev pub argument_types : ArgumentP P L I A D T → List (Y P L I A D T)
  argument_types = para-ArgumentP P L I A D T _ _ _ _ _ _ _ _ _ (Unit {0}) argument_step target_step clause_step expr_step parameter_step call_args_step fstring_step for_clause_step lambda_step (λ x. tt)

  abbrev pub target_types : AssignTargetP P L I A D T → List (Y P L I A D T)
  target_types = para-AssignTargetP P L I A D T _ _ _ _ _ _ _ _ _ (Unit {0}) argument_step target_step clause_step expr_step parameter_step call_args_step fstring_step for_clause_step lambda_step (λ x. tt)

  abbrev pub clause_types : ClauseP P L I A D T → List (Y P L I A D T)
  clause_types = para-ClauseP P L I A D T _ _ _ _ _ _ _ _ _ (Unit {0}) argument_step target_step clause_step expr_step parameter_step call_args_step fstring_step for_clause_step lambda_step (λ x. tt)

  -- the types in an expression, in order
  abbrev pub expr_types : ExprP P L I A D T → List (Y P L I A D T)
  expr_types = para-ExprP P L I A D T _ _ _ _ _ _ _ _ _ (Unit {0}) argument_step target_step clause_step expr_step parameter_step call_args_step fstring_step for_clause_step lambda_step (λ x. tt)

  -- those in the default of a parameter
  abbrev pub default_types : ParameterP P L I A D T → List (Y P L I A D T)
  default_types = para-ParameterP P L I A D T _ _ _ _ _ _ _ _ _ (Unit {0}) argument_step target_step clause_step expr_step parameter_step call_args_step fstring_step for_clause_step lambda_step (λ x. tt)

  abbrev pub call_args_types : CallArgsP P L I A D T → List (Y P L I A D T)
  call_args_types = para-CallArgsP P L I A D T _ _ _ _ _ _ _ _ _ (Unit {0}) argument_step target_step clause_step expr_step parameter_step call_args_step fstring_step for_clause_step lambda_step (λ x. tt)

  abbrev pub fstring_types : FStringP P L I A D T → List (Y P L I A D T)
  fstring_types = para-FStringP P L I A D T _ _ _ _ _ _ _ _ _ (Unit {0}) argument_step target_step clause_step expr_step parameter_step call_args_step fstring_step for_clause_step lambda_step (λ x. tt)

  abbrev pub for_clause_types : ForClauseP P L I A D T → List (Y P L I A D T)
  for_clause_types = para-ForClauseP P L I A D T _ _ _ _ _ _ _ _ _ (Unit {0}) argument_step target_step clause_step expr_step parameter_step call_args_step fstring_step for_clause_step lambda_step (λ x. tt)

  abbrev pub lambda_types : LambdaP P L I A D T → List (Y P L I A D T)
  lambda_types = para-LambdaP P L I A D T _ _ _ _ _ _ _ _ _ (Unit {0}) argument_step target_step clause_step expr_step parameter_step call_args_step fstring_step for_clause_step lambda_step (λ x. tt)

  abbrev pub maybe_expr_types : Option (Box (E P L I A D T) Global) → List (Y P L I A D T)
  maybe_expr_types None = []
  maybe_expr_types (Some x) = expr_types x.value.node

  abbrev pub returned_types : Option (E P L I A D T) → List (Y P L I A D T)
  returned_types None = []
  returned_types (Some x) = expr_types x.node

  abbrev pub assign_types : AssignP P L I A D T → List (Y P L I A D T)
  assign_types x = maybe_here x.ty ++ (target_types x.lhs.node ++ expr_types x.rhs.node)

  abbrev pub stmt_step : StmtP-F P L I A D T (List (Y P L I A D T)) (List (Y P L I A D T)) (List (Y P L I A D T)) → List (Y P L I A D T)
  stmt_step stmt.Break = []
  stmt_step stmt.Continue = []
  stmt_step stmt.Pass = []
  stmt_step (stmt.Return x) = returned_types x
  stmt_step (stmt.Expression x) = expr_types x.node
  stmt_step (stmt.Assign x) = assign_types x
  stmt_step (stmt.AssignModify lhs op rhs) = target_types lhs.node ++ expr_types rhs.value.node
  stmt_step (stmt.Statements xs) = flat_map (λ x. x.node) xs.items
  stmt_step (stmt.If c x) = expr_types c.node ++ x.value.node
  stmt_step (stmt.IfElse c x) = expr_types c.node ++ (x.value.0.node ++ x.value.1.node)
  stmt_step (stmt.For x) = x
  stmt_step (stmt.Def x) = x
  stmt_step (stmt.Load x) = []

  -- the types of its parameters, that of what it returns, those in the defaults, those in the body
  abbrev pub def_step : DefP-F P L I A D T (List (Y P L I A D T)) (List (Y P L I A D T)) (List (Y P L I A D T)) → List (Y P L I A D T)
  def_step x = flat_map (λ p. own_type p.node) x.params.items ++ (maybe_place x.return_type ++ (flat_map (λ p. default_types p.node) x.params.items ++ x.body.value.node))

  abbrev pub for_step : ForP-F P L I A D T (List (Y P L I A D T)) (List (Y P L I A D T)) (List (Y P L I A D T)) → List (Y P L I A D T)
  for_step x = target_types x.var.node ++ (expr_types x.over.node ++ x.body.value.node)

  -- The types in a statement, in order.
  abbrev pub stmt_types : StmtP P L I A D T → List (Y P L I A D T)
  stmt_types = fold-StmtP P L I A D T _ _ _ stmt_step def_step for_step

  abbrev pub def_types : DefP P L I A D T → List (Y P L I A D T)
  def_types = fold-DefP P L I A D T _ _ _ stmt_step def_step for_step

  abbrev pub for_types : ForP P L I A D T → List (Y P L I A D T)
  for_types = fold-ForP P L I A D T _ _ _ stmt_step def_step for_step
