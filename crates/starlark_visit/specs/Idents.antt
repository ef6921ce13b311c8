-- The identifiers that an expression or a statement reads, with their places, from left to right: those of types and of defaults too, and of a comprehension those of its clauses first.
use Rattle.std.specs.Prelude.{List, [], ◌∷◌, ◌++◌, flat_map, Option, Some, None}
use Rattle.std.specs.declared.alloc.Global.{Global}
use Rattle.std.specs.declared.boxed.Box.{Box}
use Rattle.starlark_place.specs.declared.pos.Spanned.{Spanned}
use Rattle.starlark_ast.specs.Statements.{outer_exprs}
use Rattle.starlark_ast.specs.declared.ast.IdentP.{IdentP}
use Rattle.starlark_ast.specs.declared.ast.AssignIdentP.{AssignIdentP}
use Rattle.starlark_ast.specs.declared.ast.ArgumentP.{ArgumentP, ArgumentP-F, fold-ArgumentP}
use Rattle.starlark_ast.specs.declared.ast.AssignTargetP.{AssignTargetP, AssignTargetP-F, fold-AssignTargetP}
use Rattle.starlark_ast.specs.declared.ast.ClauseP.{ClauseP, ClauseP-F, fold-ClauseP}
use Rattle.starlark_ast.specs.declared.ast.ExprP.{ExprP, ExprP-F, fold-ExprP}
use Rattle.starlark_ast.specs.declared.ast.ParameterP.{ParameterP, ParameterP-F, fold-ParameterP}
use Rattle.starlark_ast.specs.declared.ast.CallArgsP.{CallArgsP, CallArgsP-F, fold-CallArgsP}
use Rattle.starlark_ast.specs.declared.ast.FStringP.{FStringP, FStringP-F, fold-FStringP}
use Rattle.starlark_ast.specs.declared.ast.ForClauseP.{ForClauseP, ForClauseP-F, fold-ForClauseP}
use Rattle.starlark_ast.specs.declared.ast.LambdaP.{LambdaP, LambdaP-F, fold-LambdaP}
use Rattle.starlark_ast.specs.declared.ast.TypeExprP.{TypeExprP, TypeExprP-F, fold-TypeExprP}
use Rattle.starlark_ast.specs.declared.ast.StmtP.{StmtP}
use Rattle.starlark_ast.specs.declared.ast.ArgumentP.TheOpen as layer

-- an identifier that is read, with its place
abbrev pub N : (P L I A D T : Type 0) → Type 0
N P L I A D T = Spanned (IdentP P L I A D T)

-- an identifier that is assigned, with its place
abbrev pub Assigned : (P L I A D T : Type 0) → Type 0
Assigned P L I A D T = Spanned (AssignIdentP P L I A D T)

-- those of each, one behind another
abbrev pub all_names : {X : Type 0} → List (Spanned (List X)) → List X
all_names xs = flat_map (λ x. x.node) xs

abbrev pub maybe_names : {X : Type 0} → Option (Box (Spanned (List X)) Global) → List X
maybe_names None = []
maybe_names (Some x) = x.value.node

module _ {P L I A D T : Type 0} where
  abbrev pub argument_names : ArgumentP-F P L I A D T (List (N P L I A D T)) (List (N P L I A D T)) (List (N P L I A D T)) (List (N P L I A D T)) (List (N P L I A D T)) (List (N P L I A D T)) (List (N P L I A D T)) (List (N P L I A D T)) (List (N P L I A D T)) (List (N P L I A D T)) → List (N P L I A D T)
  argument_names (layer.Positional x) = x.node
  argument_names (layer.Named name x) = x.node
  argument_names (layer.ArgumentP::Args x) = x.node
  argument_names (layer.ArgumentP::KwArgs x) = x.node

  -- what is assigned is not read
  abbrev pub target_names : AssignTargetP-F P L I A D T (List (N P L I A D T)) (List (N P L I A D T)) (List (N P L I A D T)) (List (N P L I A D T)) (List (N P L I A D T)) (List (N P L I A D T)) (List (N P L I A D T)) (List (N P L I A D T)) (List (N P L I A D T)) (List (N P L I A D T)) → List (N P L I A D T)
  target_names (layer.AssignTargetP::Tuple xs) = all_names xs.items
  target_names (layer.AssignTargetP::Index x) = x.value.0.node ++ x.value.1.node
  target_names (layer.AssignTargetP::Dot x name) = x.value.node
  target_names (layer.AssignTargetP::Identifier x) = []

  abbrev pub clause_names : ClauseP-F P L I A D T (List (N P L I A D T)) (List (N P L I A D T)) (List (N P L I A D T)) (List (N P L I A D T)) (List (N P L I A D T)) (List (N P L I A D T)) (List (N P L I A D T)) (List (N P L I A D T)) (List (N P L I A D T)) (List (N P L I A D T)) → List (N P L I A D T)
  clause_names (layer.For x) = x
  clause_names (layer.ClauseP::If x) = x.node

  abbrev pub expr_names : ExprP-F P L I A D T (List (N P L I A D T)) (List (N P L I A D T)) (List (N P L I A D T)) (List (N P L I A D T)) (List (N P L I A D T)) (List (N P L I A D T)) (List (N P L I A D T)) (List (N P L I A D T)) (List (N P L I A D T)) (List (N P L I A D T)) → List (N P L I A D T)
  expr_names (layer.ExprP::Tuple xs) = all_names xs.items
  expr_names (layer.ExprP::Dot x name) = x.value.node
  expr_names (layer.Call x args) = x.value.node ++ args
  expr_names (layer.ExprP::Index x) = x.value.0.node ++ x.value.1.node
  expr_names (layer.Index2 x) = x.value.0.node ++ (x.value.1.node ++ x.value.2.node)
  expr_names (layer.Slice x a b c) = x.value.node ++ (maybe_names a ++ (maybe_names b ++ maybe_names c))
  expr_names (layer.ExprP::Identifier x) = x ∷ []
  expr_names (layer.Lambda x) = x
  expr_names (layer.Literal x) = []
  expr_names (layer.Not x) = x.value.node
  expr_names (layer.Minus x) = x.value.node
  expr_names (layer.Plus x) = x.value.node
  expr_names (layer.BitNot x) = x.value.node
  expr_names (layer.Op x op y) = x.value.node ++ y.value.node
  expr_names (layer.ExprP::If x) = x.value.0.node ++ (x.value.1.node ++ x.value.2.node)
  expr_names (layer.List xs) = all_names xs.items
  expr_names (layer.Dict xs) = flat_map (λ x. x.0.node ++ x.1.node) xs.items
  expr_names (layer.ListComprehension x first rest) = first.value ++ (flat_map (λ c. c) rest.items ++ x.value.node)
  expr_names (layer.DictComprehension x first rest) = first.value ++ (flat_map (λ c. c) rest.items ++ (x.value.0.node ++ x.value.1.node))
  expr_names (layer.FString x) = x.node

  abbrev pub parameter_names : ParameterP-F P L I A D T (List (N P L I A D T)) (List (N P L I A D T)) (List (N P L I A D T)) (List (N P L I A D T)) (List (N P L I A D T)) (List (N P L I A D T)) (List (N P L I A D T)) (List (N P L I A D T)) (List (N P L I A D T)) (List (N P L I A D T)) → List (N P L I A D T)
  parameter_names layer.Slash = []
  parameter_names (layer.Normal x type default) = maybe_names type ++ maybe_names default
  parameter_names layer.NoArgs = []
  parameter_names (layer.ParameterP::Args x type) = maybe_names type
  parameter_names (layer.ParameterP::KwArgs x type) = maybe_names type

  abbrev pub call_args_names : CallArgsP-F P L I A D T (List (N P L I A D T)) (List (N P L I A D T)) (List (N P L I A D T)) (List (N P L I A D T)) (List (N P L I A D T)) (List (N P L I A D T)) (List (N P L I A D T)) (List (N P L I A D T)) (List (N P L I A D T)) (List (N P L I A D T)) → List (N P L I A D T)
  call_args_names x = all_names x.args.items

  abbrev pub fstring_names : FStringP-F P L I A D T (List (N P L I A D T)) (List (N P L I A D T)) (List (N P L I A D T)) (List (N P L I A D T)) (List (N P L I A D T)) (List (N P L I A D T)) (List (N P L I A D T)) (List (N P L I A D T)) (List (N P L I A D T)) (List (N P L I A D T)) → List (N P L I A D T)
  fstring_names x = all_names x.expressions.items

  abbrev pub for_clause_names : ForClauseP-F P L I A D T (List (N P L I A D T)) (List (N P L I A D T)) (List (N P L I A D T)) (List (N P L I A D T)) (List (N P L I A D T)) (List (N P L I A D T)) (List (N P L I A D T)) (List (N P L I A D T)) (List (N P L I A D T)) (List (N P L I A D T)) → List (N P L I A D T)
  for_clause_names x = x.var.node ++ x.over.node

  abbrev pub lambda_names : LambdaP-F P L I A D T (List (N P L I A D T)) (List (N P L I A D T)) (List (N P L I A D T)) (List (N P L I A D T)) (List (N P L I A D T)) (List (N P L I A D T)) (List (N P L I A D T)) (List (N P L I A D T)) (List (N P L I A D T)) (List (N P L I A D T)) → List (N P L I A D T)
  lambda_names x = all_names x.params.items ++ x.body.value.node

  abbrev pub type_names : TypeExprP-F P L I A D T (List (N P L I A D T)) (List (N P L I A D T)) (List (N P L I A D T)) (List (N P L I A D T)) (List (N P L I A D T)) (List (N P L I A D T)) (List (N P L I A D T)) (List (N P L I A D T)) (List (N P L I A D T)) (List (N P L I A D T)) → List (N P L I A D T)
  type_names x = x.expr.node

  abbrev pub argument_reads : ArgumentP P L I A D T → List (N P L I A D T)
  argument_reads = fold-ArgumentP P L I A D T _ _ _ _ _ _ _ _ _ _ argument_names target_names clause_names expr_names parameter_names call_args_names fstring_names for_clause_names lambda_names type_names

  abbrev pub target_reads : AssignTargetP P L I A D T → List (N P L I A D T)
  target_reads = fold-AssignTargetP P L I A D T _ _ _ _ _ _ _ _ _ _ argument_names target_names clause_names expr_names parameter_names call_args_names fstring_names for_clause_names lambda_names type_names

  abbrev pub clause_reads : ClauseP P L I A D T → List (N P L I A D T)
  clause_reads = fold-ClauseP P L I A D T _ _ _ _ _ _ _ _ _ _ argument_names target_names clause_names expr_names parameter_names call_args_names fstring_names for_clause_names lambda_names type_names

  abbrev pub expr_reads : ExprP P L I A D T → List (N P L I A D T)
  expr_reads = fold-ExprP P L I A D T _ _ _ _ _ _ _ _ _ _ argument_names target_names clause_names expr_names parameter_names call_args_names fstring_names for_clause_names lambda_names type_names

  abbrev pub parameter_reads : ParameterP P L I A D T → List (N P L I A D T)
  parameter_reads = fold-ParameterP P L I A D T _ _ _ _ _ _ _ _ _ _ argument_names target_names clause_names expr_names parameter_names call_args_names fstring_names for_clause_names lambda_names type_names

  abbrev pub call_args_reads : CallArgsP P L I A D T → List (N P L I A D T)
  call_args_reads = fold-CallArgsP P L I A D T _ _ _ _ _ _ _ _ _ _ argument_names target_names clause_names expr_names parameter_names call_args_names fstring_names for_clause_names lambda_names type_names

  abbrev pub fstring_reads : FStringP P L I A D T → List (N P L I A D T)
  fstring_reads = fold-FStringP P L I A D T _ _ _ _ _ _ _ _ _ _ argument_names target_names clause_names expr_names parameter_names call_args_names fstring_names for_clause_names lambda_names type_names

  abbrev pub for_clause_reads : ForClauseP P L I A D T → List (N P L I A D T)
  for_clause_reads = fold-ForClauseP P L I A D T _ _ _ _ _ _ _ _ _ _ argument_names target_names clause_names expr_names parameter_names call_args_names fstring_names for_clause_names lambda_names type_names

  abbrev pub lambda_reads : LambdaP P L I A D T → List (N P L I A D T)
  lambda_reads = fold-LambdaP P L I A D T _ _ _ _ _ _ _ _ _ _ argument_names target_names clause_names expr_names parameter_names call_args_names fstring_names for_clause_names lambda_names type_names

  abbrev pub type_reads : TypeExprP P L I A D T → List (N P L I A D T)
  type_reads = fold-TypeExprP P L I A D T _ _ _ _ _ _ _ _ _ _ argument_names target_names clause_names expr_names parameter_names call_args_names fstring_names for_clause_names lambda_names type_names

  abbrev pub maybe_reads : Option (Box (Spanned (ExprP P L I A D T)) Global) → List (N P L I A D T)
  maybe_reads None = []
  maybe_reads (Some x) = expr_reads x.value.node

  abbrev pub maybe_type_reads : Option (Box (Spanned (TypeExprP P L I A D T)) Global) → List (N P L I A D T)
  maybe_type_reads None = []
  maybe_type_reads (Some x) = type_reads x.value.node

  -- Those of the outermost expressions in a statement.
  abbrev pub stmt_reads : StmtP P L I A D T → List (N P L I A D T)
  stmt_reads x = flat_map (λ y. expr_reads y.node) (outer_exprs x)
