-- How many nodes hold others, below an expression and what stands in it. What stands in types is not counted.
use Rattle.std.proofs.Common.{◌≡◌, sym, ap, ◌∙◌, ℕ, ◌+◌, Option, Some, None}
use Rattle.std.proofs.lemmas.List.Folds.{fold-map}
use Rattle.std.specs.List.{sum_by}
use Rattle.std.specs.declared.alloc.Global.{Global}
use Rattle.std.specs.declared.boxed.Box.{Box}
use Rattle.std.specs.declared.string.String.{String}
use Rattle.std.specs.declared.vec.Vec.{Vec}
use Rattle.starlark_place.specs.declared.pos.Spanned.{Spanned}
use Rattle.starlark_ast.specs.Places.{E}
use Rattle.starlark_ast.specs.declared.ast.BinOp.{BinOp}
use Rattle.starlark_ast.specs.declared.ast.AssignIdentP.{AssignIdentP}
use Rattle.starlark_ast.specs.declared.ast.ArgumentP.{ArgumentP, ArgumentP-F, fold-ArgumentP, fold-roll-ArgumentP}
use Rattle.starlark_ast.specs.declared.ast.AssignTargetP.{AssignTargetP, AssignTargetP-F, fold-AssignTargetP, fold-roll-AssignTargetP}
use Rattle.starlark_ast.specs.declared.ast.ClauseP.{ClauseP, ClauseP-F, fold-ClauseP, fold-roll-ClauseP}
use Rattle.starlark_ast.specs.declared.ast.ExprP.{ExprP, ExprP-F, fold-ExprP, fold-roll-ExprP}
use Rattle.starlark_ast.specs.declared.ast.ParameterP.{ParameterP, ParameterP-F, fold-ParameterP, fold-roll-ParameterP}
use Rattle.starlark_ast.specs.declared.ast.CallArgsP.{CallArgsP, CallArgsP-F, out-CallArgsP, roll-out-CallArgsP, fold-CallArgsP, fold-roll-CallArgsP}
use Rattle.starlark_ast.specs.declared.ast.FStringP.{FStringP, FStringP-F, out-FStringP, roll-out-FStringP, fold-FStringP, fold-roll-FStringP}
use Rattle.starlark_ast.specs.declared.ast.ForClauseP.{ForClauseP, ForClauseP-F, out-ForClauseP, roll-out-ForClauseP, fold-ForClauseP, fold-roll-ForClauseP}
use Rattle.starlark_ast.specs.declared.ast.LambdaP.{LambdaP, LambdaP-F, out-LambdaP, roll-out-LambdaP, fold-LambdaP, fold-roll-LambdaP}
use Rattle.starlark_ast.specs.declared.ast.ExprP.TheVariants as expr
use Rattle.starlark_ast.specs.declared.ast.ArgumentP.TheVariants as argument
use Rattle.starlark_ast.specs.declared.ast.ParameterP.TheVariants as parameter
use Rattle.starlark_ast.specs.declared.ast.AssignTargetP.TheVariants as target
use Rattle.starlark_ast.specs.declared.ast.ClauseP.TheVariants as clause
use Rattle.starlark_ast.specs.declared.ast.ArgumentP.TheOpen as layer
use Rattle.starlark_write.specs.TypePlaces.{Y}

abbrev pub maybe_count : Option (Box (Spanned ℕ) Global) → ℕ
maybe_count None = 0
maybe_count (Some x) = x.value.node

module _ {P L I A D T : Type 0} where
  abbrev pub argument_count : ArgumentP-F P L I A D T ℕ ℕ ℕ ℕ ℕ ℕ ℕ ℕ ℕ ℕ → ℕ
  argument_count (layer.Positional x) = x.node
  argument_count (layer.Named name x) = x.node
  argument_count (layer.ArgumentP::Args x) = x.node
  argument_count (layer.ArgumentP::KwArgs x) = x.node

  abbrev pub target_count : AssignTargetP-F P L I A D T ℕ ℕ ℕ ℕ ℕ ℕ ℕ ℕ ℕ ℕ → ℕ
  target_count (layer.AssignTargetP::Tuple xs) = sum_by (λ x. x.node) xs.items + 1
  target_count (layer.AssignTargetP::Index x) = x.value.0.node + x.value.1.node + 1
  target_count (layer.AssignTargetP::Dot x name) = x.value.node + 1
  target_count (layer.AssignTargetP::Identifier x) = 0

  abbrev pub clause_count : ClauseP-F P L I A D T ℕ ℕ ℕ ℕ ℕ ℕ ℕ ℕ ℕ ℕ → ℕ
  clause_count (layer.For x) = x
  clause_count (layer.ClauseP::If x) = x.node

  abbrev pub expr_count : ExprP-F P L I A D T ℕ ℕ ℕ ℕ ℕ ℕ ℕ ℕ ℕ ℕ → ℕ
  expr_count (layer.ExprP::Tuple xs) = sum_by (λ x. x.node) xs.items + 1
  expr_count (layer.ExprP::Dot x name) = x.value.node + 1
  expr_count (layer.Call x args) = x.value.node + args + 1
  expr_count (layer.ExprP::Index x) = x.value.0.node + x.value.1.node + 1
  expr_count (layer.Index2 x) = x.value.0.node + x.value.1.node + x.value.2.node + 1
  expr_count (layer.Slice x a b c) = x.value.node + maybe_count a + maybe_count b + maybe_count c + 1
  expr_count (layer.ExprP::Identifier x) = 0
  expr_count (layer.Lambda x) = x + 1
  expr_count (layer.Literal x) = 0
  expr_count (layer.Not x) = x.value.node + 1
  expr_count (layer.Minus x) = x.value.node + 1
  expr_count (layer.Plus x) = x.value.node + 1
  expr_count (layer.BitNot x) = x.value.node + 1
  expr_count (layer.Op x o y) = x.value.node + y.value.node + 1
  expr_count (layer.ExprP::If x) = x.value.0.node + x.value.1.node + x.value.2.node + 1
  expr_count (layer.List xs) = sum_by (λ x. x.node) xs.items + 1
  expr_count (layer.Dict xs) = sum_by (λ x. x.0.node + x.1.node) xs.items + 1
  expr_count (layer.ListComprehension x first rest) = first.value + sum_by (λ c. c) rest.items + x.value.node + 1
  expr_count (layer.DictComprehension x first rest) = first.value + sum_by (λ c. c) rest.items + (x.value.0.node + x.value.1.node) + 1
  expr_count (layer.FString x) = x.node + 1

  abbrev pub parameter_count : ParameterP-F P L I A D T ℕ ℕ ℕ ℕ ℕ ℕ ℕ ℕ ℕ ℕ → ℕ
  parameter_count layer.Slash = 0
  parameter_count (layer.Normal x type default) = maybe_count default
  parameter_count layer.NoArgs = 0
  parameter_count (layer.ParameterP::Args x type) = 0
  parameter_count (layer.ParameterP::KwArgs x type) = 0

  abbrev pub call_args_count : CallArgsP-F P L I A D T ℕ ℕ ℕ ℕ ℕ ℕ ℕ ℕ ℕ ℕ → ℕ
  call_args_count x = sum_by (λ a. a.node) x.args.items

  abbrev pub fstring_count : FStringP-F P L I A D T ℕ ℕ ℕ ℕ ℕ ℕ ℕ ℕ ℕ ℕ → ℕ
  fstring_count x = sum_by (λ y. y.node) x.expressions.items

  abbrev pub for_clause_count : ForClauseP-F P L I A D T ℕ ℕ ℕ ℕ ℕ ℕ ℕ ℕ ℕ ℕ → ℕ
  for_clause_count x = x.var.node + x.over.node

  abbrev pub lambda_count : LambdaP-F P L I A D T ℕ ℕ ℕ ℕ ℕ ℕ ℕ ℕ ℕ ℕ → ℕ
  lambda_count x = sum_by (λ p. p.node) x.params.items + x.body.value.node

  abbrev pub argument_nodes : ArgumentP P L I A D T → ℕ
  argument_nodes = fold-ArgumentP P L I A D T _ _ _ _ _ _ _ _ _ _ argument_count target_count clause_count expr_count parameter_count call_args_count fstring_count for_clause_count lambda_count (λ x. 0)

  abbrev pub target_nodes : AssignTargetP P L I A D T → ℕ
  target_nodes = fold-AssignTargetP P L I A D T _ _ _ _ _ _ _ _ _ _ argument_count target_count clause_count expr_count parameter_count call_args_count fstring_count for_clause_count lambda_count (λ x. 0)

  abbrev pub clause_nodes : ClauseP P L I A D T → ℕ
  clause_nodes = fold-ClauseP P L I A D T _ _ _ _ _ _ _ _ _ _ argument_count target_count clause_count expr_count parameter_count call_args_count fstring_count for_clause_count lambda_count (λ x. 0)

  abbrev pub expr_nodes : ExprP P L I A D T → ℕ
  expr_nodes = fold-ExprP P L I A D T _ _ _ _ _ _ _ _ _ _ argument_count target_count clause_count expr_count parameter_count call_args_count fstring_count for_clause_count lambda_count (λ x. 0)

  abbrev pub default_nodes : ParameterP P L I A D T → ℕ
  default_nodes = fold-ParameterP P L I A D T _ _ _ _ _ _ _ _ _ _ argument_count target_count clause_count expr_count parameter_count call_args_count fstring_count for_clause_count lambda_count (λ x. 0)

  abbrev pub call_args_nodes : CallArgsP P L I A D T → ℕ
  call_args_nodes = fold-CallArgsP P L I A D T _ _ _ _ _ _ _ _ _ _ argument_count target_count clause_count expr_count parameter_count call_args_count fstring_count for_clause_count lambda_count (λ x. 0)

  abbrev pub fstring_nodes : FStringP P L I A D T → ℕ
  fstring_nodes = fold-FStringP P L I A D T _ _ _ _ _ _ _ _ _ _ argument_count target_count clause_count expr_count parameter_count call_args_count fstring_count for_clause_count lambda_count (λ x. 0)

  abbrev pub for_clause_nodes : ForClauseP P L I A D T → ℕ
  for_clause_nodes = fold-ForClauseP P L I A D T _ _ _ _ _ _ _ _ _ _ argument_count target_count clause_count expr_count parameter_count call_args_count fstring_count for_clause_count lambda_count (λ x. 0)

  abbrev pub lambda_nodes : LambdaP P L I A D T → ℕ
  lambda_nodes = fold-LambdaP P L I A D T _ _ _ _ _ _ _ _ _ _ argument_count target_count clause_count expr_count parameter_count call_args_count fstring_count for_clause_count lambda_count (λ x. 0)

  abbrev pub maybe_nodes : Option (Box (E P L I A D T) Global) → ℕ
  maybe_nodes None = 0
  maybe_nodes (Some x) = expr_nodes x.value.node

  pub expr_nodes-Tuple : (xs : Vec (E P L I A D T) Global) → expr_nodes (expr.Tuple xs) ≡ sum_by (λ x. expr_nodes x.node) xs.items + 1
  expr_nodes-Tuple xs =
      ap expr_nodes (sym (expr.rolls-Tuple xs)) ∙ fold-roll-ExprP P L I A D T _ _ _ _ _ _ _ _ _ _ argument_count target_count clause_count expr_count parameter_count call_args_count fstring_count for_clause_count lambda_count (λ x. 0) (layer.ExprP::Tuple xs) ∙ ap (λ k. k + 1) (fold-map _ _ 0 xs.items)

  pub expr_nodes-Dot : (x : Box (E P L I A D T) Global) (name : Spanned (String Global)) → expr_nodes (expr.Dot x name) ≡ expr_nodes x.value.node + 1
  expr_nodes-Dot x name =
      ap expr_nodes (sym (expr.rolls-Dot x name)) ∙ fold-roll-ExprP P L I A D T _ _ _ _ _ _ _ _ _ _ argument_count target_count clause_count expr_count parameter_count call_args_count fstring_count for_clause_count lambda_count (λ x. 0) (layer.ExprP::Dot x name)

  pub expr_nodes-Call : (x : Box (E P L I A D T) Global) (args : CallArgsP P L I A D T) → expr_nodes (expr.Call x args) ≡ expr_nodes x.value.node + call_args_nodes args + 1
  expr_nodes-Call x args =
      ap expr_nodes (sym (expr.rolls-Call x args)) ∙ fold-roll-ExprP P L I A D T _ _ _ _ _ _ _ _ _ _ argument_count target_count clause_count expr_count parameter_count call_args_count fstring_count for_clause_count lambda_count (λ x. 0) (layer.Call x args)

  pub expr_nodes-Index : (x : Box (E P L I A D T × E P L I A D T) Global) → expr_nodes (expr.Index x) ≡ expr_nodes x.value.0.node + expr_nodes x.value.1.node + 1
  expr_nodes-Index x =
      ap expr_nodes (sym (expr.rolls-Index x)) ∙ fold-roll-ExprP P L I A D T _ _ _ _ _ _ _ _ _ _ argument_count target_count clause_count expr_count parameter_count call_args_count fstring_count for_clause_count lambda_count (λ x. 0) (layer.ExprP::Index x)

  pub expr_nodes-Index2 : (x : Box (E P L I A D T × E P L I A D T × E P L I A D T) Global) → expr_nodes (expr.Index2 x) ≡ expr_nodes x.value.0.node + expr_nodes x.value.1.node + expr_nodes x.value.2.node + 1
  expr_nodes-Index2 x =
      ap expr_nodes (sym (expr.rolls-Index2 x)) ∙ fold-roll-ExprP P L I A D T _ _ _ _ _ _ _ _ _ _ argument_count target_count clause_count expr_count parameter_count call_args_count fstring_count for_clause_count lambda_count (λ x. 0) (layer.Index2 x)

  pub expr_nodes-Slice : (x : Box (E P L I A D T) Global) (a : Option (Box (E P L I A D T) Global)) (b : Option (Box (E P L I A D T) Global)) (c : Option (Box (E P L I A D T) Global)) → expr_nodes (expr.Slice x a b c) ≡ expr_nodes x.value.node + maybe_nodes a + maybe_nodes b + maybe_nodes c + 1
  expr_nodes-Slice x None None None = ap expr_nodes (sym (expr.rolls-Slice x None None None)) ∙ fold-roll-ExprP P L I A D T _ _ _ _ _ _ _ _ _ _ argument_count target_count clause_count expr_count parameter_count call_args_count fstring_count for_clause_count lambda_count (λ x. 0) (layer.Slice x None None None)
  expr_nodes-Slice x None None (Some c) = ap expr_nodes (sym (expr.rolls-Slice x None None (Some c))) ∙ fold-roll-ExprP P L I A D T _ _ _ _ _ _ _ _ _ _ argument_count target_count clause_count expr_count parameter_count call_args_count fstring_count for_clause_count lambda_count (λ x. 0) (layer.Slice x None None (Some c))
  expr_nodes-Slice x None (Some b) None = ap expr_nodes (sym (expr.rolls-Slice x None (Some b) None)) ∙ fold-roll-ExprP P L I A D T _ _ _ _ _ _ _ _ _ _ argument_count target_count clause_count expr_count parameter_count call_args_count fstring_count for_clause_count lambda_count (λ x. 0) (layer.Slice x None (Some b) None)
  expr_nodes-Slice x None (Some b) (Some c) = ap expr_nodes (sym (expr.rolls-Slice x None (Some b) (Some c))) ∙ fold-roll-ExprP P L I A D T _ _ _ _ _ _ _ _ _ _ argument_count target_count clause_count expr_count parameter_count call_args_count fstring_count for_clause_count lambda_count (λ x. 0) (layer.Slice x None (Some b) (Some c))
  expr_nodes-Slice x (Some a) None None = ap expr_nodes (sym (expr.rolls-Slice x (Some a) None None)) ∙ fold-roll-ExprP P L I A D T _ _ _ _ _ _ _ _ _ _ argument_count target_count clause_count expr_count parameter_count call_args_count fstring_count for_clause_count lambda_count (λ x. 0) (layer.Slice x (Some a) None None)
  expr_nodes-Slice x (Some a) None (Some c) = ap expr_nodes (sym (expr.rolls-Slice x (Some a) None (Some c))) ∙ fold-roll-ExprP P L I A D T _ _ _ _ _ _ _ _ _ _ argument_count target_count clause_count expr_count parameter_count call_args_count fstring_count for_clause_count lambda_count (λ x. 0) (layer.Slice x (Some a) None (Some c))
  expr_nodes-Slice x (Some a) (Some b) None = ap expr_nodes (sym (expr.rolls-Slice x (Some a) (Some b) None)) ∙ fold-roll-ExprP P L I A D T _ _ _ _ _ _ _ _ _ _ argument_count target_count clause_count expr_count parameter_count call_args_count fstring_count for_clause_count lambda_count (λ x. 0) (layer.Slice x (Some a) (Some b) None)
  expr_nodes-Slice x (Some a) (Some b) (Some c) = ap expr_nodes (sym (expr.rolls-Slice x (Some a) (Some b) (Some c))) ∙ fold-roll-ExprP P L I A D T _ _ _ _ _ _ _ _ _ _ argument_count target_count clause_count expr_count parameter_count call_args_count fstring_count for_clause_count lambda_count (λ x. 0) (layer.Slice x (Some a) (Some b) (Some c))

  pub expr_nodes-Lambda : (x : LambdaP P L I A D T) → expr_nodes (expr.Lambda x) ≡ lambda_nodes x + 1
  expr_nodes-Lambda x =
      ap expr_nodes (sym (expr.rolls-Lambda x)) ∙ fold-roll-ExprP P L I A D T _ _ _ _ _ _ _ _ _ _ argument_count target_count clause_count expr_count parameter_count call_args_count fstring_count for_clause_count lambda_count (λ x. 0) (layer.Lambda x)

  pub expr_nodes-Not : (x : Box (E P L I A D T) Global) → expr_nodes (expr.Not x) ≡ expr_nodes x.value.node + 1
  expr_nodes-Not x =
      ap expr_nodes (sym (expr.rolls-Not x)) ∙ fold-roll-ExprP P L I A D T _ _ _ _ _ _ _ _ _ _ argument_count target_count clause_count expr_count parameter_count call_args_count fstring_count for_clause_count lambda_count (λ x. 0) (layer.Not x)

  pub expr_nodes-Minus : (x : Box (E P L I A D T) Global) → expr_nodes (expr.Minus x) ≡ expr_nodes x.value.node + 1
  expr_nodes-Minus x =
      ap expr_nodes (sym (expr.rolls-Minus x)) ∙ fold-roll-ExprP P L I A D T _ _ _ _ _ _ _ _ _ _ argument_count target_count clause_count expr_count parameter_count call_args_count fstring_count for_clause_count lambda_count (λ x. 0) (layer.Minus x)

  pub expr_nodes-Plus : (x : Box (E P L I A D T) Global) → expr_nodes (expr.Plus x) ≡ expr_nodes x.value.node + 1
  expr_nodes-Plus x =
      ap expr_nodes (sym (expr.rolls-Plus x)) ∙ fold-roll-ExprP P L I A D T _ _ _ _ _ _ _ _ _ _ argument_count target_count clause_count expr_count parameter_count call_args_count fstring_count for_clause_count lambda_count (λ x. 0) (layer.Plus x)

  pub expr_nodes-BitNot : (x : Box (E P L I A D T) Global) → expr_nodes (expr.BitNot x) ≡ expr_nodes x.value.node + 1
  expr_nodes-BitNot x =
      ap expr_nodes (sym (expr.rolls-BitNot x)) ∙ fold-roll-ExprP P L I A D T _ _ _ _ _ _ _ _ _ _ argument_count target_count clause_count expr_count parameter_count call_args_count fstring_count for_clause_count lambda_count (λ x. 0) (layer.BitNot x)

  pub expr_nodes-Op : (x : Box (E P L I A D T) Global) (o : BinOp) (y : Box (E P L I A D T) Global) → expr_nodes (expr.Op x o y) ≡ expr_nodes x.value.node + expr_nodes y.value.node + 1
  expr_nodes-Op x o y =
      ap expr_nodes (sym (expr.rolls-Op x o y)) ∙ fold-roll-ExprP P L I A D T _ _ _ _ _ _ _ _ _ _ argument_count target_count clause_count expr_count parameter_count call_args_count fstring_count for_clause_count lambda_count (λ x. 0) (layer.Op x o y)

  pub expr_nodes-If : (x : Box (E P L I A D T × E P L I A D T × E P L I A D T) Global) → expr_nodes (expr.If x) ≡ expr_nodes x.value.0.node + expr_nodes x.value.1.node + expr_nodes x.value.2.node + 1
  expr_nodes-If x =
      ap expr_nodes (sym (expr.rolls-If x)) ∙ fold-roll-ExprP P L I A D T _ _ _ _ _ _ _ _ _ _ argument_count target_count clause_count expr_count parameter_count call_args_count fstring_count for_clause_count lambda_count (λ x. 0) (layer.ExprP::If x)

  pub expr_nodes-List : (xs : Vec (E P L I A D T) Global) → expr_nodes (expr.List xs) ≡ sum_by (λ x. expr_nodes x.node) xs.items + 1
  expr_nodes-List xs =
      ap expr_nodes (sym (expr.rolls-List xs)) ∙ fold-roll-ExprP P L I A D T _ _ _ _ _ _ _ _ _ _ argument_count target_count clause_count expr_count parameter_count call_args_count fstring_count for_clause_count lambda_count (λ x. 0) (layer.List xs) ∙ ap (λ k. k + 1) (fold-map _ _ 0 xs.items)

  pub expr_nodes-Dict : (xs : Vec (E P L I A D T × E P L I A D T) Global) → expr_nodes (expr.Dict xs) ≡ sum_by (λ x. expr_nodes x.0.node + expr_nodes x.1.node) xs.items + 1
  expr_nodes-Dict xs =
      ap expr_nodes (sym (expr.rolls-Dict xs)) ∙ fold-roll-ExprP P L I A D T _ _ _ _ _ _ _ _ _ _ argument_count target_count clause_count expr_count parameter_count call_args_count fstring_count for_clause_count lambda_count (λ x. 0) (layer.Dict xs) ∙ ap (λ k. k + 1) (fold-map _ _ 0 xs.items)

  pub expr_nodes-ListComprehension : (x : Box (E P L I A D T) Global) (first : Box (ForClauseP P L I A D T) Global) (rest : Vec (ClauseP P L I A D T) Global) → expr_nodes (expr.ListComprehension x first rest) ≡ for_clause_nodes first.value + sum_by clause_nodes rest.items + expr_nodes x.value.node + 1
  expr_nodes-ListComprehension x first rest =
      ap expr_nodes (sym (expr.rolls-ListComprehension x first rest)) ∙ fold-roll-ExprP P L I A D T _ _ _ _ _ _ _ _ _ _ argument_count target_count clause_count expr_count parameter_count call_args_count fstring_count for_clause_count lambda_count (λ x. 0) (layer.ListComprehension x first rest) ∙ ap (λ k. for_clause_nodes first.value + k + expr_nodes x.value.node + 1) (fold-map _ _ 0 rest.items)

  pub expr_nodes-DictComprehension : (x : Box (E P L I A D T × E P L I A D T) Global) (first : Box (ForClauseP P L I A D T) Global) (rest : Vec (ClauseP P L I A D T) Global) → expr_nodes (expr.DictComprehension x first rest) ≡ for_clause_nodes first.value + sum_by clause_nodes rest.items + (expr_nodes x.value.0.node + expr_nodes x.value.1.node) + 1
  expr_nodes-DictComprehension x first rest =
      ap expr_nodes (sym (expr.rolls-DictComprehension x first rest)) ∙ fold-roll-ExprP P L I A D T _ _ _ _ _ _ _ _ _ _ argument_count target_count clause_count expr_count parameter_count call_args_count fstring_count for_clause_count lambda_count (λ x. 0) (layer.DictComprehension x first rest) ∙ ap (λ k. for_clause_nodes first.value + k + (expr_nodes x.value.0.node + expr_nodes x.value.1.node) + 1) (fold-map _ _ 0 rest.items)

  pub expr_nodes-FString : (x : Spanned (FStringP P L I A D T)) → expr_nodes (expr.FString x) ≡ fstring_nodes x.node + 1
  expr_nodes-FString x =
      ap expr_nodes (sym (expr.rolls-FString x)) ∙ fold-roll-ExprP P L I A D T _ _ _ _ _ _ _ _ _ _ argument_count target_count clause_count expr_count parameter_count call_args_count fstring_count for_clause_count lambda_count (λ x. 0) (layer.FString x)

  pub argument_nodes-Positional : (x : E P L I A D T) → argument_nodes (argument.Positional x) ≡ expr_nodes x.node
  argument_nodes-Positional x =
      ap argument_nodes (sym (argument.rolls-Positional x)) ∙ fold-roll-ArgumentP P L I A D T _ _ _ _ _ _ _ _ _ _ argument_count target_count clause_count expr_count parameter_count call_args_count fstring_count for_clause_count lambda_count (λ x. 0) (layer.Positional x)

  pub argument_nodes-Named : (name : Spanned (String Global)) (x : E P L I A D T) → argument_nodes (argument.Named name x) ≡ expr_nodes x.node
  argument_nodes-Named name x =
      ap argument_nodes (sym (argument.rolls-Named name x)) ∙ fold-roll-ArgumentP P L I A D T _ _ _ _ _ _ _ _ _ _ argument_count target_count clause_count expr_count parameter_count call_args_count fstring_count for_clause_count lambda_count (λ x. 0) (layer.Named name x)

  pub argument_nodes-Args : (x : E P L I A D T) → argument_nodes (argument.Args x) ≡ expr_nodes x.node
  argument_nodes-Args x =
      ap argument_nodes (sym (argument.rolls-Args x)) ∙ fold-roll-ArgumentP P L I A D T _ _ _ _ _ _ _ _ _ _ argument_count target_count clause_count expr_count parameter_count call_args_count fstring_count for_clause_count lambda_count (λ x. 0) (layer.ArgumentP::Args x)

  pub argument_nodes-KwArgs : (x : E P L I A D T) → argument_nodes (argument.KwArgs x) ≡ expr_nodes x.node
  argument_nodes-KwArgs x =
      ap argument_nodes (sym (argument.rolls-KwArgs x)) ∙ fold-roll-ArgumentP P L I A D T _ _ _ _ _ _ _ _ _ _ argument_count target_count clause_count expr_count parameter_count call_args_count fstring_count for_clause_count lambda_count (λ x. 0) (layer.ArgumentP::KwArgs x)

  pub target_nodes-Tuple : (xs : Vec (Spanned (AssignTargetP P L I A D T)) Global) → target_nodes (target.Tuple xs) ≡ sum_by (λ x. target_nodes x.node) xs.items + 1
  target_nodes-Tuple xs =
      ap target_nodes (sym (target.rolls-Tuple xs)) ∙ fold-roll-AssignTargetP P L I A D T _ _ _ _ _ _ _ _ _ _ argument_count target_count clause_count expr_count parameter_count call_args_count fstring_count for_clause_count lambda_count (λ x. 0) (layer.AssignTargetP::Tuple xs) ∙ ap (λ k. k + 1) (fold-map _ _ 0 xs.items)

  pub target_nodes-Index : (x : Box (E P L I A D T × E P L I A D T) Global) → target_nodes (target.Index x) ≡ expr_nodes x.value.0.node + expr_nodes x.value.1.node + 1
  target_nodes-Index x =
      ap target_nodes (sym (target.rolls-Index x)) ∙ fold-roll-AssignTargetP P L I A D T _ _ _ _ _ _ _ _ _ _ argument_count target_count clause_count expr_count parameter_count call_args_count fstring_count for_clause_count lambda_count (λ x. 0) (layer.AssignTargetP::Index x)

  pub target_nodes-Dot : (x : Box (E P L I A D T) Global) (name : Spanned (String Global)) → target_nodes (target.Dot x name) ≡ expr_nodes x.value.node + 1
  target_nodes-Dot x name =
      ap target_nodes (sym (target.rolls-Dot x name)) ∙ fold-roll-AssignTargetP P L I A D T _ _ _ _ _ _ _ _ _ _ argument_count target_count clause_count expr_count parameter_count call_args_count fstring_count for_clause_count lambda_count (λ x. 0) (layer.AssignTargetP::Dot x name)

  pub clause_nodes-For : (x : ForClauseP P L I A D T) → clause_nodes (clause.For x) ≡ for_clause_nodes x
  clause_nodes-For x =
      ap clause_nodes (sym (clause.rolls-For x)) ∙ fold-roll-ClauseP P L I A D T _ _ _ _ _ _ _ _ _ _ argument_count target_count clause_count expr_count parameter_count call_args_count fstring_count for_clause_count lambda_count (λ x. 0) (layer.For x)

  pub clause_nodes-If : (x : E P L I A D T) → clause_nodes (clause.If x) ≡ expr_nodes x.node
  clause_nodes-If x =
      ap clause_nodes (sym (clause.rolls-If x)) ∙ fold-roll-ClauseP P L I A D T _ _ _ _ _ _ _ _ _ _ argument_count target_count clause_count expr_count parameter_count call_args_count fstring_count for_clause_count lambda_count (λ x. 0) (layer.ClauseP::If x)

  pub default_nodes-Normal : (name : Spanned (AssignIdentP P L I A D T)) (type : Option (Box (Y P L I A D T) Global)) (default : Option (Box (E P L I A D T) Global)) → default_nodes (parameter.Normal name type default) ≡ maybe_nodes default
  default_nodes-Normal name None None = ap default_nodes (sym (parameter.rolls-Normal name None None)) ∙ fold-roll-ParameterP P L I A D T _ _ _ _ _ _ _ _ _ _ argument_count target_count clause_count expr_count parameter_count call_args_count fstring_count for_clause_count lambda_count (λ x. 0) (layer.Normal name None None)
  default_nodes-Normal name None (Some default) = ap default_nodes (sym (parameter.rolls-Normal name None (Some default))) ∙ fold-roll-ParameterP P L I A D T _ _ _ _ _ _ _ _ _ _ argument_count target_count clause_count expr_count parameter_count call_args_count fstring_count for_clause_count lambda_count (λ x. 0) (layer.Normal name None (Some default))
  default_nodes-Normal name (Some type) None = ap default_nodes (sym (parameter.rolls-Normal name (Some type) None)) ∙ fold-roll-ParameterP P L I A D T _ _ _ _ _ _ _ _ _ _ argument_count target_count clause_count expr_count parameter_count call_args_count fstring_count for_clause_count lambda_count (λ x. 0) (layer.Normal name (Some type) None)
  default_nodes-Normal name (Some type) (Some default) = ap default_nodes (sym (parameter.rolls-Normal name (Some type) (Some default))) ∙ fold-roll-ParameterP P L I A D T _ _ _ _ _ _ _ _ _ _ argument_count target_count clause_count expr_count parameter_count call_args_count fstring_count for_clause_count lambda_count (λ x. 0) (layer.Normal name (Some type) (Some default))

  pub default_nodes-Args : (name : Spanned (AssignIdentP P L I A D T)) (type : Option (Box (Y P L I A D T) Global)) → default_nodes (parameter.Args name type) ≡ 0
  default_nodes-Args name None = ap default_nodes (sym (parameter.rolls-Args name None)) ∙ fold-roll-ParameterP P L I A D T _ _ _ _ _ _ _ _ _ _ argument_count target_count clause_count expr_count parameter_count call_args_count fstring_count for_clause_count lambda_count (λ x. 0) (layer.ParameterP::Args name None)
  default_nodes-Args name (Some type) = ap default_nodes (sym (parameter.rolls-Args name (Some type))) ∙ fold-roll-ParameterP P L I A D T _ _ _ _ _ _ _ _ _ _ argument_count target_count clause_count expr_count parameter_count call_args_count fstring_count for_clause_count lambda_count (λ x. 0) (layer.ParameterP::Args name (Some type))

  pub default_nodes-KwArgs : (name : Spanned (AssignIdentP P L I A D T)) (type : Option (Box (Y P L I A D T) Global)) → default_nodes (parameter.KwArgs name type) ≡ 0
  default_nodes-KwArgs name None = ap default_nodes (sym (parameter.rolls-KwArgs name None)) ∙ fold-roll-ParameterP P L I A D T _ _ _ _ _ _ _ _ _ _ argument_count target_count clause_count expr_count parameter_count call_args_count fstring_count for_clause_count lambda_count (λ x. 0) (layer.ParameterP::KwArgs name None)
  default_nodes-KwArgs name (Some type) = ap default_nodes (sym (parameter.rolls-KwArgs name (Some type))) ∙ fold-roll-ParameterP P L I A D T _ _ _ _ _ _ _ _ _ _ argument_count target_count clause_count expr_count parameter_count call_args_count fstring_count for_clause_count lambda_count (λ x. 0) (layer.ParameterP::KwArgs name (Some type))

  pub call_args_nodes-parts : (x : CallArgsP P L I A D T) → call_args_nodes x ≡ sum_by (λ a. argument_nodes a.node) (out-CallArgsP P L I A D T x).args.items
  call_args_nodes-parts x =
      ap call_args_nodes (sym (roll-out-CallArgsP P L I A D T x)) ∙ fold-roll-CallArgsP P L I A D T _ _ _ _ _ _ _ _ _ _ argument_count target_count clause_count expr_count parameter_count call_args_count fstring_count for_clause_count lambda_count (λ x. 0) (out-CallArgsP P L I A D T x) ∙ fold-map _ _ 0 (out-CallArgsP P L I A D T x).args.items

  pub fstring_nodes-parts : (x : FStringP P L I A D T) → fstring_nodes x ≡ sum_by (λ y. expr_nodes y.node) (out-FStringP P L I A D T x).expressions.items
  fstring_nodes-parts x =
      ap fstring_nodes (sym (roll-out-FStringP P L I A D T x)) ∙ fold-roll-FStringP P L I A D T _ _ _ _ _ _ _ _ _ _ argument_count target_count clause_count expr_count parameter_count call_args_count fstring_count for_clause_count lambda_count (λ x. 0) (out-FStringP P L I A D T x) ∙ fold-map _ _ 0 (out-FStringP P L I A D T x).expressions.items

  pub for_clause_nodes-parts : (x : ForClauseP P L I A D T) → for_clause_nodes x ≡ target_nodes (out-ForClauseP P L I A D T x).var.node + expr_nodes (out-ForClauseP P L I A D T x).over.node
  for_clause_nodes-parts x =
      ap for_clause_nodes (sym (roll-out-ForClauseP P L I A D T x)) ∙ fold-roll-ForClauseP P L I A D T _ _ _ _ _ _ _ _ _ _ argument_count target_count clause_count expr_count parameter_count call_args_count fstring_count for_clause_count lambda_count (λ x. 0) (out-ForClauseP P L I A D T x)

  pub lambda_nodes-parts : (x : LambdaP P L I A D T) → lambda_nodes x ≡ sum_by (λ p. default_nodes p.node) (out-LambdaP P L I A D T x).params.items + expr_nodes (out-LambdaP P L I A D T x).body.value.node
  lambda_nodes-parts x =
      ap lambda_nodes (sym (roll-out-LambdaP P L I A D T x)) ∙ fold-roll-LambdaP P L I A D T _ _ _ _ _ _ _ _ _ _ argument_count target_count clause_count expr_count parameter_count call_args_count fstring_count for_clause_count lambda_count (λ x. 0) (out-LambdaP P L I A D T x) ∙ ap (λ k. k + expr_nodes (out-LambdaP P L I A D T x).body.value.node) (fold-map _ _ 0 (out-LambdaP P L I A D T x).params.items)
