-- The types in each variant, and in what stands in it: equations of TypePlaces.
use Rattle.std.proofs.Common.{◌≡◌, sym, ap, ◌∙◌, List, [], ◌++◌, flat_map, Option, Some, None, ap₂}
use Rattle.std.proofs.lemmas.List.Folds.{flat_map-map}
use Rattle.std.specs.declared.alloc.Global.{Global}
use Rattle.std.specs.declared.boxed.Box.{Box}
use Rattle.std.specs.declared.string.String.{String}
use Rattle.std.specs.declared.vec.Vec.{Vec}
use Rattle.starlark_place.specs.declared.pos.Spanned.{Spanned}
use Rattle.starlark_ast.specs.Places.{E}
use Rattle.starlark_ast.specs.declared.ast.AstLiteral.{AstLiteral}
use Rattle.starlark_ast.specs.declared.ast.BinOp.{BinOp}
use Rattle.starlark_ast.specs.declared.ast.IdentP.{IdentP}
use Rattle.starlark_ast.specs.declared.ast.AssignIdentP.{AssignIdentP}
use Rattle.starlark_ast.specs.declared.ast.ArgumentP.{ArgumentP, para-roll-ArgumentP}
use Rattle.starlark_ast.specs.declared.ast.AssignTargetP.{AssignTargetP, para-roll-AssignTargetP}
use Rattle.starlark_ast.specs.declared.ast.ClauseP.{ClauseP, para-roll-ClauseP}
use Rattle.starlark_ast.specs.declared.ast.ExprP.{ExprP, para-roll-ExprP}
use Rattle.starlark_ast.specs.declared.ast.ParameterP.{ParameterP, para-roll-ParameterP}
use Rattle.starlark_ast.specs.declared.ast.CallArgsP.{CallArgsP, out-CallArgsP, roll-out-CallArgsP, para-roll-CallArgsP}
use Rattle.starlark_ast.specs.declared.ast.FStringP.{FStringP, out-FStringP, roll-out-FStringP, para-roll-FStringP}
use Rattle.starlark_ast.specs.declared.ast.ForClauseP.{ForClauseP, out-ForClauseP, roll-out-ForClauseP, para-roll-ForClauseP}
use Rattle.starlark_ast.specs.declared.ast.LambdaP.{LambdaP, out-LambdaP, roll-out-LambdaP, para-roll-LambdaP}
use Rattle.starlark_ast.specs.declared.ast.ExprP.TheVariants as expr
use Rattle.starlark_ast.specs.declared.ast.ArgumentP.TheVariants as argument
use Rattle.starlark_ast.specs.declared.ast.ParameterP.TheVariants as parameter
use Rattle.starlark_ast.specs.declared.ast.AssignTargetP.TheVariants as target
use Rattle.starlark_ast.specs.declared.ast.ClauseP.TheVariants as clause
use Rattle.starlark_ast.specs.declared.ast.ArgumentP.TheOpen as layer
use Rattle.starlark_write.specs.TypePlaces.{Y, own_type, argument_step, target_step, clause_step, expr_step, parameter_step, call_args_step, fstring_step, for_clause_step, lambda_step, argument_types, target_types, clause_types, expr_types, default_types, call_args_types, fstring_types, for_clause_types, lambda_types, maybe_expr_types}

module _ {P L I A D T : Type 0} where
  pub expr_types-Tuple : (xs : Vec (E P L I A D T) Global) → expr_types (expr.Tuple xs) ≡ flat_map (λ x. expr_types x.node) xs.items
  expr_types-Tuple xs =
      ap expr_types (sym (expr.rolls-Tuple xs)) ∙ para-roll-ExprP P L I A D T _ _ _ _ _ _ _ _ _ (Unit {0}) argument_step target_step clause_step expr_step parameter_step call_args_step fstring_step for_clause_step lambda_step (λ x. tt) (layer.ExprP::Tuple xs) ∙ flat_map-map _ _ xs.items

  pub expr_types-Dot : (x : Box (E P L I A D T) Global) (name : Spanned (String Global)) → expr_types (expr.Dot x name) ≡ expr_types x.value.node
  expr_types-Dot x name =
      ap expr_types (sym (expr.rolls-Dot x name)) ∙ para-roll-ExprP P L I A D T _ _ _ _ _ _ _ _ _ (Unit {0}) argument_step target_step clause_step expr_step parameter_step call_args_step fstring_step for_clause_step lambda_step (λ x. tt) (layer.ExprP::Dot x name)

  pub expr_types-Call : (x : Box (E P L I A D T) Global) (args : CallArgsP P L I A D T) → expr_types (expr.Call x args) ≡ expr_types x.value.node ++ call_args_types args
  expr_types-Call x args =
      ap expr_types (sym (expr.rolls-Call x args)) ∙ para-roll-ExprP P L I A D T _ _ _ _ _ _ _ _ _ (Unit {0}) argument_step target_step clause_step expr_step parameter_step call_args_step fstring_step for_clause_step lambda_step (λ x. tt) (layer.Call x args)

  pub expr_types-Index : (x : Box (E P L I A D T × E P L I A D T) Global) → expr_types (expr.Index x) ≡ expr_types x.value.0.node ++ expr_types x.value.1.node
  expr_types-Index x =
      ap expr_types (sym (expr.rolls-Index x)) ∙ para-roll-ExprP P L I A D T _ _ _ _ _ _ _ _ _ (Unit {0}) argument_step target_step clause_step expr_step parameter_step call_args_step fstring_step for_clause_step lambda_step (λ x. tt) (layer.ExprP::Index x)

  pub expr_types-Index2 : (x : Box (E P L I A D T × E P L I A D T × E P L I A D T) Global) → expr_types (expr.Index2 x) ≡ expr_types x.value.0.node ++ (expr_types x.value.1.node ++ expr_types x.value.2.node)
  expr_types-Index2 x =
      ap expr_types (sym (expr.rolls-Index2 x)) ∙ para-roll-ExprP P L I A D T _ _ _ _ _ _ _ _ _ (Unit {0}) argument_step target_step clause_step expr_step parameter_step call_args_step fstring_step for_clause_step lambda_step (λ x. tt) (layer.Index2 x)

  pub expr_types-Slice : (x : Box (E P L I A D T) Global) (a : Option (Box (E P L I A D T) Global)) (b : Option (Box (E P L I A D T) Global)) (c : Option (Box (E P L I A D T) Global)) → expr_types (expr.Slice x a b c) ≡ expr_types x.value.node ++ (maybe_expr_types a ++ (maybe_expr_types b ++ maybe_expr_types c))
  expr_types-Slice x None None None = ap expr_types (sym (expr.rolls-Slice x None None None)) ∙ para-roll-ExprP P L I A D T _ _ _ _ _ _ _ _ _ (Unit {0}) argument_step target_step clause_step expr_step parameter_step call_args_step fstring_step for_clause_step lambda_step (λ x. tt) (layer.Slice x None None None)
  expr_types-Slice x None None (Some c) = ap expr_types (sym (expr.rolls-Slice x None None (Some c))) ∙ para-roll-ExprP P L I A D T _ _ _ _ _ _ _ _ _ (Unit {0}) argument_step target_step clause_step expr_step parameter_step call_args_step fstring_step for_clause_step lambda_step (λ x. tt) (layer.Slice x None None (Some c))
  expr_types-Slice x None (Some b) None = ap expr_types (sym (expr.rolls-Slice x None (Some b) None)) ∙ para-roll-ExprP P L I A D T _ _ _ _ _ _ _ _ _ (Unit {0}) argument_step target_step clause_step expr_step parameter_step call_args_step fstring_step for_clause_step lambda_step (λ x. tt) (layer.Slice x None (Some b) None)
  expr_types-Slice x None (Some b) (Some c) = ap expr_types (sym (expr.rolls-Slice x None (Some b) (Some c))) ∙ para-roll-ExprP P L I A D T _ _ _ _ _ _ _ _ _ (Unit {0}) argument_step target_step clause_step expr_step parameter_step call_args_step fstring_step for_clause_step lambda_step (λ x. tt) (layer.Slice x None (Some b) (Some c))
  expr_types-Slice x (Some a) None None = ap expr_types (sym (expr.rolls-Slice x (Some a) None None)) ∙ para-roll-ExprP P L I A D T _ _ _ _ _ _ _ _ _ (Unit {0}) argument_step target_step clause_step expr_step parameter_step call_args_step fstring_step for_clause_step lambda_step (λ x. tt) (layer.Slice x (Some a) None None)
  expr_types-Slice x (Some a) None (Some c) = ap expr_types (sym (expr.rolls-Slice x (Some a) None (Some c))) ∙ para-roll-ExprP P L I A D T _ _ _ _ _ _ _ _ _ (Unit {0}) argument_step target_step clause_step expr_step parameter_step call_args_step fstring_step for_clause_step lambda_step (λ x. tt) (layer.Slice x (Some a) None (Some c))
  expr_types-Slice x (Some a) (Some b) None = ap expr_types (sym (expr.rolls-Slice x (Some a) (Some b) None)) ∙ para-roll-ExprP P L I A D T _ _ _ _ _ _ _ _ _ (Unit {0}) argument_step target_step clause_step expr_step parameter_step call_args_step fstring_step for_clause_step lambda_step (λ x. tt) (layer.Slice x (Some a) (Some b) None)
  expr_types-Slice x (Some a) (Some b) (Some c) = ap expr_types (sym (expr.rolls-Slice x (Some a) (Some b) (Some c))) ∙ para-roll-ExprP P L I A D T _ _ _ _ _ _ _ _ _ (Unit {0}) argument_step target_step clause_step expr_step parameter_step call_args_step fstring_step for_clause_step lambda_step (λ x. tt) (layer.Slice x (Some a) (Some b) (Some c))

  pub expr_types-Identifier : (x : Spanned (IdentP P L I A D T)) → expr_types (expr.Identifier x) ≡ []
  expr_types-Identifier x =
      ap expr_types (sym (expr.rolls-Identifier x)) ∙ para-roll-ExprP P L I A D T _ _ _ _ _ _ _ _ _ (Unit {0}) argument_step target_step clause_step expr_step parameter_step call_args_step fstring_step for_clause_step lambda_step (λ x. tt) (layer.ExprP::Identifier x)

  pub expr_types-Lambda : (x : LambdaP P L I A D T) → expr_types (expr.Lambda x) ≡ lambda_types x
  expr_types-Lambda x =
      ap expr_types (sym (expr.rolls-Lambda x)) ∙ para-roll-ExprP P L I A D T _ _ _ _ _ _ _ _ _ (Unit {0}) argument_step target_step clause_step expr_step parameter_step call_args_step fstring_step for_clause_step lambda_step (λ x. tt) (layer.Lambda x)

  pub expr_types-Not : (x : Box (E P L I A D T) Global) → expr_types (expr.Not x) ≡ expr_types x.value.node
  expr_types-Not x =
      ap expr_types (sym (expr.rolls-Not x)) ∙ para-roll-ExprP P L I A D T _ _ _ _ _ _ _ _ _ (Unit {0}) argument_step target_step clause_step expr_step parameter_step call_args_step fstring_step for_clause_step lambda_step (λ x. tt) (layer.Not x)

  pub expr_types-Minus : (x : Box (E P L I A D T) Global) → expr_types (expr.Minus x) ≡ expr_types x.value.node
  expr_types-Minus x =
      ap expr_types (sym (expr.rolls-Minus x)) ∙ para-roll-ExprP P L I A D T _ _ _ _ _ _ _ _ _ (Unit {0}) argument_step target_step clause_step expr_step parameter_step call_args_step fstring_step for_clause_step lambda_step (λ x. tt) (layer.Minus x)

  pub expr_types-Plus : (x : Box (E P L I A D T) Global) → expr_types (expr.Plus x) ≡ expr_types x.value.node
  expr_types-Plus x =
      ap expr_types (sym (expr.rolls-Plus x)) ∙ para-roll-ExprP P L I A D T _ _ _ _ _ _ _ _ _ (Unit {0}) argument_step target_step clause_step expr_step parameter_step call_args_step fstring_step for_clause_step lambda_step (λ x. tt) (layer.Plus x)

  pub expr_types-BitNot : (x : Box (E P L I A D T) Global) → expr_types (expr.BitNot x) ≡ expr_types x.value.node
  expr_types-BitNot x =
      ap expr_types (sym (expr.rolls-BitNot x)) ∙ para-roll-ExprP P L I A D T _ _ _ _ _ _ _ _ _ (Unit {0}) argument_step target_step clause_step expr_step parameter_step call_args_step fstring_step for_clause_step lambda_step (λ x. tt) (layer.BitNot x)

  pub expr_types-Op : (x : Box (E P L I A D T) Global) (o : BinOp) (y : Box (E P L I A D T) Global) → expr_types (expr.Op x o y) ≡ expr_types x.value.node ++ expr_types y.value.node
  expr_types-Op x o y =
      ap expr_types (sym (expr.rolls-Op x o y)) ∙ para-roll-ExprP P L I A D T _ _ _ _ _ _ _ _ _ (Unit {0}) argument_step target_step clause_step expr_step parameter_step call_args_step fstring_step for_clause_step lambda_step (λ x. tt) (layer.Op x o y)

  pub expr_types-If : (x : Box (E P L I A D T × E P L I A D T × E P L I A D T) Global) → expr_types (expr.If x) ≡ expr_types x.value.0.node ++ (expr_types x.value.1.node ++ expr_types x.value.2.node)
  expr_types-If x =
      ap expr_types (sym (expr.rolls-If x)) ∙ para-roll-ExprP P L I A D T _ _ _ _ _ _ _ _ _ (Unit {0}) argument_step target_step clause_step expr_step parameter_step call_args_step fstring_step for_clause_step lambda_step (λ x. tt) (layer.ExprP::If x)

  pub expr_types-List : (xs : Vec (E P L I A D T) Global) → expr_types (expr.List xs) ≡ flat_map (λ x. expr_types x.node) xs.items
  expr_types-List xs =
      ap expr_types (sym (expr.rolls-List xs)) ∙ para-roll-ExprP P L I A D T _ _ _ _ _ _ _ _ _ (Unit {0}) argument_step target_step clause_step expr_step parameter_step call_args_step fstring_step for_clause_step lambda_step (λ x. tt) (layer.List xs) ∙ flat_map-map _ _ xs.items

  pub expr_types-Dict : (xs : Vec (E P L I A D T × E P L I A D T) Global) → expr_types (expr.Dict xs) ≡ flat_map (λ x. expr_types x.0.node ++ expr_types x.1.node) xs.items
  expr_types-Dict xs =
      ap expr_types (sym (expr.rolls-Dict xs)) ∙ para-roll-ExprP P L I A D T _ _ _ _ _ _ _ _ _ (Unit {0}) argument_step target_step clause_step expr_step parameter_step call_args_step fstring_step for_clause_step lambda_step (λ x. tt) (layer.Dict xs) ∙ flat_map-map _ _ xs.items

  pub expr_types-ListComprehension : (x : Box (E P L I A D T) Global) (first : Box (ForClauseP P L I A D T) Global) (rest : Vec (ClauseP P L I A D T) Global) → expr_types (expr.ListComprehension x first rest) ≡ for_clause_types first.value ++ (flat_map clause_types rest.items ++ expr_types x.value.node)
  expr_types-ListComprehension x first rest =
      ap expr_types (sym (expr.rolls-ListComprehension x first rest)) ∙ para-roll-ExprP P L I A D T _ _ _ _ _ _ _ _ _ (Unit {0}) argument_step target_step clause_step expr_step parameter_step call_args_step fstring_step for_clause_step lambda_step (λ x. tt) (layer.ListComprehension x first rest) ∙ ap (λ q. for_clause_types first.value ++ (q ++ expr_types x.value.node)) (flat_map-map _ _ rest.items)

  pub expr_types-DictComprehension : (x : Box (E P L I A D T × E P L I A D T) Global) (first : Box (ForClauseP P L I A D T) Global) (rest : Vec (ClauseP P L I A D T) Global) → expr_types (expr.DictComprehension x first rest) ≡ for_clause_types first.value ++ (flat_map clause_types rest.items ++ (expr_types x.value.0.node ++ expr_types x.value.1.node))
  expr_types-DictComprehension x first rest =
      ap expr_types (sym (expr.rolls-DictComprehension x first rest)) ∙ para-roll-ExprP P L I A D T _ _ _ _ _ _ _ _ _ (Unit {0}) argument_step target_step clause_step expr_step parameter_step call_args_step fstring_step for_clause_step lambda_step (λ x. tt) (layer.DictComprehension x first rest) ∙ ap (λ q. for_clause_types first.value ++ (q ++ (expr_types x.value.0.node ++ expr_types x.value.1.node))) (flat_map-map _ _ rest.items)

  pub expr_types-FString : (x : Spanned (FStringP P L I A D T)) → expr_types (expr.FString x) ≡ fstring_types x.node
  expr_types-FString x =
      ap expr_types (sym (expr.rolls-FString x)) ∙ para-roll-ExprP P L I A D T _ _ _ _ _ _ _ _ _ (Unit {0}) argument_step target_step clause_step expr_step parameter_step call_args_step fstring_step for_clause_step lambda_step (λ x. tt) (layer.FString x)

  pub argument_types-Positional : (x : E P L I A D T) → argument_types (argument.Positional x) ≡ expr_types x.node
  argument_types-Positional x =
      ap argument_types (sym (argument.rolls-Positional x)) ∙ para-roll-ArgumentP P L I A D T _ _ _ _ _ _ _ _ _ (Unit {0}) argument_step target_step clause_step expr_step parameter_step call_args_step fstring_step for_clause_step lambda_step (λ x. tt) (layer.Positional x)

  pub argument_types-Named : (name : Spanned (String Global)) (x : E P L I A D T) → argument_types (argument.Named name x) ≡ expr_types x.node
  argument_types-Named name x =
      ap argument_types (sym (argument.rolls-Named name x)) ∙ para-roll-ArgumentP P L I A D T _ _ _ _ _ _ _ _ _ (Unit {0}) argument_step target_step clause_step expr_step parameter_step call_args_step fstring_step for_clause_step lambda_step (λ x. tt) (layer.Named name x)

  pub argument_types-Args : (x : E P L I A D T) → argument_types (argument.Args x) ≡ expr_types x.node
  argument_types-Args x =
      ap argument_types (sym (argument.rolls-Args x)) ∙ para-roll-ArgumentP P L I A D T _ _ _ _ _ _ _ _ _ (Unit {0}) argument_step target_step clause_step expr_step parameter_step call_args_step fstring_step for_clause_step lambda_step (λ x. tt) (layer.ArgumentP::Args x)

  pub argument_types-KwArgs : (x : E P L I A D T) → argument_types (argument.KwArgs x) ≡ expr_types x.node
  argument_types-KwArgs x =
      ap argument_types (sym (argument.rolls-KwArgs x)) ∙ para-roll-ArgumentP P L I A D T _ _ _ _ _ _ _ _ _ (Unit {0}) argument_step target_step clause_step expr_step parameter_step call_args_step fstring_step for_clause_step lambda_step (λ x. tt) (layer.ArgumentP::KwArgs x)

  pub target_types-Tuple : (xs : Vec (Spanned (AssignTargetP P L I A D T)) Global) → target_types (target.Tuple xs) ≡ flat_map (λ x. target_types x.node) xs.items
  target_types-Tuple xs =
      ap target_types (sym (target.rolls-Tuple xs)) ∙ para-roll-AssignTargetP P L I A D T _ _ _ _ _ _ _ _ _ (Unit {0}) argument_step target_step clause_step expr_step parameter_step call_args_step fstring_step for_clause_step lambda_step (λ x. tt) (layer.AssignTargetP::Tuple xs) ∙ flat_map-map _ _ xs.items

  pub target_types-Index : (x : Box (E P L I A D T × E P L I A D T) Global) → target_types (target.Index x) ≡ expr_types x.value.0.node ++ expr_types x.value.1.node
  target_types-Index x =
      ap target_types (sym (target.rolls-Index x)) ∙ para-roll-AssignTargetP P L I A D T _ _ _ _ _ _ _ _ _ (Unit {0}) argument_step target_step clause_step expr_step parameter_step call_args_step fstring_step for_clause_step lambda_step (λ x. tt) (layer.AssignTargetP::Index x)

  pub target_types-Dot : (x : Box (E P L I A D T) Global) (name : Spanned (String Global)) → target_types (target.Dot x name) ≡ expr_types x.value.node
  target_types-Dot x name =
      ap target_types (sym (target.rolls-Dot x name)) ∙ para-roll-AssignTargetP P L I A D T _ _ _ _ _ _ _ _ _ (Unit {0}) argument_step target_step clause_step expr_step parameter_step call_args_step fstring_step for_clause_step lambda_step (λ x. tt) (layer.AssignTargetP::Dot x name)

  pub target_types-Identifier : (x : Spanned (AssignIdentP P L I A D T)) → target_types (target.Identifier x) ≡ []
  target_types-Identifier x =
      ap target_types (sym (target.rolls-Identifier x)) ∙ para-roll-AssignTargetP P L I A D T _ _ _ _ _ _ _ _ _ (Unit {0}) argument_step target_step clause_step expr_step parameter_step call_args_step fstring_step for_clause_step lambda_step (λ x. tt) (layer.AssignTargetP::Identifier x)

  pub clause_types-For : (x : ForClauseP P L I A D T) → clause_types (clause.For x) ≡ for_clause_types x
  clause_types-For x =
      ap clause_types (sym (clause.rolls-For x)) ∙ para-roll-ClauseP P L I A D T _ _ _ _ _ _ _ _ _ (Unit {0}) argument_step target_step clause_step expr_step parameter_step call_args_step fstring_step for_clause_step lambda_step (λ x. tt) (layer.For x)

  pub clause_types-If : (x : E P L I A D T) → clause_types (clause.If x) ≡ expr_types x.node
  clause_types-If x =
      ap clause_types (sym (clause.rolls-If x)) ∙ para-roll-ClauseP P L I A D T _ _ _ _ _ _ _ _ _ (Unit {0}) argument_step target_step clause_step expr_step parameter_step call_args_step fstring_step for_clause_step lambda_step (λ x. tt) (layer.ClauseP::If x)

  pub default_types-Normal : (name : Spanned (AssignIdentP P L I A D T)) (type : Option (Box (Y P L I A D T) Global)) (default : Option (Box (E P L I A D T) Global)) → default_types (parameter.Normal name type default) ≡ maybe_expr_types default
  default_types-Normal name None None = ap default_types (sym (parameter.rolls-Normal name None None)) ∙ para-roll-ParameterP P L I A D T _ _ _ _ _ _ _ _ _ (Unit {0}) argument_step target_step clause_step expr_step parameter_step call_args_step fstring_step for_clause_step lambda_step (λ x. tt) (layer.Normal name None None)
  default_types-Normal name None (Some default) = ap default_types (sym (parameter.rolls-Normal name None (Some default))) ∙ para-roll-ParameterP P L I A D T _ _ _ _ _ _ _ _ _ (Unit {0}) argument_step target_step clause_step expr_step parameter_step call_args_step fstring_step for_clause_step lambda_step (λ x. tt) (layer.Normal name None (Some default))
  default_types-Normal name (Some type) None = ap default_types (sym (parameter.rolls-Normal name (Some type) None)) ∙ para-roll-ParameterP P L I A D T _ _ _ _ _ _ _ _ _ (Unit {0}) argument_step target_step clause_step expr_step parameter_step call_args_step fstring_step for_clause_step lambda_step (λ x. tt) (layer.Normal name (Some type) None)
  default_types-Normal name (Some type) (Some default) = ap default_types (sym (parameter.rolls-Normal name (Some type) (Some default))) ∙ para-roll-ParameterP P L I A D T _ _ _ _ _ _ _ _ _ (Unit {0}) argument_step target_step clause_step expr_step parameter_step call_args_step fstring_step for_clause_step lambda_step (λ x. tt) (layer.Normal name (Some type) (Some default))

  pub default_types-Args : (name : Spanned (AssignIdentP P L I A D T)) (type : Option (Box (Y P L I A D T) Global)) → default_types (parameter.Args name type) ≡ []
  default_types-Args name None = ap default_types (sym (parameter.rolls-Args name None)) ∙ para-roll-ParameterP P L I A D T _ _ _ _ _ _ _ _ _ (Unit {0}) argument_step target_step clause_step expr_step parameter_step call_args_step fstring_step for_clause_step lambda_step (λ x. tt) (layer.ParameterP::Args name None)
  default_types-Args name (Some type) = ap default_types (sym (parameter.rolls-Args name (Some type))) ∙ para-roll-ParameterP P L I A D T _ _ _ _ _ _ _ _ _ (Unit {0}) argument_step target_step clause_step expr_step parameter_step call_args_step fstring_step for_clause_step lambda_step (λ x. tt) (layer.ParameterP::Args name (Some type))

  pub default_types-KwArgs : (name : Spanned (AssignIdentP P L I A D T)) (type : Option (Box (Y P L I A D T) Global)) → default_types (parameter.KwArgs name type) ≡ []
  default_types-KwArgs name None = ap default_types (sym (parameter.rolls-KwArgs name None)) ∙ para-roll-ParameterP P L I A D T _ _ _ _ _ _ _ _ _ (Unit {0}) argument_step target_step clause_step expr_step parameter_step call_args_step fstring_step for_clause_step lambda_step (λ x. tt) (layer.ParameterP::KwArgs name None)
  default_types-KwArgs name (Some type) = ap default_types (sym (parameter.rolls-KwArgs name (Some type))) ∙ para-roll-ParameterP P L I A D T _ _ _ _ _ _ _ _ _ (Unit {0}) argument_step target_step clause_step expr_step parameter_step call_args_step fstring_step for_clause_step lambda_step (λ x. tt) (layer.ParameterP::KwArgs name (Some type))

  pub call_args_types-parts : (x : CallArgsP P L I A D T) → call_args_types x ≡ flat_map (λ a. argument_types a.node) (out-CallArgsP P L I A D T x).args.items
  call_args_types-parts x =
      ap call_args_types (sym (roll-out-CallArgsP P L I A D T x)) ∙ para-roll-CallArgsP P L I A D T _ _ _ _ _ _ _ _ _ (Unit {0}) argument_step target_step clause_step expr_step parameter_step call_args_step fstring_step for_clause_step lambda_step (λ x. tt) (out-CallArgsP P L I A D T x) ∙ flat_map-map _ _ (out-CallArgsP P L I A D T x).args.items

  pub fstring_types-parts : (x : FStringP P L I A D T) → fstring_types x ≡ flat_map (λ y. expr_types y.node) (out-FStringP P L I A D T x).expressions.items
  fstring_types-parts x =
      ap fstring_types (sym (roll-out-FStringP P L I A D T x)) ∙ para-roll-FStringP P L I A D T _ _ _ _ _ _ _ _ _ (Unit {0}) argument_step target_step clause_step expr_step parameter_step call_args_step fstring_step for_clause_step lambda_step (λ x. tt) (out-FStringP P L I A D T x) ∙ flat_map-map _ _ (out-FStringP P L I A D T x).expressions.items

  pub for_clause_types-parts : (x : ForClauseP P L I A D T) → for_clause_types x ≡ target_types (out-ForClauseP P L I A D T x).var.node ++ expr_types (out-ForClauseP P L I A D T x).over.node
  for_clause_types-parts x =
      ap for_clause_types (sym (roll-out-ForClauseP P L I A D T x)) ∙ para-roll-ForClauseP P L I A D T _ _ _ _ _ _ _ _ _ (Unit {0}) argument_step target_step clause_step expr_step parameter_step call_args_step fstring_step for_clause_step lambda_step (λ x. tt) (out-ForClauseP P L I A D T x)

  pub lambda_types-parts : (x : LambdaP P L I A D T) → lambda_types x ≡ flat_map (λ p. own_type p.node) (out-LambdaP P L I A D T x).params.items ++ (flat_map (λ p. default_types p.node) (out-LambdaP P L I A D T x).params.items ++ expr_types (out-LambdaP P L I A D T x).body.value.node)
  lambda_types-parts x =
      ap lambda_types (sym (roll-out-LambdaP P L I A D T x)) ∙ para-roll-LambdaP P L I A D T _ _ _ _ _ _ _ _ _ (Unit {0}) argument_step target_step clause_step expr_step parameter_step call_args_step fstring_step for_clause_step lambda_step (λ x. tt) (out-LambdaP P L I A D T x) ∙ ap₂ (λ p q. p ++ (q ++ expr_types (out-LambdaP P L I A D T x).body.value.node)) (flat_map-map _ _ (out-LambdaP P L I A D T x).params.items) (flat_map-map _ _ (out-LambdaP P L I A D T x).params.items)

-- without a part that names the payloads
module _ (P L I A D T : Type 0) where
  pub default_types-Slash : default_types {P = P} {L = L} {I = I} {A = A} {D = D} {T = T} parameter.Slash ≡ []
  default_types-Slash = ap (default_types {P = P} {L = L} {I = I} {A = A} {D = D} {T = T}) (sym parameter.rolls-Slash) ∙ para-roll-ParameterP P L I A D T _ _ _ _ _ _ _ _ _ (Unit {0}) argument_step target_step clause_step expr_step parameter_step call_args_step fstring_step for_clause_step lambda_step (λ x. tt) layer.Slash

  pub default_types-NoArgs : default_types {P = P} {L = L} {I = I} {A = A} {D = D} {T = T} parameter.NoArgs ≡ []
  default_types-NoArgs = ap (default_types {P = P} {L = L} {I = I} {A = A} {D = D} {T = T}) (sym parameter.rolls-NoArgs) ∙ para-roll-ParameterP P L I A D T _ _ _ _ _ _ _ _ _ (Unit {0}) argument_step target_step clause_step expr_step parameter_step call_args_step fstring_step for_clause_step lambda_step (λ x. tt) layer.NoArgs

  pub expr_types-Literal : (x : AstLiteral) → expr_types {P = P} {L = L} {I = I} {A = A} {D = D} {T = T} (expr.Literal x) ≡ []
  expr_types-Literal x = ap (expr_types {P = P} {L = L} {I = I} {A = A} {D = D} {T = T}) (sym (expr.rolls-Literal x)) ∙ para-roll-ExprP P L I A D T _ _ _ _ _ _ _ _ _ (Unit {0}) argument_step target_step clause_step expr_step parameter_step call_args_step fstring_step for_clause_step lambda_step (λ x. tt) (layer.Literal x)
