-- The view of each variant of an expression, and of what stands in it: equations of View.
use Rattle.std.proofs.Common.{◌≡◌, refl, sym, ap, ◌∙◌, List, [], ◌∷◌, map, fold, Option, Some, None}
use Rattle.std.specs.declared.alloc.Global.{Global}
use Rattle.std.specs.declared.boxed.Box.{Box}
use Rattle.std.specs.declared.string.String.{String}
use Rattle.std.specs.declared.vec.Vec.{Vec}
use Rattle.std.specs.Prelude.{string_bytes}
use Rattle.starlark_place.specs.Place.{Extent}
use Rattle.starlark_place.specs.declared.pos.Spanned.{Spanned}
use Rattle.starlark_ast.specs.Tree as tree
use Rattle.starlark_ast.specs.View.{argument_step, target_step, clause_step, expr_step, parameter_step, call_args_step, fstring_step, for_clause_step, lambda_step, type_step, expr_view, expr_at, target_view, target_at, argument_view, argument_at, parameter_view, parameter_at, parameter_of, clause_view, for_clause_view, call_args_view, fstring_view, lambda_view, type_view, boxed_type, boxed_expr, literal_view, ident_view, assigned_view, members}
use Rattle.starlark_ast.specs.declared.ast.AstLiteral.{AstLiteral}
use Rattle.starlark_ast.specs.declared.ast.BinOp.{BinOp}
use Rattle.starlark_ast.specs.declared.ast.IdentP.{IdentP}
use Rattle.starlark_ast.specs.declared.ast.AssignIdentP.{AssignIdentP}
use Rattle.starlark_ast.specs.declared.ast.ArgumentP.{fold-roll-ArgumentP}
use Rattle.starlark_ast.specs.declared.ast.AssignTargetP.{AssignTargetP, fold-roll-AssignTargetP}
use Rattle.starlark_ast.specs.declared.ast.ClauseP.{ClauseP, fold-roll-ClauseP}
use Rattle.starlark_ast.specs.declared.ast.ExprP.{ExprP, fold-roll-ExprP}
use Rattle.starlark_ast.specs.declared.ast.ParameterP.{fold-roll-ParameterP}
use Rattle.starlark_ast.specs.declared.ast.CallArgsP.{CallArgsP, fold_out-CallArgsP}
use Rattle.starlark_ast.specs.declared.ast.FStringP.{FStringP, fold_out-FStringP}
use Rattle.starlark_ast.specs.declared.ast.ForClauseP.{ForClauseP, fold_out-ForClauseP}
use Rattle.starlark_ast.specs.declared.ast.LambdaP.{LambdaP, fold_out-LambdaP}
use Rattle.starlark_ast.specs.declared.ast.TypeExprP.{TypeExprP, fold_out-TypeExprP}
use Rattle.starlark_ast.specs.declared.ast.ExprP.TheVariants as expr
use Rattle.starlark_ast.specs.declared.ast.ArgumentP.TheVariants as argument
use Rattle.starlark_ast.specs.declared.ast.ParameterP.TheVariants as param
use Rattle.starlark_ast.specs.declared.ast.AssignTargetP.TheVariants as target
use Rattle.starlark_ast.specs.declared.ast.ClauseP.TheVariants as clause
use Rattle.starlark_ast.specs.declared.ast.ArgumentP.TheOpen as layer

-- a list of what was made of each
pub members-map : {X Y : Type 0} (h : Y → tree.Member) (f : X → Y) (ms : tree.Members) (xs : List X) → fold (λ ms x. tree.more ms (h x)) ms (map f xs) ≡ fold (λ ms x. tree.more ms (h (f x))) ms xs
members-map h f ms [] = refl
members-map h f ms (x ∷ xs) = members-map h f (tree.more ms (h (f x))) xs

pub clauses-map : {X : Type 0} (f : X → tree.Clause) (cs : tree.Clauses) (xs : List X) → fold tree.and_clause cs (map f xs) ≡ fold (λ cs x. tree.and_clause cs (f x)) cs xs
clauses-map f cs [] = refl
clauses-map f cs (x ∷ xs) = clauses-map f (tree.and_clause cs (f x)) xs

module _ {P L I A D T : Type 0} where
  -- lists of nodes as plain data
  abbrev pub items_of : List (Spanned (ExprP P L I A D T)) → tree.Members
  items_of xs = members (λ x. tree.item (expr_at x)) xs

  abbrev pub pairs_of : List (Spanned (ExprP P L I A D T) × Spanned (ExprP P L I A D T)) → tree.Members
  pairs_of xs = members (λ x. tree.pair (expr_at x.0) (expr_at x.1)) xs

  abbrev pub targets_of : List (Spanned (AssignTargetP P L I A D T)) → tree.Members
  targets_of xs = members (λ x. tree.item (target_at x)) xs

  abbrev pub clauses_of : ForClauseP P L I A D T → List (ClauseP P L I A D T) → tree.Clauses
  clauses_of first rest = fold (λ cs x. tree.and_clause cs (clause_view x)) (tree.and_clause tree.no_clauses (for_clause_view first)) rest

  pub expr_view-Tuple : (xs : Vec (Spanned (ExprP P L I A D T)) Global) (s : Extent) → expr_view (expr.Tuple xs) s ≡ tree.tuple (items_of xs.items) s
  expr_view-Tuple xs s = ap (λ q. expr_view q s) (sym (expr.rolls-Tuple xs)) ∙ ap (λ q. q s) (fold-roll-ExprP P L I A D T _ _ _ _ _ _ _ _ _ _ argument_step target_step clause_step expr_step parameter_step call_args_step fstring_step for_clause_step lambda_step type_step (layer.ExprP::Tuple xs)) ∙ ap (λ q. tree.tuple q s) (members-map _ _ tree.none xs.items)

  pub expr_view-Dot : (x : Box (Spanned (ExprP P L I A D T)) Global) (name : Spanned (String Global)) (s : Extent) → expr_view (expr.Dot x name) s ≡ tree.dot (expr_at x.value) (string_bytes name.node) name.span s
  expr_view-Dot x name s = ap (λ q. expr_view q s) (sym (expr.rolls-Dot x name)) ∙ ap (λ q. q s) (fold-roll-ExprP P L I A D T _ _ _ _ _ _ _ _ _ _ argument_step target_step clause_step expr_step parameter_step call_args_step fstring_step for_clause_step lambda_step type_step (layer.ExprP::Dot x name))

  pub expr_view-Call : (x : Box (Spanned (ExprP P L I A D T)) Global) (args : CallArgsP P L I A D T) (s : Extent) → expr_view (expr.Call x args) s ≡ tree.call (expr_at x.value) (call_args_view args) s
  expr_view-Call x args s = ap (λ q. expr_view q s) (sym (expr.rolls-Call x args)) ∙ ap (λ q. q s) (fold-roll-ExprP P L I A D T _ _ _ _ _ _ _ _ _ _ argument_step target_step clause_step expr_step parameter_step call_args_step fstring_step for_clause_step lambda_step type_step (layer.Call x args))

  pub expr_view-Index : (x : Box (Spanned (ExprP P L I A D T) × Spanned (ExprP P L I A D T)) Global) (s : Extent) → expr_view (expr.Index x) s ≡ tree.index (expr_at x.value.0) (tree.single (expr_at x.value.1)) s
  expr_view-Index x s = ap (λ q. expr_view q s) (sym (expr.rolls-Index x)) ∙ ap (λ q. q s) (fold-roll-ExprP P L I A D T _ _ _ _ _ _ _ _ _ _ argument_step target_step clause_step expr_step parameter_step call_args_step fstring_step for_clause_step lambda_step type_step (layer.ExprP::Index x))

  pub expr_view-Index2 : (x : Box (Spanned (ExprP P L I A D T) × Spanned (ExprP P L I A D T) × Spanned (ExprP P L I A D T)) Global) (s : Extent) → expr_view (expr.Index2 x) s ≡ tree.index (expr_at x.value.0) (tree.double (expr_at x.value.1) (expr_at x.value.2)) s
  expr_view-Index2 x s = ap (λ q. expr_view q s) (sym (expr.rolls-Index2 x)) ∙ ap (λ q. q s) (fold-roll-ExprP P L I A D T _ _ _ _ _ _ _ _ _ _ argument_step target_step clause_step expr_step parameter_step call_args_step fstring_step for_clause_step lambda_step type_step (layer.Index2 x))

  pub expr_view-Slice : (x : Box (Spanned (ExprP P L I A D T)) Global) (a : Option (Box (Spanned (ExprP P L I A D T)) Global)) (b : Option (Box (Spanned (ExprP P L I A D T)) Global)) (c : Option (Box (Spanned (ExprP P L I A D T)) Global)) (s : Extent) → expr_view (expr.Slice x a b c) s ≡ tree.index (expr_at x.value) (tree.slice (boxed_expr a) (boxed_expr b) (boxed_expr c)) s
  expr_view-Slice x None None None s = ap (λ q. expr_view q s) (sym (expr.rolls-Slice x None None None)) ∙ ap (λ q. q s) (fold-roll-ExprP P L I A D T _ _ _ _ _ _ _ _ _ _ argument_step target_step clause_step expr_step parameter_step call_args_step fstring_step for_clause_step lambda_step type_step (layer.Slice x None None None))
  expr_view-Slice x None None (Some c) s = ap (λ q. expr_view q s) (sym (expr.rolls-Slice x None None (Some c))) ∙ ap (λ q. q s) (fold-roll-ExprP P L I A D T _ _ _ _ _ _ _ _ _ _ argument_step target_step clause_step expr_step parameter_step call_args_step fstring_step for_clause_step lambda_step type_step (layer.Slice x None None (Some c)))
  expr_view-Slice x None (Some b) None s = ap (λ q. expr_view q s) (sym (expr.rolls-Slice x None (Some b) None)) ∙ ap (λ q. q s) (fold-roll-ExprP P L I A D T _ _ _ _ _ _ _ _ _ _ argument_step target_step clause_step expr_step parameter_step call_args_step fstring_step for_clause_step lambda_step type_step (layer.Slice x None (Some b) None))
  expr_view-Slice x None (Some b) (Some c) s = ap (λ q. expr_view q s) (sym (expr.rolls-Slice x None (Some b) (Some c))) ∙ ap (λ q. q s) (fold-roll-ExprP P L I A D T _ _ _ _ _ _ _ _ _ _ argument_step target_step clause_step expr_step parameter_step call_args_step fstring_step for_clause_step lambda_step type_step (layer.Slice x None (Some b) (Some c)))
  expr_view-Slice x (Some a) None None s = ap (λ q. expr_view q s) (sym (expr.rolls-Slice x (Some a) None None)) ∙ ap (λ q. q s) (fold-roll-ExprP P L I A D T _ _ _ _ _ _ _ _ _ _ argument_step target_step clause_step expr_step parameter_step call_args_step fstring_step for_clause_step lambda_step type_step (layer.Slice x (Some a) None None))
  expr_view-Slice x (Some a) None (Some c) s = ap (λ q. expr_view q s) (sym (expr.rolls-Slice x (Some a) None (Some c))) ∙ ap (λ q. q s) (fold-roll-ExprP P L I A D T _ _ _ _ _ _ _ _ _ _ argument_step target_step clause_step expr_step parameter_step call_args_step fstring_step for_clause_step lambda_step type_step (layer.Slice x (Some a) None (Some c)))
  expr_view-Slice x (Some a) (Some b) None s = ap (λ q. expr_view q s) (sym (expr.rolls-Slice x (Some a) (Some b) None)) ∙ ap (λ q. q s) (fold-roll-ExprP P L I A D T _ _ _ _ _ _ _ _ _ _ argument_step target_step clause_step expr_step parameter_step call_args_step fstring_step for_clause_step lambda_step type_step (layer.Slice x (Some a) (Some b) None))
  expr_view-Slice x (Some a) (Some b) (Some c) s = ap (λ q. expr_view q s) (sym (expr.rolls-Slice x (Some a) (Some b) (Some c))) ∙ ap (λ q. q s) (fold-roll-ExprP P L I A D T _ _ _ _ _ _ _ _ _ _ argument_step target_step clause_step expr_step parameter_step call_args_step fstring_step for_clause_step lambda_step type_step (layer.Slice x (Some a) (Some b) (Some c)))

  pub expr_view-Identifier : (x : Spanned (IdentP P L I A D T)) (s : Extent) → expr_view (expr.Identifier x) s ≡ ident_view x s
  expr_view-Identifier x s = ap (λ q. expr_view q s) (sym (expr.rolls-Identifier x)) ∙ ap (λ q. q s) (fold-roll-ExprP P L I A D T _ _ _ _ _ _ _ _ _ _ argument_step target_step clause_step expr_step parameter_step call_args_step fstring_step for_clause_step lambda_step type_step (layer.ExprP::Identifier x))

  pub expr_view-Lambda : (x : LambdaP P L I A D T) (s : Extent) → expr_view (expr.Lambda x) s ≡ lambda_view x s
  expr_view-Lambda x s = ap (λ q. expr_view q s) (sym (expr.rolls-Lambda x)) ∙ ap (λ q. q s) (fold-roll-ExprP P L I A D T _ _ _ _ _ _ _ _ _ _ argument_step target_step clause_step expr_step parameter_step call_args_step fstring_step for_clause_step lambda_step type_step (layer.Lambda x))

  pub expr_view-Not : (x : Box (Spanned (ExprP P L I A D T)) Global) (s : Extent) → expr_view (expr.Not x) s ≡ tree.signed tree.Not (expr_at x.value) s
  expr_view-Not x s = ap (λ q. expr_view q s) (sym (expr.rolls-Not x)) ∙ ap (λ q. q s) (fold-roll-ExprP P L I A D T _ _ _ _ _ _ _ _ _ _ argument_step target_step clause_step expr_step parameter_step call_args_step fstring_step for_clause_step lambda_step type_step (layer.Not x))

  pub expr_view-Minus : (x : Box (Spanned (ExprP P L I A D T)) Global) (s : Extent) → expr_view (expr.Minus x) s ≡ tree.signed tree.Minus (expr_at x.value) s
  expr_view-Minus x s = ap (λ q. expr_view q s) (sym (expr.rolls-Minus x)) ∙ ap (λ q. q s) (fold-roll-ExprP P L I A D T _ _ _ _ _ _ _ _ _ _ argument_step target_step clause_step expr_step parameter_step call_args_step fstring_step for_clause_step lambda_step type_step (layer.Minus x))

  pub expr_view-Plus : (x : Box (Spanned (ExprP P L I A D T)) Global) (s : Extent) → expr_view (expr.Plus x) s ≡ tree.signed tree.Plus (expr_at x.value) s
  expr_view-Plus x s = ap (λ q. expr_view q s) (sym (expr.rolls-Plus x)) ∙ ap (λ q. q s) (fold-roll-ExprP P L I A D T _ _ _ _ _ _ _ _ _ _ argument_step target_step clause_step expr_step parameter_step call_args_step fstring_step for_clause_step lambda_step type_step (layer.Plus x))

  pub expr_view-BitNot : (x : Box (Spanned (ExprP P L I A D T)) Global) (s : Extent) → expr_view (expr.BitNot x) s ≡ tree.signed tree.BitNot (expr_at x.value) s
  expr_view-BitNot x s = ap (λ q. expr_view q s) (sym (expr.rolls-BitNot x)) ∙ ap (λ q. q s) (fold-roll-ExprP P L I A D T _ _ _ _ _ _ _ _ _ _ argument_step target_step clause_step expr_step parameter_step call_args_step fstring_step for_clause_step lambda_step type_step (layer.BitNot x))

  pub expr_view-Op : (x : Box (Spanned (ExprP P L I A D T)) Global) (o : BinOp) (y : Box (Spanned (ExprP P L I A D T)) Global) (s : Extent) → expr_view (expr.Op x o y) s ≡ tree.operation (expr_at x.value) o (expr_at y.value) s
  expr_view-Op x o y s = ap (λ q. expr_view q s) (sym (expr.rolls-Op x o y)) ∙ ap (λ q. q s) (fold-roll-ExprP P L I A D T _ _ _ _ _ _ _ _ _ _ argument_step target_step clause_step expr_step parameter_step call_args_step fstring_step for_clause_step lambda_step type_step (layer.Op x o y))

  pub expr_view-If : (x : Box (Spanned (ExprP P L I A D T) × Spanned (ExprP P L I A D T) × Spanned (ExprP P L I A D T)) Global) (s : Extent) → expr_view (expr.If x) s ≡ tree.choice (expr_at x.value.0) (expr_at x.value.1) (expr_at x.value.2) s
  expr_view-If x s = ap (λ q. expr_view q s) (sym (expr.rolls-If x)) ∙ ap (λ q. q s) (fold-roll-ExprP P L I A D T _ _ _ _ _ _ _ _ _ _ argument_step target_step clause_step expr_step parameter_step call_args_step fstring_step for_clause_step lambda_step type_step (layer.ExprP::If x))

  pub expr_view-List : (xs : Vec (Spanned (ExprP P L I A D T)) Global) (s : Extent) → expr_view (expr.List xs) s ≡ tree.list (items_of xs.items) s
  expr_view-List xs s = ap (λ q. expr_view q s) (sym (expr.rolls-List xs)) ∙ ap (λ q. q s) (fold-roll-ExprP P L I A D T _ _ _ _ _ _ _ _ _ _ argument_step target_step clause_step expr_step parameter_step call_args_step fstring_step for_clause_step lambda_step type_step (layer.List xs)) ∙ ap (λ q. tree.list q s) (members-map _ _ tree.none xs.items)

  pub expr_view-Dict : (xs : Vec (Spanned (ExprP P L I A D T) × Spanned (ExprP P L I A D T)) Global) (s : Extent) → expr_view (expr.Dict xs) s ≡ tree.dict (pairs_of xs.items) s
  expr_view-Dict xs s = ap (λ q. expr_view q s) (sym (expr.rolls-Dict xs)) ∙ ap (λ q. q s) (fold-roll-ExprP P L I A D T _ _ _ _ _ _ _ _ _ _ argument_step target_step clause_step expr_step parameter_step call_args_step fstring_step for_clause_step lambda_step type_step (layer.Dict xs)) ∙ ap (λ q. tree.dict q s) (members-map _ _ tree.none xs.items)

  pub expr_view-ListComprehension : (x : Box (Spanned (ExprP P L I A D T)) Global) (first : Box (ForClauseP P L I A D T) Global) (rest : Vec (ClauseP P L I A D T) Global) (s : Extent) → expr_view (expr.ListComprehension x first rest) s ≡ tree.comprehension (tree.item (expr_at x.value)) (clauses_of first.value rest.items) s
  expr_view-ListComprehension x first rest s = ap (λ q. expr_view q s) (sym (expr.rolls-ListComprehension x first rest)) ∙ ap (λ q. q s) (fold-roll-ExprP P L I A D T _ _ _ _ _ _ _ _ _ _ argument_step target_step clause_step expr_step parameter_step call_args_step fstring_step for_clause_step lambda_step type_step (layer.ListComprehension x first rest)) ∙ ap (λ q. tree.comprehension (tree.item (expr_at x.value)) q s) (clauses-map clause_view _ rest.items)

  pub expr_view-DictComprehension : (x : Box (Spanned (ExprP P L I A D T) × Spanned (ExprP P L I A D T)) Global) (first : Box (ForClauseP P L I A D T) Global) (rest : Vec (ClauseP P L I A D T) Global) (s : Extent) → expr_view (expr.DictComprehension x first rest) s ≡ tree.comprehension (tree.pair (expr_at x.value.0) (expr_at x.value.1)) (clauses_of first.value rest.items) s
  expr_view-DictComprehension x first rest s = ap (λ q. expr_view q s) (sym (expr.rolls-DictComprehension x first rest)) ∙ ap (λ q. q s) (fold-roll-ExprP P L I A D T _ _ _ _ _ _ _ _ _ _ argument_step target_step clause_step expr_step parameter_step call_args_step fstring_step for_clause_step lambda_step type_step (layer.DictComprehension x first rest)) ∙ ap (λ q. tree.comprehension (tree.pair (expr_at x.value.0) (expr_at x.value.1)) q s) (clauses-map clause_view _ rest.items)

  pub expr_view-FString : (x : Spanned (FStringP P L I A D T)) (s : Extent) → expr_view (expr.FString x) s ≡ fstring_view x.node x.span s
  expr_view-FString x s = ap (λ q. expr_view q s) (sym (expr.rolls-FString x)) ∙ ap (λ q. q s) (fold-roll-ExprP P L I A D T _ _ _ _ _ _ _ _ _ _ argument_step target_step clause_step expr_step parameter_step call_args_step fstring_step for_clause_step lambda_step type_step (layer.FString x))

  pub argument_view-Positional : (x : Spanned (ExprP P L I A D T)) (s : Extent) → argument_view (argument.Positional x) s ≡ tree.positional (expr_at x) s
  argument_view-Positional x s = ap (λ q. argument_view q s) (sym (argument.rolls-Positional x)) ∙ ap (λ q. q s) (fold-roll-ArgumentP P L I A D T _ _ _ _ _ _ _ _ _ _ argument_step target_step clause_step expr_step parameter_step call_args_step fstring_step for_clause_step lambda_step type_step (layer.Positional x))

  pub argument_view-Named : (n : Spanned (String Global)) (x : Spanned (ExprP P L I A D T)) (s : Extent) → argument_view (argument.Named n x) s ≡ tree.named (string_bytes n.node) n.span (expr_at x) s
  argument_view-Named n x s = ap (λ q. argument_view q s) (sym (argument.rolls-Named n x)) ∙ ap (λ q. q s) (fold-roll-ArgumentP P L I A D T _ _ _ _ _ _ _ _ _ _ argument_step target_step clause_step expr_step parameter_step call_args_step fstring_step for_clause_step lambda_step type_step (layer.Named n x))

  pub argument_view-Args : (x : Spanned (ExprP P L I A D T)) (s : Extent) → argument_view (argument.Args x) s ≡ tree.args (expr_at x) s
  argument_view-Args x s = ap (λ q. argument_view q s) (sym (argument.rolls-Args x)) ∙ ap (λ q. q s) (fold-roll-ArgumentP P L I A D T _ _ _ _ _ _ _ _ _ _ argument_step target_step clause_step expr_step parameter_step call_args_step fstring_step for_clause_step lambda_step type_step (layer.ArgumentP::Args x))

  pub argument_view-KwArgs : (x : Spanned (ExprP P L I A D T)) (s : Extent) → argument_view (argument.KwArgs x) s ≡ tree.kwargs (expr_at x) s
  argument_view-KwArgs x s = ap (λ q. argument_view q s) (sym (argument.rolls-KwArgs x)) ∙ ap (λ q. q s) (fold-roll-ArgumentP P L I A D T _ _ _ _ _ _ _ _ _ _ argument_step target_step clause_step expr_step parameter_step call_args_step fstring_step for_clause_step lambda_step type_step (layer.ArgumentP::KwArgs x))

  pub parameter_view-Normal : (x : Spanned (AssignIdentP P L I A D T)) (t : Option (Box (Spanned (TypeExprP P L I A D T)) Global)) (d : Option (Box (Spanned (ExprP P L I A D T)) Global)) (s : Extent) → parameter_view (param.Normal x t d) s ≡ parameter_of tree.plain x (boxed_type t) (boxed_expr d) s
  parameter_view-Normal x None None s = ap (λ q. parameter_view q s) (sym (param.rolls-Normal x None None)) ∙ ap (λ q. q s) (fold-roll-ParameterP P L I A D T _ _ _ _ _ _ _ _ _ _ argument_step target_step clause_step expr_step parameter_step call_args_step fstring_step for_clause_step lambda_step type_step (layer.Normal x None None))
  parameter_view-Normal x None (Some d) s = ap (λ q. parameter_view q s) (sym (param.rolls-Normal x None (Some d))) ∙ ap (λ q. q s) (fold-roll-ParameterP P L I A D T _ _ _ _ _ _ _ _ _ _ argument_step target_step clause_step expr_step parameter_step call_args_step fstring_step for_clause_step lambda_step type_step (layer.Normal x None (Some d)))
  parameter_view-Normal x (Some t) None s = ap (λ q. parameter_view q s) (sym (param.rolls-Normal x (Some t) None)) ∙ ap (λ q. q s) (fold-roll-ParameterP P L I A D T _ _ _ _ _ _ _ _ _ _ argument_step target_step clause_step expr_step parameter_step call_args_step fstring_step for_clause_step lambda_step type_step (layer.Normal x (Some t) None))
  parameter_view-Normal x (Some t) (Some d) s = ap (λ q. parameter_view q s) (sym (param.rolls-Normal x (Some t) (Some d))) ∙ ap (λ q. q s) (fold-roll-ParameterP P L I A D T _ _ _ _ _ _ _ _ _ _ argument_step target_step clause_step expr_step parameter_step call_args_step fstring_step for_clause_step lambda_step type_step (layer.Normal x (Some t) (Some d)))

  pub parameter_view-Args : (x : Spanned (AssignIdentP P L I A D T)) (t : Option (Box (Spanned (TypeExprP P L I A D T)) Global)) (s : Extent) → parameter_view (param.Args x t) s ≡ parameter_of tree.starred x (boxed_type t) tree.absent s
  parameter_view-Args x None s = ap (λ q. parameter_view q s) (sym (param.rolls-Args x None)) ∙ ap (λ q. q s) (fold-roll-ParameterP P L I A D T _ _ _ _ _ _ _ _ _ _ argument_step target_step clause_step expr_step parameter_step call_args_step fstring_step for_clause_step lambda_step type_step (layer.ParameterP::Args x None))
  parameter_view-Args x (Some t) s = ap (λ q. parameter_view q s) (sym (param.rolls-Args x (Some t))) ∙ ap (λ q. q s) (fold-roll-ParameterP P L I A D T _ _ _ _ _ _ _ _ _ _ argument_step target_step clause_step expr_step parameter_step call_args_step fstring_step for_clause_step lambda_step type_step (layer.ParameterP::Args x (Some t)))

  pub parameter_view-KwArgs : (x : Spanned (AssignIdentP P L I A D T)) (t : Option (Box (Spanned (TypeExprP P L I A D T)) Global)) (s : Extent) → parameter_view (param.KwArgs x t) s ≡ parameter_of tree.double_starred x (boxed_type t) tree.absent s
  parameter_view-KwArgs x None s = ap (λ q. parameter_view q s) (sym (param.rolls-KwArgs x None)) ∙ ap (λ q. q s) (fold-roll-ParameterP P L I A D T _ _ _ _ _ _ _ _ _ _ argument_step target_step clause_step expr_step parameter_step call_args_step fstring_step for_clause_step lambda_step type_step (layer.ParameterP::KwArgs x None))
  parameter_view-KwArgs x (Some t) s = ap (λ q. parameter_view q s) (sym (param.rolls-KwArgs x (Some t))) ∙ ap (λ q. q s) (fold-roll-ParameterP P L I A D T _ _ _ _ _ _ _ _ _ _ argument_step target_step clause_step expr_step parameter_step call_args_step fstring_step for_clause_step lambda_step type_step (layer.ParameterP::KwArgs x (Some t)))

  pub target_view-Tuple : (xs : Vec (Spanned (AssignTargetP P L I A D T)) Global) (s : Extent) → target_view (target.Tuple xs) s ≡ tree.tuple (targets_of xs.items) s
  target_view-Tuple xs s = ap (λ q. target_view q s) (sym (target.rolls-Tuple xs)) ∙ ap (λ q. q s) (fold-roll-AssignTargetP P L I A D T _ _ _ _ _ _ _ _ _ _ argument_step target_step clause_step expr_step parameter_step call_args_step fstring_step for_clause_step lambda_step type_step (layer.AssignTargetP::Tuple xs)) ∙ ap (λ q. tree.tuple q s) (members-map _ _ tree.none xs.items)

  pub target_view-Index : (x : Box (Spanned (ExprP P L I A D T) × Spanned (ExprP P L I A D T)) Global) (s : Extent) → target_view (target.Index x) s ≡ tree.index (expr_at x.value.0) (tree.single (expr_at x.value.1)) s
  target_view-Index x s = ap (λ q. target_view q s) (sym (target.rolls-Index x)) ∙ ap (λ q. q s) (fold-roll-AssignTargetP P L I A D T _ _ _ _ _ _ _ _ _ _ argument_step target_step clause_step expr_step parameter_step call_args_step fstring_step for_clause_step lambda_step type_step (layer.AssignTargetP::Index x))

  pub target_view-Dot : (x : Box (Spanned (ExprP P L I A D T)) Global) (name : Spanned (String Global)) (s : Extent) → target_view (target.Dot x name) s ≡ tree.dot (expr_at x.value) (string_bytes name.node) name.span s
  target_view-Dot x name s = ap (λ q. target_view q s) (sym (target.rolls-Dot x name)) ∙ ap (λ q. q s) (fold-roll-AssignTargetP P L I A D T _ _ _ _ _ _ _ _ _ _ argument_step target_step clause_step expr_step parameter_step call_args_step fstring_step for_clause_step lambda_step type_step (layer.AssignTargetP::Dot x name))

  pub target_view-Identifier : (x : Spanned (AssignIdentP P L I A D T)) (s : Extent) → target_view (target.Identifier x) s ≡ assigned_view x s
  target_view-Identifier x s = ap (λ q. target_view q s) (sym (target.rolls-Identifier x)) ∙ ap (λ q. q s) (fold-roll-AssignTargetP P L I A D T _ _ _ _ _ _ _ _ _ _ argument_step target_step clause_step expr_step parameter_step call_args_step fstring_step for_clause_step lambda_step type_step (layer.AssignTargetP::Identifier x))

  pub clause_view-For : (x : ForClauseP P L I A D T) → clause_view (clause.For x) ≡ for_clause_view x
  clause_view-For x = ap (λ q. clause_view q) (sym (clause.rolls-For x)) ∙ fold-roll-ClauseP P L I A D T _ _ _ _ _ _ _ _ _ _ argument_step target_step clause_step expr_step parameter_step call_args_step fstring_step for_clause_step lambda_step type_step (layer.For x)

  pub clause_view-If : (x : Spanned (ExprP P L I A D T)) → clause_view (clause.If x) ≡ tree.if_clause (expr_at x)
  clause_view-If x = ap (λ q. clause_view q) (sym (clause.rolls-If x)) ∙ fold-roll-ClauseP P L I A D T _ _ _ _ _ _ _ _ _ _ argument_step target_step clause_step expr_step parameter_step call_args_step fstring_step for_clause_step lambda_step type_step (layer.ClauseP::If x)

  pub view-args : (x : CallArgsP P L I A D T) → call_args_view x ≡ members argument_at x.args.items
  view-args x = fold_out-CallArgsP P L I A D T _ _ _ _ _ _ _ _ _ _ argument_step target_step clause_step expr_step parameter_step call_args_step fstring_step for_clause_step lambda_step type_step x ∙ members-map _ _ tree.none x.args.items

  pub view-fstring : (x : FStringP P L I A D T) (u s : Extent) → fstring_view x u s ≡ tree.fstring (string_bytes x.format.node) x.format.span (items_of x.expressions.items) u s
  view-fstring x u s = ap (λ q. q u s) (fold_out-FStringP P L I A D T _ _ _ _ _ _ _ _ _ _ argument_step target_step clause_step expr_step parameter_step call_args_step fstring_step for_clause_step lambda_step type_step x) ∙ ap (λ q. tree.fstring (string_bytes x.format.node) x.format.span q u s) (members-map _ _ tree.none x.expressions.items)

  pub view-for_clause : (x : ForClauseP P L I A D T) → for_clause_view x ≡ tree.for_clause (target_at x.var) (expr_at x.over)
  view-for_clause x = fold_out-ForClauseP P L I A D T _ _ _ _ _ _ _ _ _ _ argument_step target_step clause_step expr_step parameter_step call_args_step fstring_step for_clause_step lambda_step type_step x

  pub view-lambda : (x : LambdaP P L I A D T) (s : Extent) → lambda_view x s ≡ tree.lambda (members parameter_at x.params.items) (expr_at x.body.value) s
  view-lambda x s = ap (λ q. q s) (fold_out-LambdaP P L I A D T _ _ _ _ _ _ _ _ _ _ argument_step target_step clause_step expr_step parameter_step call_args_step fstring_step for_clause_step lambda_step type_step x) ∙ ap (λ q. tree.lambda q (expr_at x.body.value) s) (members-map _ _ tree.none x.params.items)

  pub view-type : (x : TypeExprP P L I A D T) (s : Extent) → type_view x s ≡ tree.typed (expr_at x.expr) s
  view-type x s = ap (λ q. q s) (fold_out-TypeExprP P L I A D T _ _ _ _ _ _ _ _ _ _ argument_step target_step clause_step expr_step parameter_step call_args_step fstring_step for_clause_step lambda_step type_step x)

-- without a part that names the payloads
module _ (P L I A D T : Type 0) where
  pub expr_view-Literal : (x : AstLiteral) (s : Extent) → expr_view {P = P} {L = L} {I = I} {A = A} {D = D} {T = T} (expr.Literal x) s ≡ literal_view x s
  expr_view-Literal x s = ap (λ q. expr_view {P = P} {L = L} {I = I} {A = A} {D = D} {T = T} q s) (sym (expr.rolls-Literal x)) ∙ ap (λ q. q s) (fold-roll-ExprP P L I A D T _ _ _ _ _ _ _ _ _ _ argument_step target_step clause_step expr_step parameter_step call_args_step fstring_step for_clause_step lambda_step type_step (layer.Literal x))

  pub parameter_view-Slash : (s : Extent) → parameter_view {P = P} {L = L} {I = I} {A = A} {D = D} {T = T} param.Slash s ≡ tree.slash s
  parameter_view-Slash s = ap (λ q. parameter_view {P = P} {L = L} {I = I} {A = A} {D = D} {T = T} q s) (sym (param.rolls-Slash)) ∙ ap (λ q. q s) (fold-roll-ParameterP P L I A D T _ _ _ _ _ _ _ _ _ _ argument_step target_step clause_step expr_step parameter_step call_args_step fstring_step for_clause_step lambda_step type_step (layer.Slash))

  pub parameter_view-NoArgs : (s : Extent) → parameter_view {P = P} {L = L} {I = I} {A = A} {D = D} {T = T} param.NoArgs s ≡ tree.no_args s
  parameter_view-NoArgs s = ap (λ q. parameter_view {P = P} {L = L} {I = I} {A = A} {D = D} {T = T} q s) (sym (param.rolls-NoArgs)) ∙ ap (λ q. q s) (fold-roll-ParameterP P L I A D T _ _ _ _ _ _ _ _ _ _ argument_step target_step clause_step expr_step parameter_step call_args_step fstring_step for_clause_step lambda_step type_step (layer.NoArgs))
