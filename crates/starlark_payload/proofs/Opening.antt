-- The nodes of trees that hold lists, or what may not be there: their plain data, their payloads and their weights.
use Rattle.std.proofs.Common.{◌≡◌, refl, sym, ap, ◌∙◌, List, [], ◌∷◌, ◌++◌, ℕ, suc, ◌+◌, map, flat_map, Option, Some, None, string_bytes}
use Rattle.std.proofs.lemmas.List.Folds.{flat_map-map}
use mathlib.Core.Path.{fun_ext}
use Rattle.std.specs.Option.{option_map}
use Rattle.std.specs.declared.alloc.Global.{Global}
use Rattle.std.specs.declared.boxed.Box.{Box}
use Rattle.std.specs.declared.vec.Vec.{Vec}
use Rattle.starlark_place.specs.declared.pos.Spanned.{Spanned}
use Rattle.starlark_ast.specs.Tree as tree
use Rattle.starlark_ast.specs.View.{argument_view, boxed_expr, boxed_type, clause_view, expr_at, expr_view, for_clause_view, members, parameter_of, parameter_view, target_view, type_view}
use Rattle.starlark_ast.specs.Views.{expr_view-Tuple, expr_view-Call, expr_view-Slice, expr_view-Lambda, expr_view-List, expr_view-Dict, expr_view-ListComprehension, expr_view-DictComprehension, expr_view-FString, parameter_view-Normal, target_view-Tuple, view-args, view-fstring, view-lambda, members-map, clauses-map}
use Rattle.starlark_ast.specs.declared.ast.AssignIdentP.{AssignIdentP}
use Rattle.starlark_ast.specs.declared.ast.AssignTargetP.{AssignTargetP, fold-roll-AssignTargetP}
use Rattle.starlark_ast.specs.declared.ast.ClauseP.{ClauseP}
use Rattle.starlark_ast.specs.declared.ast.ExprP.{ExprP, fold-roll-ExprP}
use Rattle.starlark_ast.specs.declared.ast.ParameterP.{fold-roll-ParameterP}
use Rattle.starlark_ast.specs.declared.ast.CallArgsP.{CallArgsP, fold_out-CallArgsP}
use Rattle.starlark_ast.specs.declared.ast.FStringP.{FStringP, fold_out-FStringP}
use Rattle.starlark_ast.specs.declared.ast.ForClauseP.{ForClauseP}
use Rattle.starlark_ast.specs.declared.ast.LambdaP.{LambdaP, fold_out-LambdaP}
use Rattle.starlark_ast.specs.declared.ast.TypeExprP.{TypeExprP}
use Rattle.starlark_ast.specs.declared.ast.ExprP.TheVariants as expr
use Rattle.starlark_ast.specs.declared.ast.ParameterP.TheVariants as param
use Rattle.starlark_ast.specs.declared.ast.AssignTargetP.TheVariants as target
use Rattle.starlark_ast.specs.declared.ast.ArgumentP.TheOpen as layer
use Rattle.starlark_payload.specs.Around.{annotation_of, both_at, both_view, bound_of, clauses_of, many_view, same_member}
use Rattle.starlark_payload.specs.Payloads.{OfDef, all_of, argument_payloads, argument_step, assigned_payloads, both_of, call_args_step, clause_payloads, clause_step, expr_payloads, expr_step, for_clause_payloads, for_clause_step, found, fstring_step, lambda_step, maybe_of, parameter_payloads, parameter_step, target_payloads, target_step, type_payloads, type_step}
use Rattle.starlark_payload.specs.Weights.{argument_weight, argument_weights, both_weight, call_args_weights, clause_weight, clause_weights, expr_weight, expr_weights, for_clause_weight, for_clause_weights, fstring_weights, known, lambda_weights, maybe_weight, node_weight, parameter_weight, parameter_weights, target_weight, target_weights, total, type_weight, type_weights, unboxed}
use Rattle.starlark_payload.specs.declared.nodes.AroundMany.TheVariants as many

pub total-map : {X Y : Type 0} (w : Y → ℕ) (f : X → Y) (xs : List X) → total w (map f xs) ≡ total (λ x. w (f x)) xs
total-map w f [] = refl
total-map w f (x ∷ xs) = ap (λ q. suc (w (f x) + q)) (total-map w f xs)

module _ {P L I A D T : Type 0} where
  bound_is : (a : Option (Box (Spanned (ExprP P L I A D T)) Global)) → boxed_expr a ≡ bound_of (option_map (λ y. expr_view y.node y.span) (unboxed a))
  bound_is None = refl
  bound_is (Some x) = refl

  annotation_is : (a : Option (Box (Spanned (TypeExprP P L I A D T)) Global)) → boxed_type a ≡ annotation_of (option_map (λ y. type_view y.node y.span) (unboxed a))
  annotation_is None = refl
  annotation_is (Some x) = refl

  pub Tuple_view : (xs : Vec (Spanned (ExprP P L I A D T)) Global) → expr_view (expr.Tuple xs) ≡ many_view many.Tuple (map (λ y. expr_view y.node y.span) xs.items)
  Tuple_view xs = fun_ext (λ s. expr_view-Tuple xs s ∙ ap (λ q. tree.tuple q s) (sym (members-map tree.item (λ y. expr_view y.node y.span) tree.none xs.items)))

  pub Tuple_payloads : (xs : Vec (Spanned (ExprP P L I A D T)) Global) → expr_payloads (expr.Tuple xs) ≡ all_of expr_payloads xs.items
  Tuple_payloads xs = ap expr_payloads (sym (expr.rolls-Tuple xs)) ∙ fold-roll-ExprP P L I A D T _ _ _ _ _ _ _ _ _ _ argument_step target_step clause_step expr_step parameter_step call_args_step fstring_step for_clause_step lambda_step type_step (layer.ExprP::Tuple xs) ∙ flat_map-map (λ x. x.node) _ xs.items

  pub Tuple_weight : (xs : Vec (Spanned (ExprP P L I A D T)) Global) → expr_weight (expr.Tuple xs) ≡ suc (total (node_weight expr_weight) xs.items)
  Tuple_weight xs = ap expr_weight (sym (expr.rolls-Tuple xs)) ∙ fold-roll-ExprP P L I A D T _ _ _ _ _ _ _ _ _ _ argument_weights target_weights clause_weights expr_weights parameter_weights call_args_weights fstring_weights for_clause_weights lambda_weights type_weights (layer.ExprP::Tuple xs) ∙ ap suc (total-map (node_weight known) _ xs.items)

  pub List_view : (xs : Vec (Spanned (ExprP P L I A D T)) Global) → expr_view (expr.List xs) ≡ many_view many.List (map (λ y. expr_view y.node y.span) xs.items)
  List_view xs = fun_ext (λ s. expr_view-List xs s ∙ ap (λ q. tree.list q s) (sym (members-map tree.item (λ y. expr_view y.node y.span) tree.none xs.items)))

  pub List_payloads : (xs : Vec (Spanned (ExprP P L I A D T)) Global) → expr_payloads (expr.List xs) ≡ all_of expr_payloads xs.items
  List_payloads xs = ap expr_payloads (sym (expr.rolls-List xs)) ∙ fold-roll-ExprP P L I A D T _ _ _ _ _ _ _ _ _ _ argument_step target_step clause_step expr_step parameter_step call_args_step fstring_step for_clause_step lambda_step type_step (layer.List xs) ∙ flat_map-map (λ x. x.node) _ xs.items

  pub List_weight : (xs : Vec (Spanned (ExprP P L I A D T)) Global) → expr_weight (expr.List xs) ≡ suc (total (node_weight expr_weight) xs.items)
  List_weight xs = ap expr_weight (sym (expr.rolls-List xs)) ∙ fold-roll-ExprP P L I A D T _ _ _ _ _ _ _ _ _ _ argument_weights target_weights clause_weights expr_weights parameter_weights call_args_weights fstring_weights for_clause_weights lambda_weights type_weights (layer.List xs) ∙ ap suc (total-map (node_weight known) _ xs.items)

  pub FString_view : (x : Spanned (FStringP P L I A D T)) → expr_view (expr.FString x) ≡ many_view (many.FString x.span x.node.format) (map (λ y. expr_view y.node y.span) x.node.expressions.items)
  FString_view x = fun_ext (λ s. expr_view-FString x s ∙ (view-fstring x.node x.span s ∙ ap (λ q. tree.fstring (string_bytes x.node.format.node) x.node.format.span q x.span s) (sym (members-map tree.item (λ y. expr_view y.node y.span) tree.none x.node.expressions.items))))

  pub FString_payloads : (x : Spanned (FStringP P L I A D T)) → expr_payloads (expr.FString x) ≡ all_of expr_payloads x.node.expressions.items
  FString_payloads x = ap expr_payloads (sym (expr.rolls-FString x)) ∙ fold-roll-ExprP P L I A D T _ _ _ _ _ _ _ _ _ _ argument_step target_step clause_step expr_step parameter_step call_args_step fstring_step for_clause_step lambda_step type_step (layer.FString x) ∙ (fold_out-FStringP P L I A D T _ _ _ _ _ _ _ _ _ _ argument_step target_step clause_step expr_step parameter_step call_args_step fstring_step for_clause_step lambda_step type_step x.node ∙ flat_map-map (λ x. x.node) _ x.node.expressions.items)

  pub FString_weight : (x : Spanned (FStringP P L I A D T)) → expr_weight (expr.FString x) ≡ suc (total (node_weight expr_weight) x.node.expressions.items)
  FString_weight x = ap expr_weight (sym (expr.rolls-FString x)) ∙ fold-roll-ExprP P L I A D T _ _ _ _ _ _ _ _ _ _ argument_weights target_weights clause_weights expr_weights parameter_weights call_args_weights fstring_weights for_clause_weights lambda_weights type_weights (layer.FString x) ∙ ap suc (fold_out-FStringP P L I A D T _ _ _ _ _ _ _ _ _ _ argument_weights target_weights clause_weights expr_weights parameter_weights call_args_weights fstring_weights for_clause_weights lambda_weights type_weights x.node ∙ total-map (node_weight known) _ x.node.expressions.items)

  pub Dict_view : (xs : Vec (Spanned (ExprP P L I A D T) × Spanned (ExprP P L I A D T)) Global) → expr_view (expr.Dict xs) ≡ tree.dict (members both_view (map (both_at expr_view) xs.items))
  Dict_view xs = fun_ext (λ s. expr_view-Dict xs s ∙ ap (λ q. tree.dict q s) (sym (members-map both_view (both_at expr_view) tree.none xs.items)))

  pub Dict_payloads : (xs : Vec (Spanned (ExprP P L I A D T) × Spanned (ExprP P L I A D T)) Global) → expr_payloads (expr.Dict xs) ≡ flat_map (both_of expr_payloads) xs.items
  Dict_payloads xs = ap expr_payloads (sym (expr.rolls-Dict xs)) ∙ fold-roll-ExprP P L I A D T _ _ _ _ _ _ _ _ _ _ argument_step target_step clause_step expr_step parameter_step call_args_step fstring_step for_clause_step lambda_step type_step (layer.Dict xs) ∙ flat_map-map (both_of found) _ xs.items

  pub Dict_weight : (xs : Vec (Spanned (ExprP P L I A D T) × Spanned (ExprP P L I A D T)) Global) → expr_weight (expr.Dict xs) ≡ suc (total (both_weight expr_weight) xs.items)
  Dict_weight xs = ap expr_weight (sym (expr.rolls-Dict xs)) ∙ fold-roll-ExprP P L I A D T _ _ _ _ _ _ _ _ _ _ argument_weights target_weights clause_weights expr_weights parameter_weights call_args_weights fstring_weights for_clause_weights lambda_weights type_weights (layer.Dict xs) ∙ ap suc (total-map (both_weight known) _ xs.items)

  pub Call_view : (x : Box (Spanned (ExprP P L I A D T)) Global) (a : CallArgsP P L I A D T) → expr_view (expr.Call x a) ≡ tree.call (expr_view x.value.node x.value.span) (members same_member (map (λ y. argument_view y.node y.span) a.args.items))
  Call_view x a = fun_ext (λ s. expr_view-Call x a s ∙ ap (λ q. tree.call (expr_at x.value) q s) (view-args a ∙ sym (members-map same_member (λ y. argument_view y.node y.span) tree.none a.args.items)))

  pub Call_payloads : (x : Box (Spanned (ExprP P L I A D T)) Global) (a : CallArgsP P L I A D T) → expr_payloads (expr.Call x a) ≡ expr_payloads x.value.node ++ all_of argument_payloads a.args.items
  Call_payloads x a = ap expr_payloads (sym (expr.rolls-Call x a)) ∙ fold-roll-ExprP P L I A D T _ _ _ _ _ _ _ _ _ _ argument_step target_step clause_step expr_step parameter_step call_args_step fstring_step for_clause_step lambda_step type_step (layer.Call x a) ∙ ap (λ q. expr_payloads x.value.node ++ q) (fold_out-CallArgsP P L I A D T _ _ _ _ _ _ _ _ _ _ argument_step target_step clause_step expr_step parameter_step call_args_step fstring_step for_clause_step lambda_step type_step a ∙ flat_map-map (λ x. x.node) _ a.args.items)

  pub Call_weight : (x : Box (Spanned (ExprP P L I A D T)) Global) (a : CallArgsP P L I A D T) → expr_weight (expr.Call x a) ≡ suc (expr_weight x.value.node + total (node_weight argument_weight) a.args.items)
  Call_weight x a = ap expr_weight (sym (expr.rolls-Call x a)) ∙ fold-roll-ExprP P L I A D T _ _ _ _ _ _ _ _ _ _ argument_weights target_weights clause_weights expr_weights parameter_weights call_args_weights fstring_weights for_clause_weights lambda_weights type_weights (layer.Call x a) ∙ ap (λ q. suc (expr_weight x.value.node + q)) (fold_out-CallArgsP P L I A D T _ _ _ _ _ _ _ _ _ _ argument_weights target_weights clause_weights expr_weights parameter_weights call_args_weights fstring_weights for_clause_weights lambda_weights type_weights a ∙ total-map (node_weight known) _ a.args.items)

  pub Lambda_view : (x : LambdaP P L I A D T) → expr_view (expr.Lambda x) ≡ tree.lambda (members same_member (map (λ y. parameter_view y.node y.span) x.params.items)) (expr_view x.body.value.node x.body.value.span)
  Lambda_view x = fun_ext (λ s. expr_view-Lambda x s ∙ (view-lambda x s ∙ ap (λ q. tree.lambda q (expr_at x.body.value) s) (sym (members-map same_member (λ y. parameter_view y.node y.span) tree.none x.params.items))))

  pub Lambda_payloads : (x : LambdaP P L I A D T) → expr_payloads (expr.Lambda x) ≡ all_of parameter_payloads x.params.items ++ (expr_payloads x.body.value.node ++ OfDef x.payload ∷ [])
  Lambda_payloads x = ap expr_payloads (sym (expr.rolls-Lambda x)) ∙ fold-roll-ExprP P L I A D T _ _ _ _ _ _ _ _ _ _ argument_step target_step clause_step expr_step parameter_step call_args_step fstring_step for_clause_step lambda_step type_step (layer.Lambda x) ∙ (fold_out-LambdaP P L I A D T _ _ _ _ _ _ _ _ _ _ argument_step target_step clause_step expr_step parameter_step call_args_step fstring_step for_clause_step lambda_step type_step x ∙ ap (λ q. q ++ (expr_payloads x.body.value.node ++ OfDef x.payload ∷ [])) (flat_map-map (λ x. x.node) _ x.params.items))

  pub Lambda_weight : (x : LambdaP P L I A D T) → expr_weight (expr.Lambda x) ≡ suc (total (node_weight parameter_weight) x.params.items + expr_weight x.body.value.node)
  Lambda_weight x = ap expr_weight (sym (expr.rolls-Lambda x)) ∙ fold-roll-ExprP P L I A D T _ _ _ _ _ _ _ _ _ _ argument_weights target_weights clause_weights expr_weights parameter_weights call_args_weights fstring_weights for_clause_weights lambda_weights type_weights (layer.Lambda x) ∙ (fold_out-LambdaP P L I A D T _ _ _ _ _ _ _ _ _ _ argument_weights target_weights clause_weights expr_weights parameter_weights call_args_weights fstring_weights for_clause_weights lambda_weights type_weights x ∙ ap (λ q. suc (q + expr_weight x.body.value.node)) (total-map (node_weight known) _ x.params.items))

  pub ListComprehension_view : (x : Box (Spanned (ExprP P L I A D T)) Global) (first : Box (ForClauseP P L I A D T) Global) (rest : Vec (ClauseP P L I A D T) Global) → expr_view (expr.ListComprehension x first rest) ≡ tree.comprehension (tree.item (expr_view x.value.node x.value.span)) (clauses_of (for_clause_view first.value) (map clause_view rest.items))
  ListComprehension_view x first rest = fun_ext (λ s. expr_view-ListComprehension x first rest s ∙ ap (λ q. tree.comprehension (tree.item (expr_view x.value.node x.value.span)) q s) (sym (clauses-map clause_view (tree.and_clause tree.no_clauses (for_clause_view first.value)) rest.items)))

  pub ListComprehension_payloads : (x : Box (Spanned (ExprP P L I A D T)) Global) (first : Box (ForClauseP P L I A D T) Global) (rest : Vec (ClauseP P L I A D T) Global) → expr_payloads (expr.ListComprehension x first rest) ≡ expr_payloads x.value.node ++ (for_clause_payloads first.value ++ flat_map clause_payloads rest.items)
  ListComprehension_payloads x first rest = ap expr_payloads (sym (expr.rolls-ListComprehension x first rest)) ∙ fold-roll-ExprP P L I A D T _ _ _ _ _ _ _ _ _ _ argument_step target_step clause_step expr_step parameter_step call_args_step fstring_step for_clause_step lambda_step type_step (layer.ListComprehension x first rest) ∙ ap (λ q. expr_payloads x.value.node ++ (for_clause_payloads first.value ++ q)) (flat_map-map found _ rest.items)

  pub ListComprehension_weight : (x : Box (Spanned (ExprP P L I A D T)) Global) (first : Box (ForClauseP P L I A D T) Global) (rest : Vec (ClauseP P L I A D T) Global) → expr_weight (expr.ListComprehension x first rest) ≡ suc (expr_weight x.value.node + (for_clause_weight first.value + total clause_weight rest.items))
  ListComprehension_weight x first rest = ap expr_weight (sym (expr.rolls-ListComprehension x first rest)) ∙ fold-roll-ExprP P L I A D T _ _ _ _ _ _ _ _ _ _ argument_weights target_weights clause_weights expr_weights parameter_weights call_args_weights fstring_weights for_clause_weights lambda_weights type_weights (layer.ListComprehension x first rest) ∙ ap (λ q. suc (expr_weight x.value.node + (for_clause_weight first.value + q))) (total-map known _ rest.items)

  pub DictComprehension_view : (x : Box (Spanned (ExprP P L I A D T) × Spanned (ExprP P L I A D T)) Global) (first : Box (ForClauseP P L I A D T) Global) (rest : Vec (ClauseP P L I A D T) Global) → expr_view (expr.DictComprehension x first rest) ≡ tree.comprehension (tree.pair (expr_view x.value.0.node x.value.0.span) (expr_view x.value.1.node x.value.1.span)) (clauses_of (for_clause_view first.value) (map clause_view rest.items))
  DictComprehension_view x first rest = fun_ext (λ s. expr_view-DictComprehension x first rest s ∙ ap (λ q. tree.comprehension (tree.pair (expr_view x.value.0.node x.value.0.span) (expr_view x.value.1.node x.value.1.span)) q s) (sym (clauses-map clause_view (tree.and_clause tree.no_clauses (for_clause_view first.value)) rest.items)))

  pub DictComprehension_payloads : (x : Box (Spanned (ExprP P L I A D T) × Spanned (ExprP P L I A D T)) Global) (first : Box (ForClauseP P L I A D T) Global) (rest : Vec (ClauseP P L I A D T) Global) → expr_payloads (expr.DictComprehension x first rest) ≡ both_of expr_payloads x.value ++ (for_clause_payloads first.value ++ flat_map clause_payloads rest.items)
  DictComprehension_payloads x first rest = ap expr_payloads (sym (expr.rolls-DictComprehension x first rest)) ∙ fold-roll-ExprP P L I A D T _ _ _ _ _ _ _ _ _ _ argument_step target_step clause_step expr_step parameter_step call_args_step fstring_step for_clause_step lambda_step type_step (layer.DictComprehension x first rest) ∙ ap (λ q. both_of expr_payloads x.value ++ (for_clause_payloads first.value ++ q)) (flat_map-map found _ rest.items)

  pub DictComprehension_weight : (x : Box (Spanned (ExprP P L I A D T) × Spanned (ExprP P L I A D T)) Global) (first : Box (ForClauseP P L I A D T) Global) (rest : Vec (ClauseP P L I A D T) Global) → expr_weight (expr.DictComprehension x first rest) ≡ suc (both_weight expr_weight x.value + (for_clause_weight first.value + total clause_weight rest.items))
  DictComprehension_weight x first rest = ap expr_weight (sym (expr.rolls-DictComprehension x first rest)) ∙ fold-roll-ExprP P L I A D T _ _ _ _ _ _ _ _ _ _ argument_weights target_weights clause_weights expr_weights parameter_weights call_args_weights fstring_weights for_clause_weights lambda_weights type_weights (layer.DictComprehension x first rest) ∙ ap (λ q. suc (both_weight expr_weight x.value + (for_clause_weight first.value + q))) (total-map known _ rest.items)

  pub Targets_view : (xs : Vec (Spanned (AssignTargetP P L I A D T)) Global) → target_view (target.Tuple xs) ≡ tree.tuple (members tree.item (map (λ y. target_view y.node y.span) xs.items))
  Targets_view xs = fun_ext (λ s. target_view-Tuple xs s ∙ ap (λ q. tree.tuple q s) (sym (members-map tree.item (λ y. target_view y.node y.span) tree.none xs.items)))

  pub Targets_payloads : (xs : Vec (Spanned (AssignTargetP P L I A D T)) Global) → target_payloads (target.Tuple xs) ≡ all_of target_payloads xs.items
  Targets_payloads xs = ap target_payloads (sym (target.rolls-Tuple xs)) ∙ fold-roll-AssignTargetP P L I A D T _ _ _ _ _ _ _ _ _ _ argument_step target_step clause_step expr_step parameter_step call_args_step fstring_step for_clause_step lambda_step type_step (layer.AssignTargetP::Tuple xs) ∙ flat_map-map (λ x. x.node) _ xs.items

  pub Targets_weight : (xs : Vec (Spanned (AssignTargetP P L I A D T)) Global) → target_weight (target.Tuple xs) ≡ suc (total (node_weight target_weight) xs.items)
  Targets_weight xs = ap target_weight (sym (target.rolls-Tuple xs)) ∙ fold-roll-AssignTargetP P L I A D T _ _ _ _ _ _ _ _ _ _ argument_weights target_weights clause_weights expr_weights parameter_weights call_args_weights fstring_weights for_clause_weights lambda_weights type_weights (layer.AssignTargetP::Tuple xs) ∙ ap suc (total-map (node_weight known) _ xs.items)

  pub Slice_view : (x : Box (Spanned (ExprP P L I A D T)) Global) (a b c : Option (Box (Spanned (ExprP P L I A D T)) Global)) → expr_view (expr.Slice x a b c) ≡ tree.index (expr_view x.value.node x.value.span) (tree.slice (bound_of (option_map (λ y. expr_view y.node y.span) (unboxed a))) (bound_of (option_map (λ y. expr_view y.node y.span) (unboxed b))) (bound_of (option_map (λ y. expr_view y.node y.span) (unboxed c))))
  Slice_view x a b c = fun_ext (λ s. expr_view-Slice x a b c s ∙ (ap (λ q. tree.index (expr_at x.value) (tree.slice q (boxed_expr b) (boxed_expr c)) s) (bound_is a) ∙ (ap (λ q. tree.index (expr_at x.value) (tree.slice (bound_of (option_map (λ y. expr_view y.node y.span) (unboxed a))) q (boxed_expr c)) s) (bound_is b) ∙ ap (λ q. tree.index (expr_at x.value) (tree.slice (bound_of (option_map (λ y. expr_view y.node y.span) (unboxed a))) (bound_of (option_map (λ y. expr_view y.node y.span) (unboxed b))) q) s) (bound_is c))))

  pub Slice_payloads : (x : Box (Spanned (ExprP P L I A D T)) Global) (a b c : Option (Box (Spanned (ExprP P L I A D T)) Global)) → expr_payloads (expr.Slice x a b c) ≡ expr_payloads x.value.node ++ (maybe_of expr_payloads (unboxed a) ++ (maybe_of expr_payloads (unboxed b) ++ maybe_of expr_payloads (unboxed c)))
  Slice_payloads x None None None = ap expr_payloads (sym (expr.rolls-Slice x None None None)) ∙ fold-roll-ExprP P L I A D T _ _ _ _ _ _ _ _ _ _ argument_step target_step clause_step expr_step parameter_step call_args_step fstring_step for_clause_step lambda_step type_step (layer.Slice x None None None)
  Slice_payloads x None None (Some c) = ap expr_payloads (sym (expr.rolls-Slice x None None (Some c))) ∙ fold-roll-ExprP P L I A D T _ _ _ _ _ _ _ _ _ _ argument_step target_step clause_step expr_step parameter_step call_args_step fstring_step for_clause_step lambda_step type_step (layer.Slice x None None (Some c))
  Slice_payloads x None (Some b) None = ap expr_payloads (sym (expr.rolls-Slice x None (Some b) None)) ∙ fold-roll-ExprP P L I A D T _ _ _ _ _ _ _ _ _ _ argument_step target_step clause_step expr_step parameter_step call_args_step fstring_step for_clause_step lambda_step type_step (layer.Slice x None (Some b) None)
  Slice_payloads x None (Some b) (Some c) = ap expr_payloads (sym (expr.rolls-Slice x None (Some b) (Some c))) ∙ fold-roll-ExprP P L I A D T _ _ _ _ _ _ _ _ _ _ argument_step target_step clause_step expr_step parameter_step call_args_step fstring_step for_clause_step lambda_step type_step (layer.Slice x None (Some b) (Some c))
  Slice_payloads x (Some a) None None = ap expr_payloads (sym (expr.rolls-Slice x (Some a) None None)) ∙ fold-roll-ExprP P L I A D T _ _ _ _ _ _ _ _ _ _ argument_step target_step clause_step expr_step parameter_step call_args_step fstring_step for_clause_step lambda_step type_step (layer.Slice x (Some a) None None)
  Slice_payloads x (Some a) None (Some c) = ap expr_payloads (sym (expr.rolls-Slice x (Some a) None (Some c))) ∙ fold-roll-ExprP P L I A D T _ _ _ _ _ _ _ _ _ _ argument_step target_step clause_step expr_step parameter_step call_args_step fstring_step for_clause_step lambda_step type_step (layer.Slice x (Some a) None (Some c))
  Slice_payloads x (Some a) (Some b) None = ap expr_payloads (sym (expr.rolls-Slice x (Some a) (Some b) None)) ∙ fold-roll-ExprP P L I A D T _ _ _ _ _ _ _ _ _ _ argument_step target_step clause_step expr_step parameter_step call_args_step fstring_step for_clause_step lambda_step type_step (layer.Slice x (Some a) (Some b) None)
  Slice_payloads x (Some a) (Some b) (Some c) = ap expr_payloads (sym (expr.rolls-Slice x (Some a) (Some b) (Some c))) ∙ fold-roll-ExprP P L I A D T _ _ _ _ _ _ _ _ _ _ argument_step target_step clause_step expr_step parameter_step call_args_step fstring_step for_clause_step lambda_step type_step (layer.Slice x (Some a) (Some b) (Some c))

  pub Slice_weight : (x : Box (Spanned (ExprP P L I A D T)) Global) (a b c : Option (Box (Spanned (ExprP P L I A D T)) Global)) → expr_weight (expr.Slice x a b c) ≡ suc (expr_weight x.value.node + (maybe_weight expr_weight (unboxed a) + (maybe_weight expr_weight (unboxed b) + maybe_weight expr_weight (unboxed c))))
  Slice_weight x None None None = ap expr_weight (sym (expr.rolls-Slice x None None None)) ∙ fold-roll-ExprP P L I A D T _ _ _ _ _ _ _ _ _ _ argument_weights target_weights clause_weights expr_weights parameter_weights call_args_weights fstring_weights for_clause_weights lambda_weights type_weights (layer.Slice x None None None)
  Slice_weight x None None (Some c) = ap expr_weight (sym (expr.rolls-Slice x None None (Some c))) ∙ fold-roll-ExprP P L I A D T _ _ _ _ _ _ _ _ _ _ argument_weights target_weights clause_weights expr_weights parameter_weights call_args_weights fstring_weights for_clause_weights lambda_weights type_weights (layer.Slice x None None (Some c))
  Slice_weight x None (Some b) None = ap expr_weight (sym (expr.rolls-Slice x None (Some b) None)) ∙ fold-roll-ExprP P L I A D T _ _ _ _ _ _ _ _ _ _ argument_weights target_weights clause_weights expr_weights parameter_weights call_args_weights fstring_weights for_clause_weights lambda_weights type_weights (layer.Slice x None (Some b) None)
  Slice_weight x None (Some b) (Some c) = ap expr_weight (sym (expr.rolls-Slice x None (Some b) (Some c))) ∙ fold-roll-ExprP P L I A D T _ _ _ _ _ _ _ _ _ _ argument_weights target_weights clause_weights expr_weights parameter_weights call_args_weights fstring_weights for_clause_weights lambda_weights type_weights (layer.Slice x None (Some b) (Some c))
  Slice_weight x (Some a) None None = ap expr_weight (sym (expr.rolls-Slice x (Some a) None None)) ∙ fold-roll-ExprP P L I A D T _ _ _ _ _ _ _ _ _ _ argument_weights target_weights clause_weights expr_weights parameter_weights call_args_weights fstring_weights for_clause_weights lambda_weights type_weights (layer.Slice x (Some a) None None)
  Slice_weight x (Some a) None (Some c) = ap expr_weight (sym (expr.rolls-Slice x (Some a) None (Some c))) ∙ fold-roll-ExprP P L I A D T _ _ _ _ _ _ _ _ _ _ argument_weights target_weights clause_weights expr_weights parameter_weights call_args_weights fstring_weights for_clause_weights lambda_weights type_weights (layer.Slice x (Some a) None (Some c))
  Slice_weight x (Some a) (Some b) None = ap expr_weight (sym (expr.rolls-Slice x (Some a) (Some b) None)) ∙ fold-roll-ExprP P L I A D T _ _ _ _ _ _ _ _ _ _ argument_weights target_weights clause_weights expr_weights parameter_weights call_args_weights fstring_weights for_clause_weights lambda_weights type_weights (layer.Slice x (Some a) (Some b) None)
  Slice_weight x (Some a) (Some b) (Some c) = ap expr_weight (sym (expr.rolls-Slice x (Some a) (Some b) (Some c))) ∙ fold-roll-ExprP P L I A D T _ _ _ _ _ _ _ _ _ _ argument_weights target_weights clause_weights expr_weights parameter_weights call_args_weights fstring_weights for_clause_weights lambda_weights type_weights (layer.Slice x (Some a) (Some b) (Some c))

  pub Normal_view : (x : Spanned (AssignIdentP P L I A D T)) (t : Option (Box (Spanned (TypeExprP P L I A D T)) Global)) (d : Option (Box (Spanned (ExprP P L I A D T)) Global)) → parameter_view (param.Normal x t d) ≡ parameter_of tree.plain x (annotation_of (option_map (λ y. type_view y.node y.span) (unboxed t))) (bound_of (option_map (λ y. expr_view y.node y.span) (unboxed d)))
  Normal_view x t d = fun_ext (λ s. parameter_view-Normal x t d s ∙ (ap (λ q. parameter_of tree.plain x q (boxed_expr d) s) (annotation_is t) ∙ ap (λ q. parameter_of tree.plain x (annotation_of (option_map (λ y. type_view y.node y.span) (unboxed t))) q s) (bound_is d)))

  pub Normal_payloads : (x : Spanned (AssignIdentP P L I A D T)) (t : Option (Box (Spanned (TypeExprP P L I A D T)) Global)) (d : Option (Box (Spanned (ExprP P L I A D T)) Global)) → parameter_payloads (param.Normal x t d) ≡ assigned_payloads x.node ++ (maybe_of type_payloads (unboxed t) ++ maybe_of expr_payloads (unboxed d))
  Normal_payloads x None None = ap parameter_payloads (sym (param.rolls-Normal x None None)) ∙ fold-roll-ParameterP P L I A D T _ _ _ _ _ _ _ _ _ _ argument_step target_step clause_step expr_step parameter_step call_args_step fstring_step for_clause_step lambda_step type_step (layer.Normal x None None)
  Normal_payloads x None (Some d) = ap parameter_payloads (sym (param.rolls-Normal x None (Some d))) ∙ fold-roll-ParameterP P L I A D T _ _ _ _ _ _ _ _ _ _ argument_step target_step clause_step expr_step parameter_step call_args_step fstring_step for_clause_step lambda_step type_step (layer.Normal x None (Some d))
  Normal_payloads x (Some t) None = ap parameter_payloads (sym (param.rolls-Normal x (Some t) None)) ∙ fold-roll-ParameterP P L I A D T _ _ _ _ _ _ _ _ _ _ argument_step target_step clause_step expr_step parameter_step call_args_step fstring_step for_clause_step lambda_step type_step (layer.Normal x (Some t) None)
  Normal_payloads x (Some t) (Some d) = ap parameter_payloads (sym (param.rolls-Normal x (Some t) (Some d))) ∙ fold-roll-ParameterP P L I A D T _ _ _ _ _ _ _ _ _ _ argument_step target_step clause_step expr_step parameter_step call_args_step fstring_step for_clause_step lambda_step type_step (layer.Normal x (Some t) (Some d))

  pub Normal_weight : (x : Spanned (AssignIdentP P L I A D T)) (t : Option (Box (Spanned (TypeExprP P L I A D T)) Global)) (d : Option (Box (Spanned (ExprP P L I A D T)) Global)) → parameter_weight (param.Normal x t d) ≡ suc (maybe_weight type_weight (unboxed t) + maybe_weight expr_weight (unboxed d))
  Normal_weight x None None = ap parameter_weight (sym (param.rolls-Normal x None None)) ∙ fold-roll-ParameterP P L I A D T _ _ _ _ _ _ _ _ _ _ argument_weights target_weights clause_weights expr_weights parameter_weights call_args_weights fstring_weights for_clause_weights lambda_weights type_weights (layer.Normal x None None)
  Normal_weight x None (Some d) = ap parameter_weight (sym (param.rolls-Normal x None (Some d))) ∙ fold-roll-ParameterP P L I A D T _ _ _ _ _ _ _ _ _ _ argument_weights target_weights clause_weights expr_weights parameter_weights call_args_weights fstring_weights for_clause_weights lambda_weights type_weights (layer.Normal x None (Some d))
  Normal_weight x (Some t) None = ap parameter_weight (sym (param.rolls-Normal x (Some t) None)) ∙ fold-roll-ParameterP P L I A D T _ _ _ _ _ _ _ _ _ _ argument_weights target_weights clause_weights expr_weights parameter_weights call_args_weights fstring_weights for_clause_weights lambda_weights type_weights (layer.Normal x (Some t) None)
  Normal_weight x (Some t) (Some d) = ap parameter_weight (sym (param.rolls-Normal x (Some t) (Some d))) ∙ fold-roll-ParameterP P L I A D T _ _ _ _ _ _ _ _ _ _ argument_weights target_weights clause_weights expr_weights parameter_weights call_args_weights fstring_weights for_clause_weights lambda_weights type_weights (layer.Normal x (Some t) (Some d))
