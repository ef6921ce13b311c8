-- The expressions right below an expression are smaller than it.
use Rattle.std.proofs.Common.{ℕ, zero, suc, ◌+◌, ◌<◌, ◌≤◌, ◌≡◌, sym, ap, subst, ◌∙◌, List, [], ◌∷◌, ◌++◌, map, flat_map, fold, Option, Some, None, arith}
use Rattle.std.proofs.lemmas.List.Concat.{flat_map_single}
use Rattle.std.specs.declared.alloc.Global.{Global}
use Rattle.std.specs.declared.boxed.Box.{Box}
use Rattle.starlark_place.specs.Place.{Extent}
use Rattle.starlark_place.specs.declared.pos.Spanned.{Spanned}
use Rattle.starlark_ast.specs.Tree as t
use Rattle.starlark_ast.specs.Tree.{Expr, Member, Members, Clauses}
use Rattle.starlark_ast.specs.View.{members, expr_at, target_at, target_view, argument_at, parameter_at, parameter_view, boxed_type, boxed_expr, clause_view, for_clause_view}
use Rattle.starlark_ast.specs.Views.{items_of, pairs_of, targets_of, clauses_of, target_view-Tuple, target_view-Index, target_view-Dot, target_view-Identifier, parameter_view-Normal, parameter_view-Args, parameter_view-KwArgs, clause_view-For, clause_view-If, view-for_clause, view-type}
use Rattle.starlark_ast.specs.Places.{E, children, expr_layer, maybe_place, maybe_type_place, pair_places, argument_place, parameter_places, parameter_layer, for_clause_places, clause_places, clause_layer, target_places}
use Rattle.starlark_ast.specs.declared.ast.ArgumentP.{ArgumentP}
use Rattle.starlark_ast.specs.declared.ast.AssignTargetP.{AssignTargetP, AssignTargetP-F, out-AssignTargetP, roll-AssignTargetP, roll-out-AssignTargetP}
use Rattle.starlark_ast.specs.declared.ast.AssignTargetP.TheVariants as target
use Rattle.starlark_ast.specs.declared.ast.ClauseP.{ClauseP, ClauseP-F, out-ClauseP, roll-ClauseP, roll-out-ClauseP}
use Rattle.starlark_ast.specs.declared.ast.ClauseP.TheVariants as clause
use Rattle.starlark_ast.specs.declared.ast.ExprP.{ExprP, out-ExprP}
use Rattle.starlark_ast.specs.declared.ast.ParameterP.{ParameterP, ParameterP-F, out-ParameterP, roll-ParameterP, roll-out-ParameterP}
use Rattle.starlark_ast.specs.declared.ast.ParameterP.TheVariants as param
use Rattle.starlark_ast.specs.declared.ast.CallArgsP.{CallArgsP}
use Rattle.starlark_ast.specs.declared.ast.FStringP.{FStringP}
use Rattle.starlark_ast.specs.declared.ast.ForClauseP.{ForClauseP}
use Rattle.starlark_ast.specs.declared.ast.LambdaP.{LambdaP}
use Rattle.starlark_ast.specs.declared.ast.TypeExprP.{TypeExprP}
use Rattle.starlark_ast.specs.declared.ast.ArgumentP.TheOpen as layer
use Rattle.starlark_visit.proofs.Children.{target_places-Tuple, target_places-Index, target_places-Dot, target_places-Identifier}
use Rattle.starlark_visit.proofs.Layers.{ExprLayer, layer_at, expr_by_layer}
use Rattle.starlark_visit.specs.Sizes.{size, member_size, sizes, bound_size, annotation_size, clause_size, clause_sizes}
use Rattle.starlark_visit.proofs.Members.{argument_size, behind, more_clauses, more_sizes}
use Rattle.starlark_visit.proofs.Lifted.{singles}
use Rattle.starlark_visit.proofs.Taking.{AllOf}

module _ {P L I A D T : Type 0} where
  -- each is smaller than n
  abbrev Below : ℕ → List (E P L I A D T) → Type 0
  Below n xs = AllOf (λ c. size (expr_at c) < n) xs

  -- below a greater bound too
  below_more : (m n : ℕ) (xs : List (E P L I A D T)) → m ≤ n → Below m xs → Below n xs
  below_more m n [] up h = tt
  below_more m n (x ∷ xs) up h = (omega (arith, h.0), below_more m n xs up h.1)

  -- some, and others behind them
  both_below : (n : ℕ) (xs ys : List (E P L I A D T)) → Below n xs → Below n ys → Below n (xs ++ ys)
  both_below n [] ys h k = k
  both_below n (x ∷ xs) ys h k = (h.0, both_below n xs ys h.1 k)

  -- if those of each member are no larger than it, then those of all are smaller than all
  members_below : {X : Type 0} (f : X → List (E P L I A D T)) (h : X → Member) (ms : Members) (xs : List X) → ((x : X) → member_size (h x) < sizes (fold (λ ns y. t.more ns (h y)) ms xs) → Below (suc (member_size (h x))) (f x)) → Below (sizes (fold (λ ns y. t.more ns (h y)) ms xs)) (flat_map f xs)
  members_below f h ms [] each = tt
  members_below f h ms (x ∷ xs) each =
      let less : member_size (h x) < sizes (fold (λ ns y. t.more ns (h y)) (t.more ms (h x)) xs) = omega (arith, more_sizes h (t.more ms (h x)) xs) in
      both_below _ (f x) (flat_map f xs) (below_more _ _ (f x) (omega (arith, less)) (each x less)) (members_below f h (t.more ms (h x)) xs each)

  -- those of a tuple, a list or an f-string
  items_below : (xs : List (E P L I A D T)) → Below (sizes (items_of xs)) xs
  items_below xs = subst (λ q. Below (sizes (items_of xs)) q) (singles xs) (members_below (λ x. x ∷ []) (λ x. t.item (expr_at x)) t.none xs (λ x _. (omega arith, tt)))

  -- those of a dict
  pairs_below : (xs : List (E P L I A D T × E P L I A D T)) → Below (sizes (pairs_of xs)) (flat_map pair_places xs)
  pairs_below xs = members_below pair_places (λ x. t.pair (expr_at x.0) (expr_at x.1)) t.none xs (λ x _. (omega arith, (omega arith, tt)))

  -- those of a call
  arguments_below : (xs : List (Spanned (ArgumentP P L I A D T))) → Below (sizes (members argument_at xs)) (map argument_place xs)
  arguments_below xs = subst (λ q. Below (sizes (members argument_at xs)) q) (flat_map_single argument_place xs) (members_below (λ x. argument_place x ∷ []) argument_at t.none xs (λ x _. (omega (arith, argument_size x), tt)))

  -- ---- what may be left out

  -- a default or a bound of a slice
  bound_below : (x : Option (Box (E P L I A D T) Global)) → Below (bound_size (boxed_expr x)) (maybe_place x)
  bound_below None = tt
  bound_below (Some x) = (omega arith, tt)

  -- a type
  type_below : (x : Option (Box (Spanned (TypeExprP P L I A D T)) Global)) → Below (annotation_size (boxed_type x)) (maybe_type_place x)
  type_below None = tt
  type_below (Some x) = (omega (arith, ap annotation_size (view-type x.value.node x.value.span)), tt)

  -- ---- targets

  -- a target, by its plain tree and its places
  target_by : (x : AssignTargetP P L I A D T) (s : Extent) (v : Expr) (xs : List (E P L I A D T)) → target_view x s ≡ v → target_places x ≡ xs → Below (size v) xs → Below (size (target_view x s)) (target_places x)
  target_by x s v xs is places h = subst (λ q. Below (size q) (target_places x)) (sym is) (subst (λ q. Below (size v) q) (sym places) h)

  -- one layer of a target, where those of smaller ones are known
  target_layer_below : (n : ℕ) → ((x : Spanned (AssignTargetP P L I A D T)) → size (target_at x) < n → Below (size (target_at x)) (target_places x.node)) → (l : AssignTargetP-F P L I A D T (ArgumentP P L I A D T) (AssignTargetP P L I A D T) (ClauseP P L I A D T) (ExprP P L I A D T) (ParameterP P L I A D T) (CallArgsP P L I A D T) (FStringP P L I A D T) (ForClauseP P L I A D T) (LambdaP P L I A D T) (TypeExprP P L I A D T)) (s : Extent) → size (target_view (roll-AssignTargetP P L I A D T l) s) < suc n → Below (size (target_view (roll-AssignTargetP P L I A D T l) s)) (target_places (roll-AssignTargetP P L I A D T l))
  target_layer_below n smaller (layer.AssignTargetP::Tuple xs) s few =
      let view : target_view (roll-AssignTargetP P L I A D T (layer.AssignTargetP::Tuple xs)) s ≡ t.tuple (targets_of xs.items) s = ap (λ q. target_view q s) (target.rolls-Tuple xs) ∙ target_view-Tuple xs s in
      let small : sizes (targets_of xs.items) < n = omega (arith, few, ap size view) in
      target_by _ s _ _ view (ap target_places (target.rolls-Tuple xs) ∙ target_places-Tuple xs)
      (below_more _ _ (flat_map (λ x. target_places x.node) xs.items) (omega arith)
      (members_below (λ x. target_places x.node) (λ x. t.item (target_at x)) t.none xs.items (λ x less. below_more _ _ (target_places x.node) (omega arith) (smaller x (omega (arith, small, less))))))
  target_layer_below n smaller (layer.AssignTargetP::Index x) s few = target_by _ s _ _ (ap (λ q. target_view q s) (target.rolls-Index x) ∙ target_view-Index x s) (ap target_places (target.rolls-Index x) ∙ target_places-Index x) (omega arith, (omega arith, tt))
  target_layer_below n smaller (layer.AssignTargetP::Dot x name) s few = target_by _ s _ _ (ap (λ q. target_view q s) (target.rolls-Dot x name) ∙ target_view-Dot x name s) (ap target_places (target.rolls-Dot x name) ∙ target_places-Dot x name) (omega arith, tt)
  target_layer_below n smaller (layer.AssignTargetP::Identifier x) s few = target_by _ s _ _ (ap (λ q. target_view q s) (target.rolls-Identifier x) ∙ target_view-Identifier x s) (ap target_places (target.rolls-Identifier x) ∙ target_places-Identifier x) tt

  -- the same for those below a bound
  target_below_bound : (n : ℕ) (x : Spanned (AssignTargetP P L I A D T)) → size (target_at x) < n → Below (size (target_at x)) (target_places x.node)
  target_below_bound zero x few = absurd (omega (arith, few))
  target_below_bound (suc n) x few =
      let is = roll-out-AssignTargetP P L I A D T x.node in
      subst (λ q. Below (size (target_view q x.span)) (target_places q)) is (target_layer_below n (target_below_bound n) (out-AssignTargetP P L I A D T x.node) x.span (subst (λ q. size (target_view q x.span) < suc n) (sym is) few))

  -- any target
  target_below : (x : Spanned (AssignTargetP P L I A D T)) → Below (size (target_at x)) (target_places x.node)
  target_below x = target_below_bound (suc (size (target_at x))) x (omega arith)

  -- ---- parameters

  -- a type and a default
  parameter_parts_below : (type : Option (Box (Spanned (TypeExprP P L I A D T)) Global)) (default : Option (Box (E P L I A D T) Global)) → Below (annotation_size (boxed_type type) + bound_size (boxed_expr default)) (maybe_type_place type ++ maybe_place default)
  parameter_parts_below type default =
      both_below _ (maybe_type_place type) (maybe_place default) (below_more _ _ (maybe_type_place type) (omega arith) (type_below type)) (below_more _ _ (maybe_place default) (omega arith) (bound_below default))

  -- a parameter, by its layer
  parameter_layer_below : (l : ParameterP-F P L I A D T (ArgumentP P L I A D T) (AssignTargetP P L I A D T) (ClauseP P L I A D T) (ExprP P L I A D T) (ParameterP P L I A D T) (CallArgsP P L I A D T) (FStringP P L I A D T) (ForClauseP P L I A D T) (LambdaP P L I A D T) (TypeExprP P L I A D T)) (s : Extent) → Below (suc (member_size (parameter_view (roll-ParameterP P L I A D T l) s))) (parameter_layer l)
  parameter_layer_below layer.Slash s = tt
  parameter_layer_below (layer.Normal x type default) s = below_more _ _ (maybe_type_place type ++ maybe_place default) (omega (arith, ap member_size (ap (λ q. parameter_view q s) (param.rolls-Normal x type default) ∙ parameter_view-Normal x type default s))) (parameter_parts_below type default)
  parameter_layer_below layer.NoArgs s = tt
  parameter_layer_below (layer.ParameterP::Args x type) s = below_more _ _ (maybe_type_place type) (omega (arith, ap member_size (ap (λ q. parameter_view q s) (param.rolls-Args x type) ∙ parameter_view-Args x type s))) (type_below type)
  parameter_layer_below (layer.ParameterP::KwArgs x type) s = below_more _ _ (maybe_type_place type) (omega (arith, ap member_size (ap (λ q. parameter_view q s) (param.rolls-KwArgs x type) ∙ parameter_view-KwArgs x type s))) (type_below type)

  -- any parameter
  parameter_below : (x : Spanned (ParameterP P L I A D T)) → Below (suc (member_size (parameter_at x))) (parameter_places x.node)
  parameter_below x = subst (λ q. Below (suc (member_size (parameter_view q x.span))) (parameter_places x.node)) (roll-out-ParameterP P L I A D T x.node) (parameter_layer_below (out-ParameterP P L I A D T x.node) x.span)

  -- several
  parameters_below : (xs : List (Spanned (ParameterP P L I A D T))) → Below (sizes (members parameter_at xs)) (flat_map (λ p. parameter_places p.node) xs)
  parameters_below xs = members_below (λ p. parameter_places p.node) parameter_at t.none xs (λ x _. parameter_below x)

  -- ---- clauses

  -- a clause with a target
  for_clause_below : (x : ForClauseP P L I A D T) → Below (suc (clause_size (for_clause_view x))) (for_clause_places x)
  for_clause_below x =
      let is = ap clause_size (view-for_clause x) in
      both_below _ (target_places x.var.node) (x.over ∷ []) (below_more _ _ (target_places x.var.node) (omega (arith, is)) (target_below x.var)) (omega (arith, is), tt)

  -- a clause, by its layer
  clause_layer_below : (l : ClauseP-F P L I A D T (ArgumentP P L I A D T) (AssignTargetP P L I A D T) (ClauseP P L I A D T) (ExprP P L I A D T) (ParameterP P L I A D T) (CallArgsP P L I A D T) (FStringP P L I A D T) (ForClauseP P L I A D T) (LambdaP P L I A D T) (TypeExprP P L I A D T)) → Below (suc (clause_size (clause_view (roll-ClauseP P L I A D T l)))) (clause_layer l)
  clause_layer_below (layer.For x) = subst (λ q. Below (suc (clause_size q)) (for_clause_places x)) (sym (ap clause_view (clause.rolls-For x) ∙ clause_view-For x)) (for_clause_below x)
  clause_layer_below (layer.ClauseP::If x) = (omega (arith, ap clause_size (ap clause_view (clause.rolls-If x) ∙ clause_view-If x)), tt)

  -- any clause
  clause_below : (x : ClauseP P L I A D T) → Below (suc (clause_size (clause_view x))) (clause_places x)
  clause_below x = subst (λ q. Below (suc (clause_size (clause_view q))) (clause_places x)) (roll-out-ClauseP P L I A D T x) (clause_layer_below (out-ClauseP P L I A D T x))

  -- clauses behind others
  rest_below : (cs : Clauses) (xs : List (ClauseP P L I A D T)) → Below (clause_sizes (behind clause_view cs xs)) (flat_map clause_places xs)
  rest_below cs [] = tt
  rest_below cs (x ∷ xs) =
      both_below _ (clause_places x) (flat_map clause_places xs) (below_more _ _ (clause_places x) (omega (arith, more_clauses clause_view (t.and_clause cs (clause_view x)) xs)) (clause_below x)) (rest_below (t.and_clause cs (clause_view x)) xs)

  -- clauses, and what they make
  comprehension_below : (n : ℕ) (first : ForClauseP P L I A D T) (rest : List (ClauseP P L I A D T)) (xs : List (E P L I A D T)) → clause_sizes (clauses_of first rest) ≤ n → Below n xs → Below n (for_clause_places first ++ (flat_map clause_places rest ++ xs))
  comprehension_below n first rest xs up h =
      let more = more_clauses clause_view (t.and_clause t.no_clauses (for_clause_view first)) rest in
      both_below n (for_clause_places first) (flat_map clause_places rest ++ xs)
      (below_more _ _ (for_clause_places first) (omega (arith, more)) (for_clause_below first))
      (both_below n (flat_map clause_places rest) xs (below_more _ _ (flat_map clause_places rest) up (rest_below (t.and_clause t.no_clauses (for_clause_view first)) rest)) h)

  -- ---- an expression

  -- the law for one layer
  layer_below : (l : ExprLayer P L I A D T) (s : Extent) → Below (size (layer_at l s)) (expr_layer l)
  layer_below (layer.ExprP::Tuple xs) s = below_more _ _ xs.items (omega arith) (items_below xs.items)
  layer_below (layer.ExprP::Dot x name) s = (omega arith, tt)
  layer_below (layer.Call x args) s = (omega arith, below_more _ _ (map argument_place args.args.items) (omega arith) (arguments_below args.args.items))
  layer_below (layer.ExprP::Index x) s = (omega arith, (omega arith, tt))
  layer_below (layer.Index2 x) s = (omega arith, (omega arith, (omega arith, tt)))
  layer_below (layer.Slice x a b c) s = (
    omega arith,
    both_below _ (maybe_place a) (maybe_place b ++ maybe_place c) (below_more _ _ (maybe_place a) (omega arith) (bound_below a))
        (both_below _ (maybe_place b) (maybe_place c) (below_more _ _ (maybe_place b) (omega arith) (bound_below b)) (below_more _ _ (maybe_place c) (omega arith) (bound_below c))),
  )
  layer_below (layer.ExprP::Identifier x) s = tt
  layer_below (layer.Lambda x) s =
      both_below _ (flat_map (λ p. parameter_places p.node) x.params.items) (x.body.value ∷ []) (below_more _ _ (flat_map (λ p. parameter_places p.node) x.params.items) (omega arith) (parameters_below x.params.items)) (omega arith, tt)
  layer_below (layer.Literal x) s = tt
  layer_below (layer.Not x) s = (omega arith, tt)
  layer_below (layer.Minus x) s = (omega arith, tt)
  layer_below (layer.Plus x) s = (omega arith, tt)
  layer_below (layer.BitNot x) s = (omega arith, tt)
  layer_below (layer.Op x o y) s = (omega arith, (omega arith, tt))
  layer_below (layer.ExprP::If x) s = (omega arith, (omega arith, (omega arith, tt)))
  layer_below (layer.List xs) s = below_more _ _ xs.items (omega arith) (items_below xs.items)
  layer_below (layer.Dict xs) s = below_more _ _ (flat_map pair_places xs.items) (omega arith) (pairs_below xs.items)
  layer_below (layer.ListComprehension x first rest) s = comprehension_below _ first.value rest.items (x.value ∷ []) (omega arith) (omega arith, tt)
  layer_below (layer.DictComprehension x first rest) s = comprehension_below _ first.value rest.items (x.value.0 ∷ x.value.1 ∷ []) (omega arith) (omega arith, (omega arith, tt))
  layer_below (layer.FString x) s = below_more _ _ x.node.expressions.items (omega arith) (items_below x.node.expressions.items)

  -- The expressions right below an expression are smaller than it.
  pub smaller_children : (x : E P L I A D T) → AllOf (λ c. size (expr_at c) < size (expr_at x)) (children x.node)
  smaller_children x = subst (λ v. Below (size v) (children x.node)) (sym (expr_by_layer x)) (layer_below (out-ExprP P L I A D T x.node) x.span)
