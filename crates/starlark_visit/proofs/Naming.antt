-- The identifiers that an expression reads: itself, or those that the expressions right below it read, in order.
use Rattle.std.proofs.Common.{◌≡◌, refl, sym, ap, ◌∙◌, ℕ, zero, suc, ◌+◌, ◌<◌, List, [], ◌∷◌, ◌++◌, append-nil, map, flat_map, Option, Some, None, arith}
use Rattle.std.proofs.lemmas.Grind.{flat_map-append}
use Rattle.std.proofs.lemmas.List.Concat.{flat_map_single}
use Rattle.std.proofs.lemmas.List.Folds.{flat_map-map}
use Rattle.std.proofs.lemmas.List.Sums.{sum_by-cons}
use Rattle.std.specs.List.{sum_by}
use Rattle.std.specs.declared.alloc.Global.{Global}
use Rattle.std.specs.declared.boxed.Box.{Box}
use Rattle.starlark_place.specs.declared.pos.Spanned.{Spanned}
use Rattle.starlark_ast.specs.Access.{argument_expr_layer}
use Rattle.starlark_ast.specs.Places.{E, children, expr_layer, maybe_place, maybe_type_place, pair_places, type_place, argument_place, parameter_places, parameter_layer, for_clause_places, clause_places, clause_layer, target_places}
use Rattle.starlark_ast.specs.declared.ast.IdentP.{IdentP}
use Rattle.starlark_ast.specs.declared.ast.AssignIdentP.{AssignIdentP}
use Rattle.starlark_ast.specs.declared.ast.ArgumentP.{ArgumentP, ArgumentP-F, out-ArgumentP, roll-ArgumentP, roll-out-ArgumentP, fold-roll-ArgumentP}
use Rattle.starlark_ast.specs.declared.ast.AssignTargetP.{AssignTargetP, AssignTargetP-F, out-AssignTargetP, roll-AssignTargetP, roll-out-AssignTargetP, fold-roll-AssignTargetP}
use Rattle.starlark_ast.specs.declared.ast.AssignTargetP.TheVariants as target
use Rattle.starlark_ast.specs.declared.ast.ClauseP.{ClauseP, ClauseP-F, out-ClauseP, roll-ClauseP, roll-out-ClauseP, fold-roll-ClauseP}
use Rattle.starlark_ast.specs.declared.ast.ExprP.{ExprP, out-ExprP, roll-ExprP, roll-out-ExprP, fold-roll-ExprP}
use Rattle.starlark_ast.specs.declared.ast.ExprP.TheVariants as expr
use Rattle.starlark_ast.specs.declared.ast.ParameterP.{ParameterP, ParameterP-F, out-ParameterP, roll-ParameterP, roll-out-ParameterP, fold-roll-ParameterP}
use Rattle.starlark_ast.specs.declared.ast.CallArgsP.{CallArgsP, fold_out-CallArgsP}
use Rattle.starlark_ast.specs.declared.ast.FStringP.{FStringP, fold_out-FStringP}
use Rattle.starlark_ast.specs.declared.ast.ForClauseP.{ForClauseP, fold_out-ForClauseP}
use Rattle.starlark_ast.specs.declared.ast.LambdaP.{LambdaP, fold_out-LambdaP}
use Rattle.starlark_ast.specs.declared.ast.TypeExprP.{TypeExprP, fold_out-TypeExprP}
use Rattle.starlark_ast.specs.declared.ast.ArgumentP.TheOpen as layer
use Rattle.starlark_visit.proofs.Children.{target_places-Tuple, target_places-Index, target_places-Dot, target_places-Identifier}
use Rattle.starlark_visit.proofs.Layers.{ExprLayer}
use Rattle.starlark_visit.proofs.Nested.{lists, lists-Tuple}
use Rattle.starlark_visit.specs.Idents.{N, argument_names, target_names, clause_names, expr_names, parameter_names, call_args_names, fstring_names, for_clause_names, lambda_names, type_names, argument_reads, target_reads, clause_reads, expr_reads, parameter_reads, for_clause_reads, maybe_reads, maybe_type_reads}

module _ {P L I A D T : Type 0} where
  -- what some expressions read, one behind the other
  abbrev read_all : List (E P L I A D T) → List (N P L I A D T)
  read_all xs = flat_map (λ y. expr_reads y.node) xs

  -- one alone
  one_reads : (x : E P L I A D T) → read_all (x ∷ []) ≡ expr_reads x.node
  one_reads x = append-nil (expr_reads x.node)

  -- two alone
  two_read : (x y : E P L I A D T) → read_all (x ∷ y ∷ []) ≡ expr_reads x.node ++ expr_reads y.node
  two_read x y = ap (λ q. expr_reads x.node ++ q) (one_reads y)

  -- some, and others behind them
  both_read : (xs ys : List (E P L I A D T)) (a b : List (N P L I A D T)) → read_all xs ≡ a → read_all ys ≡ b → read_all (xs ++ ys) ≡ a ++ b
  both_read xs ys a b h k = flat_map-append (λ y. expr_reads y.node) xs ys ∙ ap (λ q. q ++ read_all ys) h ∙ ap (λ q. a ++ q) k

  -- those of each of a list
  each_reads : {X : Type 0} (f : X → List (E P L I A D T)) (g : X → List (N P L I A D T)) (xs : List X) → ((x : X) → read_all (f x) ≡ g x) → read_all (flat_map f xs) ≡ flat_map g xs
  each_reads f g [] h = refl
  each_reads f g (x ∷ xs) h = both_read (f x) (flat_map f xs) _ _ (h x) (each_reads f g xs h)

  -- a default or a bound of a slice
  maybe_read : (x : Option (Box (E P L I A D T) Global)) → read_all (maybe_place x) ≡ maybe_reads x
  maybe_read None = refl
  maybe_read (Some x) = one_reads x.value

  -- a type, where there is one
  type_read : (x : Option (Box (Spanned (TypeExprP P L I A D T)) Global)) → read_all (maybe_type_place x) ≡ maybe_type_reads x
  type_read None = refl
  type_read (Some x) = one_reads (type_place x.value) ∙ sym (fold_out-TypeExprP P L I A D T _ _ _ _ _ _ _ _ _ _ argument_names target_names clause_names expr_names parameter_names call_args_names fstring_names for_clause_names lambda_names type_names x.value.node)

  -- ---- targets

  targets_read : (n : ℕ) → ((x : Spanned (AssignTargetP P L I A D T)) → lists x.node < n → read_all (target_places x.node) ≡ target_reads x.node) → (xs : List (Spanned (AssignTargetP P L I A D T))) → sum_by (λ x. lists x.node) xs < n → read_all (flat_map (λ x. target_places x.node) xs) ≡ flat_map (λ x. target_reads x.node) xs
  targets_read n smaller [] few = refl
  targets_read n smaller (x ∷ xs) few =
      let all = sum_by-cons (λ x. lists x.node) x xs in
      both_read (target_places x.node) (flat_map (λ x. target_places x.node) xs) _ _ (smaller x (omega (arith, few, all))) (targets_read n smaller xs (omega (arith, few, all)))

  -- one layer of a target, where those of smaller ones are known
  target_layer_reads : (n : ℕ) → ((x : Spanned (AssignTargetP P L I A D T)) → lists x.node < n → read_all (target_places x.node) ≡ target_reads x.node) → (l : AssignTargetP-F P L I A D T (ArgumentP P L I A D T) (AssignTargetP P L I A D T) (ClauseP P L I A D T) (ExprP P L I A D T) (ParameterP P L I A D T) (CallArgsP P L I A D T) (FStringP P L I A D T) (ForClauseP P L I A D T) (LambdaP P L I A D T) (TypeExprP P L I A D T)) → lists (roll-AssignTargetP P L I A D T l) < suc n → read_all (target_places (roll-AssignTargetP P L I A D T l)) ≡ target_reads (roll-AssignTargetP P L I A D T l)
  target_layer_reads n smaller (layer.AssignTargetP::Tuple xs) few =
      let is : lists (roll-AssignTargetP P L I A D T (layer.AssignTargetP::Tuple xs)) ≡ sum_by (λ x. lists x.node) xs.items + 1 = ap lists (target.rolls-Tuple xs) ∙ lists-Tuple xs in
      ap read_all (ap target_places (target.rolls-Tuple xs) ∙ target_places-Tuple xs) ∙ targets_read n smaller xs.items (omega (arith, few, is)) ∙ sym (fold-roll-AssignTargetP P L I A D T _ _ _ _ _ _ _ _ _ _ argument_names target_names clause_names expr_names parameter_names call_args_names fstring_names for_clause_names lambda_names type_names (layer.AssignTargetP::Tuple xs) ∙ flat_map-map _ _ xs.items)
  target_layer_reads n smaller (layer.AssignTargetP::Index x) few = ap read_all (ap target_places (target.rolls-Index x) ∙ target_places-Index x) ∙ two_read x.value.0 x.value.1 ∙ sym (fold-roll-AssignTargetP P L I A D T _ _ _ _ _ _ _ _ _ _ argument_names target_names clause_names expr_names parameter_names call_args_names fstring_names for_clause_names lambda_names type_names (layer.AssignTargetP::Index x))
  target_layer_reads n smaller (layer.AssignTargetP::Dot x name) few = ap read_all (ap target_places (target.rolls-Dot x name) ∙ target_places-Dot x name) ∙ one_reads x.value ∙ sym (fold-roll-AssignTargetP P L I A D T _ _ _ _ _ _ _ _ _ _ argument_names target_names clause_names expr_names parameter_names call_args_names fstring_names for_clause_names lambda_names type_names (layer.AssignTargetP::Dot x name))
  target_layer_reads n smaller (layer.AssignTargetP::Identifier x) few = ap read_all (ap target_places (target.rolls-Identifier x) ∙ target_places-Identifier x) ∙ sym (fold-roll-AssignTargetP P L I A D T _ _ _ _ _ _ _ _ _ _ argument_names target_names clause_names expr_names parameter_names call_args_names fstring_names for_clause_names lambda_names type_names (layer.AssignTargetP::Identifier x))

  -- the same below a bound
  target_reads_below : (n : ℕ) (x : Spanned (AssignTargetP P L I A D T)) → lists x.node < n → read_all (target_places x.node) ≡ target_reads x.node
  target_reads_below zero x few = absurd (omega (arith, few))
  target_reads_below (suc n) x few =
      let is = roll-out-AssignTargetP P L I A D T x.node in
      ap (λ q. read_all (target_places q)) (sym is) ∙ target_layer_reads n (target_reads_below n) (out-AssignTargetP P L I A D T x.node) (omega (arith, few, ap lists is)) ∙ ap target_reads is

  target_read : (x : Spanned (AssignTargetP P L I A D T)) → read_all (target_places x.node) ≡ target_reads x.node
  target_read x = target_reads_below (suc (lists x.node)) x (omega arith)

  -- ---- arguments and parameters

  argument_layer_reads : (l : ArgumentP-F P L I A D T (ArgumentP P L I A D T) (AssignTargetP P L I A D T) (ClauseP P L I A D T) (ExprP P L I A D T) (ParameterP P L I A D T) (CallArgsP P L I A D T) (FStringP P L I A D T) (ForClauseP P L I A D T) (LambdaP P L I A D T) (TypeExprP P L I A D T)) → expr_reads (argument_expr_layer l).node ≡ argument_reads (roll-ArgumentP P L I A D T l)
  argument_layer_reads (layer.Positional x) = sym (fold-roll-ArgumentP P L I A D T _ _ _ _ _ _ _ _ _ _ argument_names target_names clause_names expr_names parameter_names call_args_names fstring_names for_clause_names lambda_names type_names (layer.Positional x))
  argument_layer_reads (layer.Named name x) = sym (fold-roll-ArgumentP P L I A D T _ _ _ _ _ _ _ _ _ _ argument_names target_names clause_names expr_names parameter_names call_args_names fstring_names for_clause_names lambda_names type_names (layer.Named name x))
  argument_layer_reads (layer.ArgumentP::Args x) = sym (fold-roll-ArgumentP P L I A D T _ _ _ _ _ _ _ _ _ _ argument_names target_names clause_names expr_names parameter_names call_args_names fstring_names for_clause_names lambda_names type_names (layer.ArgumentP::Args x))
  argument_layer_reads (layer.ArgumentP::KwArgs x) = sym (fold-roll-ArgumentP P L I A D T _ _ _ _ _ _ _ _ _ _ argument_names target_names clause_names expr_names parameter_names call_args_names fstring_names for_clause_names lambda_names type_names (layer.ArgumentP::KwArgs x))

  arguments_read : (xs : List (Spanned (ArgumentP P L I A D T))) → read_all (map argument_place xs) ≡ flat_map (λ y. argument_reads y.node) xs
  arguments_read xs =
      ap read_all (sym (flat_map_single argument_place xs))
      ∙ each_reads (λ y. argument_place y ∷ []) (λ y. argument_reads y.node) xs (λ y. one_reads (argument_place y) ∙ argument_layer_reads (out-ArgumentP P L I A D T y.node) ∙ ap argument_reads (roll-out-ArgumentP P L I A D T y.node))

  plain_reads : (x : Spanned (AssignIdentP P L I A D T)) (type : Option (Box (Spanned (TypeExprP P L I A D T)) Global)) (default : Option (Box (E P L I A D T) Global)) → parameter_reads (roll-ParameterP P L I A D T (layer.Normal x type default)) ≡ maybe_type_reads type ++ maybe_reads default
  plain_reads x None None = fold-roll-ParameterP P L I A D T _ _ _ _ _ _ _ _ _ _ argument_names target_names clause_names expr_names parameter_names call_args_names fstring_names for_clause_names lambda_names type_names (layer.Normal x None None)
  plain_reads x None (Some default) = fold-roll-ParameterP P L I A D T _ _ _ _ _ _ _ _ _ _ argument_names target_names clause_names expr_names parameter_names call_args_names fstring_names for_clause_names lambda_names type_names (layer.Normal x None (Some default))
  plain_reads x (Some type) None = fold-roll-ParameterP P L I A D T _ _ _ _ _ _ _ _ _ _ argument_names target_names clause_names expr_names parameter_names call_args_names fstring_names for_clause_names lambda_names type_names (layer.Normal x (Some type) None)
  plain_reads x (Some type) (Some default) = fold-roll-ParameterP P L I A D T _ _ _ _ _ _ _ _ _ _ argument_names target_names clause_names expr_names parameter_names call_args_names fstring_names for_clause_names lambda_names type_names (layer.Normal x (Some type) (Some default))

  args_reads : (x : Spanned (AssignIdentP P L I A D T)) (type : Option (Box (Spanned (TypeExprP P L I A D T)) Global)) → parameter_reads (roll-ParameterP P L I A D T (layer.ParameterP::Args x type)) ≡ maybe_type_reads type
  args_reads x None = fold-roll-ParameterP P L I A D T _ _ _ _ _ _ _ _ _ _ argument_names target_names clause_names expr_names parameter_names call_args_names fstring_names for_clause_names lambda_names type_names (layer.ParameterP::Args x None)
  args_reads x (Some type) = fold-roll-ParameterP P L I A D T _ _ _ _ _ _ _ _ _ _ argument_names target_names clause_names expr_names parameter_names call_args_names fstring_names for_clause_names lambda_names type_names (layer.ParameterP::Args x (Some type))

  kwargs_reads : (x : Spanned (AssignIdentP P L I A D T)) (type : Option (Box (Spanned (TypeExprP P L I A D T)) Global)) → parameter_reads (roll-ParameterP P L I A D T (layer.ParameterP::KwArgs x type)) ≡ maybe_type_reads type
  kwargs_reads x None = fold-roll-ParameterP P L I A D T _ _ _ _ _ _ _ _ _ _ argument_names target_names clause_names expr_names parameter_names call_args_names fstring_names for_clause_names lambda_names type_names (layer.ParameterP::KwArgs x None)
  kwargs_reads x (Some type) = fold-roll-ParameterP P L I A D T _ _ _ _ _ _ _ _ _ _ argument_names target_names clause_names expr_names parameter_names call_args_names fstring_names for_clause_names lambda_names type_names (layer.ParameterP::KwArgs x (Some type))

  parameter_layer_reads : (l : ParameterP-F P L I A D T (ArgumentP P L I A D T) (AssignTargetP P L I A D T) (ClauseP P L I A D T) (ExprP P L I A D T) (ParameterP P L I A D T) (CallArgsP P L I A D T) (FStringP P L I A D T) (ForClauseP P L I A D T) (LambdaP P L I A D T) (TypeExprP P L I A D T)) → read_all (parameter_layer l) ≡ parameter_reads (roll-ParameterP P L I A D T l)
  parameter_layer_reads layer.Slash = sym (fold-roll-ParameterP P L I A D T _ _ _ _ _ _ _ _ _ _ argument_names target_names clause_names expr_names parameter_names call_args_names fstring_names for_clause_names lambda_names type_names (layer.Slash))
  parameter_layer_reads (layer.Normal x type default) = both_read (maybe_type_place type) (maybe_place default) _ _ (type_read type) (maybe_read default) ∙ sym (plain_reads x type default)
  parameter_layer_reads layer.NoArgs = sym (fold-roll-ParameterP P L I A D T _ _ _ _ _ _ _ _ _ _ argument_names target_names clause_names expr_names parameter_names call_args_names fstring_names for_clause_names lambda_names type_names (layer.NoArgs))
  parameter_layer_reads (layer.ParameterP::Args x type) = type_read type ∙ sym (args_reads x type)
  parameter_layer_reads (layer.ParameterP::KwArgs x type) = type_read type ∙ sym (kwargs_reads x type)

  parameter_read : (x : Spanned (ParameterP P L I A D T)) → read_all (parameter_places x.node) ≡ parameter_reads x.node
  parameter_read x = parameter_layer_reads (out-ParameterP P L I A D T x.node) ∙ ap parameter_reads (roll-out-ParameterP P L I A D T x.node)

  -- ---- clauses

  for_clause_read : (x : ForClauseP P L I A D T) → read_all (for_clause_places x) ≡ for_clause_reads x
  for_clause_read x = both_read (target_places x.var.node) (x.over ∷ []) _ _ (target_read x.var) (one_reads x.over) ∙ sym (fold_out-ForClauseP P L I A D T _ _ _ _ _ _ _ _ _ _ argument_names target_names clause_names expr_names parameter_names call_args_names fstring_names for_clause_names lambda_names type_names x)

  clause_layer_reads : (l : ClauseP-F P L I A D T (ArgumentP P L I A D T) (AssignTargetP P L I A D T) (ClauseP P L I A D T) (ExprP P L I A D T) (ParameterP P L I A D T) (CallArgsP P L I A D T) (FStringP P L I A D T) (ForClauseP P L I A D T) (LambdaP P L I A D T) (TypeExprP P L I A D T)) → read_all (clause_layer l) ≡ clause_reads (roll-ClauseP P L I A D T l)
  clause_layer_reads (layer.For x) = for_clause_read x ∙ sym (fold-roll-ClauseP P L I A D T _ _ _ _ _ _ _ _ _ _ argument_names target_names clause_names expr_names parameter_names call_args_names fstring_names for_clause_names lambda_names type_names (layer.For x))
  clause_layer_reads (layer.ClauseP::If x) = one_reads x ∙ sym (fold-roll-ClauseP P L I A D T _ _ _ _ _ _ _ _ _ _ argument_names target_names clause_names expr_names parameter_names call_args_names fstring_names for_clause_names lambda_names type_names (layer.ClauseP::If x))

  clause_read : (x : ClauseP P L I A D T) → read_all (clause_places x) ≡ clause_reads x
  clause_read x = clause_layer_reads (out-ClauseP P L I A D T x) ∙ ap clause_reads (roll-out-ClauseP P L I A D T x)

  -- clauses, and what they make
  comprehension_read : (first : ForClauseP P L I A D T) (rest : List (ClauseP P L I A D T)) (xs : List (E P L I A D T)) (m : List (N P L I A D T)) → read_all xs ≡ m → read_all (for_clause_places first ++ (flat_map clause_places rest ++ xs)) ≡ for_clause_reads first ++ (flat_map clause_reads rest ++ m)
  comprehension_read first rest xs m h = both_read (for_clause_places first) (flat_map clause_places rest ++ xs) _ _ (for_clause_read first) (both_read (flat_map clause_places rest) xs _ _ (each_reads clause_places clause_reads rest clause_read) h)

  -- ---- an expression

  slice_reads : (x : Box (E P L I A D T) Global) (a b c : Option (Box (E P L I A D T) Global)) → expr_reads (roll-ExprP P L I A D T (layer.Slice x a b c)) ≡ expr_reads x.value.node ++ (maybe_reads a ++ (maybe_reads b ++ maybe_reads c))
  slice_reads x None None None = fold-roll-ExprP P L I A D T _ _ _ _ _ _ _ _ _ _ argument_names target_names clause_names expr_names parameter_names call_args_names fstring_names for_clause_names lambda_names type_names (layer.Slice x None None None)
  slice_reads x None None (Some c) = fold-roll-ExprP P L I A D T _ _ _ _ _ _ _ _ _ _ argument_names target_names clause_names expr_names parameter_names call_args_names fstring_names for_clause_names lambda_names type_names (layer.Slice x None None (Some c))
  slice_reads x None (Some b) None = fold-roll-ExprP P L I A D T _ _ _ _ _ _ _ _ _ _ argument_names target_names clause_names expr_names parameter_names call_args_names fstring_names for_clause_names lambda_names type_names (layer.Slice x None (Some b) None)
  slice_reads x None (Some b) (Some c) = fold-roll-ExprP P L I A D T _ _ _ _ _ _ _ _ _ _ argument_names target_names clause_names expr_names parameter_names call_args_names fstring_names for_clause_names lambda_names type_names (layer.Slice x None (Some b) (Some c))
  slice_reads x (Some a) None None = fold-roll-ExprP P L I A D T _ _ _ _ _ _ _ _ _ _ argument_names target_names clause_names expr_names parameter_names call_args_names fstring_names for_clause_names lambda_names type_names (layer.Slice x (Some a) None None)
  slice_reads x (Some a) None (Some c) = fold-roll-ExprP P L I A D T _ _ _ _ _ _ _ _ _ _ argument_names target_names clause_names expr_names parameter_names call_args_names fstring_names for_clause_names lambda_names type_names (layer.Slice x (Some a) None (Some c))
  slice_reads x (Some a) (Some b) None = fold-roll-ExprP P L I A D T _ _ _ _ _ _ _ _ _ _ argument_names target_names clause_names expr_names parameter_names call_args_names fstring_names for_clause_names lambda_names type_names (layer.Slice x (Some a) (Some b) None)
  slice_reads x (Some a) (Some b) (Some c) = fold-roll-ExprP P L I A D T _ _ _ _ _ _ _ _ _ _ argument_names target_names clause_names expr_names parameter_names call_args_names fstring_names for_clause_names lambda_names type_names (layer.Slice x (Some a) (Some b) (Some c))

  -- what is no identifier, by its layer
  layer_reads : (l : ExprLayer P L I A D T) → ((y : N P L I A D T) → roll-ExprP P L I A D T l ≡ expr.Identifier y → ⊥) → read_all (expr_layer l) ≡ expr_reads (roll-ExprP P L I A D T l)
  layer_reads (layer.ExprP::Tuple xs) other = sym (fold-roll-ExprP P L I A D T _ _ _ _ _ _ _ _ _ _ argument_names target_names clause_names expr_names parameter_names call_args_names fstring_names for_clause_names lambda_names type_names (layer.ExprP::Tuple xs) ∙ flat_map-map _ _ xs.items)
  layer_reads (layer.ExprP::Dot x name) other = one_reads x.value ∙ sym (fold-roll-ExprP P L I A D T _ _ _ _ _ _ _ _ _ _ argument_names target_names clause_names expr_names parameter_names call_args_names fstring_names for_clause_names lambda_names type_names (layer.ExprP::Dot x name))
  layer_reads (layer.Call x args) other = ap (λ q. expr_reads x.value.node ++ q) (arguments_read args.args.items ∙ sym (fold_out-CallArgsP P L I A D T _ _ _ _ _ _ _ _ _ _ argument_names target_names clause_names expr_names parameter_names call_args_names fstring_names for_clause_names lambda_names type_names args ∙ flat_map-map _ _ args.args.items)) ∙ sym (fold-roll-ExprP P L I A D T _ _ _ _ _ _ _ _ _ _ argument_names target_names clause_names expr_names parameter_names call_args_names fstring_names for_clause_names lambda_names type_names (layer.Call x args))
  layer_reads (layer.ExprP::Index x) other = two_read x.value.0 x.value.1 ∙ sym (fold-roll-ExprP P L I A D T _ _ _ _ _ _ _ _ _ _ argument_names target_names clause_names expr_names parameter_names call_args_names fstring_names for_clause_names lambda_names type_names (layer.ExprP::Index x))
  layer_reads (layer.Index2 x) other = ap (λ q. expr_reads x.value.0.node ++ q) (two_read x.value.1 x.value.2) ∙ sym (fold-roll-ExprP P L I A D T _ _ _ _ _ _ _ _ _ _ argument_names target_names clause_names expr_names parameter_names call_args_names fstring_names for_clause_names lambda_names type_names (layer.Index2 x))
  layer_reads (layer.Slice x a b c) other = ap (λ q. expr_reads x.value.node ++ q) (both_read (maybe_place a) (maybe_place b ++ maybe_place c) _ _ (maybe_read a) (both_read (maybe_place b) (maybe_place c) _ _ (maybe_read b) (maybe_read c))) ∙ sym (slice_reads x a b c)
  layer_reads (layer.ExprP::Identifier x) other = absurd (other x (expr.rolls-Identifier x))
  layer_reads (layer.Lambda x) other = both_read (flat_map (λ p. parameter_places p.node) x.params.items) (x.body.value ∷ []) _ _ (each_reads (λ p. parameter_places p.node) (λ p. parameter_reads p.node) x.params.items parameter_read) (one_reads x.body.value) ∙ sym (fold_out-LambdaP P L I A D T _ _ _ _ _ _ _ _ _ _ argument_names target_names clause_names expr_names parameter_names call_args_names fstring_names for_clause_names lambda_names type_names x ∙ ap (λ q. q ++ expr_reads x.body.value.node) (flat_map-map _ _ x.params.items)) ∙ sym (fold-roll-ExprP P L I A D T _ _ _ _ _ _ _ _ _ _ argument_names target_names clause_names expr_names parameter_names call_args_names fstring_names for_clause_names lambda_names type_names (layer.Lambda x))
  layer_reads (layer.Literal x) other = sym (fold-roll-ExprP P L I A D T _ _ _ _ _ _ _ _ _ _ argument_names target_names clause_names expr_names parameter_names call_args_names fstring_names for_clause_names lambda_names type_names (layer.Literal x))
  layer_reads (layer.Not x) other = one_reads x.value ∙ sym (fold-roll-ExprP P L I A D T _ _ _ _ _ _ _ _ _ _ argument_names target_names clause_names expr_names parameter_names call_args_names fstring_names for_clause_names lambda_names type_names (layer.Not x))
  layer_reads (layer.Minus x) other = one_reads x.value ∙ sym (fold-roll-ExprP P L I A D T _ _ _ _ _ _ _ _ _ _ argument_names target_names clause_names expr_names parameter_names call_args_names fstring_names for_clause_names lambda_names type_names (layer.Minus x))
  layer_reads (layer.Plus x) other = one_reads x.value ∙ sym (fold-roll-ExprP P L I A D T _ _ _ _ _ _ _ _ _ _ argument_names target_names clause_names expr_names parameter_names call_args_names fstring_names for_clause_names lambda_names type_names (layer.Plus x))
  layer_reads (layer.BitNot x) other = one_reads x.value ∙ sym (fold-roll-ExprP P L I A D T _ _ _ _ _ _ _ _ _ _ argument_names target_names clause_names expr_names parameter_names call_args_names fstring_names for_clause_names lambda_names type_names (layer.BitNot x))
  layer_reads (layer.Op x o y) other = two_read x.value y.value ∙ sym (fold-roll-ExprP P L I A D T _ _ _ _ _ _ _ _ _ _ argument_names target_names clause_names expr_names parameter_names call_args_names fstring_names for_clause_names lambda_names type_names (layer.Op x o y))
  layer_reads (layer.ExprP::If x) other = ap (λ q. expr_reads x.value.0.node ++ q) (two_read x.value.1 x.value.2) ∙ sym (fold-roll-ExprP P L I A D T _ _ _ _ _ _ _ _ _ _ argument_names target_names clause_names expr_names parameter_names call_args_names fstring_names for_clause_names lambda_names type_names (layer.ExprP::If x))
  layer_reads (layer.List xs) other = sym (fold-roll-ExprP P L I A D T _ _ _ _ _ _ _ _ _ _ argument_names target_names clause_names expr_names parameter_names call_args_names fstring_names for_clause_names lambda_names type_names (layer.List xs) ∙ flat_map-map _ _ xs.items)
  layer_reads (layer.Dict xs) other = each_reads pair_places (λ x. expr_reads x.0.node ++ expr_reads x.1.node) xs.items (λ x. two_read x.0 x.1) ∙ sym (fold-roll-ExprP P L I A D T _ _ _ _ _ _ _ _ _ _ argument_names target_names clause_names expr_names parameter_names call_args_names fstring_names for_clause_names lambda_names type_names (layer.Dict xs) ∙ flat_map-map _ _ xs.items)
  layer_reads (layer.ListComprehension x first rest) other = comprehension_read first.value rest.items (x.value ∷ []) _ (one_reads x.value) ∙ sym (fold-roll-ExprP P L I A D T _ _ _ _ _ _ _ _ _ _ argument_names target_names clause_names expr_names parameter_names call_args_names fstring_names for_clause_names lambda_names type_names (layer.ListComprehension x first rest) ∙ ap (λ q. for_clause_reads first.value ++ (q ++ expr_reads x.value.node)) (flat_map-map _ _ rest.items))
  layer_reads (layer.DictComprehension x first rest) other = comprehension_read first.value rest.items (x.value.0 ∷ x.value.1 ∷ []) _ (two_read x.value.0 x.value.1) ∙ sym (fold-roll-ExprP P L I A D T _ _ _ _ _ _ _ _ _ _ argument_names target_names clause_names expr_names parameter_names call_args_names fstring_names for_clause_names lambda_names type_names (layer.DictComprehension x first rest) ∙ ap (λ q. for_clause_reads first.value ++ (q ++ (expr_reads x.value.0.node ++ expr_reads x.value.1.node))) (flat_map-map _ _ rest.items))
  layer_reads (layer.FString x) other = sym (fold_out-FStringP P L I A D T _ _ _ _ _ _ _ _ _ _ argument_names target_names clause_names expr_names parameter_names call_args_names fstring_names for_clause_names lambda_names type_names x.node ∙ flat_map-map _ _ x.node.expressions.items) ∙ sym (fold-roll-ExprP P L I A D T _ _ _ _ _ _ _ _ _ _ argument_names target_names clause_names expr_names parameter_names call_args_names fstring_names for_clause_names lambda_names type_names (layer.FString x))

  -- What is no identifier reads what the expressions right below it read.
  pub reads_below : (x : ExprP P L I A D T) → ((y : N P L I A D T) → x ≡ expr.Identifier y → ⊥) → flat_map (λ y. expr_reads y.node) (children x) ≡ expr_reads x
  reads_below x other =
      let is = roll-out-ExprP P L I A D T x in
      layer_reads (out-ExprP P L I A D T x) (λ y e. other y (sym is ∙ e)) ∙ ap expr_reads is

  -- An identifier reads itself.
  pub reads_itself : (x : Spanned (IdentP P L I A D T)) → expr_reads (expr.Identifier x) ≡ x ∷ []
  reads_itself x = ap expr_reads (sym (expr.rolls-Identifier x)) ∙ fold-roll-ExprP P L I A D T _ _ _ _ _ _ _ _ _ _ argument_names target_names clause_names expr_names parameter_names call_args_names fstring_names for_clause_names lambda_names type_names (layer.ExprP::Identifier x)
