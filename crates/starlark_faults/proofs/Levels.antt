-- What an expression breaks: first by itself, then in those right below it, in order.
use Rattle.std.proofs.Common.{◌≡◌, refl, sym, ap, ◌∙◌, List, [], ◌∷◌, ◌++◌, append_assoc, append-nil, map, flat_map, fold, Option}
use Rattle.std.proofs.lemmas.Grind.{flat_map-append}
use Rattle.std.proofs.lemmas.List.Concat.{flat_map_single}
use Rattle.std.specs.declared.alloc.Global.{Global}
use Rattle.std.specs.declared.boxed.Box.{Box}
use Rattle.starlark_place.specs.Place.{Extent}
use Rattle.starlark_place.specs.declared.pos.Spanned.{Spanned}
use Rattle.starlark_lexer.specs.declared.dialect.Dialect.{Dialect}
use Rattle.starlark_ast.specs.Tree as t
use Rattle.starlark_ast.specs.Tree.{Clause, Clauses}
use Rattle.starlark_ast.specs.View.{members, expr_at, expr_view, argument_at, parameter_at, boxed_expr, clause_view, for_clause_view, literal_view}
use Rattle.starlark_ast.specs.Views.{expr_view-Lambda, expr_view-Literal, view-lambda, items_of, pairs_of, clauses_of, clause_view-For, clause_view-If, view-for_clause}
use Rattle.starlark_ast.specs.Places.{E, children, expr_layer, maybe_place, pair_places, argument_place, parameter_places, for_clause_places, clause_places, clause_layer, target_places}
use Rattle.starlark_ast.specs.declared.ast.AstLiteral.{AstLiteral}
use Rattle.starlark_ast.specs.declared.ast.AstLiteral.TheVariants as literal
use Rattle.starlark_ast.specs.declared.ast.ArgumentP.{ArgumentP}
use Rattle.starlark_ast.specs.declared.ast.AssignTargetP.{AssignTargetP}
use Rattle.starlark_ast.specs.declared.ast.ClauseP.{ClauseP, ClauseP-F, out-ClauseP, roll-ClauseP, roll-out-ClauseP}
use Rattle.starlark_ast.specs.declared.ast.ClauseP.TheVariants as clause
use Rattle.starlark_ast.specs.declared.ast.ExprP.{ExprP, out-ExprP, roll-ExprP, roll-out-ExprP}
use Rattle.starlark_ast.specs.declared.ast.ExprP.TheVariants as expr
use Rattle.starlark_ast.specs.declared.ast.ParameterP.{ParameterP}
use Rattle.starlark_ast.specs.declared.ast.CallArgsP.{CallArgsP}
use Rattle.starlark_ast.specs.declared.ast.FStringP.{FStringP}
use Rattle.starlark_ast.specs.declared.ast.ForClauseP.{ForClauseP}
use Rattle.starlark_ast.specs.declared.ast.LambdaP.{LambdaP, out-LambdaP}
use Rattle.starlark_ast.specs.declared.ast.TypeExprP.{TypeExprP}
use Rattle.starlark_ast.specs.declared.ast.ArgumentP.TheOpen as layer
use Rattle.starlark_rulebook.specs.Rules.{Finding, LambdaDisabled}
use Rattle.starlark_rulebook.specs.Late.{unless, parameter_rules, expr_rules, member_rules, bound_rules, clause_rules, one_clause_rules}
use Rattle.starlark_faults.specs.Levels.{own_rules}
use Rattle.starlark_visit.proofs.Layers.{ExprLayer, layer_at, expr_by_layer}
use Rattle.starlark_visit.proofs.Lifted.{singles}
use Rattle.starlark_faults.proofs.Targets.{members_level, target_level, boxed_level, parameters_level}
use Rattle.starlark_faults.proofs.Within.{argument_breaks}

-- ---- lists that are built at their end

-- clauses break what those before and each of the others break
clauses_behind : {X : Type 0} (d : Dialect) (h : X → Clause) (cs : Clauses) (xs : List X) → clause_rules d cs ++ flat_map (λ y. one_clause_rules d (h y)) xs ≡ clause_rules d (fold (λ ds y. t.and_clause ds (h y)) cs xs)
clauses_behind d h cs [] = append-nil (clause_rules d cs)
clauses_behind d h cs (x ∷ xs) = sym (append_assoc (clause_rules d cs) (one_clause_rules d (h x)) (flat_map (λ y. one_clause_rules d (h y)) xs)) ∙ clauses_behind d h (t.and_clause cs (h x)) xs

-- a list that is made of another one's lists
flat_flat : {A B C : Type 0} (f : B → List C) (g : A → List B) (k : A → List C) → ((x : A) → flat_map f (g x) ≡ k x) → (xs : List A) → flat_map f (flat_map g xs) ≡ flat_map k xs
flat_flat f g k same [] = refl
flat_flat f g k same (x ∷ xs) = flat_map-append f (g x) (flat_map g xs) ∙ ap (λ q. q ++ flat_map f (flat_map g xs)) (same x) ∙ ap (λ q. k x ++ q) (flat_flat f g k same xs)

-- a literal has no expression in it
literal_level : (d : Dialect) (x : AstLiteral) (s : Extent) → own_rules d (literal_view x s) ++ [] ≡ expr_rules d (literal_view x s)
literal_level d (literal.Int n) s = refl
literal_level d (literal.Float x) s = refl
literal_level d (literal.String x) s = refl
literal_level d (literal.Bytes x) s = refl
literal_level d literal.Ellipsis s = append-nil _

module _ {P L I A D T : Type 0} where
  -- what some expressions break, one behind the other
  abbrev break_all : Dialect → List (E P L I A D T) → List Finding
  break_all d xs = flat_map (λ c. expr_rules d (expr_at c)) xs

  -- one alone
  breaks_one : (d : Dialect) (x : E P L I A D T) → break_all d (x ∷ []) ≡ expr_rules d (expr_at x)
  breaks_one d x = append-nil (expr_rules d (expr_at x))

  -- two alone
  two_break : (d : Dialect) (x y : E P L I A D T) → break_all d (x ∷ y ∷ []) ≡ expr_rules d (expr_at x) ++ expr_rules d (expr_at y)
  two_break d x y = ap (λ q. expr_rules d (expr_at x) ++ q) (breaks_one d y)

  -- some, and others behind them
  both_break : (d : Dialect) (xs ys : List (E P L I A D T)) (a b : List Finding) → break_all d xs ≡ a → break_all d ys ≡ b → break_all d (xs ++ ys) ≡ a ++ b
  both_break d xs ys a b h k = flat_map-append (λ c. expr_rules d (expr_at c)) xs ys ∙ ap (λ q. q ++ break_all d ys) h ∙ ap (λ q. a ++ q) k

  -- ---- clauses

  -- a clause with a target
  for_clause_breaks : (d : Dialect) (x : ForClauseP P L I A D T) → break_all d (for_clause_places x) ≡ one_clause_rules d (for_clause_view x)
  for_clause_breaks d x = both_break d (target_places x.var.node) (x.over ∷ []) _ _ (target_level d x.var) (breaks_one d x.over) ∙ ap (one_clause_rules d) (sym (view-for_clause x))

  -- a clause, by its layer
  clause_layer_breaks : (d : Dialect) (l : ClauseP-F P L I A D T (ArgumentP P L I A D T) (AssignTargetP P L I A D T) (ClauseP P L I A D T) (ExprP P L I A D T) (ParameterP P L I A D T) (CallArgsP P L I A D T) (FStringP P L I A D T) (ForClauseP P L I A D T) (LambdaP P L I A D T) (TypeExprP P L I A D T)) → break_all d (clause_layer l) ≡ one_clause_rules d (clause_view (roll-ClauseP P L I A D T l))
  clause_layer_breaks d (layer.For x) = for_clause_breaks d x ∙ ap (one_clause_rules d) (sym (clause_view-For x) ∙ sym (ap clause_view (clause.rolls-For x)))
  clause_layer_breaks d (layer.ClauseP::If x) = breaks_one d x ∙ ap (one_clause_rules d) (sym (clause_view-If x) ∙ sym (ap clause_view (clause.rolls-If x)))

  -- any clause
  clause_breaks : (d : Dialect) (x : ClauseP P L I A D T) → break_all d (clause_places x) ≡ one_clause_rules d (clause_view x)
  clause_breaks d x = clause_layer_breaks d (out-ClauseP P L I A D T x) ∙ ap (λ q. one_clause_rules d (clause_view q)) (roll-out-ClauseP P L I A D T x)

  -- the first clause and the others
  all_clauses_break : (d : Dialect) (first : ForClauseP P L I A D T) (rest : List (ClauseP P L I A D T)) → break_all d (for_clause_places first) ++ break_all d (flat_map clause_places rest) ≡ clause_rules d (clauses_of first rest)
  all_clauses_break d first rest =
      ap (λ q. q ++ break_all d (flat_map clause_places rest)) (for_clause_breaks d first)
      ∙ ap (λ q. one_clause_rules d (for_clause_view first) ++ q) (flat_flat (λ c. expr_rules d (expr_at c)) clause_places (λ x. one_clause_rules d (clause_view x)) (clause_breaks d) rest)
      ∙ clauses_behind d clause_view (t.and_clause t.no_clauses (for_clause_view first)) rest

  -- clauses, and what they make
  comprehension_level : (d : Dialect) (first : ForClauseP P L I A D T) (rest : List (ClauseP P L I A D T)) (xs : List (E P L I A D T)) (m : List Finding) → break_all d xs ≡ m → break_all d (for_clause_places first ++ (flat_map clause_places rest ++ xs)) ≡ clause_rules d (clauses_of first rest) ++ m
  comprehension_level d first rest xs m h =
      let front = for_clause_places first in
      let back = flat_map clause_places rest in
      both_break d front (back ++ xs) _ _ refl (both_break d back xs _ _ refl h) ∙ sym (append_assoc (break_all d front) (break_all d back) m) ∙ ap (λ q. q ++ m) (all_clauses_break d first rest)

  -- ---- an expression

  -- those of a tuple, a list or an f-string
  items_break : (d : Dialect) (xs : List (E P L I A D T)) → break_all d xs ≡ member_rules d (items_of xs)
  items_break d xs = ap (break_all d) (sym (singles xs)) ∙ members_level d (λ y. y ∷ []) (λ y. t.item (expr_at y)) t.none xs (λ y _. breaks_one d y)

  -- those of a call
  arguments_break : (d : Dialect) (xs : List (Spanned (ArgumentP P L I A D T))) → break_all d (map argument_place xs) ≡ member_rules d (members argument_at xs)
  arguments_break d xs = ap (break_all d) (sym (flat_map_single argument_place xs)) ∙ members_level d (λ y. argument_place y ∷ []) argument_at t.none xs (λ y _. breaks_one d (argument_place y) ∙ sym (argument_breaks d y))

  -- those of a dict
  pairs_break : (d : Dialect) (xs : List (E P L I A D T × E P L I A D T)) → break_all d (flat_map pair_places xs) ≡ member_rules d (pairs_of xs)
  pairs_break d xs = members_level d pair_places (λ y. t.pair (expr_at y.0) (expr_at y.1)) t.none xs (λ y _. two_break d y.0 y.1)

  -- those of a slice
  bounds_break : (d : Dialect) (a b c : Option (Box (E P L I A D T) Global)) → break_all d (maybe_place a ++ (maybe_place b ++ maybe_place c)) ≡ bound_rules d (boxed_expr a) ++ bound_rules d (boxed_expr b) ++ bound_rules d (boxed_expr c)
  bounds_break d a b c =
      both_break d (maybe_place a) (maybe_place b ++ maybe_place c) _ _ (boxed_level d a) (both_break d (maybe_place b) (maybe_place c) _ _ (boxed_level d b) (boxed_level d c))
      ∙ sym (append_assoc (bound_rules d (boxed_expr a)) (bound_rules d (boxed_expr b)) (bound_rules d (boxed_expr c)))

  -- defaults and types of parameters, then the body, behind what else is found
  lambda_level : (d : Dialect) (own : List Finding) (xs : List (Spanned (ParameterP P L I A D T))) (x : E P L I A D T) → own ++ break_all d (flat_map (λ p. parameter_places p.node) xs ++ x ∷ []) ≡ own ++ member_rules d (members parameter_at xs) ++ expr_rules d (expr_at x)
  lambda_level d own xs x =
      ap (λ q. own ++ q) (both_break d (flat_map (λ p. parameter_places p.node) xs) (x ∷ []) _ _ (parameters_level d xs) (breaks_one d x))
      ∙ sym (append_assoc own (member_rules d (members parameter_at xs)) (expr_rules d (expr_at x)))

  -- the law for one layer
  layer_level : (d : Dialect) (l : ExprLayer P L I A D T) (s : Extent) → own_rules d (layer_at l s) ++ break_all d (expr_layer l) ≡ expr_rules d (layer_at l s)
  layer_level d (layer.ExprP::Tuple xs) s = items_break d xs.items
  layer_level d (layer.ExprP::Dot x name) s = breaks_one d x.value
  layer_level d (layer.Call x args) s = ap (λ q. expr_rules d (expr_at x.value) ++ q) (arguments_break d args.args.items)
  layer_level d (layer.ExprP::Index x) s = two_break d x.value.0 x.value.1
  layer_level d (layer.Index2 x) s = ap (λ q. expr_rules d (expr_at x.value.0) ++ q) (two_break d x.value.1 x.value.2)
  layer_level d (layer.Slice x a b c) s = ap (λ q. expr_rules d (expr_at x.value) ++ q) (bounds_break d a b c)
  layer_level d (layer.ExprP::Identifier x) s = refl
  layer_level d (layer.Lambda x) s = let l = out-LambdaP P L I A D T x in lambda_level d (unless d.enable_lambda LambdaDisabled s ++ parameter_rules d (members parameter_at l.params.items)) l.params.items l.body.value
  layer_level d (layer.Literal x) s = literal_level d x s
  layer_level d (layer.Not x) s = breaks_one d x.value
  layer_level d (layer.Minus x) s = breaks_one d x.value
  layer_level d (layer.Plus x) s = breaks_one d x.value
  layer_level d (layer.BitNot x) s = breaks_one d x.value
  layer_level d (layer.Op x o y) s = two_break d x.value y.value
  layer_level d (layer.ExprP::If x) s = ap (λ q. expr_rules d (expr_at x.value.0) ++ q) (two_break d x.value.1 x.value.2) ∙ sym (append_assoc (expr_rules d (expr_at x.value.0)) (expr_rules d (expr_at x.value.1)) (expr_rules d (expr_at x.value.2)))
  layer_level d (layer.List xs) s = items_break d xs.items
  layer_level d (layer.Dict xs) s = pairs_break d xs.items
  layer_level d (layer.ListComprehension x first rest) s = comprehension_level d first.value rest.items (x.value ∷ []) _ (breaks_one d x.value)
  layer_level d (layer.DictComprehension x first rest) s = comprehension_level d first.value rest.items (x.value.0 ∷ x.value.1 ∷ []) _ (two_break d x.value.0 x.value.1)
  layer_level d (layer.FString x) s = items_break d x.node.expressions.items

  -- what an expression breaks is what it breaks by itself, and then what those right below it break
  pub expr_level : (d : Dialect) (x : E P L I A D T) → own_rules d (expr_at x) ++ flat_map (λ c. expr_rules d (expr_at c)) (children x.node) ≡ expr_rules d (expr_at x)
  expr_level d x =
      ap (λ v. own_rules d v ++ break_all d (children x.node)) (expr_by_layer x) ∙ layer_level d (out-ExprP P L I A D T x.node) x.span ∙ ap (expr_rules d) (sym (expr_by_layer x))

  -- what is neither a lambda nor a literal breaks nothing by itself
  layer_alone : (d : Dialect) (l : ExprLayer P L I A D T) (s : Extent) → ((y : LambdaP P L I A D T) → roll-ExprP P L I A D T l ≡ expr.Lambda y → ⊥) → ((y : AstLiteral) → roll-ExprP P L I A D T l ≡ expr.Literal y → ⊥) → own_rules d (layer_at l s) ≡ []
  layer_alone d (layer.Lambda y) s no_lambda no_literal = absurd (no_lambda y (expr.rolls-Lambda y))
  layer_alone d (layer.Literal y) s no_lambda no_literal = absurd (no_literal y (expr.rolls-Literal y))
  layer_alone d l s no_lambda no_literal = refl

  pub own_none : (d : Dialect) (x : E P L I A D T) → ((y : LambdaP P L I A D T) → x.node ≡ expr.Lambda y → ⊥) → ((y : AstLiteral) → x.node ≡ expr.Literal y → ⊥) → own_rules d (expr_at x) ≡ []
  own_none d x no_lambda no_literal =
      ap (own_rules d) (expr_by_layer x) ∙ layer_alone d (out-ExprP P L I A D T x.node) x.span (λ y e. no_lambda y (sym (roll-out-ExprP P L I A D T x.node) ∙ e)) (λ y e. no_literal y (sym (roll-out-ExprP P L I A D T x.node) ∙ e))

  pub own_lambda : (d : Dialect) (x : E P L I A D T) (y : LambdaP P L I A D T) → x.node ≡ expr.Lambda y → own_rules d (expr_at x) ≡ unless d.enable_lambda LambdaDisabled x.span ++ parameter_rules d (members parameter_at (out-LambdaP P L I A D T y).params.items)
  own_lambda d x y is = ap (λ q. own_rules d (expr_view q x.span)) is ∙ ap (own_rules d) (expr_view-Lambda y x.span ∙ view-lambda y x.span)

  pub own_literal : (d : Dialect) (x : E P L I A D T) (y : AstLiteral) → x.node ≡ expr.Literal y → expr_rules d (literal_view y x.span) ≡ own_rules d (expr_at x)
  own_literal d x y is = sym (literal_level d y x.span) ∙ append-nil _ ∙ sym (ap (λ q. own_rules d (expr_view q x.span)) is ∙ ap (own_rules d) (expr_view-Literal P L I A D T y x.span))
