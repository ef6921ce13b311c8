-- What the expressions below a target, and below parameters, break.
use Rattle.std.proofs.Common.{ℕ, zero, suc, ◌<◌, ◌≡◌, sym, ap, subst, ◌∙◌, List, [], ◌∷◌, ◌++◌, append_assoc, flat_map, fold, refl, arith, Option, Some, None}
use Rattle.std.proofs.lemmas.List.{append-nil}
use Rattle.std.proofs.lemmas.List.Concat.{flat_map-append}
use Rattle.std.proofs.lemmas.List.Folds.{flat_map-map}
use Rattle.std.specs.declared.alloc.Global.{Global}
use Rattle.std.specs.declared.boxed.Box.{Box}
use Rattle.std.specs.declared.string.String.{String}
use Rattle.std.specs.declared.vec.Vec.{Vec}
use Rattle.starlark_place.specs.Place.{Extent}
use Rattle.starlark_place.specs.declared.pos.Spanned.{Spanned}
use Rattle.starlark_lexer.specs.declared.dialect.Dialect.{Dialect}
use Rattle.starlark_ast.specs.Tree as t
use Rattle.starlark_ast.specs.Tree.{Member, Members}
use Rattle.starlark_ast.specs.Places.{E, target_places, target_layer, parameter_places, parameter_layer, maybe_type_place, maybe_place, type_place}
use Rattle.starlark_ast.specs.View.{members, expr_at, target_at, target_view, parameter_at, parameter_view, boxed_type, boxed_expr}
use Rattle.starlark_ast.specs.Views.{target_view-Tuple, target_view-Index, target_view-Dot, target_view-Identifier, parameter_view-Slash, parameter_view-Normal, parameter_view-NoArgs, parameter_view-Args, parameter_view-KwArgs, view-type}
use Rattle.starlark_ast.specs.declared.ast.AssignIdentP.{AssignIdentP}
use Rattle.starlark_ast.specs.declared.ast.ArgumentP.{ArgumentP}
use Rattle.starlark_ast.specs.declared.ast.AssignTargetP.{AssignTargetP, AssignTargetP-F, out-AssignTargetP, roll-AssignTargetP, roll-out-AssignTargetP, para-roll-AssignTargetP}
use Rattle.starlark_ast.specs.declared.ast.ClauseP.{ClauseP}
use Rattle.starlark_ast.specs.declared.ast.ExprP.{ExprP}
use Rattle.starlark_ast.specs.declared.ast.ParameterP.{ParameterP, ParameterP-F, out-ParameterP, roll-ParameterP, roll-out-ParameterP}
use Rattle.starlark_ast.specs.declared.ast.CallArgsP.{CallArgsP}
use Rattle.starlark_ast.specs.declared.ast.FStringP.{FStringP}
use Rattle.starlark_ast.specs.declared.ast.ForClauseP.{ForClauseP}
use Rattle.starlark_ast.specs.declared.ast.LambdaP.{LambdaP}
use Rattle.starlark_ast.specs.declared.ast.TypeExprP.{TypeExprP}
use Rattle.starlark_ast.specs.declared.ast.ArgumentP.TheOpen as layer
use Rattle.starlark_ast.specs.declared.ast.AssignTargetP.TheVariants as target
use Rattle.starlark_ast.specs.declared.ast.ParameterP.TheVariants as param
use Rattle.starlark_rulebook.specs.Late.{expr_rules, member_rules, one_rules, annotation_rules, bound_rules}
use Rattle.starlark_rulebook.specs.Rules.{Finding}
use Rattle.starlark_visit.proofs.Members.{more_sizes}
use Rattle.starlark_visit.specs.Sizes.{size, member_size, sizes}

module _ {P L I A D T : Type 0} where
  -- what some expressions break, in order
  abbrev pub all_rules : Dialect → List (E P L I A D T) → List Finding
  all_rules d cs = flat_map (λ c. expr_rules d (expr_at c)) cs

  -- if the places of each member that is smaller than all break what the member breaks, then so do those of all
  pub members_level : {X : Type 0} (d : Dialect) (f : X → List (E P L I A D T)) (h : X → Member) (ms : Members) (xs : List X) → ((x : X) → member_size (h x) < sizes (fold (λ ns y. t.more ns (h y)) ms xs) → all_rules d (f x) ≡ one_rules d (h x)) → member_rules d ms ++ all_rules d (flat_map f xs) ≡ member_rules d (fold (λ ns y. t.more ns (h y)) ms xs)
  members_level d f h ms [] each = append-nil (member_rules d ms)
  members_level d f h ms (x ∷ xs) each =
      let here : all_rules d (f x) ≡ one_rules d (h x) = each x (omega (arith, more_sizes h (t.more ms (h x)) xs)) in
      ap (λ q. member_rules d ms ++ q) (flat_map-append (λ c. expr_rules d (expr_at c)) (f x) (flat_map f xs) ∙ ap (λ q. q ++ all_rules d (flat_map f xs)) here)
      ∙ sym (append_assoc (member_rules d ms) (one_rules d (h x)) (all_rules d (flat_map f xs)))
      ∙ members_level d f h (t.more ms (h x)) xs each

  -- ---- targets

  -- the places of a target, by variant
  places-Tuple : (xs : Vec (Spanned (AssignTargetP P L I A D T)) Global) → target_places (roll-AssignTargetP P L I A D T (layer.AssignTargetP::Tuple xs)) ≡ flat_map (λ x. target_places x.node) xs.items
  places-Tuple xs = para-roll-AssignTargetP P L I A D T _ _ _ _ _ _ _ _ _ _ (λ x. tt) target_layer (λ x. tt) (λ x. tt) (λ x. tt) (λ x. tt) (λ x. tt) (λ x. tt) (λ x. tt) (λ x. tt) (layer.AssignTargetP::Tuple xs) ∙ flat_map-map _ _ xs.items

  places-Index : (x : Box (E P L I A D T × E P L I A D T) Global) → target_places (roll-AssignTargetP P L I A D T (layer.AssignTargetP::Index x)) ≡ x.value.0 ∷ x.value.1 ∷ []
  places-Index x = para-roll-AssignTargetP P L I A D T _ _ _ _ _ _ _ _ _ _ (λ x. tt) target_layer (λ x. tt) (λ x. tt) (λ x. tt) (λ x. tt) (λ x. tt) (λ x. tt) (λ x. tt) (λ x. tt) (layer.AssignTargetP::Index x)

  places-Dot : (x : Box (E P L I A D T) Global) (name : Spanned (String Global)) → target_places (roll-AssignTargetP P L I A D T (layer.AssignTargetP::Dot x name)) ≡ x.value ∷ []
  places-Dot x name = para-roll-AssignTargetP P L I A D T _ _ _ _ _ _ _ _ _ _ (λ x. tt) target_layer (λ x. tt) (λ x. tt) (λ x. tt) (λ x. tt) (λ x. tt) (λ x. tt) (λ x. tt) (λ x. tt) (layer.AssignTargetP::Dot x name)

  places-Identifier : (x : Spanned (AssignIdentP P L I A D T)) → target_places (roll-AssignTargetP P L I A D T (layer.AssignTargetP::Identifier x)) ≡ []
  places-Identifier x = para-roll-AssignTargetP P L I A D T _ _ _ _ _ _ _ _ _ _ (λ x. tt) target_layer (λ x. tt) (λ x. tt) (λ x. tt) (λ x. tt) (λ x. tt) (λ x. tt) (λ x. tt) (λ x. tt) (layer.AssignTargetP::Identifier x)

  -- one layer of a target, where those of smaller ones are known
  target_step : (n : ℕ) (d : Dialect) → ((x : Spanned (AssignTargetP P L I A D T)) → size (target_at x) < n → all_rules d (target_places x.node) ≡ expr_rules d (target_at x)) → (l : AssignTargetP-F P L I A D T (ArgumentP P L I A D T) (AssignTargetP P L I A D T) (ClauseP P L I A D T) (ExprP P L I A D T) (ParameterP P L I A D T) (CallArgsP P L I A D T) (FStringP P L I A D T) (ForClauseP P L I A D T) (LambdaP P L I A D T) (TypeExprP P L I A D T)) (s : Extent) → size (target_view (roll-AssignTargetP P L I A D T l) s) < suc n → all_rules d (target_places (roll-AssignTargetP P L I A D T l)) ≡ expr_rules d (target_view (roll-AssignTargetP P L I A D T l) s)
  target_step n d smaller (layer.AssignTargetP::Tuple xs) s few =
      let view : target_view (roll-AssignTargetP P L I A D T (layer.AssignTargetP::Tuple xs)) s ≡ t.tuple (members (λ x. t.item (target_at x)) xs.items) s = ap (λ q. target_view q s) (target.rolls-Tuple xs) ∙ target_view-Tuple xs s in
      let small : sizes (members (λ x. t.item (target_at x)) xs.items) < n = omega (arith, few, ap size view) in
      ap (all_rules d) (places-Tuple xs) ∙ members_level d (λ x. target_places x.node) (λ x. t.item (target_at x)) t.none xs.items (λ x less. smaller x (omega (arith, small, less))) ∙ sym (ap (expr_rules d) view)
  target_step n d smaller (layer.AssignTargetP::Index x) s few = ap (all_rules d) (places-Index x) ∙ ap (λ q. expr_rules d (expr_at x.value.0) ++ q) (append-nil (expr_rules d (expr_at x.value.1))) ∙ sym (ap (λ q. expr_rules d (target_view q s)) (target.rolls-Index x) ∙ ap (expr_rules d) (target_view-Index x s))
  target_step n d smaller (layer.AssignTargetP::Dot x name) s few = ap (all_rules d) (places-Dot x name) ∙ append-nil (expr_rules d (expr_at x.value)) ∙ sym (ap (λ q. expr_rules d (target_view q s)) (target.rolls-Dot x name) ∙ ap (expr_rules d) (target_view-Dot x name s))
  target_step n d smaller (layer.AssignTargetP::Identifier x) s few = ap (all_rules d) (places-Identifier x) ∙ sym (ap (λ q. expr_rules d (target_view q s)) (target.rolls-Identifier x) ∙ ap (expr_rules d) (target_view-Identifier x s))

  -- the same below a bound
  target_below : (n : ℕ) (d : Dialect) (x : Spanned (AssignTargetP P L I A D T)) → size (target_at x) < n → all_rules d (target_places x.node) ≡ expr_rules d (target_at x)
  target_below zero d x few = absurd (omega (arith, few))
  target_below (suc n) d x few =
      let is = roll-out-AssignTargetP P L I A D T x.node in
      ap (λ q. all_rules d (target_places q)) (sym is) ∙ target_step n d (target_below n d) (out-AssignTargetP P L I A D T x.node) x.span (subst (λ q. size (target_view q x.span) < suc n) (sym is) few) ∙ ap (λ q. expr_rules d (target_view q x.span)) is

  -- The expressions below a target break what it breaks.
  pub target_level : (d : Dialect) (x : Spanned (AssignTargetP P L I A D T)) → flat_map (λ c. expr_rules d (expr_at c)) (target_places x.node) ≡ expr_rules d (target_at x)
  target_level d x = target_below (suc (size (target_at x))) d x (omega arith)

  -- ---- parameters

  -- the expression of a type, where there is one
  pub boxed_type_level : (d : Dialect) (x : Option (Box (Spanned (TypeExprP P L I A D T)) Global)) → all_rules d (maybe_type_place x) ≡ annotation_rules d (boxed_type x)
  boxed_type_level d None = refl
  boxed_type_level d (Some x) = append-nil (expr_rules d (expr_at (type_place x.value))) ∙ sym (ap (annotation_rules d) (view-type x.value.node x.value.span))

  -- a default, where there is one
  pub boxed_level : (d : Dialect) (x : Option (Box (E P L I A D T) Global)) → all_rules d (maybe_place x) ≡ bound_rules d (boxed_expr x)
  boxed_level d None = refl
  boxed_level d (Some x) = append-nil (expr_rules d (expr_at x.value))

  -- one layer of a parameter
  parameter_step : (d : Dialect) (l : ParameterP-F P L I A D T (ArgumentP P L I A D T) (AssignTargetP P L I A D T) (ClauseP P L I A D T) (ExprP P L I A D T) (ParameterP P L I A D T) (CallArgsP P L I A D T) (FStringP P L I A D T) (ForClauseP P L I A D T) (LambdaP P L I A D T) (TypeExprP P L I A D T)) (s : Extent) → all_rules d (parameter_layer l) ≡ one_rules d (parameter_view (roll-ParameterP P L I A D T l) s)
  parameter_step d layer.Slash s = sym (ap (λ q. one_rules d (parameter_view q s)) param.rolls-Slash ∙ ap (one_rules d) (parameter_view-Slash P L I A D T s))
  parameter_step d (layer.Normal x type default) s =
      flat_map-append (λ c. expr_rules d (expr_at c)) (maybe_type_place type) (maybe_place default)
      ∙ ap (λ q. q ++ all_rules d (maybe_place default)) (boxed_type_level d type) ∙ ap (λ q. annotation_rules d (boxed_type type) ++ q) (boxed_level d default)
      ∙ sym (ap (λ q. one_rules d (parameter_view q s)) (param.rolls-Normal x type default) ∙ ap (one_rules d) (parameter_view-Normal x type default s))
  parameter_step d layer.NoArgs s = sym (ap (λ q. one_rules d (parameter_view q s)) param.rolls-NoArgs ∙ ap (one_rules d) (parameter_view-NoArgs P L I A D T s))
  parameter_step d (layer.ParameterP::Args x type) s =
      boxed_type_level d type ∙ sym (append-nil (annotation_rules d (boxed_type type))) ∙ sym (ap (λ q. one_rules d (parameter_view q s)) (param.rolls-Args x type) ∙ ap (one_rules d) (parameter_view-Args x type s))
  parameter_step d (layer.ParameterP::KwArgs x type) s =
      boxed_type_level d type ∙ sym (append-nil (annotation_rules d (boxed_type type))) ∙ sym (ap (λ q. one_rules d (parameter_view q s)) (param.rolls-KwArgs x type) ∙ ap (one_rules d) (parameter_view-KwArgs x type s))

  -- the expressions below one parameter
  pub parameter_level : (d : Dialect) (x : Spanned (ParameterP P L I A D T)) → all_rules d (parameter_places x.node) ≡ one_rules d (parameter_at x)
  parameter_level d x = parameter_step d (out-ParameterP P L I A D T x.node) x.span ∙ ap (λ q. one_rules d (parameter_view q x.span)) (roll-out-ParameterP P L I A D T x.node)

  -- The expressions below parameters break what these break.
  pub parameters_level : (d : Dialect) (xs : List (Spanned (ParameterP P L I A D T))) → flat_map (λ c. expr_rules d (expr_at c)) (flat_map (λ p. parameter_places p.node) xs) ≡ member_rules d (members parameter_at xs)
  parameters_level d xs = members_level d (λ p. parameter_places p.node) parameter_at t.none xs (λ x _. parameter_level d x)
