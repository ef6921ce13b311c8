-- The outermost expressions in a statement break what its expressions break.
use Rattle.std.proofs.Common.{ℕ, zero, suc, ◌<◌, ◌≤◌, ◌≡◌, sym, ap, subst, ◌∙◌, List, [], ◌∷◌, ◌++◌, append_assoc, flat_map, fold, refl, arith, Option, Some, None}
use Rattle.std.proofs.lemmas.List.{append-nil}
use Rattle.std.proofs.lemmas.List.Concat.{flat_map-append}
use Rattle.std.proofs.lemmas.List.Folds.{flat_map-map}
use Rattle.starlark_place.specs.Place.{Extent}
use Rattle.starlark_place.specs.declared.pos.Spanned.{Spanned}
use Rattle.starlark_lexer.specs.declared.dialect.Dialect.{Dialect}
use Rattle.starlark_ast.specs.Tree as t
use Rattle.starlark_ast.specs.Tree.{Statement, Sequence}
use Rattle.starlark_ast.specs.Places.{E, target_places, parameter_places, maybe_type_place, type_place}
use Rattle.starlark_ast.specs.Statements.{S, maybe_here, maybe_type_here, assign_places, for_places, def_places, exprs_layer, exprs_below, inner_exprs, inner_layer, inner_def, inner_for, outer_exprs}
use Rattle.starlark_ast.specs.StatementViews.{statements_of, stmt_view-Break, stmt_view-Continue, stmt_view-Pass, stmt_view-Return, stmt_view-Expression, stmt_view-Assign, stmt_view-AssignModify, stmt_view-Statements, stmt_view-If, stmt_view-IfElse, stmt_view-For, stmt_view-Def, stmt_view-Load, view-def, view-for}
use Rattle.starlark_ast.specs.View.{members, expr_at, target_at, parameter_at, ident_at, stmt_at, stmt_view, maybe_type, maybe_expr, boxed_type}
use Rattle.starlark_ast.specs.Views.{view-type}
use Rattle.starlark_ast.specs.declared.ast.AssignP.{AssignP}
use Rattle.starlark_ast.specs.declared.ast.TypeExprP.{TypeExprP}
use Rattle.starlark_ast.specs.declared.ast.DefP.{DefP, out-DefP, roll-out-DefP, para-DefP, para-roll-DefP}
use Rattle.starlark_ast.specs.declared.ast.ForP.{ForP, out-ForP, roll-out-ForP, para-ForP, para-roll-ForP}
use Rattle.starlark_ast.specs.declared.ast.StmtP.{StmtP, StmtP-F, out-StmtP, roll-StmtP, roll-out-StmtP, out-roll-StmtP, para-roll-StmtP}
use Rattle.starlark_ast.specs.declared.ast.StmtP.TheOpen as stmt
use Rattle.starlark_ast.specs.declared.ast.StmtP.TheVariants as variant
use Rattle.starlark_rulebook.specs.Rules.{Finding}
use Rattle.starlark_rulebook.specs.Late.{expr_rules, member_rules, annotation_rules, some_rules, expressions_rules, inner_rules}
use Rattle.starlark_visit.specs.Sizes.{statement_size, sequence_size}
use Rattle.starlark_visit.proofs.SmallerStatements.{more_statements}
use Rattle.starlark_faults.proofs.Targets.{all_rules, target_level, parameters_level, boxed_type_level}

-- two lists that are equal part by part
both : {a b x y : List Finding} → a ≡ x → b ≡ y → a ++ b ≡ x ++ y
both {a} {b} {x} {y} e f = ap (λ q. q ++ b) e ∙ ap (λ q. x ++ q) f

module _ {P L I A D T : Type 0} where
  -- ---- lists of expressions

  split : (d : Dialect) (xs ys : List (E P L I A D T)) → all_rules d (xs ++ ys) ≡ all_rules d xs ++ all_rules d ys
  split d xs ys = flat_map-append (λ c. expr_rules d (expr_at c)) xs ys

  one : (d : Dialect) (x : E P L I A D T) → all_rules d (x ∷ []) ≡ expr_rules d (expr_at x)
  one d x = append-nil (expr_rules d (expr_at x))

  last : (d : Dialect) (xs : List (E P L I A D T)) (x : E P L I A D T) → all_rules d (xs ++ x ∷ []) ≡ all_rules d xs ++ expr_rules d (expr_at x)
  last d xs x = split d xs (x ∷ []) ∙ ap (λ q. all_rules d xs ++ q) (one d x)

  -- ---- the expressions right below a statement

  here_level : (d : Dialect) (x : Option (E P L I A D T)) → all_rules d (maybe_here x) ≡ some_rules d (maybe_expr x)
  here_level d None = refl
  here_level d (Some x) = one d x

  type_level : (d : Dialect) (x : Option (Spanned (TypeExprP P L I A D T))) → all_rules d (maybe_type_here x) ≡ annotation_rules d (maybe_type x)
  type_level d None = refl
  type_level d (Some x) = one d (type_place x) ∙ sym (ap (annotation_rules d) (view-type x.node x.span))

  assign_level : (d : Dialect) (x : AssignP P L I A D T) → all_rules d (assign_places x) ≡ expr_rules d (target_at x.lhs) ++ annotation_rules d (maybe_type x.ty) ++ expr_rules d (expr_at x.rhs)
  assign_level d x =
      split d (target_places x.lhs.node) (maybe_type_here x.ty ++ x.rhs ∷ [])
      ∙ both (target_level d x.lhs) (last d (maybe_type_here x.ty) x.rhs ∙ ap (λ q. q ++ expr_rules d (expr_at x.rhs)) (type_level d x.ty))
      ∙ sym (append_assoc (expr_rules d (target_at x.lhs)) (annotation_rules d (maybe_type x.ty)) (expr_rules d (expr_at x.rhs)))

  for_level : (d : Dialect) (x : ForP P L I A D T) → all_rules d (for_places x) ≡ expr_rules d (target_at x.var) ++ expr_rules d (expr_at x.over)
  for_level d x = last d (target_places x.var.node) x.over ∙ ap (λ q. q ++ expr_rules d (expr_at x.over)) (target_level d x.var)

  def_level : (d : Dialect) (x : DefP P L I A D T) → all_rules d (def_places x) ≡ member_rules d (members parameter_at x.params.items) ++ annotation_rules d (boxed_type x.return_type)
  def_level d x = split d (flat_map (λ p. parameter_places p.node) x.params.items) (maybe_type_place x.return_type) ∙ both (parameters_level d x.params.items) (boxed_type_level d x.return_type)

  -- ---- the expressions further below

  inner-For : (x : ForP P L I A D T) → inner_exprs (roll-StmtP P L I A D T (stmt.For x)) ≡ outer_exprs x.body.value.node
  inner-For x =
      para-roll-StmtP P L I A D T _ _ _ inner_layer inner_def inner_for (stmt.For x)
      ∙ ap (para-ForP P L I A D T _ _ _ inner_layer inner_def inner_for) (sym (roll-out-ForP P L I A D T x)) ∙ para-roll-ForP P L I A D T _ _ _ inner_layer inner_def inner_for (out-ForP P L I A D T x)

  inner-Def : (x : DefP P L I A D T) → inner_exprs (roll-StmtP P L I A D T (stmt.Def x)) ≡ outer_exprs x.body.value.node
  inner-Def x =
      para-roll-StmtP P L I A D T _ _ _ inner_layer inner_def inner_for (stmt.Def x)
      ∙ ap (para-DefP P L I A D T _ _ _ inner_layer inner_def inner_for) (sym (roll-out-DefP P L I A D T x)) ∙ para-roll-DefP P L I A D T _ _ _ inner_layer inner_def inner_for (out-DefP P L I A D T x)

  -- if the law holds of each statement that is no larger than all, then it holds of all
  sequence_level : (d : Dialect) (ss : Sequence) (xs : List (S P L I A D T)) → ((x : S P L I A D T) → statement_size (stmt_at x) ≤ sequence_size (fold (λ rs y. t.add_statement rs (stmt_at y)) ss xs) → all_rules d (outer_exprs x.node) ≡ expressions_rules d (stmt_at x)) → inner_rules d ss ++ all_rules d (flat_map (λ x. outer_exprs x.node) xs) ≡ inner_rules d (fold (λ rs y. t.add_statement rs (stmt_at y)) ss xs)
  sequence_level d ss [] each = append-nil (inner_rules d ss)
  sequence_level d ss (x ∷ xs) each =
      let here : all_rules d (outer_exprs x.node) ≡ expressions_rules d (stmt_at x) = each x (omega (arith, more_statements (t.add_statement ss (stmt_at x)) xs)) in
      let rest = flat_map (λ y. outer_exprs y.node) xs in
      ap (λ q. inner_rules d ss ++ q) (split d (outer_exprs x.node) rest ∙ ap (λ q. q ++ all_rules d rest) here)
      ∙ sym (append_assoc (inner_rules d ss) (expressions_rules d (stmt_at x)) (all_rules d rest))
      ∙ sequence_level d (t.add_statement ss (stmt_at x)) xs each

  -- ---- one layer

  -- the law at a layer, from what it holds and what it is seen as
  layer_level : (d : Dialect) (l : StmtP-F P L I A D T (StmtP P L I A D T) (DefP P L I A D T) (ForP P L I A D T)) (s : Extent) (inner : List (E P L I A D T)) (made : Statement) → inner_exprs (roll-StmtP P L I A D T l) ≡ inner → stmt_view (roll-StmtP P L I A D T l) s ≡ made → all_rules d (exprs_layer l) ++ all_rules d inner ≡ expressions_rules d made → all_rules d (outer_exprs (roll-StmtP P L I A D T l)) ≡ expressions_rules d (stmt_view (roll-StmtP P L I A D T l) s)
  layer_level d l s inner made is view e =
      split d (exprs_below (roll-StmtP P L I A D T l)) (inner_exprs (roll-StmtP P L I A D T l))
      ∙ both (ap (λ q. all_rules d (exprs_layer q)) (out-roll-StmtP P L I A D T l)) (ap (all_rules d) is)
      ∙ e ∙ sym (ap (expressions_rules d) view)

  -- the same at a layer that holds no statements
  plain_level : (d : Dialect) (l : StmtP-F P L I A D T (StmtP P L I A D T) (DefP P L I A D T) (ForP P L I A D T)) (s : Extent) (made : Statement) → inner_exprs (roll-StmtP P L I A D T l) ≡ [] → stmt_view (roll-StmtP P L I A D T l) s ≡ made → all_rules d (exprs_layer l) ≡ expressions_rules d made → all_rules d (outer_exprs (roll-StmtP P L I A D T l)) ≡ expressions_rules d (stmt_view (roll-StmtP P L I A D T l) s)
  plain_level d l s made is view e = layer_level d l s [] made is view (append-nil (all_rules d (exprs_layer l)) ∙ e)

  -- the law at a layer, where it holds of smaller statements
  stmt_step : (n : ℕ) (d : Dialect) → ((x : S P L I A D T) → statement_size (stmt_at x) < n → all_rules d (outer_exprs x.node) ≡ expressions_rules d (stmt_at x)) → (l : StmtP-F P L I A D T (StmtP P L I A D T) (DefP P L I A D T) (ForP P L I A D T)) (s : Extent) → statement_size (stmt_view (roll-StmtP P L I A D T l) s) < suc n → all_rules d (outer_exprs (roll-StmtP P L I A D T l)) ≡ expressions_rules d (stmt_view (roll-StmtP P L I A D T l) s)
  stmt_step n d smaller stmt.Break s few = plain_level d stmt.Break s (t.break s) (para-roll-StmtP P L I A D T _ _ _ inner_layer inner_def inner_for stmt.Break) (ap (λ q. stmt_view q s) variant.rolls-Break ∙ stmt_view-Break P L I A D T s) refl
  stmt_step n d smaller stmt.Continue s few = plain_level d stmt.Continue s (t.continue s) (para-roll-StmtP P L I A D T _ _ _ inner_layer inner_def inner_for stmt.Continue) (ap (λ q. stmt_view q s) variant.rolls-Continue ∙ stmt_view-Continue P L I A D T s) refl
  stmt_step n d smaller stmt.Pass s few = plain_level d stmt.Pass s (t.pass s) (para-roll-StmtP P L I A D T _ _ _ inner_layer inner_def inner_for stmt.Pass) (ap (λ q. stmt_view q s) variant.rolls-Pass ∙ stmt_view-Pass P L I A D T s) refl
  stmt_step n d smaller (stmt.Return x) s few = plain_level d (stmt.Return x) s (t.return (maybe_expr x) s) (para-roll-StmtP P L I A D T _ _ _ inner_layer inner_def inner_for (stmt.Return x)) (ap (λ q. stmt_view q s) (variant.rolls-Return x) ∙ stmt_view-Return x s) (here_level d x)
  stmt_step n d smaller (stmt.Expression x) s few = plain_level d (stmt.Expression x) s (t.expression (expr_at x) s) (para-roll-StmtP P L I A D T _ _ _ inner_layer inner_def inner_for (stmt.Expression x)) (ap (λ q. stmt_view q s) (variant.rolls-Expression x) ∙ stmt_view-Expression x s) (one d x)
  stmt_step n d smaller (stmt.Assign x) s few = plain_level d (stmt.Assign x) s (t.assign (target_at x.lhs) (maybe_type x.ty) None (expr_at x.rhs) s) (para-roll-StmtP P L I A D T _ _ _ inner_layer inner_def inner_for (stmt.Assign x)) (ap (λ q. stmt_view q s) (variant.rolls-Assign x) ∙ stmt_view-Assign x s) (assign_level d x)
  stmt_step n d smaller (stmt.AssignModify x o y) s few = plain_level d (stmt.AssignModify x o y) s (t.assign (target_at x) t.untyped (Some o) (expr_at y.value) s) (para-roll-StmtP P L I A D T _ _ _ inner_layer inner_def inner_for (stmt.AssignModify x o y)) (ap (λ q. stmt_view q s) (variant.rolls-AssignModify x o y) ∙ stmt_view-AssignModify x o y s) (last d (target_places x.node) y.value ∙ ap (λ q. q ++ expr_rules d (expr_at y.value)) (target_level d x ∙ sym (append-nil (expr_rules d (target_at x)))))
  stmt_step n d smaller (stmt.Load x) s few = plain_level d (stmt.Load x) s (_) (para-roll-StmtP P L I A D T _ _ _ inner_layer inner_def inner_for (stmt.Load x)) (ap (λ q. stmt_view q s) (variant.rolls-Load x) ∙ stmt_view-Load x s) refl
  stmt_step n d smaller (stmt.Statements xs) s few =
      let view : stmt_view (roll-StmtP P L I A D T (stmt.Statements xs)) s ≡ t.block (statements_of xs.items) s = ap (λ q. stmt_view q s) (variant.rolls-Statements xs) ∙ stmt_view-Statements xs s in
      let small : sequence_size (statements_of xs.items) < n = omega (arith, few, ap statement_size view) in
      layer_level d (stmt.Statements xs) s (flat_map (λ x. outer_exprs x.node) xs.items) (t.block (statements_of xs.items) s) (para-roll-StmtP P L I A D T _ _ _ inner_layer inner_def inner_for (stmt.Statements xs) ∙ flat_map-map _ _ xs.items) view
      (sequence_level d t.no_statements xs.items (λ x less. smaller x (omega (arith, small, less))))
  stmt_step n d smaller (stmt.If c x) s few =
      let view : stmt_view (roll-StmtP P L I A D T (stmt.If c x)) s ≡ t.when (expr_at c) (stmt_at x.value) s = ap (λ q. stmt_view q s) (variant.rolls-If c x) ∙ stmt_view-If c x s in
      layer_level d (stmt.If c x) s (outer_exprs x.value.node) (t.when (expr_at c) (stmt_at x.value) s) (para-roll-StmtP P L I A D T _ _ _ inner_layer inner_def inner_for (stmt.If c x)) view
      (both (one d c) (smaller x.value (omega (arith, few, ap statement_size view))))
  stmt_step n d smaller (stmt.IfElse c x) s few =
      let view : stmt_view (roll-StmtP P L I A D T (stmt.IfElse c x)) s ≡ t.either (expr_at c) (stmt_at x.value.0) (stmt_at x.value.1) s = ap (λ q. stmt_view q s) (variant.rolls-IfElse c x) ∙ stmt_view-IfElse c x s in
      let first = smaller x.value.0 (omega (arith, few, ap statement_size view)) in
      let second = smaller x.value.1 (omega (arith, few, ap statement_size view)) in
      layer_level d (stmt.IfElse c x) s (outer_exprs x.value.0.node ++ outer_exprs x.value.1.node) (t.either (expr_at c) (stmt_at x.value.0) (stmt_at x.value.1) s) (para-roll-StmtP P L I A D T _ _ _ inner_layer inner_def inner_for (stmt.IfElse c x)) view
      (both (one d c) (split d (outer_exprs x.value.0.node) (outer_exprs x.value.1.node) ∙ both first second)
      ∙ sym (append_assoc (expr_rules d (expr_at c)) (expressions_rules d (stmt_at x.value.0)) (expressions_rules d (stmt_at x.value.1))))
  stmt_step n d smaller (stmt.For x) s few =
      let view : stmt_view (roll-StmtP P L I A D T (stmt.For x)) s ≡ t.repeat (target_at x.var) (expr_at x.over) (stmt_at x.body.value) s = ap (λ q. stmt_view q s) (variant.rolls-For x) ∙ stmt_view-For x s ∙ view-for x s in
      layer_level d (stmt.For x) s (outer_exprs x.body.value.node) (t.repeat (target_at x.var) (expr_at x.over) (stmt_at x.body.value) s) (inner-For x) view
      (both (for_level d x) (smaller x.body.value (omega (arith, few, ap statement_size view))))
  stmt_step n d smaller (stmt.Def x) s few =
      let view : stmt_view (roll-StmtP P L I A D T (stmt.Def x)) s ≡ t.define (ident_at x.name) (members parameter_at x.params.items) (boxed_type x.return_type) (stmt_at x.body.value) s = ap (λ q. stmt_view q s) (variant.rolls-Def x) ∙ stmt_view-Def x s ∙ view-def x s in
      layer_level d (stmt.Def x) s (outer_exprs x.body.value.node) (t.define (ident_at x.name) (members parameter_at x.params.items) (boxed_type x.return_type) (stmt_at x.body.value) s) (inner-Def x) view
      (both (def_level d x) (smaller x.body.value (omega (arith, few, ap statement_size view))))

  -- the same below a bound
  stmt_below : (n : ℕ) (d : Dialect) (x : S P L I A D T) → statement_size (stmt_at x) < n → all_rules d (outer_exprs x.node) ≡ expressions_rules d (stmt_at x)
  stmt_below zero d x few = absurd (omega (arith, few))
  stmt_below (suc n) d x few =
      let is = roll-out-StmtP P L I A D T x.node in
      ap (λ q. all_rules d (outer_exprs q)) (sym is) ∙ stmt_step n d (stmt_below n d) (out-StmtP P L I A D T x.node) x.span (subst (λ q. statement_size (stmt_view q x.span) < suc n) (sym is) few) ∙ ap (λ q. expressions_rules d (stmt_view q x.span)) is

  -- The outermost expressions in a statement break what those in it break.
  pub stmt_level : (d : Dialect) (x : S P L I A D T) → flat_map (λ c. expr_rules d (expr_at c)) (outer_exprs x.node) ≡ expressions_rules d (stmt_at x)
  stmt_level d x = stmt_below (suc (statement_size (stmt_at x))) d x (omega arith)
