-- The statements right below a statement are smaller than it.
use Rattle.std.proofs.Common.{ℕ, suc, ◌+◌, ◌<◌, ◌≤◌, ◌≡◌, sym, ap, subst, ◌∙◌, List, [], ◌∷◌, length, take, drop, take-append-drop, get_or, fold, arith}
use Rattle.std.proofs.lemmas.List.{take_more}
use Rattle.std.proofs.lemmas.List.Sums.{fold-append}
use Rattle.starlark_place.specs.Place.{Extent}
use Rattle.starlark_ast.specs.Tree as t
use Rattle.starlark_ast.specs.Tree.{Sequence}
use Rattle.starlark_ast.specs.Statements.{S, stmts_below, stmts_layer}
use Rattle.starlark_ast.specs.StatementViews.{statements_of, stmt_view-Statements, stmt_view-If, stmt_view-IfElse, stmt_view-For, stmt_view-Def, view-for, view-def}
use Rattle.starlark_ast.specs.View.{stmt_at, stmt_view}
use Rattle.starlark_ast.specs.declared.ast.DefP.{DefP, out-DefP}
use Rattle.starlark_ast.specs.declared.ast.ForP.{ForP, out-ForP}
use Rattle.starlark_ast.specs.declared.ast.StmtP.{StmtP, StmtP-F, out-StmtP, roll-StmtP, roll-out-StmtP}
use Rattle.starlark_ast.specs.declared.ast.StmtP.TheVariants as stmt
use Rattle.starlark_ast.specs.declared.ast.StmtP.TheOpen as layer
use Rattle.starlark_visit.proofs.Taking.{AllOf}
use Rattle.starlark_visit.specs.Sizes.{statement_size, sequence_size}

module _ {P L I A D T : Type 0} where
  -- more of them
  pub more_statements : (ss : Sequence) (xs : List (S P L I A D T)) → sequence_size ss ≤ sequence_size (fold (λ rs y. t.add_statement rs (stmt_at y)) ss xs)
  more_statements ss [] = omega arith
  more_statements ss (x ∷ xs) = omega (arith, more_statements (t.add_statement ss (stmt_at x)) xs)

  -- one of several
  pub one_of_statements : (xs : List (S P L I A D T)) (i : ℕ) (x : S P L I A D T) → i < length xs → x ≡ get_or xs i x → statement_size (stmt_at x) ≤ sequence_size (statements_of xs)
  one_of_statements xs i x below is =
      let front : sequence_size (statements_of (take (i + 1) xs)) ≡ sequence_size (statements_of (take i xs)) + statement_size (stmt_at x) = ap (λ ys. sequence_size (statements_of ys)) (take_more xs i x below) ∙ ap sequence_size (fold-append (λ rs y. t.add_statement rs (stmt_at y)) t.no_statements (take i xs) (get_or xs i x ∷ [])) ∙ ap (λ y. sequence_size (statements_of (take i xs)) + statement_size (stmt_at y)) (sym is) in
      let whole : sequence_size (statements_of xs) ≡ sequence_size (fold (λ rs y. t.add_statement rs (stmt_at y)) (statements_of (take (i + 1) xs)) (drop (i + 1) xs)) = ap (λ ys. sequence_size (statements_of ys)) (sym (take-append-drop (i + 1) xs)) ∙ ap sequence_size (fold-append (λ rs y. t.add_statement rs (stmt_at y)) t.no_statements (take (i + 1) xs) (drop (i + 1) xs)) in
      omega (arith, front, whole, more_statements (statements_of (take (i + 1) xs)) (drop (i + 1) xs))

  -- each of several, which are smaller than n
  each_smaller : (n : ℕ) (ss : Sequence) (xs : List (S P L I A D T)) → sequence_size (fold (λ rs y. t.add_statement rs (stmt_at y)) ss xs) < n → AllOf (λ y. statement_size (stmt_at y) < n) xs
  each_smaller n ss [] less = tt
  each_smaller n ss (x ∷ xs) less = (omega (arith, less, more_statements (t.add_statement ss (stmt_at x)) xs), each_smaller n (t.add_statement ss (stmt_at x)) xs less)

  -- those of one layer
  layer_smaller : (l : StmtP-F P L I A D T (StmtP P L I A D T) (DefP P L I A D T) (ForP P L I A D T)) (s : Extent) → AllOf (λ y. statement_size (stmt_at y) < statement_size (stmt_view (roll-StmtP P L I A D T l) s)) (stmts_layer l)
  layer_smaller (layer.Statements xs) s =
      let whole : statement_size (stmt_view (roll-StmtP P L I A D T (layer.Statements xs)) s) ≡ suc (sequence_size (statements_of xs.items)) = ap (λ q. statement_size (stmt_view q s)) (stmt.rolls-Statements xs) ∙ ap statement_size (stmt_view-Statements xs s) in
      each_smaller _ t.no_statements xs.items (omega (arith, whole))
  layer_smaller (layer.If c x) s =
      let whole : statement_size (stmt_view (roll-StmtP P L I A D T (layer.If c x)) s) ≡ suc (statement_size (stmt_at x.value)) = ap (λ q. statement_size (stmt_view q s)) (stmt.rolls-If c x) ∙ ap statement_size (stmt_view-If c x s) in
      (omega (arith, whole), tt)
  layer_smaller (layer.IfElse c x) s =
      let whole : statement_size (stmt_view (roll-StmtP P L I A D T (layer.IfElse c x)) s) ≡ suc (statement_size (stmt_at x.value.0) + statement_size (stmt_at x.value.1)) = ap (λ q. statement_size (stmt_view q s)) (stmt.rolls-IfElse c x) ∙ ap statement_size (stmt_view-IfElse c x s) in
      (omega (arith, whole), (omega (arith, whole), tt))
  layer_smaller (layer.For x) s =
      let whole : statement_size (stmt_view (roll-StmtP P L I A D T (layer.For x)) s) ≡ suc (statement_size (stmt_at (out-ForP P L I A D T x).body.value)) = ap (λ q. statement_size (stmt_view q s)) (stmt.rolls-For x) ∙ ap statement_size (stmt_view-For x s ∙ view-for x s) in
      (omega (arith, whole), tt)
  layer_smaller (layer.Def x) s =
      let whole : statement_size (stmt_view (roll-StmtP P L I A D T (layer.Def x)) s) ≡ suc (statement_size (stmt_at (out-DefP P L I A D T x).body.value)) = ap (λ q. statement_size (stmt_view q s)) (stmt.rolls-Def x) ∙ ap statement_size (stmt_view-Def x s ∙ view-def x s) in
      (omega (arith, whole), tt)
  layer_smaller layer.Break s = tt
  layer_smaller layer.Continue s = tt
  layer_smaller layer.Pass s = tt
  layer_smaller (layer.Return x) s = tt
  layer_smaller (layer.Expression x) s = tt
  layer_smaller (layer.Assign x) s = tt
  layer_smaller (layer.AssignModify x o y) s = tt
  layer_smaller (layer.Load x) s = tt

  pub smaller_statements : (x : S P L I A D T) → AllOf (λ y. statement_size (stmt_at y) < statement_size (stmt_at x)) (stmts_below x.node)
  smaller_statements x = subst (λ q. AllOf (λ y. statement_size (stmt_at y) < statement_size (stmt_view q x.span)) (stmts_below x.node)) (roll-out-StmtP P L I A D T x.node) (layer_smaller (out-StmtP P L I A D T x.node) x.span)
