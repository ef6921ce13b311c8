-- The size of a list that is built at its end, and of an argument.
use Rattle.std.proofs.Common.{ℕ, ◌≤◌, ◌≡◌, refl, sym, ap, ◌∙◌, List, [], ◌∷◌, fold, arith}
use Rattle.starlark_place.specs.Place.{Extent}
use Rattle.starlark_place.specs.declared.pos.Spanned.{Spanned}
use Rattle.starlark_ast.specs.Access.{argument_expr, argument_expr_layer}
use Rattle.starlark_ast.specs.Tree as t
use Rattle.starlark_ast.specs.Tree.{Expr, Member, Members, Clause, Clauses}
use Rattle.starlark_ast.specs.View.{expr_at, argument_at, argument_view}
use Rattle.starlark_ast.specs.Views.{argument_view-Positional, argument_view-Named, argument_view-Args, argument_view-KwArgs}
use Rattle.starlark_ast.specs.declared.ast.ArgumentP.{ArgumentP, ArgumentP-F, out-ArgumentP, roll-ArgumentP, roll-out-ArgumentP}
use Rattle.starlark_ast.specs.declared.ast.AssignTargetP.{AssignTargetP}
use Rattle.starlark_ast.specs.declared.ast.ClauseP.{ClauseP}
use Rattle.starlark_ast.specs.declared.ast.ExprP.{ExprP}
use Rattle.starlark_ast.specs.declared.ast.ParameterP.{ParameterP}
use Rattle.starlark_ast.specs.declared.ast.CallArgsP.{CallArgsP}
use Rattle.starlark_ast.specs.declared.ast.FStringP.{FStringP}
use Rattle.starlark_ast.specs.declared.ast.ForClauseP.{ForClauseP}
use Rattle.starlark_ast.specs.declared.ast.LambdaP.{LambdaP}
use Rattle.starlark_ast.specs.declared.ast.TypeExprP.{TypeExprP}
use Rattle.starlark_ast.specs.declared.ast.ArgumentP.TheOpen as layer
use Rattle.starlark_ast.specs.declared.ast.ArgumentP.TheVariants as argument
use Rattle.starlark_visit.specs.Sizes.{size, member_size, sizes, clause_sizes}

pub more_sizes : {X : Type 0} (h : X → Member) (ms : Members) (xs : List X) → sizes ms ≤ sizes (fold (λ ns y. t.more ns (h y)) ms xs)
more_sizes h ms [] = omega arith
more_sizes h ms (x ∷ xs) = omega (arith, more_sizes h (t.more ms (h x)) xs)

-- clauses behind others
abbrev pub behind : {X : Type 0} → (X → Clause) → Clauses → List X → Clauses
behind h cs xs = fold (λ ds y. t.and_clause ds (h y)) cs xs

pub more_clauses : {X : Type 0} (h : X → Clause) (cs : Clauses) (xs : List X) → clause_sizes cs ≤ clause_sizes (behind h cs xs)
more_clauses h cs [] = omega arith
more_clauses h cs (x ∷ xs) = omega (arith, more_clauses h (t.and_clause cs (h x)) xs)

module _ {P L I A D T : Type 0} where
  by_layer : {R : Type 0} (m : Member → R) (e : Expr → R) → ((x : Expr) (s : Extent) → m (t.positional x s) ≡ e x) → ((n : List ℕ) (u : Extent) (x : Expr) (s : Extent) → m (t.named n u x s) ≡ e x) → ((x : Expr) (s : Extent) → m (t.args x s) ≡ e x) → ((x : Expr) (s : Extent) → m (t.kwargs x s) ≡ e x) → (y : ArgumentP-F P L I A D T (ArgumentP P L I A D T) (AssignTargetP P L I A D T) (ClauseP P L I A D T) (ExprP P L I A D T) (ParameterP P L I A D T) (CallArgsP P L I A D T) (FStringP P L I A D T) (ForClauseP P L I A D T) (LambdaP P L I A D T) (TypeExprP P L I A D T)) (s : Extent) → m (argument_view (roll-ArgumentP P L I A D T y) s) ≡ e (expr_at (argument_expr_layer y))
  by_layer m e p n a k (layer.Positional x) s = ap (λ q. m (argument_view q s)) (argument.rolls-Positional x) ∙ ap m (argument_view-Positional x s) ∙ p (expr_at x) s
  by_layer m e p n a k (layer.Named name x) s = ap (λ q. m (argument_view q s)) (argument.rolls-Named name x) ∙ ap m (argument_view-Named name x s) ∙ n _ _ (expr_at x) s
  by_layer m e p n a k (layer.ArgumentP::Args x) s = ap (λ q. m (argument_view q s)) (argument.rolls-Args x) ∙ ap m (argument_view-Args x s) ∙ a (expr_at x) s
  by_layer m e p n a k (layer.ArgumentP::KwArgs x) s = ap (λ q. m (argument_view q s)) (argument.rolls-KwArgs x) ∙ ap m (argument_view-KwArgs x s) ∙ k (expr_at x) s

  -- an argument, where its expression alone counts
  pub argument_as : {R : Type 0} (m : Member → R) (e : Expr → R) → ((x : Expr) (s : Extent) → m (t.positional x s) ≡ e x) → ((n : List ℕ) (u : Extent) (x : Expr) (s : Extent) → m (t.named n u x s) ≡ e x) → ((x : Expr) (s : Extent) → m (t.args x s) ≡ e x) → ((x : Expr) (s : Extent) → m (t.kwargs x s) ≡ e x) → (x : Spanned (ArgumentP P L I A D T)) → m (argument_at x) ≡ e (expr_at (argument_expr x.node))
  argument_as m e p n a k x = ap (λ q. m (argument_view q x.span)) (sym (roll-out-ArgumentP P L I A D T x.node)) ∙ by_layer m e p n a k (out-ArgumentP P L I A D T x.node) x.span

  pub argument_size : (x : Spanned (ArgumentP P L I A D T)) → member_size (argument_at x) ≡ size (expr_at (argument_expr x.node))
  argument_size x = argument_as member_size size (λ _ _. refl) (λ _ _ _ _. refl) (λ _ _. refl) (λ _ _. refl) x
