-- One of several: it is smaller than all of them, and what it breaks comes behind what those before it break.
use Rattle.std.proofs.Common.{ℕ, suc, ◌+◌, ◌<◌, ◌≡◌, sym, ap, ◌∙◌, List, [], ◌∷◌, length, take, drop, take-append-drop, get_or, fold, refl, arith}
use Rattle.std.proofs.lemmas.List.{take_more}
use Rattle.std.proofs.lemmas.List.Sums.{fold-append}
use Rattle.starlark_place.specs.declared.pos.Spanned.{Spanned}
use Rattle.starlark_lexer.specs.declared.dialect.Dialect.{Dialect}
use Rattle.starlark_ast.specs.Access.{argument_expr}
use Rattle.starlark_ast.specs.Tree as t
use Rattle.starlark_ast.specs.Tree.{Member, Clause, Clauses}
use Rattle.starlark_ast.specs.View.{members, expr_at, argument_at}
use Rattle.starlark_ast.specs.declared.ast.ArgumentP.{ArgumentP}
use Rattle.starlark_rulebook.specs.Late as late
use Rattle.starlark_ast.proofs.Written.{members_more}
use Rattle.starlark_visit.proofs.Members.{argument_as, behind, more_clauses, more_sizes}
use Rattle.starlark_visit.specs.Sizes.{member_size, sizes, clause_size, clause_sizes}

-- ---- members

pub member_is_less : {X : Type 0} (h : X → Member) (xs : List X) (i : ℕ) (x : X) → i < length xs → x ≡ get_or xs i x → member_size (h x) < sizes (members h xs)
member_is_less h xs i x below is =
    let front : sizes (members h (take (i + 1) xs)) ≡ suc (sizes (members h (take i xs)) + member_size (h x)) = ap sizes (members_more h xs i x below is) in
    let whole : sizes (members h xs) ≡ sizes (fold (λ ns y. t.more ns (h y)) (members h (take (i + 1) xs)) (drop (i + 1) xs)) = ap (λ ys. sizes (members h ys)) (sym (take-append-drop (i + 1) xs)) ∙ ap sizes (fold-append (λ ns y. t.more ns (h y)) t.none (take (i + 1) xs) (drop (i + 1) xs)) in
    omega (arith, front, whole, more_sizes h (members h (take (i + 1) xs)) (drop (i + 1) xs))

-- ---- clauses

pub clauses_more : {X : Type 0} (h : X → Clause) (cs : Clauses) (xs : List X) (i : ℕ) (x : X) → i < length xs → x ≡ get_or xs i x → behind h cs (take (i + 1) xs) ≡ t.and_clause (behind h cs (take i xs)) (h x)
clauses_more h cs xs i x below is = ap (behind h cs) (take_more xs i x below) ∙ fold-append (λ ds y. t.and_clause ds (h y)) cs (take i xs) (get_or xs i x ∷ []) ∙ ap (λ y. t.and_clause (behind h cs (take i xs)) (h y)) (sym is)

pub clause_is_less : {X : Type 0} (h : X → Clause) (cs : Clauses) (xs : List X) (i : ℕ) (x : X) → i < length xs → x ≡ get_or xs i x → suc (clause_size (h x)) < clause_sizes (behind h cs xs)
clause_is_less h cs xs i x below is =
    let front : clause_sizes (behind h cs (take (i + 1) xs)) ≡ suc (suc (clause_sizes (behind h cs (take i xs)) + clause_size (h x))) = ap clause_sizes (clauses_more h cs xs i x below is) in
    let whole : clause_sizes (behind h cs xs) ≡ clause_sizes (behind h (behind h cs (take (i + 1) xs)) (drop (i + 1) xs)) = ap (λ ys. clause_sizes (behind h cs ys)) (sym (take-append-drop (i + 1) xs)) ∙ ap clause_sizes (fold-append (λ ds y. t.and_clause ds (h y)) cs (take (i + 1) xs) (drop (i + 1) xs)) in
    omega (arith, front, whole, more_clauses h (behind h cs (take (i + 1) xs)) (drop (i + 1) xs))

-- ---- arguments

module _ {P L I A D T : Type 0} where
  pub argument_breaks : (d : Dialect) (x : Spanned (ArgumentP P L I A D T)) → late.one_rules d (argument_at x) ≡ late.expr_rules d (expr_at (argument_expr x.node))
  argument_breaks d x = argument_as (late.one_rules d) (late.expr_rules d) (λ _ _. refl) (λ _ _ _ _. refl) (λ _ _. refl) (λ _ _. refl) x
