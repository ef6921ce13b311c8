-- The first finding of lists, one behind the other.
use Rattle.std.proofs.Common.{ℕ, ◌+◌, ◌<◌, ◌≡◌, refl, sym, ap, ◌∙◌, List, [], ◌∷◌, ◌++◌, append_assoc, length, take, drop, take-append-drop, get_or, Option, Some, None, fold}
use Rattle.std.proofs.lemmas.List.{take_more}
use Rattle.std.proofs.lemmas.List.Sums.{fold-append}
use Rattle.starlark_place.specs.declared.pos.Spanned.{Spanned}
use Rattle.starlark_lexer.specs.declared.dialect.Dialect.{Dialect}
use Rattle.starlark_ast.specs.Tree as t
use Rattle.starlark_ast.specs.Tree.{Member, Members, Clause, Clauses, Statement, Sequence}
use Rattle.starlark_ast.specs.Access.{argument_expr}
use Rattle.starlark_ast.specs.View.{members, argument_at, expr_at}
use Rattle.starlark_ast.specs.declared.ast.ArgumentP.{ArgumentP}
use Rattle.starlark_rulebook.specs.declared.rule.Rule.{Rule}
use Rattle.starlark_rulebook.specs.Kept as kept
use Rattle.starlark_rulebook.specs.Rules.{Finding, first_finding, first_of, listed}
use Rattle.starlark_rulebook.specs.View.{maybe_finding}
use Rattle.starlark_ast.proofs.Written.{members_more}
use Rattle.starlark_faults.proofs.Within.{clauses_more}
use Rattle.starlark_visit.proofs.Members.{behind, argument_as}

-- of two lists
pub first_of_both : (xs ys : List Finding) → first_finding (xs ++ ys) ≡ first_of (first_finding xs) (first_finding ys)
first_of_both [] ys = refl
first_of_both (x ∷ xs) ys = refl

-- what is found in both, as it is found in each
pub first_in : (xs ys : List Finding) (o p q : Option Finding) → o ≡ first_finding xs → p ≡ first_finding ys → q ≡ first_of o p → q ≡ first_finding (xs ++ ys)
first_in xs ys o p q e f is = is ∙ ap (λ r. first_of r p) e ∙ ap (λ r. first_of (first_finding xs) r) f ∙ sym (first_of_both xs ys)

-- what is found stays the first
pub stays : (xs ys : List Finding) (a : Finding) → Some a ≡ first_finding xs → Some a ≡ first_finding (xs ++ ys)
stays xs ys a e = ap (λ o. first_of o (first_finding ys)) e ∙ sym (first_of_both xs ys)

-- nothing is found so far
pub past : (xs ys : List Finding) (o : Option Finding) → None ≡ first_finding xs → o ≡ first_finding ys → o ≡ first_finding (xs ++ ys)
past xs ys o e f = f ∙ ap (λ p. first_of p (first_finding ys)) e ∙ sym (first_of_both xs ys)

pub first_listed : (o : Option Finding) → first_finding (listed o) ≡ o
first_listed None = refl
first_listed (Some a) = refl

-- what the code gives, where it is known
pub given : (o p : Option (Spanned Rule)) (q : Option Finding) → o ≡ p → maybe_finding o ≡ q → maybe_finding p ≡ q
given o p q e h = sym (ap maybe_finding e) ∙ h

-- ---- one of several

module _ {X : Type 0} (d : Dialect) (h : X → Member) where
  keeps_more : (xs : List X) (i : ℕ) (x : X) → i < length xs → x ≡ get_or xs i x → kept.kept_members d (members h (take (i + 1) xs)) ≡ kept.kept_members d (members h (take i xs)) ++ kept.kept_member d (h x)
  keeps_more xs i x below is = ap (kept.kept_members d) (members_more h xs i x below is)

  pub past_member : (xs : List X) (i : ℕ) (x : X) → i < length xs → x ≡ get_or xs i x → None ≡ first_finding (kept.kept_members d (members h (take i xs))) → None ≡ first_finding (kept.kept_member d (h x)) → None ≡ first_finding (kept.kept_members d (members h (take (i + 1) xs)))
  past_member xs i x below is clean none = past (kept.kept_members d (members h (take i xs))) (kept.kept_member d (h x)) None clean none ∙ sym (ap first_finding (keeps_more xs i x below is))

  stays_behind : (ms : Members) (xs : List X) (a : Finding) → Some a ≡ first_finding (kept.kept_members d ms) → Some a ≡ first_finding (kept.kept_members d (fold (λ ns y. t.more ns (h y)) ms xs))
  stays_behind ms [] a e = e
  stays_behind ms (x ∷ xs) a e = stays_behind (t.more ms (h x)) xs a (stays (kept.kept_members d ms) (kept.kept_member d (h x)) a e)

  pub at_member : (xs : List X) (i : ℕ) (x : X) (a : Finding) → i < length xs → x ≡ get_or xs i x → None ≡ first_finding (kept.kept_members d (members h (take i xs))) → Some a ≡ first_finding (kept.kept_member d (h x)) → Some a ≡ first_finding (kept.kept_members d (members h xs))
  at_member xs i x a below is clean found =
      let here : Some a ≡ first_finding (kept.kept_members d (members h (take (i + 1) xs))) = past (kept.kept_members d (members h (take i xs))) (kept.kept_member d (h x)) (Some a) clean found ∙ sym (ap first_finding (keeps_more xs i x below is)) in
      stays_behind (members h (take (i + 1) xs)) (drop (i + 1) xs) a here ∙ sym (ap (λ ys. first_finding (kept.kept_members d (members h ys))) (sym (take-append-drop (i + 1) xs)) ∙ ap (λ ms. first_finding (kept.kept_members d ms)) (fold-append (λ ns y. t.more ns (h y)) t.none (take (i + 1) xs) (drop (i + 1) xs)))

-- ---- one of several clauses

-- the last of them apart
pub clause_apart : (d : Dialect) (cs : Clauses) (c : Clause) → kept.kept_clauses d (t.and_clause cs c) ≡ kept.kept_clauses d cs ++ kept.kept_clauses d (t.and_clause t.no_clauses c)
clause_apart d cs (t.for_clause x y) = append_assoc (kept.kept_clauses d cs) (kept.kept_expr d x) (kept.kept_expr d y)
clause_apart d cs (t.if_clause x) = refl

module _ {X : Type 0} (d : Dialect) (h : X → Clause) (cs : Clauses) where
  clause_more : (xs : List X) (i : ℕ) (x : X) → i < length xs → x ≡ get_or xs i x → kept.kept_clauses d (behind h cs (take (i + 1) xs)) ≡ kept.kept_clauses d (behind h cs (take i xs)) ++ kept.kept_clauses d (t.and_clause t.no_clauses (h x))
  clause_more xs i x below is = ap (kept.kept_clauses d) (clauses_more h cs xs i x below is) ∙ clause_apart d (behind h cs (take i xs)) (h x)

  pub past_clause : (xs : List X) (i : ℕ) (x : X) → i < length xs → x ≡ get_or xs i x → None ≡ first_finding (kept.kept_clauses d (behind h cs (take i xs))) → None ≡ first_finding (kept.kept_clauses d (t.and_clause t.no_clauses (h x))) → None ≡ first_finding (kept.kept_clauses d (behind h cs (take (i + 1) xs)))
  past_clause xs i x below is clean none = past (kept.kept_clauses d (behind h cs (take i xs))) (kept.kept_clauses d (t.and_clause t.no_clauses (h x))) None clean none ∙ sym (ap first_finding (clause_more xs i x below is))

module _ {X : Type 0} (d : Dialect) (h : X → Clause) where
  stays_before : (cs : Clauses) (xs : List X) (a : Finding) → Some a ≡ first_finding (kept.kept_clauses d cs) → Some a ≡ first_finding (kept.kept_clauses d (behind h cs xs))
  stays_before cs [] a e = e
  stays_before cs (x ∷ xs) a e = stays_before (t.and_clause cs (h x)) xs a (stays (kept.kept_clauses d cs) (kept.kept_clauses d (t.and_clause t.no_clauses (h x))) a e ∙ sym (ap first_finding (clause_apart d cs (h x))))

  pub at_front : (cs : Clauses) (xs : List X) (a : Finding) → Some a ≡ first_finding (kept.kept_clauses d cs) → Some a ≡ first_finding (kept.kept_clauses d (behind h cs xs))
  at_front cs xs a e = stays_before cs xs a e

  pub at_clause : (cs : Clauses) (xs : List X) (i : ℕ) (x : X) (a : Finding) → i < length xs → x ≡ get_or xs i x → None ≡ first_finding (kept.kept_clauses d (behind h cs (take i xs))) → Some a ≡ first_finding (kept.kept_clauses d (t.and_clause t.no_clauses (h x))) → Some a ≡ first_finding (kept.kept_clauses d (behind h cs xs))
  at_clause cs xs i x a below is clean found =
      let here : Some a ≡ first_finding (kept.kept_clauses d (behind h cs (take (i + 1) xs))) = past (kept.kept_clauses d (behind h cs (take i xs))) (kept.kept_clauses d (t.and_clause t.no_clauses (h x))) (Some a) clean found ∙ sym (ap first_finding (clause_more d h cs xs i x below is)) in
      stays_before (behind h cs (take (i + 1) xs)) (drop (i + 1) xs) a here ∙ sym (ap (λ ys. first_finding (kept.kept_clauses d (behind h cs ys))) (sym (take-append-drop (i + 1) xs)) ∙ ap (λ ds. first_finding (kept.kept_clauses d ds)) (fold-append (λ ds y. t.and_clause ds (h y)) cs (take (i + 1) xs) (drop (i + 1) xs)))

-- ---- one of several statements

-- statements behind others
abbrev pub below_them : {X : Type 0} → (X → Statement) → Sequence → List X → Sequence
below_them h ss xs = fold (λ rs y. t.add_statement rs (h y)) ss xs

module _ {X : Type 0} (d : Dialect) (h : X → Statement) where
  statements_more : (ss : Sequence) (xs : List X) (i : ℕ) (x : X) → i < length xs → x ≡ get_or xs i x → kept.kept_sequence d (below_them h ss (take (i + 1) xs)) ≡ kept.kept_sequence d (below_them h ss (take i xs)) ++ kept.kept_rules d (h x)
  statements_more ss xs i x below is = ap (kept.kept_sequence d) (ap (below_them h ss) (take_more xs i x below) ∙ fold-append (λ rs y. t.add_statement rs (h y)) ss (take i xs) (get_or xs i x ∷ []) ∙ ap (λ y. t.add_statement (below_them h ss (take i xs)) (h y)) (sym is))

  pub past_statement : (xs : List X) (i : ℕ) (x : X) → i < length xs → x ≡ get_or xs i x → None ≡ first_finding (kept.kept_sequence d (below_them h t.no_statements (take i xs))) → None ≡ first_finding (kept.kept_rules d (h x)) → None ≡ first_finding (kept.kept_sequence d (below_them h t.no_statements (take (i + 1) xs)))
  past_statement xs i x below is clean none = past (kept.kept_sequence d (below_them h t.no_statements (take i xs))) (kept.kept_rules d (h x)) None clean none ∙ sym (ap first_finding (statements_more t.no_statements xs i x below is))

  stays_above : (ss : Sequence) (xs : List X) (a : Finding) → Some a ≡ first_finding (kept.kept_sequence d ss) → Some a ≡ first_finding (kept.kept_sequence d (below_them h ss xs))
  stays_above ss [] a e = e
  stays_above ss (x ∷ xs) a e = stays_above (t.add_statement ss (h x)) xs a (stays (kept.kept_sequence d ss) (kept.kept_rules d (h x)) a e)

  pub at_statement : (xs : List X) (i : ℕ) (x : X) (a : Finding) → i < length xs → x ≡ get_or xs i x → None ≡ first_finding (kept.kept_sequence d (below_them h t.no_statements (take i xs))) → Some a ≡ first_finding (kept.kept_rules d (h x)) → Some a ≡ first_finding (kept.kept_sequence d (below_them h t.no_statements xs))
  at_statement xs i x a below is clean found =
      let here : Some a ≡ first_finding (kept.kept_sequence d (below_them h t.no_statements (take (i + 1) xs))) = past (kept.kept_sequence d (below_them h t.no_statements (take i xs))) (kept.kept_rules d (h x)) (Some a) clean found ∙ sym (ap first_finding (statements_more t.no_statements xs i x below is)) in
      stays_above (below_them h t.no_statements (take (i + 1) xs)) (drop (i + 1) xs) a here ∙ sym (ap (λ ys. first_finding (kept.kept_sequence d (below_them h t.no_statements ys))) (sym (take-append-drop (i + 1) xs)) ∙ ap (λ rs. first_finding (kept.kept_sequence d rs)) (fold-append (λ rs y. t.add_statement rs (h y)) t.no_statements (take (i + 1) xs) (drop (i + 1) xs)))

-- ---- arguments

module _ {P L I A D T : Type 0} where
  -- an argument breaks what its expression breaks
  pub argument_keeps : (d : Dialect) (x : Spanned (ArgumentP P L I A D T)) → kept.kept_member d (argument_at x) ≡ kept.kept_expr d (expr_at (argument_expr x.node))
  argument_keeps d x = argument_as (kept.kept_member d) (kept.kept_expr d) (λ _ _. refl) (λ _ _ _ _. refl) (λ _ _. refl) (λ _ _. refl) x
