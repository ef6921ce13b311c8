-- What is written, one behind the other; texts of lists.
use lib.Utf8.{scalars, encode, encodes}
use Rattle.std.proofs.Common.{ℕ, suc, ◌+◌, ◌<◌, ◌≤◌, ◌≡◌, true, cond, sym, ap, ◌∙◌, refl, List, [], ◌∷◌, ◌++◌, length, take, drop, take-append-drop, append_assoc, get_or, fold, codes, arith}
use Rattle.std.proofs.Math.Seq.{take-length}
use Rattle.std.proofs.Output.{has_written_append, has_written_of_eq, writes_in_calls_nil}
use Rattle.std.proofs.lemmas.Bool.{ne_eqb}
use Rattle.std.proofs.lemmas.List.{take_more}
use Rattle.std.proofs.lemmas.List.Sums.{fold-append}
use Rattle.std.specs.Fmt.{HasWritten, IsPlainFormatter}
use Rattle.std.specs.declared.fmt.Formatter.{Formatter}
use Rattle.starlark_place.specs.Place.{Extent}
use Rattle.starlark_ast.specs.Printing.{annotation_text, default_text, stars_text, members_text, member_text, lone_comma, clauses_text, clause_text}
use Rattle.starlark_ast.specs.Shown.{behind, tuple_end, type_behind}
use Rattle.starlark_ast.specs.Tree as t
use Rattle.starlark_ast.specs.Tree.{Annotation, Bound, Stars, Member, Members, Clause, Clauses}
use Rattle.starlark_ast.specs.View.{members}
use Rattle.starlark_ast.proofs.Sizes.{sizes, member_size, clause_sizes, clause_size}

-- what stands before the next of some members
abbrev pub separator : Members → List ℕ
separator t.none = []
separator (t.more ms m) = codes ", "

-- ---- writes

module _ {W : Type 0} {took : W → List ℕ → W → Type 0} where
  pub nothing : {f : Formatter W} → IsPlainFormatter f → HasWritten took f [] f
  nothing plain = record { wrote = writes_in_calls_nil took _; plain = plain }

  -- the same text, said otherwise
  pub reads_as : {f g : Formatter W} {a b : List ℕ} → a ≡ b → HasWritten took f a g → HasWritten took f b g
  reads_as e p = has_written_of_eq took _ _ _ _ e p

  -- the last call, which answers
  pub last_writes : {R : Type 0} {f g h : Formatter W} {a b : List ℕ} → HasWritten took f a g → (IsPlainFormatter g → R → HasWritten took g b h) → R → HasWritten took f (a ++ b) h
  last_writes p q ok = has_written_append took _ _ _ _ _ p (q p.plain ok)

  -- one more call that went well
  pub then_writes : {f g h : Formatter W} {a b : List ℕ} → HasWritten took f a g → (IsPlainFormatter g → true ≡ true → HasWritten took g b h) → HasWritten took f (a ++ b) h
  then_writes p q = has_written_append took _ _ _ _ _ p (q p.plain refl)

-- three texts that are written at once
pub at_once : (a b c d : List ℕ) → a ++ (b ++ c ++ d) ≡ a ++ b ++ c ++ d
at_once a b c d = sym (append_assoc a (b ++ c) d) ∙ ap (λ q. q ++ d) (sym (append_assoc a b c))

-- a whole list, once all of it is taken
pub all_taken : {X : Type 0} (xs : List X) (i : ℕ) → i ≡ length xs → take i xs ≡ xs
all_taken xs i e = ap (λ k. take k xs) e ∙ take-length xs

-- ---- members

pub separator_is_text : (ms : Members) {sep : List ℕ} → sep ≡ separator ms → (x : List ℕ) × ((scalars x ≡ true) × (encodes x ≡ sep))
unfolding encode
separator_is_text t.none e = ([], (refl, sym e))
separator_is_text (t.more ms m) e = (44 ∷ 32 ∷ [], (refl, sym e))

pub members_more : {X : Type 0} (h : X → Member) (xs : List X) (i : ℕ) (x : X) → i < length xs → x ≡ get_or xs i x → members h (take (i + 1) xs) ≡ t.more (members h (take i xs)) (h x)
members_more h xs i x below is = ap (members h) (take_more xs i x below) ∙ fold-append (λ ms y. t.more ms (h y)) t.none (take i xs) (get_or xs i x ∷ []) ∙ ap (λ y. t.more (members h (take i xs)) (h y)) (sym is)

more_sizes : {X : Type 0} (h : X → Member) (ms : Members) (xs : List X) → sizes ms ≤ sizes (fold (λ ns y. t.more ns (h y)) ms xs)
more_sizes h ms [] = omega arith
more_sizes h ms (x ∷ xs) = omega (arith, more_sizes h (t.more ms (h x)) xs)

pub member_is_less : {X : Type 0} (h : X → Member) (xs : List X) (i : ℕ) (x : X) → i < length xs → x ≡ get_or xs i x → member_size (h x) < sizes (members h xs)
member_is_less h xs i x below is =
    let front : sizes (members h (take (i + 1) xs)) ≡ 1 + (sizes (members h (take i xs)) + member_size (h x)) = ap sizes (members_more h xs i x below is) in
    let whole : sizes (members h xs) ≡ sizes (fold (λ ns y. t.more ns (h y)) (members h (take (i + 1) xs)) (drop (i + 1) xs)) = ap (λ ys. sizes (members h ys)) (sym (take-append-drop (i + 1) xs)) ∙ ap sizes (fold-append (λ ns y. t.more ns (h y)) t.none (take (i + 1) xs) (drop (i + 1) xs)) in
    omega (arith, front, whole, more_sizes h (members h (take (i + 1) xs)) (drop (i + 1) xs))

one_more : (ms : Members) (m : Member) → members_text ms ++ separator ms ++ member_text m ≡ members_text (t.more ms m)
one_more t.none m = refl
one_more (t.more ms n) m = refl

pub member_more : {X : Type 0} (h : X → Member) (xs : List X) (i : ℕ) (x : X) → i < length xs → x ≡ get_or xs i x → members_text (members h (take i xs)) ++ separator (members h (take i xs)) ++ member_text (h x) ≡ members_text (members h (take (i + 1) xs))
member_more h xs i x below is = one_more (members h (take i xs)) (h x) ∙ sym (ap members_text (members_more h xs i x below is))

module _ {W : Type 0} {took : W → List ℕ → W → Type 0} where
  -- one more member behind those that are written
  pub member_written : {X : Type 0} (h : X → Member) (xs : List X) (i : ℕ) (x : X) → i < length xs → x ≡ get_or xs i x → {f l g k : Formatter W} {sep : List ℕ} → sep ≡ separator (members h (take i xs)) → HasWritten took f (members_text (members h (take i xs))) l → (IsPlainFormatter l → true ≡ true → HasWritten took l sep g) → (IsPlainFormatter g → true ≡ true → HasWritten took g (member_text (h x)) k) → HasWritten took f (members_text (members h (take (i + 1) xs))) k
  member_written h xs i x below is e p q r = reads_as (ap (λ s. members_text (members h (take i xs)) ++ s ++ member_text (h x)) e ∙ member_more h xs i x below is) (then_writes (then_writes p q) r)

pub comma_before_next : {X : Type 0} (h : X → Member) (xs : List X) (i : ℕ) (x : X) → i < length xs → x ≡ get_or xs i x → codes ", " ≡ separator (members h (take (i + 1) xs))
comma_before_next h xs i x below is = sym (ap separator (members_more h xs i x below is))

no_lone : {X : Type 0} (h : X → Member) (ms : Members) (m n : Member) (xs : List X) → lone_comma (fold (λ ns y. t.more ns (h y)) (t.more (t.more ms m) n) xs) ≡ []
no_lone h ms m n [] = refl
no_lone h ms m n (x ∷ xs) = no_lone h (t.more ms m) n (h x) xs

-- the end of a tuple
pub tuple_ends : {X : Type 0} (h : X → Member) (xs : List X) → tuple_end (length xs) ≡ lone_comma (members h xs) ++ codes ")"
tuple_ends h [] = refl
tuple_ends h (x ∷ []) = refl
tuple_ends h (x ∷ y ∷ xs) = ap (λ b. cond b (codes ",)") (codes ")")) (ne_eqb (suc (suc (length xs))) 1 (λ e. omega (arith, e))) ∙ ap (λ q. q ++ codes ")") (sym (no_lone h t.none (h x) (h y) xs))

-- ---- clauses

-- clauses behind others
abbrev pub clauses_behind : {X : Type 0} → (X → Clause) → Clauses → List X → Clauses
clauses_behind h cs xs = fold (λ ds y. t.and_clause ds (h y)) cs xs

clauses_more : {X : Type 0} (h : X → Clause) (cs : Clauses) (xs : List X) (i : ℕ) (x : X) → i < length xs → x ≡ get_or xs i x → clauses_behind h cs (take (i + 1) xs) ≡ t.and_clause (clauses_behind h cs (take i xs)) (h x)
clauses_more h cs xs i x below is = ap (clauses_behind h cs) (take_more xs i x below) ∙ fold-append (λ ds y. t.and_clause ds (h y)) cs (take i xs) (get_or xs i x ∷ []) ∙ ap (λ y. t.and_clause (clauses_behind h cs (take i xs)) (h y)) (sym is)

pub more_clauses : {X : Type 0} (h : X → Clause) (cs : Clauses) (xs : List X) → clause_sizes cs ≤ clause_sizes (clauses_behind h cs xs)
more_clauses h cs [] = omega arith
more_clauses h cs (x ∷ xs) = omega (arith, more_clauses h (t.and_clause cs (h x)) xs)

pub clause_is_less : {X : Type 0} (h : X → Clause) (cs : Clauses) (xs : List X) (i : ℕ) (x : X) → i < length xs → x ≡ get_or xs i x → 1 + clause_size (h x) < clause_sizes (clauses_behind h cs xs)
clause_is_less h cs xs i x below is =
    let front : clause_sizes (clauses_behind h cs (take (i + 1) xs)) ≡ 2 + (clause_sizes (clauses_behind h cs (take i xs)) + clause_size (h x)) = ap clause_sizes (clauses_more h cs xs i x below is) in
    let whole : clause_sizes (clauses_behind h cs xs) ≡ clause_sizes (clauses_behind h (clauses_behind h cs (take (i + 1) xs)) (drop (i + 1) xs)) = ap (λ ys. clause_sizes (clauses_behind h cs ys)) (sym (take-append-drop (i + 1) xs)) ∙ ap clause_sizes (fold-append (λ ds y. t.and_clause ds (h y)) cs (take (i + 1) xs) (drop (i + 1) xs)) in
    omega (arith, front, whole, more_clauses h (clauses_behind h cs (take (i + 1) xs)) (drop (i + 1) xs))

pub clause_more : {X : Type 0} (h : X → Clause) (cs : Clauses) (xs : List X) (i : ℕ) (x : X) → i < length xs → x ≡ get_or xs i x → clauses_text (clauses_behind h cs (take i xs)) ++ clause_text (h x) ≡ clauses_text (clauses_behind h cs (take (i + 1) xs))
clause_more h cs xs i x below is = sym (ap clauses_text (clauses_more h cs xs i x below is))

-- ---- parameters

types_same : (a : Annotation) → type_behind (codes ": ") a ≡ annotation_text a
types_same t.untyped = refl
types_same (t.typed x s) = refl

defaults_same : (b : Bound) → behind (codes " = ") b ≡ default_text b
defaults_same t.absent = refl
defaults_same (t.present x) = refl

-- a parameter with a name
pub parameter_texts : (k : Stars) (n : List ℕ) (u : Extent) (a : Annotation) (b : Bound) (s : Extent) → stars_text k ++ n ++ type_behind (codes ": ") a ++ behind (codes " = ") b ≡ member_text (t.parameter k n u a b s)
parameter_texts k n u a b s = ap (λ q. stars_text k ++ n ++ q ++ behind (codes " = ") b) (types_same a) ∙ ap (λ q. stars_text k ++ n ++ annotation_text a ++ q) (defaults_same b)
