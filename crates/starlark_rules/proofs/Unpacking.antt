-- The arguments of a call that breaks no rule, by their kinds.
use Rattle.std.proofs.Common.{ℕ, suc, ◌+◌, ◌-◌, ◌<◌, ◌≤◌, ◌≡◌, Bool, true, false, cond, not, refl, sym, ap, ◌∙◌, List, [], ◌∷◌, ◌++◌, length, take, drop, take-append-drop, fold, get_or, count_by, append_assoc, inl, inr, Option, Some, None, arith}
use Rattle.std.proofs.lemmas.Bool.{cases_Bool}
use Rattle.std.proofs.lemmas.List.{take_more}
use Rattle.std.proofs.lemmas.List.Sums.{fold-append, sum_by-cons, sum_by_more}
use Rattle.std.proofs.Math.Seq.{take-length}
use Rattle.starlark_place.specs.Place.{Extent}
use Rattle.starlark_place.specs.declared.pos.Spanned.{Spanned}
use Rattle.starlark_ast.specs.Tree as t
use Rattle.starlark_ast.specs.Tree.{Expr, Member, Members, Clause, Annotation, more, none}
use Rattle.starlark_ast.specs.declared.ast.ArgumentP.{ArgumentP, ArgumentP-F, fold_out-ArgumentP}
use Rattle.starlark_ast.specs.declared.ast.ArgumentP.TheOpen as layer
use Rattle.starlark_ast.specs.View.{members, argument_at, argument_step, target_step, clause_step, expr_step, parameter_step, call_args_step, fstring_step, for_clause_step, lambda_step, type_step}
use Rattle.starlark_rulebook.specs.Rules.{Finding}
use Rattle.starlark_rulebook.specs.Calls.{any, first_call_fault, argument_fault, is_other, is_star}
use Rattle.starlark_rules.specs.Unpacked.{is_positional, is_named, only, first_that}
use Rattle.starlark_rulebook.specs.Parameters.{member_count}
use Rattle.starlark_rules.proofs.Converting.{none_first, none_second}
use Rattle.starlark_faults.proofs.Prefixes.{count_members}

-- some members and others behind them
abbrev pub join : Members → Members → Members
join ms none = ms
join ms (more ns n) = more (join ms ns) n

abbrev is_argument : Member → Bool
is_argument (t.positional x s) = true
is_argument (t.named n u x s) = true
is_argument (t.args x s) = true
is_argument (t.kwargs x s) = true
is_argument m = false

abbrev AreArguments : Members → Type 0
AreArguments none = Unit {0}
AreArguments (more ms m) = AreArguments ms × (is_argument m ≡ true)

module _ {P L I A D T : Type 0} where
  layer_is : (l : ArgumentP-F P L I A D T (Extent → Member) (Extent → Expr) Clause (Extent → Expr) (Extent → Member) Members (Extent → Extent → Expr) Clause (Extent → Expr) (Extent → Annotation)) (s : Extent) → is_argument (argument_step l s) ≡ true
  layer_is (layer.Positional x) s = refl
  layer_is (layer.Named n x) s = refl
  layer_is (layer.ArgumentP::Args x) s = refl
  layer_is (layer.ArgumentP::KwArgs x) s = refl

  argument_is : (x : Spanned (ArgumentP P L I A D T)) → is_argument (argument_at x) ≡ true
  argument_is x = ap (λ q. is_argument (q x.span)) (fold_out-ArgumentP P L I A D T _ _ _ _ _ _ _ _ _ _ argument_step target_step clause_step expr_step parameter_step call_args_step fstring_step for_clause_step lambda_step type_step x.node) ∙ layer_is _ x.span

  are_behind : (ms : Members) (xs : List (Spanned (ArgumentP P L I A D T))) → AreArguments ms → AreArguments (fold (λ ns x. more ns (argument_at x)) ms xs)
  are_behind ms [] h = h
  are_behind ms (x ∷ xs) h = are_behind (more ms (argument_at x)) xs (h, argument_is x)

  pub are_arguments : (xs : List (Spanned (ArgumentP P L I A D T))) → AreArguments (members argument_at xs)
  are_arguments xs = are_behind none xs tt

-- what is not found is not so
not_set : (b : Bool) (a : Finding) (o : Option Finding) → cond b (Some a) o ≡ None → b ≡ false
not_set true a o e = absurd (cc)
not_set false a o e = refl

no_named : (ms : Members) → any is_other ms ≡ false → only is_named ms ≡ none
no_named none e = refl
no_named (more ms (t.positional x s)) e = no_named ms e
no_named (more ms (t.named n u x s)) e = absurd (cc)
no_named (more ms (t.args x s)) e = absurd (cc)
no_named (more ms (t.kwargs x s)) e = absurd (cc)
no_named (more ms (t.item x)) e = absurd (cc)
no_named (more ms (t.pair x y)) e = absurd (cc)
no_named (more ms (t.slash s)) e = absurd (cc)
no_named (more ms (t.no_args s)) e = absurd (cc)
no_named (more ms (t.parameter k n u a b s)) e = absurd (cc)

no_stars_of : (ms : Members) → any is_other ms ≡ false → any is_star ms ≡ false
no_stars_of none e = refl
no_stars_of (more ms (t.positional x s)) e = no_stars_of ms e
no_stars_of (more ms (t.named n u x s)) e = absurd (cc)
no_stars_of (more ms (t.args x s)) e = absurd (cc)
no_stars_of (more ms (t.kwargs x s)) e = absurd (cc)
no_stars_of (more ms (t.item x)) e = absurd (cc)
no_stars_of (more ms (t.pair x y)) e = absurd (cc)
no_stars_of (more ms (t.slash s)) e = absurd (cc)
no_stars_of (more ms (t.no_args s)) e = absurd (cc)
no_stars_of (more ms (t.parameter k n u a b s)) e = absurd (cc)

no_stars : (ms : Members) → any is_star ms ≡ false → only is_star ms ≡ none
no_stars none e = refl
no_stars (more ms (t.positional x s)) e = no_stars ms e
no_stars (more ms (t.named n u x s)) e = no_stars ms e
no_stars (more ms (t.args x s)) e = absurd (cc)
no_stars (more ms (t.kwargs x s)) e = absurd (cc)
no_stars (more ms (t.item x)) e = no_stars ms e
no_stars (more ms (t.pair x y)) e = no_stars ms e
no_stars (more ms (t.slash s)) e = no_stars ms e
no_stars (more ms (t.no_args s)) e = no_stars ms e
no_stars (more ms (t.parameter k n u a b s)) e = no_stars ms e

-- positional arguments, then named ones, then those behind stars
pub in_order : (ms : Members) → AreArguments ms → first_call_fault ms ≡ None → ms ≡ join (only is_positional ms) (join (only is_named ms) (only is_star ms))
in_order none h e = refl
in_order (more ms (t.positional x s)) h e =
    let m = t.positional x s in
    let o : any is_other ms ≡ false = not_set (any is_other ms) _ _ (none_second (first_call_fault ms) (argument_fault ms m) e) in
    let n : only is_named ms ≡ none = no_named ms o in
    let k : only is_star ms ≡ none = no_stars ms (no_stars_of ms o) in
    let p = only is_positional ms in
    ap (λ q. more q m) (in_order ms h.0 (none_first (first_call_fault ms) (argument_fault ms m) e) ∙ ap (λ q. join p (join q (only is_star ms))) n ∙ ap (λ q. join p (join none q)) k)
    ∙ sym (ap (λ q. join (more p m) (join q (only is_star ms))) n ∙ ap (λ q. join (more p m) (join none q)) k)
in_order (more ms (t.named n u x s)) h e =
    let m = t.named n u x s in
    let k : only is_star ms ≡ none = no_stars ms (not_set (any is_star ms) _ _ (none_second (first_call_fault ms) (argument_fault ms m) e)) in
    let p = only is_positional ms in
    ap (λ q. more q m) (in_order ms h.0 (none_first (first_call_fault ms) (argument_fault ms m) e) ∙ ap (λ q. join p (join (only is_named ms) q)) k)
    ∙ sym (ap (λ q. join p (join (more (only is_named ms) m) q)) k)
in_order (more ms (t.args x s)) h e = ap (λ q. more q (t.args x s)) (in_order ms h.0 (none_first (first_call_fault ms) (argument_fault ms (t.args x s)) e))
in_order (more ms (t.kwargs x s)) h e = ap (λ q. more q (t.kwargs x s)) (in_order ms h.0 (none_first (first_call_fault ms) (argument_fault ms (t.kwargs x s)) e))
in_order (more ms (t.item x)) h e = absurd (let f : false ≡ true = h.1 in cc)
in_order (more ms (t.pair x y)) h e = absurd (let f : false ≡ true = h.1 in cc)
in_order (more ms (t.slash s)) h e = absurd (let f : false ≡ true = h.1 in cc)
in_order (more ms (t.no_args s)) h e = absurd (let f : false ≡ true = h.1 in cc)
in_order (more ms (t.parameter k n u a b s)) h e = absurd (let f : false ≡ true = h.1 in cc)

-- ---- cutting a list

pub count_join : (ms ns : Members) → member_count (join ms ns) ≡ member_count ms + member_count ns
count_join ms none = omega arith
count_join ms (more ns n) = omega (arith, count_join ms ns)

abbrev last_of : Members → Members
last_of none = none
last_of (more ms m) = ms

same_parts : (a b c d : Members) → join a b ≡ join c d → member_count b ≡ member_count d → (a ≡ c) × (b ≡ d)
same_parts a none c none e n = (e, refl)
same_parts a none c (more d m) e n = absurd (omega (arith, n))
same_parts a (more b k) c none e n = absurd (omega (arith, n))
same_parts a (more b k) c (more d m) e n =
    let p = same_parts a b c d (ap last_of e) (omega (arith, n)) in
    let l : k ≡ m = cc in
    (p.0, ap (λ q. more q k) p.1 ∙ ap (λ q. more d q) l)

behind_is : {X : Type 0} (h : X → Member) (ms ns : Members) (xs : List X) → fold (λ ks y. more ks (h y)) (join ms ns) xs ≡ join ms (fold (λ ks y. more ks (h y)) ns xs)
behind_is h ms ns [] = refl
behind_is h ms ns (x ∷ xs) = behind_is h ms (more ns (h x)) xs

members_join : {X : Type 0} (h : X → Member) (xs ys : List X) → members h (xs ++ ys) ≡ join (members h xs) (members h ys)
members_join h xs ys = fold-append (λ ks y. more ks (h y)) none xs ys ∙ behind_is h (members h xs) none ys

-- a list of members, cut behind the first part
pub cut : {X : Type 0} (h : X → Member) (xs ys : List X) (ms ns : Members) → members h (xs ++ ys) ≡ join ms ns → length xs ≡ member_count ms → (members h xs ≡ ms) × (members h ys ≡ ns)
cut h xs ys ms ns e n =
    let j : join (members h xs) (members h ys) ≡ join ms ns = sym (members_join h xs ys) ∙ e in
    same_parts (members h xs) (members h ys) ms ns j
    (omega (arith, n, ap member_count j, count_join (members h xs) (members h ys), count_join ms ns, count_members h xs))

fewer_if : (b : Bool) (ns : Members) (m : Member) (k : ℕ) → member_count ns ≤ k → member_count (cond b (more ns m) ns) ≤ suc k
fewer_if true ns m k h = omega (arith, h)
fewer_if false ns m k h = omega (arith, h)

pub only_fewer : (f : Member → Bool) (ms : Members) → member_count (only f ms) ≤ member_count ms
only_fewer f none = omega arith
only_fewer f (more ms m) = fewer_if (f m) (only f ms) m (member_count ms) (only_fewer f ms)

counted_with : (b : Bool) (ns : Members) (m : Member) (k : ℕ) → member_count (cond b (more ns m) ns) + k ≡ member_count ns + (cond b 1 0 + k)
counted_with true ns m k = omega arith
counted_with false ns m k = omega arith

-- as many as pass in the list
count_behind : {X : Type 0} (f : Member → Bool) (h : X → Member) (ms : Members) (xs : List X) → member_count (only f (fold (λ ns y. more ns (h y)) ms xs)) ≡ member_count (only f ms) + count_by (λ x. f (h x)) xs
count_behind f h ms [] = omega arith
count_behind {X} f h ms (x ∷ xs) =
    let p : X → Bool = λ y. f (h y) in
    count_behind f h (more ms (h x)) xs ∙ counted_with (f (h x)) (only f ms) (h x) (count_by p xs) ∙ ap (λ k. member_count (only f ms) + k) (sym (sum_by-cons (λ y. cond (f (h y)) 1 0) x xs))

pub count_only : {X : Type 0} (f : Member → Bool) (h : X → Member) (xs : List X) → member_count (only f (members h xs)) ≡ count_by (λ x. f (h x)) xs
count_only f h xs = omega (arith, count_behind f h none xs)

pub unset : (b : Bool) → ◌≡◌ {A = ℕ} (cond (not b) 1 0) (cond b 0 1)
unset true = refl
unset false = refl

left_by : (b : Bool) (n k c d len i : ℕ) → i < len → n ≡ c + (len - i) → k ≡ n - cond b 0 1 → d ≡ c + cond b 1 0 → k ≡ d + (len - (i + 1))
left_by true n k c d len i below before after one = omega (arith, below, before, after, one)
left_by false n k c d len i below before after one = omega (arith, below, before, after, one)

-- those that pass so far, and all that are left
pub left_more : {X : Type 0} (p : X → Bool) (xs : List X) (i : ℕ) (x : X) (n k : ℕ) → i < length xs → x ≡ get_or xs i x → n ≡ count_by p (take i xs) + (length xs - i) → k ≡ n - cond (p x) 0 1 → k ≡ count_by p (take (i + 1) xs) + (length xs - (i + 1))
left_more p xs i x n k below is before after =
    let one : count_by p (take (i + 1) xs) ≡ count_by p (take i xs) + cond (p x) 1 0 = sum_by_more (λ y. cond (p y) 1 0) xs i x below ∙ ap (λ y. count_by p (take i xs) + cond (p y) 1 0) (sym is) in
    left_by (p x) n k (count_by p (take i xs)) (count_by p (take (i + 1) xs)) (length xs) i below before after one

pub left_none : {X : Type 0} (p : X → Bool) (xs : List X) (i n : ℕ) → i ≡ length xs → n ≡ count_by p (take i xs) + (length xs - i) → n ≡ count_by p xs
left_none p xs i n e h =
    let w : count_by p (take i xs) ≡ count_by p xs = ap (λ k. count_by p (take k xs)) e ∙ ap (count_by p) (take-length xs) in
    omega (arith, e, h, w)

-- ---- the first that passes

first_behind : {X : Type 0} (p : X → Bool) (xs ys : List X) → first_that p xs ≡ None → first_that p (xs ++ ys) ≡ first_that p ys
first_behind p [] ys e = refl
first_behind p (x ∷ xs) ys e = elim (cases_Bool (p x)) [
  | inl h ↦ absurd (let f : cond (p x) (Some x) (first_that p xs) ≡ None = e in let g : Some x ≡ None = rw h at f in cc)
  | inr h ↦ (let f : first_that p xs ≡ None = rw h at e in rw h (first_behind p xs ys f))
]

-- none so far, nor the next
pub still_none : {X : Type 0} (p : X → Bool) (xs : List X) (i : ℕ) (x : X) → i < length xs → x ≡ get_or xs i x → first_that p (take i xs) ≡ None → p x ≡ false → first_that p (take (i + 1) xs) ≡ None
still_none p xs i x below is clean fails =
    let one : first_that p (x ∷ []) ≡ None = rw fails refl in
    ap (first_that p) (take_more xs i x below ∙ ap (λ y. take i xs ++ y ∷ []) (sym is)) ∙ first_behind p (take i xs) (x ∷ []) clean ∙ one

-- none so far, but the next
pub found_that : {X : Type 0} (p : X → Bool) (xs : List X) (i : ℕ) (x : X) → i < length xs → x ≡ get_or xs i x → first_that p (take i xs) ≡ None → p x ≡ true → first_that p xs ≡ Some x
found_that p xs i x below is clean passes =
    let whole : xs ≡ take i xs ++ x ∷ drop (i + 1) xs =
    sym (take-append-drop (i + 1) xs) ∙ ap (λ ys. ys ++ drop (i + 1) xs) (take_more xs i x below ∙ ap (λ y. take i xs ++ y ∷ []) (sym is)) ∙ append_assoc (take i xs) (x ∷ []) (drop (i + 1) xs) in
    let here : first_that p (x ∷ drop (i + 1) xs) ≡ Some x = rw passes refl in
    ap (first_that p) whole ∙ first_behind p (take i xs) (x ∷ drop (i + 1) xs) clean ∙ here
