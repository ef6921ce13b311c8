-- The parameters with a name, and their stretches.
use Rattle.std.proofs.Common.{ℕ, suc, ◌+◌, ◌-◌, ◌<◌, ◌≤◌, ◌≡◌, ◌||◌, not, Bool, true, false, cond, refl, sym, ap, ◌∙◌, List, [], ◌∷◌, ◌++◌, length, length-append, take, get_or, count_by, nat_lt, Option, Some, None, IfSome, arith, rules}
use Rattle.std.proofs.Math.Nat.{sub-zero}
use Rattle.std.proofs.Math.Seq.{take-length}
use Rattle.std.proofs.lemmas.List.{append-nil, length-take-le}
use Rattle.std.proofs.lemmas.Bool.{ltb-false}
use Rattle.std.proofs.lemmas.List.Sums.{sum_by_more, sum_by_more_le}
use Rattle.starlark_ast.specs.View.{members}
use Rattle.starlark_ast.specs.Tree as t
use Rattle.starlark_place.specs.Place.{Extent}
use Rattle.starlark_ast.specs.Tree.{Stars, Member, Members, Annotation, Bound, more, none}
use Rattle.starlark_rules.specs.declared.def.Tally.{Tally}
use Rattle.starlark_place.specs.Place.{merged_all}
use Rattle.starlark_rules.specs.Named.{AreWithin}
use Rattle.starlark_rulebook.specs.Rules.{Finding, breaks, TooManyParameters}
use Rattle.starlark_rulebook.specs.Calls.{any}
use Rattle.starlark_rulebook.specs.Parameters.{is_starred, is_mark, is_slash, parameters_fault, parameter_fault, first_parameter_fault, first_slash, fault_if, parameter_places, member_count}
use Rattle.starlark_rules.specs.ParameterKinds.{Param, param, params_before, params_of, mode_of, kind_of, positional_count, positional_only_count, args_index, kwargs_index, indices_of}
use Rattle.starlark_rules.specs.Tallies.{tally_of, with_member, kind_in, param_of}
use Rattle.starlark_rules.proofs.Converting.{none_first, none_second}
use Rattle.starlark_ast.proofs.Written.{members_more}
use Rattle.starlark_faults.proofs.Prefixes.{count_members}

one_more : {A : Type 0} (xs : List A) (x : A) → length (xs ++ (x ∷ [])) ≡ length xs + 1
one_more xs x = length-append xs (x ∷ [])

-- as many, whatever their modes
pub same_length : (b c : Bool) (ms : Members) → length (params_before b ms) ≡ length (params_before c ms)
same_length b c none = refl
same_length b c (more ms (t.slash s)) = refl
same_length b c (more ms (t.parameter k n u a d s)) =
    one_more (params_before b ms) _ ∙ ap (λ i. i + 1) (same_length b c ms) ∙ sym (one_more (params_before c ms) _)
same_length b c (more ms (t.no_args s)) = same_length b c ms
same_length b c (more ms (t.item x)) = same_length b c ms
same_length b c (more ms (t.pair x y)) = same_length b c ms
same_length b c (more ms (t.positional x s)) = same_length b c ms
same_length b c (more ms (t.named n u x s)) = same_length b c ms
same_length b c (more ms (t.args x s)) = same_length b c ms
same_length b c (more ms (t.kwargs x s)) = same_length b c ms

-- the parameter behind others, which a `/` does not follow
abbrev the_param : Members → Stars → List ℕ → Extent → Annotation → Bound → Extent → Param
the_param ms k n u a d s = param (t.name_at n u) (kind_of false ms k d) a s

abbrev tally : ℕ → ℕ → Option ℕ → Option ℕ → ℕ → Bool → Tally
tally p o a k c s = record { indices = record { num_positional = p; num_positional_only = o; args = a; kwargs = k }; count = c; starred = s }

one_positional : (b : Bool) (n : ℕ) → ◌≡◌ {A = ℕ} (n + cond b 0 1) (cond (not b) (suc n) n)
one_positional true n = omega arith
one_positional false n = omega arith

-- one more
pub tally_more : (ms : Members) (m : Member) → with_member (tally_of ms) m ≡ tally_of (more ms m)
tally_more ms (t.slash s) = ap (λ c. tally (positional_count ms) (length (params_of ms)) (args_index ms) (kwargs_index ms) c (any is_starred ms)) (same_length false true ms)
tally_more ms (t.no_args s) = refl
tally_more ms (t.parameter t.plain n u a d s) =
    ap (λ p. tally p (positional_only_count ms) (args_index ms) (kwargs_index ms) (length (params_of ms) + 1) (any is_starred ms)) (one_positional (any is_starred ms) (positional_count ms))
    ∙ ap (λ c. tally (positional_count (more ms (t.parameter t.plain n u a d s))) (positional_only_count ms) (args_index ms) (kwargs_index ms) c (any is_starred ms)) (sym (one_more (params_of ms) _))
tally_more ms (t.parameter t.starred n u a d s) =
    ap (λ c. tally (positional_count ms) (positional_only_count ms) (Some (length (params_of ms))) (kwargs_index ms) c true) (sym (one_more (params_of ms) _))
tally_more ms (t.parameter t.double_starred n u a d s) =
    ap (λ c. tally (positional_count ms) (positional_only_count ms) (args_index ms) (Some (length (params_of ms))) c true) (sym (one_more (params_of ms) _))
tally_more ms (t.item x) = refl
tally_more ms (t.pair x y) = refl
tally_more ms (t.positional x s) = refl
tally_more ms (t.named n u x s) = refl
tally_more ms (t.args x s) = refl
tally_more ms (t.kwargs x s) = refl

-- ---- bounds

-- no fewer behind one more
pub grows : (ms : Members) (m : Member) → length (params_of ms) ≤ length (params_of (more ms m))
grows ms (t.slash s) = omega (arith, same_length false true ms)
grows ms (t.parameter k n u a d s) = omega (arith, one_more (params_of ms) (the_param ms k n u a d s))
grows ms (t.no_args s) = omega arith
grows ms (t.item x) = omega arith
grows ms (t.pair x y) = omega arith
grows ms (t.positional x s) = omega arith
grows ms (t.named n u x s) = omega arith
grows ms (t.args x s) = omega arith
grows ms (t.kwargs x s) = omega arith

pub no_more : (ms : Members) → length (params_of ms) ≤ member_count ms
no_more none = omega arith
no_more (more ms (t.slash s)) = omega (arith, same_length false true ms, no_more ms)
no_more (more ms (t.parameter k n u a d s)) = omega (arith, one_more (params_of ms) (the_param ms k n u a d s), no_more ms)
no_more (more ms (t.no_args s)) = omega (arith, no_more ms)
no_more (more ms (t.item x)) = omega (arith, no_more ms)
no_more (more ms (t.pair x y)) = omega (arith, no_more ms)
no_more (more ms (t.positional x s)) = omega (arith, no_more ms)
no_more (more ms (t.named n u x s)) = omega (arith, no_more ms)
no_more (more ms (t.args x s)) = omega (arith, no_more ms)
no_more (more ms (t.kwargs x s)) = omega (arith, no_more ms)

at_most_one : (b : Bool) (n : ℕ) → cond b (suc n) n ≤ n + 1
at_most_one true n = omega arith
at_most_one false n = omega arith

pub positional_within : (ms : Members) → positional_count ms ≤ length (params_of ms)
positional_within none = omega arith
positional_within (more ms (t.slash s)) = omega (arith, same_length false true ms, positional_within ms)
positional_within (more ms (t.parameter t.plain n u a d s)) = omega (arith, one_more (params_of ms) (the_param ms t.plain n u a d s), at_most_one (not (any is_starred ms)) (positional_count ms), positional_within ms)
positional_within (more ms (t.parameter t.starred n u a d s)) = omega (arith, one_more (params_of ms) (the_param ms t.starred n u a d s), positional_within ms)
positional_within (more ms (t.parameter t.double_starred n u a d s)) = omega (arith, one_more (params_of ms) (the_param ms t.double_starred n u a d s), positional_within ms)
positional_within (more ms (t.no_args s)) = positional_within ms
positional_within (more ms (t.item x)) = positional_within ms
positional_within (more ms (t.pair x y)) = positional_within ms
positional_within (more ms (t.positional x s)) = positional_within ms
positional_within (more ms (t.named n u x s)) = positional_within ms
positional_within (more ms (t.args x s)) = positional_within ms
positional_within (more ms (t.kwargs x s)) = positional_within ms

below_more : (o : Option ℕ) (m n : ℕ) → m ≤ n → IfSome o (λ i. i < m) → IfSome o (λ i. i < n)
below_more None m n h k = tt
below_more (Some i) m n h k = omega (arith, h, k)

pub args_within : (ms : Members) → IfSome (args_index ms) (λ i. i < length (params_of ms))
args_within none = tt
args_within (more ms (t.parameter t.starred n u a d s)) = omega (arith, one_more (params_of ms) (the_param ms t.starred n u a d s))
args_within (more ms (t.parameter t.plain n u a d s)) = below_more (args_index ms) _ _ (grows ms (t.parameter t.plain n u a d s)) (args_within ms)
args_within (more ms (t.parameter t.double_starred n u a d s)) = below_more (args_index ms) _ _ (grows ms (t.parameter t.double_starred n u a d s)) (args_within ms)
args_within (more ms (t.slash s)) = below_more (args_index ms) _ _ (grows ms (t.slash s)) (args_within ms)
args_within (more ms (t.no_args s)) = args_within ms
args_within (more ms (t.item x)) = args_within ms
args_within (more ms (t.pair x y)) = args_within ms
args_within (more ms (t.positional x s)) = args_within ms
args_within (more ms (t.named n u x s)) = args_within ms
args_within (more ms (t.args x s)) = args_within ms
args_within (more ms (t.kwargs x s)) = args_within ms

pub kwargs_within : (ms : Members) → IfSome (kwargs_index ms) (λ i. i < length (params_of ms))
kwargs_within none = tt
kwargs_within (more ms (t.parameter t.double_starred n u a d s)) = omega (arith, one_more (params_of ms) (the_param ms t.double_starred n u a d s))
kwargs_within (more ms (t.parameter t.plain n u a d s)) = below_more (kwargs_index ms) _ _ (grows ms (t.parameter t.plain n u a d s)) (kwargs_within ms)
kwargs_within (more ms (t.parameter t.starred n u a d s)) = below_more (kwargs_index ms) _ _ (grows ms (t.parameter t.starred n u a d s)) (kwargs_within ms)
kwargs_within (more ms (t.slash s)) = below_more (kwargs_index ms) _ _ (grows ms (t.slash s)) (kwargs_within ms)
kwargs_within (more ms (t.no_args s)) = kwargs_within ms
kwargs_within (more ms (t.item x)) = kwargs_within ms
kwargs_within (more ms (t.pair x y)) = kwargs_within ms
kwargs_within (more ms (t.positional x s)) = kwargs_within ms
kwargs_within (more ms (t.named n u x s)) = kwargs_within ms
kwargs_within (more ms (t.args x s)) = kwargs_within ms
kwargs_within (more ms (t.kwargs x s)) = kwargs_within ms

-- ---- a `/` stands before all stars

no_mark : (b : Bool) (a : Finding) → cond b (Some a) None ≡ None → b ≡ false
no_mark true a e = absurd (cc)
no_mark false a e = refl

starred_of : (a b p q : Bool) → cond (a || b) true p ≡ false → (p ≡ false → q ≡ false) → cond b true q ≡ false
starred_of true b p q e h = absurd (cc)
starred_of false true p q e h = absurd (cc)
starred_of false false p q e h = h e

no_starred : (ms : Members) → any is_mark ms ≡ false → any is_starred ms ≡ false
no_starred none e = refl
no_starred (more ms m) e = starred_of (is_slash m) (is_starred m) (any is_mark ms) (any is_starred ms) e (no_starred ms)

-- where no mark stands, all are positional
all_positional : (ms : Members) → any is_mark ms ≡ false → length (params_of ms) ≤ positional_count ms
all_positional none e = omega arith
all_positional (more ms (t.slash s)) e = absurd (cc)
all_positional (more ms (t.no_args s)) e = absurd (cc)
all_positional (more ms (t.parameter t.plain n u a d s)) e =
    let o : any is_starred ms ≡ false = no_starred ms e in
    rw o (omega (arith, one_more (params_of ms) (the_param ms t.plain n u a d s), all_positional ms e))
all_positional (more ms (t.parameter t.starred n u a d s)) e = absurd (cc)
all_positional (more ms (t.parameter t.double_starred n u a d s)) e = absurd (cc)
all_positional (more ms (t.item x)) e = all_positional ms e
all_positional (more ms (t.pair x y)) e = all_positional ms e
all_positional (more ms (t.positional x s)) e = all_positional ms e
all_positional (more ms (t.named n u x s)) e = all_positional ms e
all_positional (more ms (t.args x s)) e = all_positional ms e
all_positional (more ms (t.kwargs x s)) e = all_positional ms e

at_least : (b : Bool) (n : ℕ) → n ≤ cond b (suc n) n
at_least true n = omega arith
at_least false n = omega arith

pub in_order : (ms : Members) → parameters_fault ms ≡ None → positional_only_count ms ≤ positional_count ms
in_order none e = omega arith
in_order (more ms (t.slash s)) e = all_positional ms (no_mark (any is_mark ms) _ (none_second (parameters_fault ms) (parameter_fault ms (t.slash s)) e))
in_order (more ms (t.parameter t.plain n u a d s)) e = omega (arith, at_least (not (any is_starred ms)) (positional_count ms), in_order ms (none_first (parameters_fault ms) _ e))
in_order (more ms (t.parameter t.starred n u a d s)) e = in_order ms (none_first (parameters_fault ms) _ e)
in_order (more ms (t.parameter t.double_starred n u a d s)) e = in_order ms (none_first (parameters_fault ms) _ e)
in_order (more ms (t.no_args s)) e = in_order ms (none_first (parameters_fault ms) _ e)
in_order (more ms (t.item x)) e = in_order ms (none_first (parameters_fault ms) _ e)
in_order (more ms (t.pair x y)) e = in_order ms (none_first (parameters_fault ms) _ e)
in_order (more ms (t.positional x s)) e = in_order ms (none_first (parameters_fault ms) _ e)
in_order (more ms (t.named n u x s)) e = in_order ms (none_first (parameters_fault ms) _ e)
in_order (more ms (t.args x s)) e = in_order ms (none_first (parameters_fault ms) _ e)
in_order (more ms (t.kwargs x s)) e = in_order ms (none_first (parameters_fault ms) _ e)

-- ---- one more parameter

kind_is : (b : Bool) (ms : Members) (k : Stars) (d : Bound) → kind_of b ms k d ≡ kind_in (mode_of b ms) k d
kind_is b ms t.plain d = refl
kind_is b ms t.starred d = refl
kind_is b ms t.double_starred d = refl

-- the flags before and behind it, where no `/` is left unless it is set
pub params_more : (b c : Bool) (ms : Members) (m : Member) → (is_slash m ≡ true → b ≡ true) → (is_slash m ≡ false → c ≡ b) → params_before c (more ms m) ≡ params_before b ms ++ param_of (mode_of b ms) m
params_more b c ms (t.slash s) h k = ap (λ d. params_before d ms) (sym (h refl)) ∙ sym (append-nil (params_before b ms))
params_more b c ms (t.parameter x n u a d s) h k =
    ap (λ e. params_before e (more ms (t.parameter x n u a d s))) (k refl) ∙ ap (λ y. params_before b ms ++ (param (t.name_at n u) y a s ∷ [])) (kind_is b ms x d)
params_more b c ms (t.no_args s) h k = ap (λ d. params_before d ms) (k refl) ∙ sym (append-nil (params_before b ms))
params_more b c ms (t.item x) h k = ap (λ d. params_before d ms) (k refl) ∙ sym (append-nil (params_before b ms))
params_more b c ms (t.pair x y) h k = ap (λ d. params_before d ms) (k refl) ∙ sym (append-nil (params_before b ms))
params_more b c ms (t.positional x s) h k = ap (λ d. params_before d ms) (k refl) ∙ sym (append-nil (params_before b ms))
params_more b c ms (t.named n u x s) h k = ap (λ d. params_before d ms) (k refl) ∙ sym (append-nil (params_before b ms))
params_more b c ms (t.args x s) h k = ap (λ d. params_before d ms) (k refl) ∙ sym (append-nil (params_before b ms))
params_more b c ms (t.kwargs x s) h k = ap (λ d. params_before d ms) (k refl) ∙ sym (append-nil (params_before b ms))

-- ---- as many `/` as are left

pub slash_left : {X : Type 0} (p : X → Bool) (xs : List X) (i : ℕ) (x : X) (n : ℕ) → i < length xs → x ≡ get_or xs i x → n + count_by p (take i xs) ≡ count_by p xs → cond (p x) 1 0 ≤ n
slash_left p xs i x n below is h =
    let one : ◌≡◌ {A = ℕ} (cond (p (get_or xs i x)) 1 0) (cond (p x) 1 0) = ap (λ y. cond (p y) 1 0) (sym is) in
    omega (arith, h, one, sum_by_more_le (λ y. cond (p y) 1 0) xs i x below)

pub slash_next : {X : Type 0} (p : X → Bool) (xs : List X) (i : ℕ) (x : X) (n k : ℕ) → i < length xs → x ≡ get_or xs i x → n + count_by p (take i xs) ≡ count_by p xs → k ≡ n - cond (p x) 1 0 → k + count_by p (take (i + 1) xs) ≡ count_by p xs
slash_next p xs i x n k below is h e =
    let some : cond (p x) 1 0 ≤ n = slash_left p xs i x n below is h in
    let one : count_by p (take (i + 1) xs) ≡ count_by p (take i xs) + cond (p x) 1 0 = sum_by_more (λ y. cond (p y) 1 0) xs i x below ∙ ap (λ y. count_by p (take i xs) + cond (p y) 1 0) (sym is) in
    omega (arith, h, e, some, one)

pub slashes_end : {X : Type 0} (p : X → Bool) (xs : List X) (i n : ℕ) → i ≡ length xs → n + count_by p (take i xs) ≡ count_by p xs → n ≡ 0
slashes_end p xs i n e h =
    let w : count_by p (take i xs) ≡ count_by p xs = ap (λ k. count_by p (take k xs)) e ∙ ap (count_by p) (take-length xs) in
    omega (arith, h, w)

set_flag : (b : Bool) (n : ℕ) → cond b 1 0 ≤ n → b ≡ true → nat_lt 0 n ≡ true
set_flag true n h e = let k : 0 < n = h in search (rules, k)
set_flag false n h e = absurd (cc)

same_flag : (b : Bool) (n k : ℕ) → k ≡ n - cond b 1 0 → b ≡ false → nat_lt 0 k ≡ nat_lt 0 n
same_flag true n k h e = absurd (cc)
same_flag false n k h e = ap (nat_lt 0) (h ∙ sub-zero n)

-- one more of a list
pub params_next : {X : Type 0} (h : X → Member) (xs : List X) (i : ℕ) (x : X) (n k : ℕ) → i < length xs → x ≡ get_or xs i x → cond (is_slash (h x)) 1 0 ≤ n → k ≡ n - cond (is_slash (h x)) 1 0 → params_before (nat_lt 0 k) (members h (take (i + 1) xs)) ≡ params_before (nat_lt 0 n) (members h (take i xs)) ++ param_of (mode_of (nat_lt 0 n) (members h (take i xs))) (h x)
params_next h xs i x n k below is some e =
    ap (params_before (nat_lt 0 k)) (members_more h xs i x below is) ∙ params_more (nat_lt 0 n) (nat_lt 0 k) (members h (take i xs)) (h x) (set_flag (is_slash (h x)) n some) (same_flag (is_slash (h x)) n k e)

-- at the end
pub params_end : {X : Type 0} (h : X → Member) (xs : List X) (i n : ℕ) → i ≡ length xs → n ≡ 0 → params_before (nat_lt 0 n) (members h (take i xs)) ≡ params_of (members h xs)
params_end h xs i n e z = ap (λ k. params_before (nat_lt 0 k) (members h (take i xs))) z ∙ ap (λ k. params_of (members h (take k xs))) e ∙ ap (λ ys. params_of (members h ys)) (take-length xs)

pub tally_next : {X : Type 0} (h : X → Member) (xs : List X) (i : ℕ) (x : X) → i < length xs → x ≡ get_or xs i x → with_member (tally_of (members h (take i xs))) (h x) ≡ tally_of (members h (take (i + 1) xs))
tally_next h xs i x below is = tally_more (members h (take i xs)) (h x) ∙ sym (ap tally_of (members_more h xs i x below is))

pub count_at : {X : Type 0} (h : X → Member) (xs : List X) (i : ℕ) → i ≤ length xs → length (params_of (members h (take i xs))) ≤ i
count_at h xs i below = omega (arith, no_more (members h (take i xs)), count_members h (take i xs), length-take-le i xs below)

-- ---- parameters that break no rule

pub few : (ms : Members) → first_parameter_fault ms ≡ None → member_count ms ≤ 4294967295
few ms e = ltb-false 4294967295 (member_count ms) (no_mark (nat_lt 4294967295 (member_count ms)) _ (none_first (fault_if (nat_lt 4294967295 (member_count ms)) (breaks TooManyParameters (merged_all (parameter_places ms)))) _ e))

pub ordered : (ms : Members) → first_parameter_fault ms ≡ None → positional_only_count ms ≤ positional_count ms
ordered ms e =
    let behind = none_second (fault_if (nat_lt 4294967295 (member_count ms)) (breaks TooManyParameters (merged_all (parameter_places ms)))) _ e in
    in_order ms (none_first (parameters_fault ms) _ (none_second (first_slash ms) _ behind))

pub are_within : (ms : Members) (n : ℕ) → n ≡ length (params_of ms) → member_count ms ≤ 4294967295 → AreWithin (indices_of ms) n
are_within ms n e h = record {
  positional = omega (arith, e, positional_within ms);
  counted = omega (arith, e, h, no_more ms);
  args = below_more (args_index ms) (length (params_of ms)) n (omega (arith, e)) (args_within ms);
  kwargs = below_more (kwargs_index ms) (length (params_of ms)) n (omega (arith, e)) (kwargs_within ms);
}
