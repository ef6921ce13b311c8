-- Lists of members that are built at their end, over a list that is read from its beginning.
use Rattle.std.proofs.Common.{ℕ, ◌+◌, ◌<◌, ◌≡◌, Bool, true, cond, refl, sym, ap, ◌∙◌, List, [], ◌∷◌, length, take, drop, take-append-drop, get_or, Option, Some, None, fold, ◌≤◌, arith}
use Rattle.starlark_place.specs.Place.{merged_into}
use Rattle.std.proofs.lemmas.List.Sums.{fold-append}
use Rattle.starlark_ast.specs.Tree.{Member, Members, more, none}
use Rattle.starlark_ast.specs.View.{members}
use Rattle.starlark_ast.proofs.Written.{members_more}
use Rattle.starlark_rulebook.specs.Rules.{first_of}
use Rattle.starlark_rulebook.specs.Calls.{any, first_call_fault, argument_fault}
use Rattle.starlark_rulebook.specs.Targets.{targets_fault, member_fault}
use Rattle.starlark_rulebook.specs.Parameters.{parameters_fault, parameter_fault, member_count, first_slash, slash_fault, unnamed_star, behind_star, ending_star, star_place, parameter_places, parameter_place}

-- the first fault of some members, each behind those before it
abbrev pub first_fault : {A : Type 0} → (Members → Member → Option A) → Members → Option A
first_fault f none = None
first_fault f (more ms m) = first_of (first_fault f ms) (f ms m)

pub call_faults : (ms : Members) → first_call_fault ms ≡ first_fault argument_fault ms
call_faults none = refl
call_faults (more ms m) = ap (λ o. first_of o (argument_fault ms m)) (call_faults ms)

pub parameter_faults : (ms : Members) → parameters_fault ms ≡ first_fault parameter_fault ms
parameter_faults none = refl
parameter_faults (more ms m) = ap (λ o. first_of o (parameter_fault ms m)) (parameter_faults ms)

pub target_faults : (ms : Members) → targets_fault ms ≡ first_fault (λ _ m. member_fault m) ms
target_faults none = refl
target_faults (more ms m) = ap (λ o. first_of o (member_fault m)) (target_faults ms)

-- one more of a list
pub any_more : {X : Type 0} (f : Member → Bool) (h : X → Member) (xs : List X) (i : ℕ) (x : X) → i < length xs → x ≡ get_or xs i x → any f (members h (take (i + 1) xs)) ≡ cond (f (h x)) true (any f (members h (take i xs)))
any_more f h xs i x below is = ap (any f) (members_more h xs i x below is)

-- no fault so far, and none of the next one
pub still_clean : {X A : Type 0} (f : Members → Member → Option A) (h : X → Member) (xs : List X) (i : ℕ) (x : X) → i < length xs → x ≡ get_or xs i x → first_fault f (members h (take i xs)) ≡ None → f (members h (take i xs)) (h x) ≡ None → first_fault f (members h (take (i + 1) xs)) ≡ None
still_clean f h xs i x below is clean e = ap (first_fault f) (members_more h xs i x below is) ∙ ap (λ o. first_of o (f (members h (take i xs)) (h x))) clean ∙ e

-- what is found stays the first
pub goes_on : {X A : Type 0} (f : Members → Member → Option A) (h : X → Member) (ms : Members) (a : A) (ys : List X) → first_fault f ms ≡ Some a → first_fault f (fold (λ ms y. more ms (h y)) ms ys) ≡ Some a
goes_on f h ms a [] e = e
goes_on f h ms a (y ∷ ys) e = goes_on f h (more ms (h y)) a ys (ap (λ o. first_of o (f ms (h y))) e)

-- no fault so far, and one of the next
pub found_first : {X A : Type 0} (f : Members → Member → Option A) (h : X → Member) (xs : List X) (i : ℕ) (x : X) (a : A) → i < length xs → x ≡ get_or xs i x → first_fault f (members h (take i xs)) ≡ None → f (members h (take i xs)) (h x) ≡ Some a → first_fault f (members h xs) ≡ Some a
found_first f h xs i x a below is clean found =
    let here : first_fault f (members h (take (i + 1) xs)) ≡ Some a = ap (first_fault f) (members_more h xs i x below is) ∙ ap (λ o. first_of o (f (members h (take i xs)) (h x))) clean ∙ found in
    ap (λ ys. first_fault f (members h ys)) (sym (take-append-drop (i + 1) xs)) ∙ ap (first_fault f) (fold-append (λ ms y. more ms (h y)) none (take (i + 1) xs) (drop (i + 1) xs)) ∙ goes_on f h (members h (take (i + 1) xs)) a (drop (i + 1) xs) here

-- ---- parameters

pub star_faults : (ms : Members) → unnamed_star ms ≡ first_fault (λ ns m. behind_star (ending_star ns) m) ms
star_faults none = refl
star_faults (more ms m) = ap (λ o. first_of o (behind_star (ending_star ms) m)) (star_faults ms)

count_behind : {X : Type 0} (h : X → Member) (ms : Members) (xs : List X) → member_count (fold (λ ns y. more ns (h y)) ms xs) ≡ member_count ms + length xs
count_behind h ms [] = omega arith
count_behind h ms (x ∷ xs) = omega (arith, count_behind h (more ms (h x)) xs)

pub count_members : {X : Type 0} (h : X → Member) (xs : List X) → member_count (members h xs) ≡ length xs
count_members h xs = omega (arith, count_behind h none xs)

slash_behind : {X : Type 0} (h : X → Member) (ms : Members) (m : Member) (xs : List X) → first_slash (fold (λ ns y. more ns (h y)) (more ms m) xs) ≡ first_slash (more ms m)
slash_behind h ms m [] = refl
slash_behind h ms m (x ∷ xs) = slash_behind h (more ms m) (h x) xs

pub slash_at_front : {X : Type 0} (h : X → Member) (xs : List X) (x : X) → 1 ≤ length xs → x ≡ get_or xs 0 x → first_slash (members h xs) ≡ slash_fault (h x)
slash_at_front h [] x some is = absurd (omega (arith, some))
slash_at_front h (y ∷ ys) x some is = slash_behind h none (h y) ys ∙ ap (λ z. slash_fault (h z)) (sym is)

pub ending_more : {X : Type 0} (h : X → Member) (xs : List X) (i : ℕ) (x : X) → i < length xs → x ≡ get_or xs i x → ending_star (members h (take (i + 1) xs)) ≡ star_place (h x)
ending_more h xs i x below is = ap ending_star (members_more h xs i x below is)

pub merged_more : {X : Type 0} (h : X → Member) (xs : List X) (i : ℕ) (x : X) → i < length xs → x ≡ get_or xs i x → fold merged_into None (parameter_places (members h (take (i + 1) xs))) ≡ merged_into (fold merged_into None (parameter_places (members h (take i xs)))) (parameter_place (h x))
merged_more h xs i x below is = ap (λ ms. fold merged_into None (parameter_places ms)) (members_more h xs i x below is) ∙ fold-append merged_into None (parameter_places (members h (take i xs))) (parameter_place (h x) ∷ [])
