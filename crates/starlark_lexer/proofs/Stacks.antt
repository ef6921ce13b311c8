-- The widths that stay open at a line, as the code cuts its stack.
use Rattle.std.proofs.Common.{◌≡◌, ◌<◌, ◌≤◌, ℕ, ◌+◌, ◌-◌, Bool, true, false, ◌||◌, List, [], ◌∷◌, length, take, get_or, refl, ap, sym, ◌∙◌, arith, zero, suc, inl, inr, eqb, ltb, leb, subst, one-add}
use Rattle.std.proofs.lemmas.Bool.{cases_Bool, false≢true}
use Rattle.std.proofs.lemmas.Bool.Decides.{nat_tests}
use Rattle.std.proofs.lemmas.List.{nil_from_length}
use Rattle.std.specs.List.{filter}
use Rattle.std.specs.List.Sorted.{IsStrictlyIncreasing}
use Rattle.starlark_lexer.specs.Widths.{has, Closes}
use Rattle.starlark_lexer.specs.Scan.{kept}
use Rattle.starlark_lexer.proofs.Widths.{IsStack}

rest_increasing : (x : ℕ) (xs : List ℕ) → IsStrictlyIncreasing (x ∷ xs) → IsStrictlyIncreasing xs
rest_increasing x xs h k lt = let e : suc (k + 1) ≡ suc k + 1 = omega arith in subst (λ i. get_or xs k 0 < get_or (x ∷ xs) i 0) (sym e) (h (suc k) (omega arith))

above_first : (x : ℕ) (xs : List ℕ) → IsStrictlyIncreasing (x ∷ xs) → (k : ℕ) → k < length xs → x < get_or xs k 0
above_first x xs h zero lt = h 0 (omega arith)
above_first x xs h (suc k) lt =
    let e : suc k + 1 ≡ suc (suc k) = omega arith in
    let before : x < get_or xs k 0 = above_first x xs h k (omega arith) in
    let step : get_or xs k 0 < get_or (x ∷ xs) (suc k + 1) 0 = h (suc k) (omega arith) in
    let step2 : get_or xs k 0 < get_or xs (suc k) 0 = subst (λ i. get_or xs k 0 < get_or (x ∷ xs) i 0) e step in
    omega arith

-- a list whose elements all fail
none_of : (p : ℕ → Bool) (xs : List ℕ) → ((k : ℕ) → k < length xs → p (get_or xs k 0) ≡ false) → filter p xs ≡ []
none_of p [] h = refl
none_of p (x ∷ xs) h = let e : p x ≡ false = h 0 (omega arith) in rw e (none_of p xs (λ k lt. h (suc k) (omega arith)))

all_of : (p : ℕ → Bool) (xs : List ℕ) → ((k : ℕ) → k < length xs → p (get_or xs k 0) ≡ true) → filter p xs ≡ xs
all_of p [] h = refl
all_of p (x ∷ xs) h = let e : p x ≡ true = h 0 (omega arith) in rw e (ap (λ ys. x ∷ ys) (all_of p xs (λ k lt. h (suc k) (omega arith))))

pub kept_filter : (ws : List ℕ) (w : ℕ) → IsStrictlyIncreasing ws → take (kept ws w) ws ≡ filter (λ x. leb x w) ws
kept_filter [] w h = refl
kept_filter (x ∷ ws) w h =
    elim (cases_Bool (leb x w)) [
      | inl e ↦ rw (e, one-add) (ap (λ ys. x ∷ ys) (kept_filter ws w (rest_increasing x ws h)))
      | inr e ↦ rw e (sym (none_of (λ y. leb y w) ws (λ k lt. let a = above_first x ws h k lt in grind (arith, nat_tests))))
    ]

pub above_filter : (ws : List ℕ) (w : ℕ) → IsStrictlyIncreasing ws → length (filter (λ x. ltb w x) ws) ≡ length ws - kept ws w
above_filter [] w h = refl
above_filter (x ∷ ws) w h =
    elim (cases_Bool (leb x w)) [
      | inl e ↦ let f : ltb w x ≡ false = grind (arith, nat_tests) in rw (e, f) (omega (arith, above_filter ws w (rest_increasing x ws h)))
      | inr e ↦
          let f : ltb w x ≡ true = grind (arith, nat_tests) in
          rw (e, f) (omega (arith, ap length (all_of (λ y. ltb w y) ws (λ k lt. let a = above_first x ws h k lt in grind (arith, nat_tests)))))
    ]

-- two increasing lists with the same elements are one
first_below : (x : ℕ) (xs : List ℕ) → ((k : ℕ) → k < length xs → x < get_or xs k 0) → (z : ℕ) → has xs z ≡ true → x < z
first_below x [] h z e = absurd (false≢true e)
first_below x (y ∷ ys) h z e =
    elim (cases_Bool (eqb y z)) [
      | inl t ↦ let a = h 0 (omega arith) in grind (arith, nat_tests)
      | inr t ↦ first_below x ys (λ k lt. h (suc k) (omega arith)) z (rw t at e)
    ]

below_all : (x : ℕ) (xs : List ℕ) → IsStrictlyIncreasing (x ∷ xs) → (z : ℕ) → has xs z ≡ true → x < z
below_all x xs h = first_below x xs (above_first x xs h)

pub has_first : (x : ℕ) (xs : List ℕ) → has (x ∷ xs) x ≡ true
has_first x xs = let e : eqb x x ≡ true = grind (arith, nat_tests) in rw e refl

one_of : (x : ℕ) (xs : List ℕ) → IsStrictlyIncreasing (x ∷ xs) → (z : ℕ) → has (x ∷ xs) z ≡ true → x ≤ z
one_of x xs h z e =
    elim (cases_Bool (eqb x z)) [ inl t ↦ grind (arith, nat_tests) | inr t ↦ let a : x < z = below_all x xs h z (rw t at e) in omega arith ]

without : (x : ℕ) (xs ys : List ℕ) → IsStrictlyIncreasing (x ∷ xs) → IsStrictlyIncreasing (x ∷ ys) → ((z : ℕ) → has (x ∷ xs) z ≡ has (x ∷ ys) z) → (z : ℕ) → has xs z ≡ has ys z
without x xs ys h k same z =
    elim (cases_Bool (eqb x z)) [
      | inl t ↦
          let e : x ≡ z = grind (arith, nat_tests) in
          let a : has xs z ≡ false = elim (cases_Bool (has xs z)) [ inr f ↦ f | inl f ↦ absurd (omega (arith, below_all x xs h z f)) ] in
          let b : has ys z ≡ false = elim (cases_Bool (has ys z)) [ inr f ↦ f | inl f ↦ absurd (omega (arith, below_all x ys k z f)) ] in
          a ∙ sym b
      | inr t ↦ ap (λ c. c || has xs z) (sym t) ∙ same z ∙ ap (λ c. c || has ys z) t
    ]

pub same_length : (xs ys : List ℕ) → IsStrictlyIncreasing xs → IsStrictlyIncreasing ys → ((z : ℕ) → has xs z ≡ has ys z) → length xs ≡ length ys
same_length [] [] h k same = refl
same_length [] (y ∷ ys) h k same = absurd (false≢true (same y ∙ has_first y ys))
same_length (x ∷ xs) [] h k same = absurd (false≢true (sym (same x) ∙ has_first x xs))
same_length (x ∷ xs) (y ∷ ys) h k same =
    let a : y ≤ x = one_of y ys k x (sym (same x) ∙ has_first x xs) in
    let b : x ≤ y = one_of x xs h y (same y ∙ has_first y ys) in
    let e : y ≡ x = omega arith in
    let k2 : IsStrictlyIncreasing (x ∷ ys) = subst (λ v. IsStrictlyIncreasing (v ∷ ys)) e k in
    let same2 : (z : ℕ) → has (x ∷ xs) z ≡ has (x ∷ ys) z = λ z. same z ∙ ap (λ v. has (v ∷ ys) z) e in
    ap suc (same_length xs ys (rest_increasing x xs h) (rest_increasing x ys k2) (without x xs ys h k2 same2))

same_test : (a b : Bool) → (a ≡ true → b ≡ true) → (b ≡ true → a ≡ true) → a ≡ b
same_test true b f g = sym (f refl)
same_test false true f g = g refl
same_test false false f g = refl

pub same_closes : (lines : List ℕ) (w : ℕ) (xs ys : List ℕ) → Closes lines w xs → Closes lines w ys → length xs ≡ length ys
same_closes lines w xs ys a b = same_length xs ys a.once b.once (λ z. same_test (has xs z) (has ys z) (λ h. (b.each z).1 ((a.each z).0 h)) (λ h. (a.each z).1 ((b.each z).0 h)))

-- ---- at a line

pub closes_count : (lines ws : List ℕ) (w : ℕ) → IsStack lines ws → Closes lines w (filter (λ x. ltb w x) ws) → (closed : List ℕ) → Closes lines w closed → length ws - kept ws w ≡ length closed
closes_count lines ws w stack mine closed h = sym (above_filter ws w stack.once) ∙ same_closes lines w _ closed mine h

-- nothing is above the width where all of the stack stays
pub none_above : (ws : List ℕ) (w : ℕ) → IsStrictlyIncreasing ws → kept ws w ≡ length ws → (z : ℕ) → has (filter (λ x. ltb w x) ws) z ≡ false
none_above ws w h all z = ap (λ ys. has ys z) (nil_from_length _ (above_filter ws w h ∙ (let e : length ws - kept ws w ≡ 0 = omega arith in e)))
