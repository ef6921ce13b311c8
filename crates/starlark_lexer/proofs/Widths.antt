-- The widths that are open, as a stack.
use Rattle.std.proofs.Common.{◌≡◌, ◌<◌, ◌≤◌, ℕ, ◌+◌, Bool, true, false, ◌&&◌, ◌||◌, List, [], ◌∷◌, ◌++◌, length, get_or, refl, ap, sym, ◌∙◌, arith, zero, suc, inl, inr, eqb, ltb, leb, subst}
use Rattle.std.specs.Prelude.{◌⊎◌, ◌↔◌}
use Rattle.std.proofs.lemmas.Bool.{cases_Bool, false≢true, cases_lt, and_parts, and_right, or_cases, or_right, eqb-true, eq-eqb, leb-true, le-leb, ltb-true, lt-ltb}
use Rattle.std.proofs.lemmas.List.Kept.{IsStrictlyIncreasing-filter}
use Rattle.std.proofs.lemmas.List.Folds.{list_any-append}
use Rattle.std.proofs.lemmas.List.{get_or_append_left, get_or_push, length_push}
use Rattle.std.specs.List.{filter}
use Rattle.std.specs.List.Sorted.{IsStrictlyIncreasing}
use Rattle.starlark_lexer.specs.Widths.{IsOpen, has, IsDeeper, Closes}

-- the widths above 0 that are open, from the outside in
pub record IsStack (lines ws : List ℕ) : Type 0 where
  pub once : IsStrictlyIncreasing ws
  pub each : (x : ℕ) → (has ws x ≡ true) ↔ (IsOpen lines x × (0 < x))

-- what one more line leaves open
pub open_after : (w : ℕ) (lines : List ℕ) (x : ℕ) → IsOpen (w ∷ lines) x → (x ≡ w) ⊎ ((x ≤ w) × IsOpen lines x)
open_after w lines x (inl h) = inr (omega arith, inl h)
open_after w lines x (inr (zero, lt, is, before)) = inl (sym is)
open_after w lines x (inr (suc k, lt, is, before)) = inr (before 0 (omega arith), inr (k, omega arith, is, λ j l. before (suc j) (omega arith)))

pub open_now : (w : ℕ) (lines : List ℕ) → IsOpen (w ∷ lines) w
open_now w lines = inr (0, omega arith, refl, λ j l. absurd (omega arith))

still_under : (w : ℕ) (lines : List ℕ) (x k : ℕ) → x ≤ w → ((j : ℕ) → j < k → x ≤ get_or lines j 0) → (j : ℕ) → j < suc k → x ≤ get_or (w ∷ lines) j 0
still_under w lines x k h before zero l = h
still_under w lines x k h before (suc j) l = before j (omega arith)

pub open_still : (w : ℕ) (lines : List ℕ) (x : ℕ) → x ≤ w → IsOpen lines x → IsOpen (w ∷ lines) x
open_still w lines x h (inl z) = inl z
open_still w lines x h (inr (k, lt, is, before)) = inr (suc k, omega arith, is, still_under w lines x k h before)

-- ---- members

has-filter : (p : ℕ → Bool) (xs : List ℕ) (x : ℕ) → has (filter p xs) x ≡ (has xs x && p x)
has-filter p [] x = refl
has-filter p (y ∷ ys) x =
    elim (cases_Bool (p y)) [
      | inl h ↦ elim (cases_Bool (eqb y x)) [
        | inl e ↦ let px : p x ≡ true = ap p (sym (eqb-true y x e)) ∙ h in rw (h, e, px) refl
        | inr e ↦ rw (h, e) (has-filter p ys x)
      ]
      | inr h ↦ elim (cases_Bool (eqb y x)) [
        | inl e ↦ let px : p x ≡ false = ap p (sym (eqb-true y x e)) ∙ h in rw (h, e, px) (has-filter p ys x ∙ and_right _ _ px)
        | inr e ↦ rw (h, e) (has-filter p ys x)
      ]
    ]

pub has_at : (ws : List ℕ) (k : ℕ) → k < length ws → has ws (get_or ws k 0) ≡ true
has_at [] k h = absurd (omega arith)
has_at (y ∷ ys) zero h = let e : eqb y y ≡ true = eq-eqb y y refl in rw e refl
has_at (y ∷ ys) (suc k) h = or_right _ _ (has_at ys k (omega arith))

module _ (lines ws : List ℕ) (stack : IsStack lines ws) (w : ℕ) where
  pub open_test : (eqb w 0 || has ws w) ≡ true → IsOpen lines w
  open_test h = elim (or_cases _ _ h) [ inl e ↦ inl (eqb-true w 0 e) | inr e ↦ ((stack.each w).0 e).0 ]

  pub test_open : IsOpen lines w → (eqb w 0 || has ws w) ≡ true
  test_open o =
      elim (cases_lt 0 w) [
        | inl pos ↦ or_right _ _ ((stack.each w).1 (o, pos))
        | inr small ↦ let z : eqb w 0 ≡ true = eq-eqb w 0 (omega arith) in rw z refl
      ]

  -- a line of an open width closes those above it
  pub closes : Closes lines w (filter (λ x. ltb w x) ws)
  closes = record {
    once = IsStrictlyIncreasing-filter (λ x. ltb w x) ws stack.once;
    each = λ x. (
      (λ h. let b = and_parts _ _ (sym (has-filter (λ y. ltb w y) ws x) ∙ h) in (((stack.each x).0 b.0).0, ltb-true w x b.1)),
      (λ o. has-filter (λ y. ltb w y) ws x ∙ (λ i. (stack.each x).1 (o.0, omega (arith, o.1)) i && lt-ltb w x o.1 i)),
    );
  }

  pub kept : (eqb w 0 || has ws w) ≡ true → IsStack (w ∷ lines) (filter (λ x. leb x w) ws)
  kept stands = record {
    once = IsStrictlyIncreasing-filter (λ x. leb x w) ws stack.once;
    each = λ x. (
      (λ h. let b = and_parts _ _ (sym (has-filter (λ y. leb y w) ws x) ∙ h) in let o = (stack.each x).0 b.0 in (open_still w lines x (leb-true x w b.1) o.0, o.1)),
      (λ o. elim (open_after w lines x o.0) [
        | inl same ↦
            let has_w : has ws w ≡ true = elim (or_cases _ _ stands) [ inl z ↦ absurd (omega (arith, same, o.1, eqb-true w 0 z)) | inr e ↦ e ] in
            has-filter (λ y. leb y w) ws x ∙ (λ i. (ap (has ws) same ∙ has_w) i && le-leb x w (omega arith) i)
        | inr under ↦ has-filter (λ y. leb y w) ws x ∙ (λ i. (stack.each x).1 (under.1, o.1) i && le-leb x w under.0 i)
      ]),
    );
  }

  below_all : has (filter (λ x. ltb w x) ws) ≡ (λ x. false) → (eqb w 0 || has ws w) ≡ false → (x : ℕ) → has ws x ≡ true → x < w
  below_all none shut x h =
      elim (cases_lt x w) [
        | inl l ↦ l
        | inr g ↦ elim (cases_lt w x) [
          | inl l ↦ absurd (false≢true (sym (ap (λ f. f x) none) ∙ has-filter (λ y. ltb w y) ws x ∙ (λ i. h i && lt-ltb w x l i)))
          | inr g2 ↦ let same : x ≡ w = omega arith in absurd (false≢true (sym shut ∙ or_right _ _ (ap (has ws) (sym same) ∙ h)))
        ]
      ]

  -- a line that is deeper than all open ones
  pub deeper : has (filter (λ x. ltb w x) ws) ≡ (λ x. false) → (eqb w 0 || has ws w) ≡ false → IsDeeper lines w
  deeper none shut x o =
      elim (cases_lt 0 x) [
        | inl pos ↦ below_all none shut x ((stack.each x).1 (o, pos))
        | inr small ↦ elim (cases_lt 0 w) [
          | inl l ↦ omega arith
          | inr z ↦ let zero_w : eqb w 0 ≡ true = eq-eqb w 0 (omega arith) in absurd (false≢true (sym shut ∙ ap (λ b. b || has ws w) zero_w))
        ]
      ]

  once_more : ((x : ℕ) → has ws x ≡ true → x < w) → IsStrictlyIncreasing (ws ++ w ∷ [])
  once_more under k h = elim (cases_lt (k + 1) (length ws)) [
    | inl l ↦
        let a : get_or (ws ++ w ∷ []) k 0 ≡ get_or ws k 0 = get_or_append_left ws (w ∷ []) 0 k (omega arith) in
        let b : get_or (ws ++ w ∷ []) (k + 1) 0 ≡ get_or ws (k + 1) 0 = get_or_append_left ws (w ∷ []) 0 (k + 1) l in
        omega (arith, stack.once k l)
    | inr g ↦
        let last : length ws ≡ k + 1 = omega (arith, length_push ws w) in
        let a : get_or (ws ++ w ∷ []) k 0 ≡ get_or ws k 0 = get_or_append_left ws (w ∷ []) 0 k (omega arith) in
        let b : get_or (ws ++ w ∷ []) (k + 1) 0 ≡ w = get_or_push ws w 0 (k + 1) last in
        let m : get_or ws k 0 < w = under (get_or ws k 0) (has_at ws k (omega arith)) in
        omega arith
  ]

  pub pushed : has (filter (λ x. ltb w x) ws) ≡ (λ x. false) → (eqb w 0 || has ws w) ≡ false → IsStack (w ∷ lines) (ws ++ w ∷ [])
  pushed none shut =
      let under = below_all none shut in
      let deep = deeper none shut in
      record {
        once = once_more under;
        each = λ x. (
          (λ h. elim (or_cases _ _ (sym (list_any-append (λ y. eqb y x) ws (w ∷ [])) ∙ h)) [
            | inl e ↦ let o = (stack.each x).0 e in (open_still w lines x (omega (arith, under x e)) o.0, o.1)
            | inr e ↦
                let same : w ≡ x = eqb-true w x (elim (or_cases _ _ e) [ inl a ↦ a | inr b ↦ absurd (false≢true b) ]) in
                (subst (IsOpen (w ∷ lines)) same (open_now w lines), omega (arith, deep 0 (inl refl)))
          ]),
          (λ o. list_any-append (λ y. eqb y x) ws (w ∷ []) ∙ elim (open_after w lines x o.0) [
            | inl same ↦ or_right _ _ (ap (λ b. b || false) (eq-eqb w x (sym same)))
            | inr under ↦ ap (λ b. b || has (w ∷ []) x) ((stack.each x).1 (under.1, o.1))
          ]),
        );
      }

pub no_lines : IsStack [] []
no_lines = record {
  once = λ k h. absurd (omega arith);
  each = λ x. ((λ h. absurd (false≢true h)), (λ o. elim o.0 [ inl z ↦ absurd (omega (arith, z, o.1)) | inr k ↦ absurd (omega (arith, k.1)) ]));
}
