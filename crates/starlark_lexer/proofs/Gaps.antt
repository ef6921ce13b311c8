-- The bytes that are passed over.
use Rattle.std.proofs.Common.{◌≡◌, ◌<◌, ◌≤◌, ℕ, ◌+◌, Bool, true, false, List, [], ◌∷◌, length, drop, refl, ap, sym, arith, zero, suc, inl, inr, cond, eqb, one-add}
use Rattle.std.proofs.lemmas.Bool.{cases_Bool, false≢true}
use Rattle.std.proofs.lemmas.Bool.Decides.{nat_tests}
use Rattle.std.proofs.lemmas.List.{drop-drop}
use Rattle.std.specs.List.{prefix_len}
use Rattle.starlark_lexer.specs.Classes.{is_blank, line_end, line_len, begins_line}
use Rattle.starlark_lexer.specs.Fronts.{is_plain}
use Rattle.starlark_lexer.specs.Scan.{pass, gap}

begins_some : (xs : List ℕ) → begins_line xs ≡ true → 0 < length xs
begins_some [] h = absurd (false≢true h)
begins_some (x ∷ xs) h = omega arith

pub line_end_within : (xs : List ℕ) → line_end xs ≤ length xs
unfolding line_end
line_end_within [] = omega arith
line_end_within (b ∷ bs) =
    elim (cases_Bool (eqb b 10)) [
      | inl e ↦ rw e (omega arith)
      | inr e ↦ rw e (
          elim (cases_Bool (eqb b 13)) [
            | inr f ↦ rw f (omega arith)
            | inl f ↦ rw f (
                elim (cases_Bool (begins_line bs)) [ inr g ↦ rw g (omega arith) | inl g ↦ rw g (omega (arith, begins_some bs g)) ])
          ])
    ]

pub line_len_within : (xs : List ℕ) → line_len xs ≤ length xs
unfolding line_len
line_len_within [] = omega arith
line_len_within (b ∷ bs) = elim (cases_Bool (eqb (line_end (b ∷ bs)) 0)) [ inl e ↦ rw e (omega (arith, line_len_within bs)) | inr e ↦ rw e (omega arith) ]

pub pass_within : (j : Bool) (xs : List ℕ) → pass j xs ≤ length xs
unfolding pass
pass_within j [] = omega arith
pass_within j (b ∷ bs) =
    let most = line_end_within bs in
    elim (cases_Bool (is_blank b)) [
      | inl e ↦ rw e (omega arith)
      | inr e ↦ rw e (
          elim (cases_Bool (eqb b 10)) [
            | inl f ↦ rw f (elim (cases_Bool j) [ inl k ↦ rw k (omega arith) | inr k ↦ rw k (omega arith) ])
            | inr f ↦ rw f (
                elim (cases_Bool (eqb b 92)) [
                  | inr g ↦ rw g (omega arith)
                  | inl g ↦ rw g (
                      elim (cases_Bool (eqb (line_end bs) 0)) [ inl h ↦ rw h (omega arith) | inr h ↦ rw h (omega arith) ])
                ])
          ])
    ]

gap_more : (j : Bool) (n : ℕ) (xs : List ℕ) → n ≤ length xs → gap j n xs ≡ n + gap j 0 (drop n xs)
unfolding gap
gap_more j zero xs h = omega arith
gap_more j (suc n) [] h = absurd (omega arith)
gap_more j (suc n) (x ∷ xs) h = omega (arith, gap_more j n xs (omega arith))

pub gap_step : (j : Bool) (xs : List ℕ) (n : ℕ) → pass j xs ≡ suc n → gap j 0 xs ≡ suc n + gap j 0 (drop (suc n) xs)
unfolding gap
gap_step j [] n h = absurd (omega (arith, pass_within j []))
gap_step j (x ∷ xs) n h = rw (h, gap) (omega (arith, gap_more j n xs (omega (arith, pass_within j (x ∷ xs)))))

pub gap_stop : (j : Bool) (xs : List ℕ) → pass j xs ≡ 0 → gap j 0 xs ≡ 0
unfolding gap
gap_stop j [] h = refl
gap_stop j (x ∷ xs) h = rw (h, gap) refl

-- as the loops go
pub gap_on : (j : Bool) (xs : List ℕ) (end n : ℕ) → n ≡ pass j (drop end xs) → 0 < n → end + n + gap j 0 (drop (end + n) xs) ≡ end + gap j 0 (drop end xs)
gap_on j xs end zero h pos = absurd (omega arith)
gap_on j xs end (suc n) h pos = omega (arith, gap_step j (drop end xs) n (sym h), ap (gap j 0) (drop-drop (suc n) end xs))

plain_no_end : (b : ℕ) (bs : List ℕ) → is_plain b ≡ true → line_end (b ∷ bs) ≡ 0
unfolding line_end
plain_no_end b bs h =
    let feed : eqb b 10 ≡ false = grind (arith, nat_tests) in
    let carriage : eqb b 13 ≡ false = grind (arith, nat_tests) in
    rw (feed, carriage) refl

line_step : (x : ℕ) (xs : List ℕ) → line_end (x ∷ xs) ≡ 0 → line_len (x ∷ xs) ≡ suc (line_len xs)
unfolding line_len
line_step x xs e = rw e refl

line_plain_by : (x : ℕ) (xs : List ℕ) (b : Bool) → b ≡ is_plain x → line_len xs ≡ prefix_len is_plain xs + line_len (drop (prefix_len is_plain xs) xs) → line_len (x ∷ xs) ≡ cond b (1 + prefix_len is_plain xs) 0 + line_len (drop (cond b (1 + prefix_len is_plain xs) 0) (x ∷ xs))
line_plain_by x xs true e h = simp one-add (omega (arith, line_step x xs (plain_no_end x xs (sym e)), h))
line_plain_by x xs false e h = omega arith

line_plain : (xs : List ℕ) → line_len xs ≡ prefix_len is_plain xs + line_len (drop (prefix_len is_plain xs) xs)
unfolding line_len
line_plain [] = omega arith
line_plain (x ∷ xs) = line_plain_by x xs (is_plain x) refl (line_plain xs)

pub line_past_plain : (xs : List ℕ) (end n : ℕ) → n ≡ prefix_len is_plain (drop end xs) → end + n + line_len (drop (end + n) xs) ≡ end + line_len (drop end xs)
line_past_plain xs end n h = rw h (omega (arith, line_plain (drop end xs), ap line_len (drop-drop (prefix_len is_plain (drop end xs)) end xs)))

pub line_on : (xs : List ℕ) (end : ℕ) → end < length xs → line_end (drop end xs) ≡ 0 → end + 1 + line_len (drop (end + 1) xs) ≡ end + line_len (drop end xs)
unfolding line_len
line_on xs zero h e = elim xs as (λ xs. 0 < length xs → line_end xs ≡ 0 → 0 + 1 + line_len (drop 1 xs) ≡ 0 + line_len xs) [ [] ↦ λ h e. absurd (omega arith) | (x ∷ xs) ↦ λ h e. rw e (omega arith) ] h e
line_on [] (suc n) h e = absurd (omega arith)
line_on (x ∷ xs) (suc n) h e = let k : suc n + 1 ≡ suc (n + 1) = omega arith in omega (arith, line_on xs n (omega arith) e, ap (λ i. line_len (drop i (x ∷ xs))) k)

pub line_stop : (xs : List ℕ) → 0 < line_end xs → line_len xs ≡ 0
unfolding line_len
line_stop [] h = refl
line_stop (x ∷ xs) h = let e : eqb (line_end (x ∷ xs)) 0 ≡ false = grind (arith, nat_tests) in rw e refl
