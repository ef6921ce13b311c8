-- The longest front of a text in each class of numbers.
use Rattle.std.proofs.Common.{◌≡◌, ◌<◌, ◌≤◌, ℕ, ◌+◌, ◌-◌, Bool, true, false, cond, ◌&&◌, ◌||◌, List, [], ◌∷◌, length, take, drop, refl, ap, sym, ◌∙◌, arith, zero, suc, inl, inr, eqb, ltb, subst, one-add, length-drop}
use Rattle.std.proofs.lemmas.Bool.{cases_Bool, cases_lt, or_left, or_right, or_from}
use Rattle.std.proofs.lemmas.Bool.Decides.{nat_tests}
use Rattle.std.proofs.lemmas.List.{length-take-le, get_or-take}
use Rattle.std.proofs.lemmas.List.Folds.{list_all_at}
use Rattle.std.proofs.lemmas.List.Sums.{prefix_len_stops, prefix_len-le-length}
use Rattle.std.specs.List.{prefix_len, list_all}
use Rattle.std.specs.Char.{is_digit, is_ascii_digit}
use Rattle.starlark_lexer.specs.Classes.{is_nil, is_digits, is_signed, is_exponent, ends_float, is_fraction, digits_len, radix_of, is_digits_of, is_radix_digits, is_based}
use Rattle.starlark_lexer.specs.Scan.{more_than, signed_len, exponent_len, fraction_len, tail_len}
use Rattle.starlark_lexer.proofs.Runs.{list_all_run}

-- the longest front that passes the test has n bytes
pub record Best (p : List ℕ → Bool) (xs : List ℕ) (n : ℕ) : Type 0 where
  pub within : n ≤ length xs
  pub passes : p (take n xs) ≡ true
  pub longest : (k : ℕ) → n < k → k ≤ length xs → p (take k xs) ≡ false

-- no front passes it
abbrev pub None : (List ℕ → Bool) → List ℕ → Type 0
None p xs = (k : ℕ) → k ≤ length xs → p (take k xs) ≡ false

-- what a length says, where 0 stands for none
pub record Right (p : List ℕ → Bool) (xs : List ℕ) (n : ℕ) : Type 0 where
  pub some : 0 < n → Best p xs n
  pub none : n ≡ 0 → None p xs

none_front : (p : List ℕ → Bool) (xs : List ℕ) → None p xs → Right p xs 0
none_front p xs h = record { some = λ l. absurd (omega (arith, l)); none = λ e. h }

best_front : (p : List ℕ → Bool) (xs : List ℕ) (n : ℕ) → 0 < n → Best p xs n → Right p xs n
best_front p xs n pos h = record { some = λ l. h; none = λ e. absurd (omega (arith, e, pos)) }

none_nil : (p : List ℕ → Bool) → p [] ≡ false → None p []
none_nil p h zero le = h
none_nil p h (suc k) le = h

-- ---- one byte before it

module _ (p q : List ℕ → Bool) (b : ℕ) (rule : (ys : List ℕ) → p (b ∷ ys) ≡ q ys) where
  longer_cons : (ys : List ℕ) (n : ℕ) → Best q ys n → (k : ℕ) → suc n < k → k ≤ length (b ∷ ys) → p (take k (b ∷ ys)) ≡ false
  longer_cons ys n h zero more le = absurd (omega arith)
  longer_cons ys n h (suc k) more le = rule (take k ys) ∙ h.longest k (omega arith) (omega arith)

  pub best_cons : (ys : List ℕ) (n : ℕ) → Best q ys n → Best p (b ∷ ys) (suc n)
  best_cons ys n h = record { within = omega (arith, h.within); passes = rule (take n ys) ∙ h.passes; longest = longer_cons ys n h }

  pub none_cons : (ys : List ℕ) → p [] ≡ false → None q ys → None p (b ∷ ys)
  none_cons ys e h zero le = e
  none_cons ys e h (suc k) le = rule (take k ys) ∙ h k (omega arith)

none_by : (p : List ℕ → Bool) (b : ℕ) (ys : List ℕ) → p [] ≡ false → ((zs : List ℕ) → p (b ∷ zs) ≡ false) → None p (b ∷ ys)
none_by p b ys e h zero le = e
none_by p b ys e h (suc k) le = h (take k ys)

-- ---- runs

-- behind the run at the front of a front
pub behind_run : (p : ℕ → Bool) (xs : List ℕ) (k : ℕ) → prefix_len p xs ≤ k → drop (prefix_len p (take k xs)) (take k xs) ≡ take (k - prefix_len p xs) (drop (prefix_len p xs) xs)
behind_run p [] zero le = refl
behind_run p [] (suc k) le = let z : suc k - 0 ≡ suc k = omega arith in rw z refl
behind_run p (x ∷ xs) zero le =
    elim (cases_Bool (p x)) [ inl e ↦ absurd (let f : prefix_len p (x ∷ xs) ≡ 1 + prefix_len p xs = rw e refl in omega (arith, f)) | inr e ↦ rw e refl ]
behind_run p (x ∷ xs) (suc k) le =
    elim (cases_Bool (p x)) [
      | inl e ↦
          let n = prefix_len p xs in
          let f : prefix_len p (x ∷ xs) ≡ 1 + n = rw e refl in
          let a1 : 1 + prefix_len p (take k xs) ≡ suc (prefix_len p (take k xs)) = omega arith in
          let a2 : 1 + n ≡ suc n = omega arith in
          let on : suc k - suc n ≡ k - n = omega arith in
          rw (e, a1, a2, on) (behind_run p xs k (omega (arith, f)))
      | inr e ↦ let z : suc k - 0 ≡ suc k = omega arith in rw (e, z) refl
    ]

pub stops : (p : ℕ → Bool) (bs : List ℕ) (k : ℕ) → prefix_len p bs < k → k ≤ length bs → list_all p (take k bs) ≡ false
stops p bs k more fits =
    let n = prefix_len p bs in
    let len = length-take-le k bs fits in
    list_all_at p (take k bs) n 0 (omega arith) (ap p (get_or-take k bs n 0 more) ∙ prefix_len_stops p bs 0 (omega arith))

pub run_best : (p : ℕ → Bool) (xs : List ℕ) → Best (list_all p) xs (prefix_len p xs)
run_best p xs = record { within = prefix_len-le-length p xs; passes = list_all_run p xs; longest = stops p xs }

-- the same where the empty run counts for none
module _ (p : ℕ → Bool) (q : List ℕ → Bool) (nil : q [] ≡ false) (cons : (b : ℕ) (bs : List ℕ) → q (b ∷ bs) ≡ (p b && list_all p bs)) where
  some_same : (xs : List ℕ) → 0 < length xs → q xs ≡ list_all p xs
  some_same [] h = absurd (omega arith)
  some_same (b ∷ bs) h = cons b bs

  none_some : (xs : List ℕ) → prefix_len p xs ≡ 0 → None q xs
  none_some xs e zero le = nil
  none_some xs e (suc k) le = some_same (take (suc k) xs) (omega (arith, length-take-le (suc k) xs le)) ∙ stops p xs (suc k) (omega (arith, e)) le

  some_best : (xs : List ℕ) → 0 < prefix_len p xs → Best q xs (prefix_len p xs)
  some_best xs pos =
      let n = prefix_len p xs in
      let all = run_best p xs in
      record {
        within = all.within;
        passes = some_same (take n xs) (omega (arith, length-take-le n xs all.within)) ∙ all.passes;
        longest = λ k more le. some_same (take k xs) (omega (arith, length-take-le k xs le)) ∙ all.longest k more le;
      }

  pub some_right : (xs : List ℕ) → Right q xs (prefix_len p xs)
  some_right xs = record { some = some_best xs; none = none_some xs }

pub digits_right : (xs : List ℕ) → Right is_digits xs (digits_len xs)
digits_right xs = some_right is_ascii_digit is_digits refl (λ b bs. refl) xs

pub digits_of_right : (radix : ℕ) (xs : List ℕ) → Right (is_digits_of radix) xs (prefix_len (λ d. is_digit d radix) xs)
digits_of_right radix xs = some_right (λ d. is_digit d radix) (is_digits_of radix) refl (λ b bs. refl) xs

-- ---- one byte more

module _ (p q : List ℕ → Bool) (b : ℕ) (nil : p [] ≡ false) (rule : (ys : List ℕ) → p (b ∷ ys) ≡ q ys) where
  pub more_right : (ys : List ℕ) (n : ℕ) → Right q ys n → Right p (b ∷ ys) (more_than 1 n)
  more_right ys zero h = none_front p (b ∷ ys) (none_cons p q b rule ys nil (h.none refl))
  more_right ys (suc n) h =
      let z : eqb (suc n) 0 ≡ false = grind (arith, nat_tests) in
      let on : suc n + 1 ≡ suc (suc n) = omega arith in
      rw (z, on) (best_front p (b ∷ ys) (suc (suc n)) (omega arith) (best_cons p q b rule ys (suc n) (h.some (omega arith))))

-- ---- signs, exponents

signed_rule : (b : ℕ) → (eqb b 43 || eqb b 45) ≡ true → (ys : List ℕ) → is_signed (b ∷ ys) ≡ is_digits ys
signed_rule b h ys = rw h refl

signed_not : (b : ℕ) → (eqb b 43 || eqb b 45) ≡ false → (ys : List ℕ) → is_signed (b ∷ ys) ≡ false
signed_not b h ys = rw h refl

pub signed_right : (xs : List ℕ) → Right is_signed xs (signed_len xs)
unfolding signed_len
signed_right [] = none_front is_signed [] (none_nil is_signed refl)
signed_right (b ∷ bs) =
    elim (cases_Bool (eqb b 43 || eqb b 45)) [
      | inl e ↦ rw e (more_right is_signed is_digits b refl (signed_rule b e) bs (digits_len bs) (digits_right bs))
      | inr e ↦ rw e (none_front is_signed (b ∷ bs) (none_by is_signed b bs refl (signed_not b e)))
    ]

-- digits, or a sign and digits
abbrev pub is_power : List ℕ → Bool
is_power ys = is_digits ys || is_signed ys

abbrev pub power_len : List ℕ → ℕ
power_len ys = cond (eqb (digits_len ys) 0) (signed_len ys) (digits_len ys)

-- where digits stand no sign does
unsigned : (ys : List ℕ) → 0 < digits_len ys → None is_signed ys
unsigned [] h = none_nil is_signed refl
unsigned (b ∷ bs) h =
    elim (cases_Bool (is_ascii_digit b)) [
      | inl e ↦ none_by is_signed b bs refl (signed_not b (grind (arith, nat_tests)))
      | inr e ↦ absurd (let f : digits_len (b ∷ bs) ≡ 0 = rw e refl in omega (arith, f, h))
    ]

pub power_right : (ys : List ℕ) → Right is_power ys (power_len ys)
power_right ys =
    elim (cases_Bool (eqb (digits_len ys) 0)) [
      | inl e ↦
          let z : digits_len ys ≡ 0 = grind (arith, nat_tests) in
          let no = (digits_right ys).none z in
          let s = signed_right ys in
          rw e (record {
            some = λ pos. let h = s.some pos in record {
              within = h.within;
              passes = or_right _ _ h.passes;
              longest = λ k more le. or_from _ _ (no k le) (h.longest k more le);
            };
            none = λ n k le. or_from _ _ (no k le) (s.none n k le);
          })
      | inr e ↦
          let pos : 0 < digits_len ys = grind (arith, nat_tests) in
          let h = (digits_right ys).some pos in
          let no = unsigned ys pos in
          rw e (best_front is_power ys (digits_len ys) pos (record {
            within = h.within;
            passes = or_left _ _ h.passes;
            longest = λ k more le. or_from _ _ (h.longest k more le) (no k le);
          }))
    ]

exponent_rule : (b : ℕ) → (eqb b 101 || eqb b 69) ≡ true → (ys : List ℕ) → is_exponent (b ∷ ys) ≡ is_power ys
exponent_rule b h ys = rw h refl

exponent_not : (b : ℕ) → (eqb b 101 || eqb b 69) ≡ false → (ys : List ℕ) → is_exponent (b ∷ ys) ≡ false
exponent_not b h ys = rw h refl

power_len_more : (ys : List ℕ) → more_than 1 (power_len ys) ≡ cond (eqb (digits_len ys) 0) (more_than 1 (signed_len ys)) (digits_len ys + 1)
power_len_more ys = elim (cases_Bool (eqb (digits_len ys) 0)) [ inl e ↦ rw e refl | inr e ↦ rw (e, e) refl ]

pub exponent_right : (xs : List ℕ) → Right is_exponent xs (exponent_len xs)
unfolding exponent_len
exponent_right [] = none_front is_exponent [] (none_nil is_exponent refl)
exponent_right (b ∷ bs) =
    elim (cases_Bool (eqb b 101 || eqb b 69)) [
      | inl e ↦ rw e (subst (Right is_exponent (b ∷ bs)) (power_len_more bs) (more_right is_exponent is_power b refl (exponent_rule b e) bs (power_len bs) (power_right bs)))
      | inr e ↦ rw e (none_front is_exponent (b ∷ bs) (none_by is_exponent b bs refl (exponent_not b e)))
    ]

-- ---- floats

-- nothing is allowed too
end_passes : (xs : List ℕ) (n : ℕ) → Right is_exponent xs n → ends_float (take n xs) ≡ true
end_passes xs zero h = refl
end_passes xs (suc n) h = or_right (is_nil (take (suc n) xs)) _ (h.some (omega arith)).passes

end_longer : (xs : List ℕ) (n : ℕ) → Right is_exponent xs n → (k : ℕ) → n < k → k ≤ length xs → ends_float (take k xs) ≡ false
end_longer [] n h k more le = absurd (omega arith)
end_longer (x ∷ xs) n h zero more le = absurd (omega arith)
end_longer (x ∷ xs) zero h (suc k) more le = h.none refl (suc k) le
end_longer (x ∷ xs) (suc n) h (suc k) more le = (h.some (omega arith)).longest (suc k) more le

-- behind the digits of a front of a fraction
behind_point : (bs : List ℕ) (k : ℕ) → digits_len bs ≤ k → ends_float (drop (digits_len (take k bs)) (take k bs)) ≡ ends_float (take (k - digits_len bs) (drop (digits_len bs) bs))
behind_point bs k le = ap ends_float (behind_run is_ascii_digit bs k le)

fraction_rule : (b : ℕ) → eqb b 46 ≡ true → (ys : List ℕ) → is_fraction (b ∷ ys) ≡ ends_float (drop (digits_len ys) ys)
fraction_rule b h ys = rw h refl

fraction_not : (b : ℕ) → eqb b 46 ≡ false → (ys : List ℕ) → is_fraction (b ∷ ys) ≡ false
fraction_not b h ys = rw h refl

abbrev ends_behind : List ℕ → Bool
ends_behind ys = ends_float (drop (digits_len ys) ys)

ends_best : (bs : List ℕ) → Best ends_behind bs (digits_len bs + exponent_len (drop (digits_len bs) bs))
ends_best bs =
    let d = digits_len bs in
    let rest = drop d bs in
    let e = exponent_len rest in
    let h = exponent_right rest in
    let most : d ≤ length bs = prefix_len-le-length is_ascii_digit bs in
    let len = length-drop d bs in
    record {
      within = elim (cases_lt 0 e) [ inl pos ↦ omega (arith, (h.some pos).within) | inr z ↦ omega arith ];
      passes = behind_point bs (d + e) (omega arith) ∙ ap (λ k. ends_float (take k rest)) (let s : d + e - d ≡ e = omega arith in s) ∙ end_passes rest e h;
      longest = λ k more le. behind_point bs k (omega arith) ∙ end_longer rest e h (k - d) (omega arith) (omega arith);
    }

pub fraction_right : (xs : List ℕ) → Right is_fraction xs (fraction_len xs)
unfolding fraction_len
fraction_right [] = none_front is_fraction [] (none_nil is_fraction refl)
fraction_right (b ∷ bs) =
    elim (cases_Bool (eqb b 46)) [
      | inl e ↦
          let n = digits_len bs + exponent_len (drop (digits_len bs) bs) in
          rw e (best_front is_fraction (b ∷ bs) (1 + n) (omega arith) (subst (Best is_fraction (b ∷ bs)) (sym (one-add n)) (best_cons is_fraction ends_behind b (fraction_rule b e) bs n (ends_best bs))))
      | inr e ↦ rw e (none_front is_fraction (b ∷ bs) (none_by is_fraction b bs refl (fraction_not b e)))
    ]

-- a fraction, or an exponent alone
abbrev pub is_tail : List ℕ → Bool
is_tail xs = is_fraction xs || is_exponent xs

-- where a point stands no exponent does
pointed_none : (xs : List ℕ) → 0 < fraction_len xs → None is_exponent xs
unfolding fraction_len
pointed_none [] h = none_nil is_exponent refl
pointed_none (b ∷ bs) h =
    elim (cases_Bool (eqb b 46)) [
      | inl e ↦ none_by is_exponent b bs refl (exponent_not b (grind (arith, nat_tests)))
      | inr e ↦ absurd (let f : fraction_len (b ∷ bs) ≡ 0 = rw e refl in omega (arith, f, h))
    ]

pub tail_right : (xs : List ℕ) → Right is_tail xs (tail_len xs)
tail_right xs =
    elim (cases_Bool (eqb (fraction_len xs) 0)) [
      | inl e ↦
          let z : fraction_len xs ≡ 0 = grind (arith, nat_tests) in
          let no = (fraction_right xs).none z in
          let s = exponent_right xs in
          rw e (record {
            some = λ pos. let h = s.some pos in record {
              within = h.within;
              passes = or_right _ _ h.passes;
              longest = λ k more le. or_from _ _ (no k le) (h.longest k more le);
            };
            none = λ n k le. or_from _ _ (no k le) (s.none n k le);
          })
      | inr e ↦
          let pos : 0 < fraction_len xs = grind (arith, nat_tests) in
          let h = (fraction_right xs).some pos in
          let no = pointed_none xs pos in
          rw e (best_front is_tail xs (fraction_len xs) pos (record {
            within = h.within;
            passes = or_left _ _ h.passes;
            longest = λ k more le. or_from _ _ (h.longest k more le) (no k le);
          }))
    ]

-- ---- radix digits

radix_rule : (b : ℕ) → ltb 0 (radix_of b) ≡ true → (ys : List ℕ) → is_radix_digits (b ∷ ys) ≡ is_digits_of (radix_of b) ys
radix_rule b h ys = rw h refl

radix_not : (b : ℕ) → ltb 0 (radix_of b) ≡ false → (ys : List ℕ) → is_radix_digits (b ∷ ys) ≡ false
radix_not b h ys = rw h refl

abbrev pub radix_len : List ℕ → ℕ
radix_len [] = 0
radix_len (c ∷ bs) = cond (ltb 0 (radix_of c)) (more_than 1 (prefix_len (λ d. is_digit d (radix_of c)) bs)) 0

pub radix_right : (xs : List ℕ) → Right is_radix_digits xs (radix_len xs)
radix_right [] = none_front is_radix_digits [] (none_nil is_radix_digits refl)
radix_right (c ∷ bs) =
    elim (cases_Bool (ltb 0 (radix_of c))) [
      | inl e ↦ rw e (more_right is_radix_digits (is_digits_of (radix_of c)) c refl (radix_rule c e) bs (prefix_len (λ d. is_digit d (radix_of c)) bs) (digits_of_right (radix_of c) bs))
      | inr e ↦ rw e (none_front is_radix_digits (c ∷ bs) (none_by is_radix_digits c bs refl (radix_not c e)))
    ]

based_rule : (b : ℕ) → eqb b 48 ≡ true → (ys : List ℕ) → is_based (b ∷ ys) ≡ is_radix_digits ys
based_rule b h ys = rw h refl

based_not : (b : ℕ) → eqb b 48 ≡ false → (ys : List ℕ) → is_based (b ∷ ys) ≡ false
based_not b h ys = rw h refl

abbrev pub whole_based : ℕ → List ℕ → ℕ
whole_based b ys = cond (eqb b 48) (more_than 1 (radix_len ys)) 0

pub based_right : (b : ℕ) (ys : List ℕ) → Right is_based (b ∷ ys) (whole_based b ys)
based_right b ys =
    elim (cases_Bool (eqb b 48)) [
      | inl e ↦ rw e (more_right is_based is_radix_digits b refl (based_rule b e) ys (radix_len ys) (radix_right ys))
      | inr e ↦ rw e (none_front is_based (b ∷ ys) (none_by is_based b ys refl (based_not b e)))
    ]
