-- The bytes of lexemes: a test that the bytes of each class pass is passed by all bytes of a lexeme.
use Rattle.std.proofs.Common.{◌≡◌, ◌<◌, ◌≤◌, ℕ, Bool, true, false, not, ◌&&◌, ◌||◌, List, [], ◌∷◌, length, take, drop, get_or, refl, ap, sym, ◌∙◌, arith, inl, inr, eqb, ltb, one-add}
use Rattle.std.specs.Prelude.{Option, Some, None}
use Rattle.std.proofs.lemmas.Bool.{cases_Bool, false≢true, and_parts, and_from}
use Rattle.std.proofs.lemmas.Bool.Decides.{nat_tests}
use Rattle.std.proofs.lemmas.List.{take-append-drop}
use Rattle.std.proofs.lemmas.List.Folds.{list_all_at, list_all-append}
use Rattle.std.specs.List.{list_all}
use Rattle.std.proofs.lemmas.Slice.Eq.{bytes_eq-Decides}
use Rattle.std.specs.Str.{bytes_eq}
use Rattle.std.specs.Char.{is_digit, is_ascii_digit}
use Rattle.starlark_lexer.specs.declared.literal.Form.{Form}
use Rattle.starlark_lexer.specs.declared.literal.Sort.{Sort}
use Rattle.starlark_lexer.specs.declared.token.FStringQuote.{FStringQuote}
use Rattle.starlark_lexer.specs.Literals.{is_mark, opening_of, opened, prefix_of, quote_of, letters}
use Rattle.starlark_lexer.specs.Classes.{meaning, lookup, operators, operator_of, is_other, is_nil, is_blank, is_continuation, is_word, is_word_byte, begins_word, is_digits, is_zeros, is_based, radix_of, is_digits_of, is_radix_digits, is_signed, is_exponent, ends_float, is_fraction, begins_number, is_float, behind_digits}
use Rattle.starlark_lexer.proofs.Options.{none_some}
use Rattle.starlark_lexer.proofs.Longest.{begins_goes}
use Rattle.starlark_lexer.proofs.Tables.{Row}

either : (a b c : Bool) → (a ≡ true → c ≡ true) → (b ≡ true → c ≡ true) → (a || b) ≡ true → c ≡ true
either true b c h k e = h refl
either false b c h k e = k e

run_passes : (ok p : ℕ → Bool) → ((b : ℕ) → p b ≡ true → ok b ≡ true) → (xs : List ℕ) → list_all p xs ≡ true → list_all ok xs ≡ true
run_passes ok p each [] h = refl
run_passes ok p each (x ∷ xs) h = let k = and_parts (p x) (list_all p xs) h in and_from (ok x) (list_all ok xs) (each x k.0) (run_passes ok p each xs k.1)

radix_most : (b : ℕ) → radix_of b ≤ 16
radix_most b =
    elim (cases_Bool (eqb b 120 || eqb b 88)) [
      | inl e ↦ rw e (omega arith)
      | inr e ↦ rw e (elim (cases_Bool (eqb b 111 || eqb b 79)) [
        | inl f ↦ rw f (omega arith)
        | inr f ↦ rw f (elim (cases_Bool (eqb b 98 || eqb b 66)) [ inl g ↦ rw g (omega arith) | inr g ↦ rw g (omega arith) ])
      ])
    ]

-- what is no digit counts as 36, which is below no radix
pub few_radices : (r : ℕ) → r ≤ 16 → ltb 36 r ≡ false
few_radices r le = grind (arith, nat_tests)

digit_word : (b : ℕ) → is_ascii_digit b ≡ true → is_word_byte b ≡ true
digit_word b h = grind (arith, nat_tests)

zero_word : (b : ℕ) → eqb b 48 ≡ true → is_word_byte b ≡ true
zero_word b h = grind (arith, nat_tests)

power_word : (b : ℕ) → (eqb b 101 || eqb b 69) ≡ true → is_word_byte b ≡ true
power_word b h = grind (arith, nat_tests)

letter_word : (b : ℕ) → ltb 0 (radix_of b) ≡ true → is_word_byte b ≡ true
letter_word b h = elim (cases_Bool (is_word_byte b)) [
  | inl e ↦ e
  | inr e ↦
      let f : (eqb b 120 || eqb b 88) ≡ false = grind (arith, nat_tests) in
      let g : (eqb b 111 || eqb b 79) ≡ false = grind (arith, nat_tests) in
      let i : (eqb b 98 || eqb b 66) ≡ false = grind (arith, nat_tests) in
      absurd (false≢true (rw (f, g, i) at h))
]

plus_sign : (b : ℕ) → (eqb b 43 || eqb b 45) ≡ true → (eqb b 43 || (eqb b 45 || eqb b 46)) ≡ true
plus_sign b h = grind (arith, nat_tests)

point_sign : (b : ℕ) → eqb b 46 ≡ true → (eqb b 43 || (eqb b 45 || eqb b 46)) ≡ true
point_sign b h = grind (arith, nat_tests)

not_true : (a b : Bool) → (a ≡ true → b ≡ true) → b ≡ false → a ≡ false
not_true true b h e = absurd (false≢true (sym e ∙ h refl))
not_true false b h e = refl

-- ---- tables of operators

abbrev pub rows_pass : (List ℕ → Bool) → List Row → Bool
rows_pass test [] = true
rows_pass test (r ∷ rs) = test r.0 && rows_pass test rs

pub no_row : (test : List ℕ → Bool) (w : List ℕ) → ((r : List ℕ) → test r ≡ true → bytes_eq r w ≡ false) → (rs : List Row) → rows_pass test rs ≡ true → lookup rs w ≡ None
no_row test w differs [] h = refl
no_row test w differs (r ∷ rs) h = let k = and_parts (test r.0) (rows_pass test rs) h in let n = differs r.0 k.0 in rw n (no_row test w differs rs k.1)

pub row_not : (ok : ℕ → Bool) (w r : List ℕ) → list_all ok w ≡ false → list_all ok r ≡ true → bytes_eq r w ≡ false
row_not ok w r e h = elim (cases_Bool (bytes_eq r w)) [ inr n ↦ n | inl y ↦ absurd (false≢true (sym e ∙ sym (ap (list_all ok) ((bytes_eq-Decides r w).0 y)) ∙ h)) ]

-- ---- prefixes and quotes

prefix_word : (w : List ℕ) (p : Sort × Bool) → prefix_of w ≡ Some p → list_all is_word_byte w ≡ true
prefix_word [] p h = refl
prefix_word (a ∷ []) p h = elim (cases_Bool (is_word_byte a)) [
  | inl e ↦ and_from (is_word_byte a) true e refl
  | inr e ↦
      let f : eqb a 114 ≡ false = grind (arith, nat_tests) in
      let g : eqb a 98 ≡ false = grind (arith, nat_tests) in
      let i : eqb a 102 ≡ false = grind (arith, nat_tests) in
      absurd (none_some p (rw (f, g, i) at h))
]
prefix_word (a ∷ b ∷ []) p h =
    elim (cases_Bool ((eqb a 114 && eqb b 98) || (eqb a 98 && eqb b 114))) [
      | inl e ↦ first a b e
      | inr e ↦ elim (cases_Bool ((eqb a 102 && eqb b 114) || (eqb a 114 && eqb b 102))) [
        | inl f ↦ second a b f
        | inr f ↦ absurd (none_some p (rw (e, f) at h))
      ]
    ]
  where
    first : (a b : ℕ) → ((eqb a 114 && eqb b 98) || (eqb a 98 && eqb b 114)) ≡ true → list_all is_word_byte (a ∷ b ∷ []) ≡ true
    first a b h = grind (arith, nat_tests)

    second : (a b : ℕ) → ((eqb a 102 && eqb b 114) || (eqb a 114 && eqb b 102)) ≡ true → list_all is_word_byte (a ∷ b ∷ []) ≡ true
    second a b h = grind (arith, nat_tests)
prefix_word (a ∷ b ∷ c ∷ w) p h = absurd (none_some p h)

quote_mark : (w : List ℕ) (q : FStringQuote) → quote_of w ≡ Some q → list_all is_mark w ≡ true
quote_mark [] q h = refl
quote_mark (a ∷ []) q h = elim (cases_Bool (is_mark a)) [
  | inl e ↦ and_from (is_mark a) true e refl
  | inr e ↦
      let f : eqb a 39 ≡ false = grind (arith, nat_tests) in
      let g : eqb a 34 ≡ false = grind (arith, nat_tests) in
      absurd (none_some q (rw (f, g) at h))
]
quote_mark (a ∷ b ∷ []) q h = absurd (none_some q h)
quote_mark (a ∷ b ∷ c ∷ []) q h =
    elim (cases_Bool (eqb a 39 && eqb b 39 && eqb c 39)) [
      | inl e ↦ first a b c e
      | inr e ↦ elim (cases_Bool (eqb a 34 && eqb b 34 && eqb c 34)) [
        | inl f ↦ second a b c f
        | inr f ↦ absurd (none_some q (rw (e, f) at h))
      ]
    ]
  where
    first : (a b c : ℕ) → (eqb a 39 && eqb b 39 && eqb c 39) ≡ true → list_all is_mark (a ∷ b ∷ c ∷ []) ≡ true
    first a b c h = grind (arith, nat_tests)

    second : (a b c : ℕ) → (eqb a 34 && eqb b 34 && eqb c 34) ≡ true → list_all is_mark (a ∷ b ∷ c ∷ []) ≡ true
    second a b c h = grind (arith, nat_tests)
quote_mark (a ∷ b ∷ c ∷ d ∷ w) q h = absurd (none_some q h)

-- ---- words and numbers

module _ (ok : ℕ → Bool) (word : (b : ℕ) → is_word_byte b ≡ true → ok b ≡ true) (sign : (b : ℕ) → (eqb b 43 || (eqb b 45 || eqb b 46)) ≡ true → ok b ≡ true) (radix : (r b : ℕ) → r ≤ 16 → is_digit b r ≡ true → ok b ≡ true) where
  word_passes : (w : List ℕ) → is_word w ≡ true → list_all ok w ≡ true
  word_passes [] h = absurd (false≢true h)
  word_passes (b ∷ bs) h =
      let k = and_parts (begins_word b) (list_all is_word_byte bs) h in
      and_from (ok b) (list_all ok bs) (word b (begins_goes b k.0)) (run_passes ok is_word_byte word bs k.1)

  digit_passes : (b : ℕ) → is_ascii_digit b ≡ true → ok b ≡ true
  digit_passes b h = word b (digit_word b h)

  digits_pass : (w : List ℕ) → is_digits w ≡ true → list_all ok w ≡ true
  digits_pass [] h = absurd (false≢true h)
  digits_pass (b ∷ bs) h =
      let k = and_parts (is_ascii_digit b) (list_all is_ascii_digit bs) h in
      and_from (ok b) (list_all ok bs) (digit_passes b k.0) (run_passes ok is_ascii_digit digit_passes bs k.1)

  zeros_pass : (w : List ℕ) → is_zeros w ≡ true → list_all ok w ≡ true
  zeros_pass [] h = absurd (false≢true h)
  zeros_pass (b ∷ bs) h = let k = and_parts (eqb b 48) (is_digits bs) h in and_from (ok b) (list_all ok bs) (word b (zero_word b k.0)) (digits_pass bs k.1)

  radix_passes : (r : ℕ) (w : List ℕ) → r ≤ 16 → is_digits_of r w ≡ true → list_all ok w ≡ true
  radix_passes r [] le h = absurd (false≢true h)
  radix_passes r (b ∷ bs) le h =
      let k = and_parts (is_digit b r) (list_all (λ c. is_digit c r) bs) h in
      and_from (ok b) (list_all ok bs) (radix r b le k.0) (run_passes ok (λ c. is_digit c r) (λ c. radix r c le) bs k.1)

  based_passes : (w : List ℕ) → is_based w ≡ true → list_all ok w ≡ true
  based_passes [] h = absurd (false≢true h)
  based_passes (b ∷ []) h = absurd (false≢true (and_parts (eqb b 48) false h).1)
  based_passes (b ∷ c ∷ bs) h =
      let k = and_parts (eqb b 48) (is_radix_digits (c ∷ bs)) h in
      let l = and_parts (ltb 0 (radix_of c)) (is_digits_of (radix_of c) bs) k.1 in
      and_from (ok b) (list_all ok (c ∷ bs)) (word b (zero_word b k.0)) (and_from (ok c) (list_all ok bs) (word c (letter_word c l.0)) (radix_passes (radix_of c) bs (radix_most c) l.1))

  signed_passes : (w : List ℕ) → is_signed w ≡ true → list_all ok w ≡ true
  signed_passes [] h = absurd (false≢true h)
  signed_passes (b ∷ bs) h = let k = and_parts (eqb b 43 || eqb b 45) (is_digits bs) h in and_from (ok b) (list_all ok bs) (sign b (plus_sign b k.0)) (digits_pass bs k.1)

  exponent_passes : (w : List ℕ) → is_exponent w ≡ true → list_all ok w ≡ true
  exponent_passes [] h = absurd (false≢true h)
  exponent_passes (b ∷ bs) h =
      let k = and_parts (eqb b 101 || eqb b 69) (is_digits bs || is_signed bs) h in
      and_from (ok b) (list_all ok bs) (word b (power_word b k.0)) (either (is_digits bs) (is_signed bs) (list_all ok bs) (digits_pass bs) (signed_passes bs) k.1)

  -- digits at the front pass
  behind_passes : (w : List ℕ) → list_all ok (behind_digits w) ≡ true → list_all ok w ≡ true
  behind_passes [] h = refl
  behind_passes (b ∷ bs) h = elim (cases_Bool (is_ascii_digit b)) [
    | inl t ↦ and_from (ok b) (list_all ok bs) (digit_passes b t) (behind_passes bs (rw (t, one-add) at h))
    | inr t ↦ rw t at h
  ]

  ends_pass : (w : List ℕ) → ends_float w ≡ true → list_all ok w ≡ true
  ends_pass [] h = refl
  ends_pass (b ∷ bs) h = exponent_passes (b ∷ bs) h

  fraction_passes : (w : List ℕ) → is_fraction w ≡ true → list_all ok w ≡ true
  fraction_passes [] h = absurd (false≢true h)
  fraction_passes (b ∷ bs) h =
      let k = and_parts (eqb b 46) (ends_float (behind_digits bs)) h in
      and_from (ok b) (list_all ok bs) (sign b (point_sign b k.0)) (behind_passes bs (ends_pass (behind_digits bs) k.1))

  float_passes : (w : List ℕ) → is_float w ≡ true → list_all ok w ≡ true
  float_passes w h =
      let k = and_parts (begins_number w) (is_fraction (behind_digits w) || is_exponent (behind_digits w)) h in
      behind_passes w (either (is_fraction (behind_digits w)) (is_exponent (behind_digits w)) (list_all ok (behind_digits w)) (fraction_passes (behind_digits w)) (exponent_passes (behind_digits w)) k.1)

  module _ (high : (b : ℕ) → ltb b 128 ≡ false → ok b ≡ true) (goes : (b : ℕ) → is_continuation b ≡ true → ok b ≡ true) where
    no_classes : (w : List ℕ) → list_all ok w ≡ false → opening_of w ≡ None → operator_of w ≡ None → is_other w ≡ false → meaning w ≡ None
    unfolding meaning
    no_classes w h f g i =
        let a = not_true (is_word w) (list_all ok w) (word_passes w) h in
        let b = not_true (is_digits w) (list_all ok w) (digits_pass w) h in
        let c = not_true (is_based w) (list_all ok w) (based_passes w) h in
        let d = not_true (is_zeros w) (list_all ok w) (zeros_pass w) h in
        let e = not_true (is_float w) (list_all ok w) (float_passes w) h in
        rw (a, b, c, d, e, f, g, i) refl

    wide_passes : (b : ℕ) (bs : List ℕ) → ltb b 128 ≡ false → list_all is_continuation bs ≡ true → list_all ok (b ∷ bs) ≡ true
    wide_passes b bs a g = and_from (ok b) (list_all ok bs) (high b a) (run_passes ok is_continuation goes bs g)

    no_other : (w : List ℕ) → 1 < length w → list_all ok w ≡ false → is_other w ≡ false
    no_other [] some h = absurd (omega (arith, some))
    no_other (b ∷ []) some h = absurd (omega (arith, some))
    no_other (b ∷ c ∷ bs) some h = elim (cases_Bool (ltb b 128)) [
      | inl a ↦ rw a refl
      | inr a ↦ rw a (not_true (list_all is_continuation (c ∷ bs)) (list_all ok (b ∷ c ∷ bs)) (wide_passes b (c ∷ bs) a) h)
    ]

    -- two bytes or more, one of which does not pass
    pub none_passes : (w : List ℕ) → 1 < length w → list_all ok w ≡ false → opening_of w ≡ None → operator_of w ≡ None → meaning w ≡ None
    none_passes w some h f g = no_classes w h f g (no_other w some h)

    -- a byte that does not pass, where marks pass, and what is by itself an invalid lexeme
    module _ (mark : (b : ℕ) → is_mark b ≡ true → ok b ≡ true) (one : (b : ℕ) → not (is_blank b || (eqb b 10 || eqb b 35)) ≡ true → ok b ≡ true) (table : rows_pass (list_all ok) operators ≡ true) where
      prefix_passes : (w : List ℕ) (p : Sort × Bool) → prefix_of w ≡ Some p → list_all ok w ≡ true
      prefix_passes w p h = run_passes ok is_word_byte word w (prefix_word w p h)

      quote_passes : (w : List ℕ) (q : FStringQuote) → quote_of w ≡ Some q → list_all ok w ≡ true
      quote_passes w q h = run_passes ok is_mark mark w (quote_mark w q h)

      opened_pass : (xs ys : List ℕ) (o : Option (Sort × Bool)) (r : Option FStringQuote) (f : Form) → prefix_of xs ≡ o → quote_of ys ≡ r → opened o r ≡ Some f → (list_all ok xs && list_all ok ys) ≡ true
      opened_pass xs ys (Some p) (Some q) f h k e = and_from _ _ (prefix_passes xs p h) (quote_passes ys q k)
      opened_pass xs ys (Some p) None f h k e = absurd (none_some f e)
      opened_pass xs ys None r f h k e = absurd (none_some f e)

      opening_passes : (w : List ℕ) (f : Form) → opening_of w ≡ Some f → list_all ok w ≡ true
      unfolding opening_of
      opening_passes w f e =
          let n = letters w in
          ap (list_all ok) (sym (take-append-drop n w)) ∙ list_all-append ok (take n w) (drop n w) ∙ opened_pass (take n w) (drop n w) (prefix_of (take n w)) (quote_of (drop n w)) f refl refl e

      no_opening : (w : List ℕ) (o : Option Form) → list_all ok w ≡ false → opening_of w ≡ o → o ≡ None
      no_opening w None h e = refl
      no_opening w (Some f) h e = absurd (false≢true (sym h ∙ opening_passes w f e))

      no_operator : (w : List ℕ) → list_all ok w ≡ false → operator_of w ≡ None
      unfolding operator_of
      no_operator w e = no_row (list_all ok) w (λ r. row_not ok w r e) operators table

      low_passes : (b : ℕ) (bs : List ℕ) → (is_nil bs && not (is_blank b || (eqb b 10 || eqb b 35))) ≡ true → list_all ok (b ∷ bs) ≡ true
      low_passes b [] h = and_from (ok b) true (one b h) refl
      low_passes b (c ∷ bs) h = absurd (false≢true h)

      other_passes : (w : List ℕ) → is_other w ≡ true → list_all ok w ≡ true
      other_passes [] h = refl
      other_passes (b ∷ bs) h = elim (cases_Bool (ltb b 128)) [ inl a ↦ low_passes b bs (rw a at h) | inr a ↦ wide_passes b bs a (rw a at h) ]

      pub stop_none : (w : List ℕ) (i : ℕ) → i < length w → ok (get_or w i 0) ≡ false → meaning w ≡ None
      stop_none w i lt is =
          let h : list_all ok w ≡ false = list_all_at ok w i 0 lt is in
          no_classes w h (no_opening w (opening_of w) h refl) (no_operator w h) (not_true (is_other w) (list_all ok w) (other_passes w) h)
