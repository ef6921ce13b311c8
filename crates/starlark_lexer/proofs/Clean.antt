-- A text with a blank or a line feed in it is in no class of lexemes.
use Rattle.std.proofs.Common.{◌≡◌, ◌<◌, ◌≤◌, ◌⊎◌, ℕ, Bool, true, false, not, ◌||◌, List, length, get_or, refl, ap, sym, ◌∙◌, arith, inl, inr, eqb, ltb}
use Rattle.std.specs.Prelude.{None}
use Rattle.std.proofs.lemmas.Bool.{cases_Bool, false≢true}
use Rattle.std.proofs.lemmas.Bool.Decides.{nat_tests}
use Rattle.std.specs.Char.{is_digit}
use Rattle.starlark_lexer.specs.Literals.{is_mark}
use Rattle.starlark_lexer.specs.Classes.{meaning, is_word_byte, is_continuation, is_blank}
use Rattle.starlark_lexer.proofs.Passing.{few_radices}
use Rattle.starlark_lexer.proofs.Passing as passing

-- neither a blank nor a line feed
abbrev pub clean : ℕ → Bool
clean b = not (is_blank b || eqb b 10)

unclean : (b : ℕ) → clean b ≡ false → (b ≡ 32) ⊎ ((b ≡ 9) ⊎ ((b ≡ 13) ⊎ (b ≡ 10)))
unclean b h = elim (cases_Bool (eqb b 32)) [
  | inl e ↦ inl (let t : b ≡ 32 = grind (arith, nat_tests) in t)
  | inr e ↦ elim (cases_Bool (eqb b 9)) [
    | inl f ↦ inr (inl (let t : b ≡ 9 = grind (arith, nat_tests) in t))
    | inr f ↦ elim (cases_Bool (eqb b 13)) [
      | inl g ↦ inr (inr (inl (let t : b ≡ 13 = grind (arith, nat_tests) in t)))
      | inr g ↦ inr (inr (inr (let t : b ≡ 10 = grind (arith, nat_tests) in t)))
    ]
  ]
]

-- what fails at those four
failing : (p : ℕ → Bool) → p 32 ≡ false → p 9 ≡ false → p 13 ≡ false → p 10 ≡ false → (b : ℕ) → p b ≡ true → clean b ≡ true
failing p h j k l b t = elim (cases_Bool (clean b)) [
  | inl c ↦ c
  | inr c ↦ elim (unclean b c) [
    | inl e ↦ absurd (false≢true (sym h ∙ ap p (sym e) ∙ t))
    | inr n ↦ elim n [
      | inl e ↦ absurd (false≢true (sym j ∙ ap p (sym e) ∙ t))
      | inr o ↦ elim o [ inl e ↦ absurd (false≢true (sym k ∙ ap p (sym e) ∙ t)) | inr e ↦ absurd (false≢true (sym l ∙ ap p (sym e) ∙ t)) ]
    ]
  ]
]

-- ---- the bytes of lexemes

word_clean : (b : ℕ) → is_word_byte b ≡ true → clean b ≡ true
word_clean b h = grind (arith, nat_tests)

sign_clean : (b : ℕ) → (eqb b 43 || (eqb b 45 || eqb b 46)) ≡ true → clean b ≡ true
sign_clean b h = grind (arith, nat_tests)

-- no radix has one of them for a digit
radix_clean : (r b : ℕ) → r ≤ 16 → is_digit b r ≡ true → clean b ≡ true
radix_clean r b le h = failing (λ c. is_digit c r) (few_radices r le) (few_radices r le) (few_radices r le) (few_radices r le) b h

high_clean : (b : ℕ) → ltb b 128 ≡ false → clean b ≡ true
high_clean b h = grind (arith, nat_tests)

goes_clean : (b : ℕ) → is_continuation b ≡ true → clean b ≡ true
goes_clean b h = grind (arith, nat_tests)

mark_clean : (b : ℕ) → is_mark b ≡ true → clean b ≡ true
mark_clean b h = grind (arith, nat_tests)

one_clean : (b : ℕ) → not (is_blank b || (eqb b 10 || eqb b 35)) ≡ true → clean b ≡ true
one_clean b h = grind (arith, nat_tests)

pub stop_none : (w : List ℕ) (i : ℕ) → i < length w → clean (get_or w i 0) ≡ false → meaning w ≡ None
stop_none w i lt is = passing.stop_none clean word_clean sign_clean radix_clean high_clean goes_clean mark_clean one_clean refl w i lt is

pub line_none : (w : List ℕ) (i : ℕ) → i < length w → get_or w i 0 ≡ 10 → meaning w ≡ None
line_none w i lt is = stop_none w i lt (ap clean is)
