-- What `scan` finds, literals among it, is the longest front of the text in any class.
use Rattle.std.proofs.Common.{◌≡◌, ◌<◌, ◌≤◌, ℕ, ◌-◌, Bool, true, false, not, ◌&&◌, ◌||◌, List, [], ◌∷◌, length, take, get_or, refl, ap, sym, ◌∙◌, arith, zero, suc, inl, inr, eqb, ltb}
use Rattle.std.specs.Prelude.{Option, Some, None}
use Rattle.std.proofs.lemmas.Bool.{cases_Bool, false≢true, and_right}
use Rattle.std.proofs.lemmas.Bool.Decides.{nat_tests}
use Rattle.std.proofs.lemmas.List.{length-take-le, get_or-take}
use Rattle.std.proofs.lemmas.List.Folds.{list_all_at}
use Rattle.std.specs.List.{list_all}
use Rattle.std.specs.Char.{is_ascii_digit}
use Rattle.starlark_lexer.specs.declared.literal.Form.{Form}
use Rattle.starlark_lexer.specs.declared.token.LexemeError.TheVariants.{InvalidInput}
use Rattle.starlark_lexer.specs.Literals.{opening_of, is_mark}
use Rattle.starlark_lexer.specs.Fronts.{opening_front}
use Rattle.starlark_lexer.specs.Classes.{opens, refused, meaning, when, or_else, by_opening, operator_of, is_word, is_word_byte, begins_word, is_blank, is_other, is_nil, IsLexeme}
use Rattle.starlark_lexer.specs.Scan.{scan, by_front}
use Rattle.starlark_lexer.proofs.Longest.{Scanned, longest_lexeme, more_found, begins_goes}
use Rattle.starlark_lexer.proofs.Openings.{IsOpening, begins_opening, opening_none, opening_some, opening_first, opening_last}
use Rattle.starlark_lexer.proofs.Tables.{begins_operator, no_operator}

word_not : (w : List ℕ) (i : ℕ) → i < length w → is_word_byte (get_or w i 0) ≡ false → is_word w ≡ false
word_not [] i lt h = absurd (omega arith)
word_not (b ∷ bs) zero lt h =
    elim (cases_Bool (begins_word b)) [ inr e ↦ rw e refl | inl e ↦ absurd (false≢true (sym h ∙ begins_goes b e)) ]
word_not (b ∷ bs) (suc i) lt h = let e : list_all is_word_byte bs ≡ false = list_all_at is_word_byte bs i 0 (omega arith) h in ap (λ t. begins_word b && t) e ∙ and_right (begins_word b) false refl

mark_not : (b : ℕ) → is_mark b ≡ true → is_word_byte b ≡ false
mark_not b h = grind (arith, nat_tests)

opens_rule : (b : ℕ) (ys : List ℕ) → begins_opening b ≡ true → is_word (b ∷ ys) ≡ false
    → meaning (b ∷ ys) ≡ or_else (by_opening (opening_of (b ∷ ys))) (when (is_other (b ∷ ys)) (refused InvalidInput))
unfolding meaning
opens_rule b ys h w =
    let d : is_ascii_digit b ≡ false = grind (arith, nat_tests) in
    let z : eqb b 48 ≡ false = grind (arith, nat_tests) in
    let p : eqb b 46 ≡ false = grind (arith, nat_tests) in
    let o : begins_operator b ≡ false = grind (arith, nat_tests) in
    let n : operator_of (b ∷ ys) ≡ None = no_operator b ys o in
    rw (w, d, z, p, n) refl

module _ (b : ℕ) (bs : List ℕ) (f : Form) (n : ℕ) (is : IsOpening (b ∷ bs) f n) where
  opens_first : (k : ℕ) → opening_of (take k (b ∷ bs)) ≡ Some f → 0 < k → begins_opening b ≡ true
  opens_first zero e pos = absurd (omega arith)
  opens_first (suc k) e pos = opening_first b (take k bs) f e

  -- a mark stands within
  no_word : (k : ℕ) → n ≤ k → k ≤ length (b ∷ bs) → is_word (take k (b ∷ bs)) ≡ false
  no_word k low le =
      let len = length-take-le n (b ∷ bs) is.within in
      let same : length (take n (b ∷ bs)) - 1 ≡ n - 1 = omega (arith, len) in
      let last : is_mark (get_or (take n (b ∷ bs)) (n - 1) 0) ≡ true = ap (λ i. is_mark (get_or (take n (b ∷ bs)) i 0)) (sym same) ∙ opening_last (take n (b ∷ bs)) f is.means in
      let in_n = get_or-take n (b ∷ bs) (n - 1) 0 (omega (arith, is.nonempty)) in
      let in_k = get_or-take k (b ∷ bs) (n - 1) 0 (omega (arith, is.nonempty)) in
      word_not (take k (b ∷ bs)) (n - 1) (omega (arith, length-take-le k (b ∷ bs) le, is.nonempty)) (mark_not (get_or (take k (b ∷ bs)) (n - 1) 0) (ap is_mark (in_k ∙ sym in_n) ∙ last))

  rule_at : (k : ℕ) → 0 < k → n ≤ k → k ≤ length (b ∷ bs) → meaning (take k (b ∷ bs)) ≡ or_else (by_opening (opening_of (take k (b ∷ bs)))) (when (is_other (take k (b ∷ bs))) (refused InvalidInput))
  rule_at zero pos low le = absurd (omega arith)
  rule_at (suc k) pos low le = opens_rule b (take k bs) (opens_first n is.means is.nonempty) (no_word (suc k) low le)

  one_more : (k : ℕ) → 1 < k → k ≤ length (b ∷ bs) → is_other (take k (b ∷ bs)) ≡ false
  one_more zero more le = absurd (omega arith)
  one_more (suc zero) more le = absurd (omega arith)
  one_more (suc (suc k)) more le =
      let h = opens_first n is.means is.nonempty in
      let a : ltb b 128 ≡ true = grind (arith, nat_tests) in
      rw a (longer k bs (omega (arith, le)))
    where
      longer : (k : ℕ) (bs : List ℕ) → suc k ≤ length bs → (is_nil (take (suc k) bs) && not (is_blank b || (eqb b 10 || eqb b 35))) ≡ false
      longer k [] le = absurd (omega arith)
      longer k (x ∷ xs) le = refl

  opens_lexeme : IsLexeme (b ∷ bs) n (opens f)
  opens_lexeme = record {
    nonempty = is.nonempty;
    within = is.within;
    means = rule_at n is.nonempty (omega arith) is.within ∙ ap (λ o. or_else (by_opening o) (when (is_other (take n (b ∷ bs))) (refused InvalidInput))) is.means;
    longest = λ k more le. rule_at k (omega (arith, is.nonempty)) (omega arith) le
        ∙ (λ i. or_else (by_opening (is.longest k more le i)) (when (one_more k (omega (arith, is.nonempty)) le i) (refused InvalidInput)));
  }

by_opening_found : (b : ℕ) (bs : List ℕ) (x : Option (Form × ℕ)) → opening_front (b ∷ bs) ≡ x → is_blank b ≡ false → eqb b 10 ≡ false → eqb b 35 ≡ false → Scanned b bs (by_front x (b ∷ bs))
by_opening_found b bs None e k n m = longest_lexeme (b ∷ bs) _ _ (opening_none (b ∷ bs) e) (more_found b bs k n m)
by_opening_found b bs (Some x) e k n m = opens_lexeme b bs x.0 x.1 (opening_some (b ∷ bs) x.0 x.1 e)

pub scan_lexeme : (b : ℕ) (bs : List ℕ) → is_blank b ≡ false → eqb b 10 ≡ false → eqb b 35 ≡ false → Scanned b bs (scan (b ∷ bs))
scan_lexeme b bs k n m = by_opening_found b bs (opening_front (b ∷ bs)) refl k n m

-- ---- where no lexeme stands

abbrev pub is_passed : ℕ → Bool
is_passed b = is_blank b || (eqb b 10 || eqb b 35)

no_opening : (b : ℕ) (ys : List ℕ) → begins_opening b ≡ false → (o : Option Form) → opening_of (b ∷ ys) ≡ o → opening_of (b ∷ ys) ≡ None
no_opening b ys h None e = e
no_opening b ys h (Some f) e = absurd (false≢true (sym h ∙ opening_first b ys f e))

pub passed_none : (b : ℕ) → is_passed b ≡ true → (ys : List ℕ) → meaning (b ∷ ys) ≡ None
unfolding meaning
passed_none b h ys =
    let w : begins_word b ≡ false = grind (arith, nat_tests) in
    let d : is_ascii_digit b ≡ false = grind (arith, nat_tests) in
    let z : eqb b 48 ≡ false = grind (arith, nat_tests) in
    let p : eqb b 46 ≡ false = grind (arith, nat_tests) in
    let a : ltb b 128 ≡ true = grind (arith, nat_tests) in
    let o : begins_operator b ≡ false = grind (arith, nat_tests) in
    let n : operator_of (b ∷ ys) ≡ None = no_operator b ys o in
    let q : begins_opening b ≡ false = grind (arith, nat_tests) in
    let m : opening_of (b ∷ ys) ≡ None = no_opening b ys q (opening_of (b ∷ ys)) refl in
    rw (w, d, z, p, m, n, a, h) (none_left (is_nil ys))
  where
    none_left : (t : Bool) → when (t && false) (refused InvalidInput) ≡ None
    none_left true = refl
    none_left false = refl
