-- What `scan` finds is the longest front of the text in any class.
use Rattle.std.proofs.Common.{◌≡◌, ◌<◌, ◌≤◌, ℕ, ◌+◌, ◌-◌, Bool, true, false, cond, not, ◌&&◌, ◌||◌, List, [], ◌∷◌, length, take, drop, refl, ap, sym, ◌∙◌, arith, zero, suc, inl, inr, eqb, ltb, subst, one-add, length-drop}
use Rattle.std.specs.Prelude.{Option, Some, None}
use Rattle.std.proofs.lemmas.Bool.{cases_Bool, false≢true, and_right}
use Rattle.std.proofs.lemmas.Bool.Decides.{nat_tests}
use Rattle.std.proofs.lemmas.List.Sums.{prefix_len-le-length}
use Rattle.std.specs.List.{prefix_len, list_all}
use Rattle.std.specs.Char.{is_digit, is_ascii_digit}
use Rattle.starlark_lexer.specs.declared.words.Operator.{Operator}
use Rattle.starlark_lexer.specs.declared.words.Keyword.{Keyword}
use Rattle.starlark_lexer.specs.declared.scan.Found.{Found}
use Rattle.starlark_lexer.specs.declared.scan.Found.TheVariants as found
use Rattle.starlark_lexer.specs.declared.scan.Kind.TheVariants as kind
use Rattle.starlark_lexer.specs.declared.token.LexemeError.TheVariants.{InvalidInput, StartsZero}
use Rattle.starlark_lexer.specs.Items.{integer, float, operator_lexeme}
use Rattle.starlark_lexer.specs.Number.{number}
use Rattle.starlark_lexer.specs.Literals.{opening_of}
use Rattle.starlark_lexer.specs.Classes.{Meaning, plain_word, by_keyword, token, refused, opens, when, or_else, meaning, by_operator, operator_of, operators, lookup, is_word, is_digits, is_zeros, is_decimal, is_based, base_of, radix_of, is_float, begins_digit, behind_digits, digits_len, is_other, is_nil, is_blank, is_word_byte, begins_word, is_continuation, word_meaning, keyword_of, is_reserved, IsLexeme}
use Rattle.starlark_lexer.specs.Scan.{scan_more, number_scan, decimal_scan, decimal, tail_len, based_len, first_row, lexeme_from}
use Rattle.starlark_lexer.specs.Scan as scans
use Rattle.starlark_lexer.proofs.Runs.{list_all_run}
use Rattle.starlark_lexer.proofs.Fronts.{stops, behind_run, digits_right, is_tail, tail_right, whole_based, based_right}
use Rattle.starlark_lexer.proofs.Tables.{Right, operators_right, begins_operator, no_operator, no_pointed}

-- all classes but that of literals
unfoldable pub plain : List ℕ → Option Meaning
plain w =
    or_else (when (is_word w) (word_meaning w))
    (or_else (when (is_decimal w) (token (integer (number false 10 w))))
    (or_else (when (is_based w) (token (integer (number false (base_of w) (drop 2 w)))))
    (or_else (when (is_zeros w) (refused StartsZero))
    (or_else (when (is_float w) (token (float w)))
    (or_else (by_operator (operator_of w))
    (when (is_other w) (refused InvalidInput)))))))

pub plain_meaning : (w : List ℕ) → opening_of w ≡ None → meaning w ≡ plain w
unfolding meaning plain
plain_meaning w e = rw e refl

pub record Longest (rest : List ℕ) (n : ℕ) (m : Meaning) : Type 0 where
  pub nonempty : 0 < n
  pub within : n ≤ length rest
  pub means : plain (take n rest) ≡ Some m
  pub longest : (k : ℕ) → n < k → k ≤ length rest → plain (take k rest) ≡ None

abbrev pub NoOpening : List ℕ → Type 0
NoOpening rest = (k : ℕ) → k ≤ length rest → opening_of (take k rest) ≡ None

pub longest_lexeme : (rest : List ℕ) (n : ℕ) (m : Meaning) → NoOpening rest → Longest rest n m → IsLexeme rest n m
longest_lexeme rest n m free h = record {
  nonempty = h.nonempty;
  within = h.within;
  means = plain_meaning (take n rest) (free n h.within) ∙ h.means;
  longest = λ k more le. plain_meaning (take k rest) (free k le) ∙ h.longest k more le;
}

-- ---- runs

-- A text that begins with b is in a class exactly where all bytes behind it pass p.
module _ (p : ℕ → Bool) (b : ℕ) (f : List ℕ → Meaning) (rule : (ys : List ℕ) → plain (b ∷ ys) ≡ when (list_all p ys) (f ys)) where
  longer : (bs : List ℕ) (k : ℕ) → suc (prefix_len p bs) < k → k ≤ length (b ∷ bs) → plain (take k (b ∷ bs)) ≡ None
  longer bs zero more fits = absurd (omega arith)
  longer bs (suc k) more fits = rule (take k bs) ∙ ap (λ t. when t (f (take k bs))) (stops p bs k (omega arith) (omega arith))

  pub run_lexeme : (bs : List ℕ) → Longest (b ∷ bs) (suc (prefix_len p bs)) (f (take (prefix_len p bs) bs))
  run_lexeme bs =
      let most = prefix_len-le-length p bs in
      record {
        nonempty = omega arith;
        within = omega arith;
        means = rule (take (prefix_len p bs) bs) ∙ ap (λ t. when t (f (take (prefix_len p bs) bs))) (list_all_run p bs);
        longest = longer bs;
      }

-- ---- words

pub word_rule : (b : ℕ) → begins_word b ≡ true → (ys : List ℕ) → plain (b ∷ ys) ≡ when (list_all is_word_byte ys) (word_meaning (b ∷ ys))
unfolding plain
word_rule b h [] = rw h refl
word_rule b h (y ∷ ys) =
    let d : is_ascii_digit b ≡ false = grind (arith, nat_tests) in
    let z : eqb b 48 ≡ false = grind (arith, nat_tests) in
    let p : eqb b 46 ≡ false = grind (arith, nat_tests) in
    let a : ltb b 128 ≡ true = grind (arith, nat_tests) in
    let o : begins_operator b ≡ false = grind (arith, nat_tests) in
    let n : operator_of (b ∷ y ∷ ys) ≡ None = no_operator b (y ∷ ys) o in
    rw (h, d, z, p, a, n) (elim (cases_Bool (is_word_byte y && list_all is_word_byte ys)) [ inl e ↦ rw e refl | inr e ↦ rw e refl ])

-- ---- other characters

pub other_rule : (b : ℕ) → ltb b 128 ≡ false → (ys : List ℕ) → plain (b ∷ ys) ≡ when (list_all is_continuation ys) (refused InvalidInput)
unfolding plain
other_rule b h ys =
    let w : begins_word b ≡ false = grind (arith, nat_tests) in
    let d : is_ascii_digit b ≡ false = grind (arith, nat_tests) in
    let z : eqb b 48 ≡ false = grind (arith, nat_tests) in
    let p : eqb b 46 ≡ false = grind (arith, nat_tests) in
    let o : begins_operator b ≡ false = grind (arith, nat_tests) in
    let n : operator_of (b ∷ ys) ≡ None = no_operator b ys o in
    rw (w, d, z, p, n, h) refl

-- ---- operators

abbrev is_passed : ℕ → Bool
is_passed b = is_blank b || (eqb b 10 || eqb b 35)

mark_rule : (b : ℕ) → begins_word b ≡ false → is_ascii_digit b ≡ false → ltb b 128 ≡ true → (ys : List ℕ) → (eqb b 46 && begins_digit ys) ≡ false
    → plain (b ∷ ys) ≡ or_else (by_operator (operator_of (b ∷ ys))) (when (is_nil ys && not (is_passed b)) (refused InvalidInput))
unfolding plain
mark_rule b w d a ys p =
    let z : eqb b 48 ≡ false = grind (arith, nat_tests) in
    rw (w, d, z, p, a) refl

point_take : (e : Bool) (j : ℕ) (ys : List ℕ) → (e && begins_digit ys) ≡ false → (e && begins_digit (take j ys)) ≡ false
point_take false j ys h = refl
point_take true zero ys h = refl
point_take true (suc j) [] h = refl
point_take true (suc j) (y ∷ ys) h = h

abbrev pub meaning_of : Found → List ℕ → Meaning
meaning_of (found.Fault e) w = refused e
meaning_of (found.Kind k) w = token (lexeme_from k w)
meaning_of (found.Opens g) w = opens g

abbrev pub Scanned : ℕ → List ℕ → Found × ℕ → Type 0
Scanned b bs x = IsLexeme (b ∷ bs) x.1 (meaning_of x.0 (take x.1 (b ∷ bs)))

abbrev pub Found_in : ℕ → List ℕ → Found × ℕ → Type 0
Found_in b bs x = Longest (b ∷ bs) x.1 (meaning_of x.0 (take x.1 (b ∷ bs)))

module _ (b : ℕ) (bs : List ℕ) (w : begins_word b ≡ false) (d : is_ascii_digit b ≡ false) (a : ltb b 128 ≡ true) (p : (eqb b 46 && begins_digit bs) ≡ false) where
  front_rule : (j : ℕ) → plain (b ∷ take j bs) ≡ or_else (by_operator (operator_of (b ∷ take j bs))) (when (is_nil (take j bs) && not (is_passed b)) (refused InvalidInput))
  front_rule j = mark_rule b w d a (take j bs) (point_take (eqb b 46) j bs p)

  -- no operator of that length
  none_at : (k : ℕ) → 1 < k → k ≤ length (b ∷ bs) → lookup operators (take k (b ∷ bs)) ≡ None → plain (take k (b ∷ bs)) ≡ None
  unfolding operator_of
  none_at zero more le e = absurd (omega arith)
  none_at (suc zero) more le e = absurd (omega arith)
  none_at (suc (suc j)) more le e = front_rule (suc j) ∙ ap (λ o. or_else (by_operator o) (when (is_nil (take (suc j) bs) && not (is_passed b)) (refused InvalidInput))) e ∙ not_nil j bs (omega (arith, le))
    where
      not_nil : (j : ℕ) (bs : List ℕ) → suc j ≤ length bs → when (is_nil (take (suc j) bs) && not (is_passed b)) (refused InvalidInput) ≡ None
      not_nil j [] le = absurd (omega arith)
      not_nil j (x ∷ xs) le = refl

  some_at : (n : ℕ) (o : Operator) → 0 < n → lookup operators (take n (b ∷ bs)) ≡ Some o → plain (take n (b ∷ bs)) ≡ Some (token (operator_lexeme o))
  unfolding operator_of
  some_at zero o pos e = absurd (omega arith)
  some_at (suc j) o pos e = front_rule j ∙ ap (λ o. or_else (by_operator o) (when (is_nil (take j bs) && not (is_passed b)) (refused InvalidInput))) e

  other_at : is_passed b ≡ false → lookup operators (b ∷ []) ≡ None → plain (b ∷ []) ≡ Some (refused InvalidInput)
  unfolding operator_of
  other_at c e = front_rule 0 ∙ ap (λ o. or_else (by_operator o) (when (not (is_passed b)) (refused InvalidInput))) e ∙ ap (λ c. when (not c) (refused InvalidInput)) c

  operator_found : is_passed b ≡ false → (x : Option (Operator × ℕ)) → Right operators (b ∷ bs) x → Found_in b bs (scans.operator x)
  operator_found c None h = record {
    nonempty = omega arith;
    within = omega arith;
    means = other_at c (h 1 (omega arith));
    longest = λ k more le. none_at k more le (h k le);
  }
  operator_found c (Some x) h = record {
    nonempty = h.nonempty;
    within = h.within;
    means = some_at x.1 x.0 h.nonempty h.means;
    longest = λ k more le. none_at k (omega (arith, h.nonempty)) le (h.longest k more le);
  }

-- ---- numbers

last_none : (o : Option Meaning) → or_else o None ≡ o
last_none None = refl
last_none (Some m) = refl

digit_rule : (b : ℕ) → is_ascii_digit b ≡ true → (ys : List ℕ)
    → plain (b ∷ ys) ≡ or_else (when (is_decimal (b ∷ ys)) (token (integer (number false 10 (b ∷ ys)))))
    (or_else (when (is_based (b ∷ ys)) (token (integer (number false (base_of (b ∷ ys)) (drop 2 (b ∷ ys))))))
    (or_else (when (is_zeros (b ∷ ys)) (refused StartsZero)) (when (is_float (b ∷ ys)) (token (float (b ∷ ys))))))
unfolding plain
digit_rule b h [] =
    let w : begins_word b ≡ false = grind (arith, nat_tests) in
    rw (w, h) (elim (cases_Bool (eqb b 48)) [ inl e ↦ rw e refl | inr e ↦ rw e refl ])
digit_rule b h (y ∷ ys) =
    let w : begins_word b ≡ false = grind (arith, nat_tests) in
    let a : ltb b 128 ≡ true = grind (arith, nat_tests) in
    let o : begins_operator b ≡ false = grind (arith, nat_tests) in
    let n : operator_of (b ∷ y ∷ ys) ≡ None = no_operator b (y ∷ ys) o in
    rw (w, n, a) (tail_none (when (is_decimal (b ∷ y ∷ ys)) _) (when (is_based (b ∷ y ∷ ys)) _) (when (is_zeros (b ∷ y ∷ ys)) _) (when (is_float (b ∷ y ∷ ys)) _))
  where
    tail_none : (o p q r : Option Meaning) → or_else o (or_else p (or_else q (or_else r None))) ≡ or_else o (or_else p (or_else q r))
    tail_none o p q r = ap (λ x. or_else o (or_else p (or_else q x))) (last_none r)

not_zeros : (w : List ℕ) → is_digits w ≡ false → is_zeros w ≡ false
not_zeros [] h = refl
not_zeros (b ∷ []) h = elim (cases_Bool (eqb b 48)) [ inl e ↦ rw e refl | inr e ↦ rw e refl ]
not_zeros (b ∷ c ∷ bs) h =
    elim (cases_Bool (eqb b 48)) [
      | inr e ↦ rw e refl
      | inl e ↦ let d : is_ascii_digit b ≡ true = grind (arith, nat_tests) in rw e (sym (ap (λ t. t && (is_ascii_digit c && list_all is_ascii_digit bs)) d) ∙ h)
    ]

not_decimal : (w : List ℕ) → is_digits w ≡ false → is_decimal w ≡ false
not_decimal w h = rw h refl

base_take : (rest : List ℕ) (n : ℕ) → 2 ≤ n → base_of (take n rest) ≡ base_of rest
base_take [] zero h = refl
base_take [] (suc n) h = refl
base_take (b ∷ bs) zero h = absurd (omega arith)
base_take (b ∷ bs) (suc zero) h = absurd (omega arith)
base_take (b ∷ []) (suc (suc n)) h = refl
base_take (b ∷ c ∷ bs) (suc (suc n)) h = refl

-- the meaning of a front, by the tests of the classes of numbers
module _ (b : ℕ) (bs : List ℕ) (d : is_ascii_digit b ≡ true) where
  by_tests : (k : ℕ) → 0 < k
      → plain (take k (b ∷ bs)) ≡ or_else (when (is_decimal (take k (b ∷ bs))) (token (integer (number false 10 (take k (b ∷ bs))))))
      (or_else (when (is_based (take k (b ∷ bs))) (token (integer (number false (base_of (take k (b ∷ bs))) (drop 2 (take k (b ∷ bs)))))))
      (or_else (when (is_zeros (take k (b ∷ bs))) (refused StartsZero)) (when (is_float (take k (b ∷ bs))) (token (float (take k (b ∷ bs)))))))
  by_tests zero pos = absurd (omega arith)
  by_tests (suc k) pos = digit_rule b d (take k bs)

  digits_some : 0 < digits_len (b ∷ bs)
  digits_some = rw d (omega arith)

  -- behind the digits at the front
  float_by : (k : ℕ) → digits_len (b ∷ bs) ≤ k → is_float (take k (b ∷ bs)) ≡ is_tail (take (k - digits_len (b ∷ bs)) (drop (digits_len (b ∷ bs)) (b ∷ bs)))
  float_by zero le = absurd (omega (arith, digits_some))
  float_by (suc k) le = ap (λ t. (t || (eqb b 46 && begins_digit (take k bs))) && is_tail (behind_digits (b ∷ take k bs))) d ∙ ap is_tail (behind_run is_ascii_digit (b ∷ bs) (suc k) le)

  more_digits : (k : ℕ) → digits_len (b ∷ bs) < k → k ≤ length (b ∷ bs) → is_digits (take k (b ∷ bs)) ≡ false
  more_digits k more le = ((digits_right (b ∷ bs)).some digits_some).longest k more le

  -- a front longer than its digits is in a class where it has a radix, or is a float
  longer_by : (k : ℕ) → digits_len (b ∷ bs) < k → k ≤ length (b ∷ bs)
      → plain (take k (b ∷ bs)) ≡ or_else (when (is_based (take k (b ∷ bs))) (token (integer (number false (base_of (take k (b ∷ bs))) (drop 2 (take k (b ∷ bs)))))))
      (when (is_float (take k (b ∷ bs))) (token (float (take k (b ∷ bs)))))
  longer_by k more le =
      let n = more_digits k more le in
      let e = not_decimal (take k (b ∷ bs)) n in
      let z = not_zeros (take k (b ∷ bs)) n in
      by_tests k (omega arith) ∙ (λ i. or_else (when (e i) (token (integer (number false 10 (take k (b ∷ bs))))))
      (or_else (when (is_based (take k (b ∷ bs))) (token (integer (number false (base_of (take k (b ∷ bs))) (drop 2 (take k (b ∷ bs)))))))
      (or_else (when (z i) (refused StartsZero)) (when (is_float (take k (b ∷ bs))) (token (float (take k (b ∷ bs))))))))

  no_class : (k : ℕ) → digits_len (b ∷ bs) < k → k ≤ length (b ∷ bs) → is_based (take k (b ∷ bs)) ≡ false → is_float (take k (b ∷ bs)) ≡ false → plain (take k (b ∷ bs)) ≡ None
  no_class k more le f g = longer_by k more le ∙ (λ i. or_else (when (f i) (token (integer (number false (base_of (take k (b ∷ bs))) (drop 2 (take k (b ∷ bs))))))) (when (g i) (token (float (take k (b ∷ bs))))))

  digits_most : digits_len (b ∷ bs) ≤ length (b ∷ bs)
  digits_most = prefix_len-le-length is_ascii_digit (b ∷ bs)

  behind_len : length (drop (digits_len (b ∷ bs)) (b ∷ bs)) ≡ length (b ∷ bs) - digits_len (b ∷ bs)
  behind_len = length-drop (digits_len (b ∷ bs)) (b ∷ bs)

  no_float : tail_len (behind_digits (b ∷ bs)) ≡ 0 → (k : ℕ) → digits_len (b ∷ bs) ≤ k → k ≤ length (b ∷ bs) → is_float (take k (b ∷ bs)) ≡ false
  no_float z k low le = float_by k low ∙ (tail_right (behind_digits (b ∷ bs))).none z (k - digits_len (b ∷ bs)) (omega (arith, behind_len))

  -- digits alone
  decimal_found : whole_based b bs ≡ 0 → tail_len (behind_digits (b ∷ bs)) ≡ 0 → Found_in b bs (decimal (take (digits_len (b ∷ bs)) (b ∷ bs)), digits_len (b ∷ bs))
  decimal_found u z =
      let n = digits_len (b ∷ bs) in
      let w = take n (b ∷ bs) in
      let none = (based_right b bs).none u in
      let f = no_float z n (omega arith) digits_most in
      let e = ((digits_right (b ∷ bs)).some digits_some).passes in
      record {
        nonempty = digits_some;
        within = digits_most;
        means = by_tests n digits_some ∙ by_zeros w e (none n digits_most) f;
        longest = λ k more le. no_class k more le (none k le) (no_float z k (omega arith) le);
      }
    where
      by_zeros : (w : List ℕ) → is_digits w ≡ true → is_based w ≡ false → is_float w ≡ false
          → or_else (when (is_decimal w) (token (integer (number false 10 w)))) (or_else (when (is_based w) (token (integer (number false (base_of w) (drop 2 w))))) (or_else (when (is_zeros w) (refused StartsZero)) (when (is_float w) (token (float w)))))
          ≡ Some (meaning_of (decimal w) w)
      by_zeros w e r f =
          elim (cases_Bool (is_zeros w)) [
            | inl t ↦ rw (t, e, r) refl
            | inr t ↦ rw (t, e) refl
          ]

  float_found : whole_based b bs ≡ 0 → 0 < tail_len (behind_digits (b ∷ bs)) → Found_in b bs (found.Kind kind.Float, digits_len (b ∷ bs) + tail_len (behind_digits (b ∷ bs)))
  float_found u pos =
      let n = digits_len (b ∷ bs) in
      let t = tail_len (behind_digits (b ∷ bs)) in
      let h = (tail_right (behind_digits (b ∷ bs))).some pos in
      let none = (based_right b bs).none u in
      let within : n + t ≤ length (b ∷ bs) = omega (arith, h.within, behind_len, digits_most) in
      let less : n + t - n ≡ t = omega arith in
      let is : is_float (take (n + t) (b ∷ bs)) ≡ true = float_by (n + t) (omega arith) ∙ ap (λ k. is_tail (take k (behind_digits (b ∷ bs)))) less ∙ h.passes in
      let r = none (n + t) within in
      record {
        nonempty = omega (arith, pos);
        within = within;
        means = longer_by (n + t) (omega (arith, pos)) within ∙ (λ i. or_else (when (r i) (token (integer (number false (base_of (take (n + t) (b ∷ bs))) (drop 2 (take (n + t) (b ∷ bs))))))) (when (is i) (token (float (take (n + t) (b ∷ bs))))));
        longest = λ k more le. no_class k (omega arith) le (none k le) (float_by k (omega arith) ∙ h.longest (k - n) (omega arith) (omega (arith, behind_len)));
      }

  -- with a radix
  based_found : 0 < whole_based b bs → digits_len (b ∷ bs) ≡ 1 → tail_len (behind_digits (b ∷ bs)) ≡ 0 → 1 < whole_based b bs → Found_in b bs (found.Kind (kind.Int 2 (base_of (b ∷ bs))), whole_based b bs)
  based_found pos one z more =
      let n = whole_based b bs in
      let h = (based_right b bs).some pos in
      let base = base_take (b ∷ bs) n more in
      record {
        nonempty = pos;
        within = h.within;
        means = longer_by n (omega (arith, one)) h.within ∙ (λ i. or_else (when (h.passes i) (token (integer (number false (base i) (drop 2 (take n (b ∷ bs))))))) (when (is_float (take n (b ∷ bs))) (token (float (take n (b ∷ bs))))));
        longest = λ k m le. no_class k (omega (arith, one)) le (h.longest k m le) (no_float z k (omega (arith, one)) le);
      }

-- a radix and its letter
more_two : (n : ℕ) → scans.more_than 1 (scans.more_than 1 n) ≡ scans.more_than 2 n
more_two zero = refl
more_two (suc n) =
    let z : eqb (suc n) 0 ≡ false = grind (arith, nat_tests) in
    let y : eqb (suc n + 1) 0 ≡ false = grind (arith, nat_tests) in
    rw (z, y) (omega arith)

based_same : (b : ℕ) (bs : List ℕ) → whole_based b bs ≡ scans.more_than 2 (based_len (b ∷ bs))
unfolding based_len
based_same b [] = elim (cases_Bool (eqb b 48)) [ inl e ↦ rw e refl | inr e ↦ rw e refl ]
based_same b (c ∷ bs) =
    elim (cases_Bool (eqb b 48)) [
      | inl e ↦ rw e (elim (cases_Bool (ltb 0 (radix_of c))) [ inl f ↦ rw f (more_two (prefix_len (λ d. is_digit d (radix_of c)) bs)) | inr f ↦ rw f refl ])
      | inr e ↦ rw e refl
    ]

-- where a radix stands there is one digit at the front, and no float
based_letter : (b : ℕ) (bs : List ℕ) → 0 < based_len (b ∷ bs) → (digits_len (b ∷ bs) ≡ 1) × (tail_len (behind_digits (b ∷ bs)) ≡ 0)
unfolding based_len scans.fraction_len scans.exponent_len
based_letter b [] = λ h. absurd (omega (arith, h))
based_letter b (c ∷ bs) =
    elim (cases_Bool (eqb b 48)) [
      | inr e ↦ rw e (λ h. absurd (omega (arith, h)))
      | inl e ↦ elim (cases_Bool (ltb 0 (radix_of c))) [
        | inr f ↦ rw (e, f) (λ h. absurd (omega (arith, h)))
        | inl f ↦ λ h.
            let d : is_ascii_digit b ≡ true = grind (arith, nat_tests) in
            let n : is_ascii_digit c ≡ false = not_digit c f in
            let p : eqb c 46 ≡ false = not_point c f in
            let x : (eqb c 101 || eqb c 69) ≡ false = not_power c f in
            (rw (d, n) refl, rw (d, n) (rw (p, x) refl))
      ]
    ]
  where
    not_digit : (c : ℕ) → ltb 0 (radix_of c) ≡ true → is_ascii_digit c ≡ false
    not_digit c =
        elim (cases_Bool (eqb c 120 || eqb c 88)) [
          | inl e ↦ λ h. grind (arith, nat_tests)
          | inr e ↦ rw e (
              elim (cases_Bool (eqb c 111 || eqb c 79)) [
                | inl f ↦ λ h. grind (arith, nat_tests)
                | inr f ↦ rw f (
                    elim (cases_Bool (eqb c 98 || eqb c 66)) [ inl g ↦ λ h. grind (arith, nat_tests) | inr g ↦ rw g (λ h. absurd (false≢true h)) ])
              ])
        ]

    not_point : (c : ℕ) → ltb 0 (radix_of c) ≡ true → eqb c 46 ≡ false
    not_point c =
        elim (cases_Bool (eqb c 120 || eqb c 88)) [
          | inl e ↦ λ h. grind (arith, nat_tests)
          | inr e ↦ rw e (
              elim (cases_Bool (eqb c 111 || eqb c 79)) [
                | inl f ↦ λ h. grind (arith, nat_tests)
                | inr f ↦ rw f (
                    elim (cases_Bool (eqb c 98 || eqb c 66)) [ inl g ↦ λ h. grind (arith, nat_tests) | inr g ↦ rw g (λ h. absurd (false≢true h)) ])
              ])
        ]

    not_power : (c : ℕ) → ltb 0 (radix_of c) ≡ true → (eqb c 101 || eqb c 69) ≡ false
    not_power c =
        elim (cases_Bool (eqb c 120 || eqb c 88)) [
          | inl e ↦ λ h. grind (arith, nat_tests)
          | inr e ↦ rw e (
              elim (cases_Bool (eqb c 111 || eqb c 79)) [
                | inl f ↦ λ h. grind (arith, nat_tests)
                | inr f ↦ rw f (
                    elim (cases_Bool (eqb c 98 || eqb c 66)) [ inl g ↦ λ h. grind (arith, nat_tests) | inr g ↦ rw g (λ h. absurd (false≢true h)) ])
              ])
        ]

decimal_scanned : (b : ℕ) (bs : List ℕ) → is_ascii_digit b ≡ true → whole_based b bs ≡ 0 → Found_in b bs (decimal_scan (b ∷ bs))
decimal_scanned b bs d u =
    elim (cases_Bool (eqb (tail_len (behind_digits (b ∷ bs))) 0)) [
      | inl e ↦ let z : tail_len (behind_digits (b ∷ bs)) ≡ 0 = grind (arith, nat_tests) in rw e (decimal_found b bs d u z)
      | inr e ↦ let pos : 0 < tail_len (behind_digits (b ∷ bs)) = grind (arith, nat_tests) in rw e (float_found b bs d u pos)
    ]

pub number_scanned : (b : ℕ) (bs : List ℕ) → is_ascii_digit b ≡ true → Found_in b bs (number_scan (b ∷ bs))
unfolding number_scan
number_scanned b bs d =
    elim (cases_Bool (eqb (based_len (b ∷ bs)) 0)) [
      | inl e ↦ let z : based_len (b ∷ bs) ≡ 0 = grind (arith, nat_tests) in rw e (decimal_scanned b bs d (based_same b bs ∙ ap (scans.more_than 2) z))
      | inr e ↦
          let pos : 0 < based_len (b ∷ bs) = grind (arith, nat_tests) in
          let is : whole_based b bs ≡ based_len (b ∷ bs) + 2 = based_same b bs ∙ ap (λ t. cond t 0 (based_len (b ∷ bs) + 2)) e in
          let l = based_letter b bs pos in
          rw (e, sym is) (based_found b bs d (omega (arith, is)) l.0 l.1 (omega (arith, is, pos)))
    ]

-- a point and a digit
pointed_rule : (y : ℕ) (ys : List ℕ) → is_ascii_digit y ≡ true → plain (46 ∷ y ∷ ys) ≡ when (is_tail (46 ∷ y ∷ ys)) (token (float (46 ∷ y ∷ ys)))
unfolding plain
pointed_rule y ys h =
    let n : operator_of (46 ∷ y ∷ ys) ≡ None = no_pointed y ys h in
    rw (h, n) (last_none _)

pointed_len : (y : ℕ) (ys : List ℕ) → is_ascii_digit y ≡ true → 2 ≤ tail_len (46 ∷ y ∷ ys)
unfolding scans.fraction_len
pointed_len y ys d =
    let e = scans.exponent_len (drop (digits_len (y ∷ ys)) (y ∷ ys)) in
    let some : 0 < digits_len (y ∷ ys) = rw d (omega arith) in
    let z : eqb (1 + (digits_len (y ∷ ys) + e)) 0 ≡ false = grind (arith, nat_tests) in
    rw z (omega (arith, some))

pointed_found : (y : ℕ) (ys : List ℕ) → is_ascii_digit y ≡ true → Found_in 46 (y ∷ ys) (found.Kind kind.Float, tail_len (46 ∷ y ∷ ys))
pointed_found y ys d =
    let n = tail_len (46 ∷ y ∷ ys) in
    let two : 2 ≤ n = pointed_len y ys d in
    let h = (tail_right (46 ∷ y ∷ ys)).some (omega arith) in
    record {
      nonempty = omega arith;
      within = h.within;
      means = at n two ∙ ap (λ t. when t (token (float (take n (46 ∷ y ∷ ys))))) h.passes;
      longest = λ k more le. at k (omega arith) ∙ ap (λ t. when t (token (float (take k (46 ∷ y ∷ ys))))) (h.longest k more le);
    }
  where
    at : (k : ℕ) → 2 ≤ k → plain (take k (46 ∷ y ∷ ys)) ≡ when (is_tail (take k (46 ∷ y ∷ ys))) (token (float (take k (46 ∷ y ∷ ys))))
    at zero h = absurd (omega arith)
    at (suc zero) h = absurd (omega arith)
    at (suc (suc k)) h = pointed_rule y (take k ys) d

pub begins_goes : (b : ℕ) → begins_word b ≡ true → is_word_byte b ≡ true
begins_goes b h = grind (arith, nat_tests)

pub pointed_by : (b : ℕ) (bs : List ℕ) → (eqb b 46 && begins_digit bs) ≡ true → Found_in b bs (found.Kind kind.Float, tail_len (b ∷ bs))
pointed_by b [] h = absurd (false≢true (sym (and_right (eqb b 46) false refl) ∙ h))
pointed_by b (y ∷ ys) h =
    let b46 : b ≡ 46 = grind (arith, nat_tests) in
    let d : is_ascii_digit y ≡ true = grind (arith, nat_tests) in
    subst (λ b. Found_in b (y ∷ ys) (found.Kind kind.Float, tail_len (b ∷ y ∷ ys))) (sym b46) (pointed_found y ys d)

-- ---- all classes but literals

pub more_found : (b : ℕ) (bs : List ℕ) → is_blank b ≡ false → eqb b 10 ≡ false → eqb b 35 ≡ false → Found_in b bs (scan_more (b ∷ bs))
unfolding scan_more
more_found b bs k n m =
    elim (cases_Bool (begins_word b)) [
      | inl w ↦ rw (w, begins_goes b w, one-add) (rw word_same (run_lexeme is_word_byte b _ (word_rule b w) bs))
      | inr w ↦ rw w (elim (cases_Bool (is_ascii_digit b)) [
        | inl d ↦ rw d (number_scanned b bs d)
        | inr d ↦ rw d (elim (cases_Bool (eqb b 46 && begins_digit bs)) [
          | inl p ↦ rw p (pointed_by b bs p)
          | inr p ↦ rw p (elim (cases_Bool (ltb b 128)) [
            | inl a ↦ rw a (operator_found b bs w d a p (passed_not b k n m) (first_row operators (b ∷ bs)) (operators_right (b ∷ bs)))
            | inr a ↦ rw (a, one-add) (run_lexeme is_continuation b _ (other_rule b a) bs)
          ])
        ])
      ])
    ]
  where
    passed_not : (b : ℕ) → is_blank b ≡ false → eqb b 10 ≡ false → eqb b 35 ≡ false → is_passed b ≡ false
    passed_not b k n m = rw (k, n, m) refl

    by_reserved : (t : Bool) (w : List ℕ) → is_reserved w ≡ t → meaning_of (scans.plain_word w) w ≡ plain_word w
    by_reserved true w e = rw e refl
    by_reserved false w e = rw e refl

    by_keyword_same : (o : Option Keyword) (w : List ℕ) → meaning_of (scans.by_keyword o w) w ≡ by_keyword o w
    by_keyword_same None w = by_reserved (is_reserved w) w refl
    by_keyword_same (Some k) w = refl

    word_same : (w : List ℕ) → meaning_of (scans.word w) w ≡ word_meaning w
    word_same w = by_keyword_same (keyword_of w) w
