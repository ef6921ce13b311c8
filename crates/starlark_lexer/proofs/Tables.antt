-- The first row of a falling table that begins a text is the longest.
use Rattle.std.proofs.Common.{◌≡◌, ◌<◌, ◌≤◌, ℕ, Bool, true, false, not, cond, ◌&&◌, List, [], ◌∷◌, length, take, get_or, refl, ap, sym, ◌∙◌, arith, inl, inr}
use Rattle.std.specs.Prelude.{Option, Some, None, nat_eq, nat_lt, nat_le, ◌==◌, ◌||◌}
use Rattle.std.proofs.lemmas.Bool.{cases_Bool, false≢true, leb-true, and_parts, ltb-true}
use Rattle.std.proofs.lemmas.List.{length-take-le, length-take}
use Rattle.std.proofs.lemmas.Slice.Eq.{bytes_eq-Decides}
use Rattle.std.specs.List.{starts_with}
use Rattle.std.specs.Str.{bytes_eq}
use Rattle.std.specs.Char.{is_ascii_digit}
use Rattle.starlark_lexer.specs.declared.words.Operator.{Operator}
use Rattle.starlark_lexer.specs.Classes.{lookup, operators, operator_of}
use Rattle.starlark_lexer.specs.Scan.{first_row}

abbrev pub Row : Type 0
Row = List ℕ × Operator

-- each row has a byte, and none is longer than n
abbrev pub at_most : ℕ → List Row → Bool
at_most n [] = true
at_most n (r ∷ rs) = nat_lt 0 (length r.0) && nat_le (length r.0) n && at_most n rs

-- no row is longer than one before it
abbrev pub falls : List Row → Bool
falls [] = true
falls (r ∷ rs) = nat_lt 0 (length r.0) && at_most (length r.0) rs && falls rs

-- a row that is a front of the text begins it
no_front : (r xs : List ℕ) (k : ℕ) → starts_with nat_eq xs r ≡ false → k ≤ length xs → bytes_eq r (take k xs) ≡ false
no_front r xs k misses fits =
    elim (cases_Bool (bytes_eq r (take k xs))) [
      | inr h ↦ h
      | inl h ↦
          let same : r ≡ take k xs = (bytes_eq-Decides r (take k xs)).0 h in
          let len : length r ≡ k = ap length same ∙ length-take-le k xs fits in
          absurd (false≢true (sym misses ∙ ap (λ n. bytes_eq r (take n xs)) len ∙ h))
    ]

-- no row as long as that
too_long : (n : ℕ) (rs : List Row) (xs : List ℕ) (k : ℕ) → at_most n rs ≡ true → n < k → k ≤ length xs → lookup rs (take k xs) ≡ None
too_long n [] xs k h more fits = refl
too_long n (r ∷ rs) xs k h more fits =
    let b1 = and_parts (nat_lt 0 (length r.0) && nat_le (length r.0) n) (at_most n rs) h in
    let b2 = and_parts (nat_lt 0 (length r.0)) (nat_le (length r.0) n) b1.0 in
    let short : length r.0 ≤ n = leb-true (length r.0) n b2.1 in
    elim (cases_Bool (bytes_eq r.0 (take k xs))) [
      | inl e ↦ absurd (omega (arith, ap length ((bytes_eq-Decides r.0 (take k xs)).0 e), length-take-le k xs fits))
      | inr e ↦ rw e (too_long n rs xs k b1.1 more fits)
    ]

pub record Longest (table : List Row) (xs : List ℕ) (n : ℕ) (m : Operator) : Type 0 where
  pub nonempty : 0 < n
  pub within : n ≤ length xs
  pub means : lookup table (take n xs) ≡ Some m
  pub longest : (k : ℕ) → n < k → k ≤ length xs → lookup table (take k xs) ≡ None

abbrev pub Right : List Row → List ℕ → Option (Operator × ℕ) → Type 0
Right table xs None = (k : ℕ) → k ≤ length xs → lookup table (take k xs) ≡ None
Right table xs (Some x) = Longest table xs x.1 x.0

other : (r : Row) (xs : List ℕ) (k : ℕ) → length r.0 < k → k ≤ length xs → bytes_eq r.0 (take k xs) ≡ false
other r xs k more fits =
    elim (cases_Bool (bytes_eq r.0 (take k xs))) [
      | inr h ↦ h
      | inl h ↦ absurd (omega (arith, ap length ((bytes_eq-Decides r.0 (take k xs)).0 h), length-take-le k xs fits))
    ]

at_head : (r : Row) (rs : List Row) (xs : List ℕ) → falls (r ∷ rs) ≡ true → starts_with nat_eq xs r.0 ≡ true → Longest (r ∷ rs) xs (length r.0) r.1
at_head r rs xs h e =
    let b1 = and_parts (nat_lt 0 (length r.0) && at_most (length r.0) rs) (falls rs) h in
    let b2 = and_parts (nat_lt 0 (length r.0)) (at_most (length r.0) rs) b1.0 in
    let some : 0 < length r.0 = ltb-true 0 (length r.0) b2.0 in
    let same : r.0 ≡ take (length r.0) xs = (bytes_eq-Decides r.0 (take (length r.0) xs)).0 e in
    let fits : length r.0 ≤ length xs = omega (arith, ap length same, length-take (length r.0) xs) in
    record {
      nonempty = some;
      within = fits;
      means = ap (λ t. cond t (Some r.1) (lookup rs (take (length r.0) xs))) e;
      longest = λ k more k_fits. rw (other r xs k more k_fits) (too_long (length r.0) rs xs k b2.1 more k_fits);
    }

later : (r : Row) (rs : List Row) (xs : List ℕ) (o : Option (Operator × ℕ)) → starts_with nat_eq xs r.0 ≡ false → Right rs xs o → Right (r ∷ rs) xs o
later r rs xs None misses h = λ k fits. ap (λ t. cond t (Some r.1) (lookup rs (take k xs))) (no_front r.0 xs k misses fits) ∙ h k fits
later r rs xs (Some x) misses h = record {
  nonempty = h.nonempty;
  within = h.within;
  means = ap (λ t. cond t (Some r.1) (lookup rs (take x.1 xs))) (no_front r.0 xs x.1 misses h.within) ∙ h.means;
  longest = λ k more fits. ap (λ t. cond t (Some r.1) (lookup rs (take k xs))) (no_front r.0 xs k misses fits) ∙ h.longest k more fits;
}

pub first_right : (table : List Row) (xs : List ℕ) → falls table ≡ true → Right table xs (first_row table xs)
first_right [] xs h = λ k fits. refl
first_right (r ∷ rs) xs h =
    elim (cases_Bool (starts_with nat_eq xs r.0)) [
      | inl e ↦ rw e (at_head r rs xs h e)
      | inr e ↦ rw e (later r rs xs (first_row rs xs) e (first_right rs xs (and_parts _ _ h).1))
    ]

pub operators_right : (xs : List ℕ) → Right operators xs (first_row operators xs)
operators_right xs = first_right operators xs refl

-- ---- how long an operator is

abbrev len_of : Option (Operator × ℕ) → ℕ
len_of None = 0
len_of (Some x) = x.1

first_short : (n : ℕ) (table : List Row) (xs : List ℕ) → at_most n table ≡ true → len_of (first_row table xs) ≤ n
first_short n [] xs h = omega arith
first_short n (r ∷ rs) xs h =
    let b1 = and_parts (nat_lt 0 (length r.0) && nat_le (length r.0) n) (at_most n rs) h in
    let b2 = and_parts (nat_lt 0 (length r.0)) (nat_le (length r.0) n) b1.0 in
    elim (cases_Bool (starts_with nat_eq xs r.0)) [
      | inl e ↦ rw e (leb-true (length r.0) n b2.1)
      | inr e ↦ rw e (first_short n rs xs b1.1)
    ]

pub row_short : (xs : List ℕ) (o : Operator) (n : ℕ) → Some (o, n) ≡ first_row operators xs → n ≤ 3
row_short xs o n e = omega (arith, ap len_of e, first_short 3 operators xs refl)

-- ---- what an operator begins with

abbrev pub begins_operator : ℕ → Bool
begins_operator b = b == 33 || (nat_le 37 b && nat_le b 38) || (nat_le 40 b && nat_le b 47) || (nat_le 58 b && nat_le b 62) || b == 91 || (nat_le 93 b && nat_le b 94) || (nat_le 123 b && nat_le b 126)

abbrev first_begins : List ℕ → Bool
first_begins [] = false
first_begins (c ∷ cs) = begins_operator c

abbrev all_begin : List Row → Bool
all_begin [] = true
all_begin (r ∷ rs) = first_begins r.0 && all_begin rs

row_not : (w : List ℕ) (b : ℕ) (ys : List ℕ) → first_begins w ≡ true → begins_operator b ≡ false → bytes_eq w (b ∷ ys) ≡ false
row_not [] b ys h e = absurd (false≢true h)
row_not (c ∷ cs) b ys h e =
    elim (cases_Bool (bytes_eq (c ∷ cs) (b ∷ ys))) [
      | inr n ↦ n
      | inl y ↦
          let same : c ≡ b = ap (λ w. get_or w 0 0) ((bytes_eq-Decides (c ∷ cs) (b ∷ ys)).0 y) in
          absurd (false≢true (sym e ∙ ap begins_operator (sym same) ∙ h))
    ]

rows_not : (rs : List Row) (b : ℕ) (ys : List ℕ) → all_begin rs ≡ true → begins_operator b ≡ false → lookup rs (b ∷ ys) ≡ None
rows_not [] b ys h e = refl
rows_not (r ∷ rs) b ys h e = let x = and_parts (first_begins r.0) (all_begin rs) h in let n = row_not r.0 b ys x.0 e in rw n (rows_not rs b ys x.1 e)

pub no_operator : (b : ℕ) (ys : List ℕ) → begins_operator b ≡ false → operator_of (b ∷ ys) ≡ None
unfolding operator_of
no_operator b ys e = rows_not operators b ys refl e

-- no operator has a digit behind its first byte
abbrev second_not : List ℕ → Bool
second_not [] = true
second_not (c ∷ []) = true
second_not (c ∷ d ∷ cs) = not (is_ascii_digit d)

abbrev all_second : List Row → Bool
all_second [] = true
all_second (r ∷ rs) = second_not r.0 && all_second rs

row_second : (w : List ℕ) (b y : ℕ) (ys : List ℕ) → second_not w ≡ true → is_ascii_digit y ≡ true → bytes_eq w (b ∷ y ∷ ys) ≡ false
row_second w b y ys h d =
    elim (cases_Bool (bytes_eq w (b ∷ y ∷ ys))) [
      | inr n ↦ n
      | inl t ↦ absurd (false≢true (sym (ap not d) ∙ sym (ap second_not ((bytes_eq-Decides w (b ∷ y ∷ ys)).0 t)) ∙ h))
    ]

rows_second : (rs : List Row) (b y : ℕ) (ys : List ℕ) → all_second rs ≡ true → is_ascii_digit y ≡ true → lookup rs (b ∷ y ∷ ys) ≡ None
rows_second [] b y ys h d = refl
rows_second (r ∷ rs) b y ys h d = let x = and_parts (second_not r.0) (all_second rs) h in let n = row_second r.0 b y ys x.0 d in rw n (rows_second rs b y ys x.1 d)

pub no_pointed : (y : ℕ) (ys : List ℕ) → is_ascii_digit y ≡ true → operator_of (46 ∷ y ∷ ys) ≡ None
unfolding operator_of
no_pointed y ys d = rows_second operators 46 y ys refl d
