-- The digits at the front of a text.
use Rattle.std.proofs.Common.{◌≡◌, ◌<◌, ◌≤◌, ℕ, ◌+◌, ◌*◌, ◌^◌, List, length, take, drop, get_or, ap, sym, ◌∙◌, arith}
use Rattle.std.proofs.lemmas.Int.Digits.{digits_value_more, digits_value-lt, digits_more}
use Rattle.std.proofs.lemmas.List.{length-take, length-take-le, take-take}
use Rattle.std.proofs.lemmas.List.Sums.{prefix_len-drop_yes, prefix_len-le-length}
use Rattle.std.proofs.Math.Nat.{pow-le-pow_left, pow-le-pow_right}
use Rattle.std.proofs.lemmas.Bool.{lt-ltb}
use Rattle.std.specs.Char.{is_digit, digit_value}
use Rattle.std.specs.List.{prefix_len}
use Rattle.std.specs.Str.Parse.{digits_value, AllDigits}
use Rattle.starlark_lexer.specs.Literals.{digits, digits_of}

-- at most eight digits of a base of at most 16
pub small_value : (base n : ℕ) (bs : List ℕ) → 2 ≤ base → base ≤ 16 → n ≤ 8 → n ≤ length bs → AllDigits base (take n bs) → digits_value base (take n bs) < 4294967296
small_value base n bs some low short within all =
    let long : length (take n bs) ≡ n = length-take-le n bs within in
    let less : digits_value base (take n bs) < base ^ length (take n bs) = digits_value-lt base (take n bs) all in
    let wide : base ^ length (take n bs) ≤ 16 ^ length (take n bs) = pow-le-pow_left low (length (take n bs)) in
    let high : 16 ^ length (take n bs) ≤ 16 ^ 8 = pow-le-pow_right {n = 16} (omega arith) {i = length (take n bs)} {j = 8} (omega (arith, long, short)) in
    omega (arith, less, wide, high)

-- one digit more
pub record More (base : ℕ) (bs : List ℕ) (i v : ℕ) : Type 0 where
  pub value : v ≡ digits_value base (take (i + 1) bs)
  pub digits : AllDigits base (take (i + 1) bs)
  pub len : prefix_len (λ d. is_digit d base) (drop i bs) ≡ 1 + prefix_len (λ d. is_digit d base) (drop (i + 1) bs)
  pub small : v < 4294967296

pub one_more : (base : ℕ) (bs : List ℕ) (i v d : ℕ) → 2 ≤ base → base ≤ 16 → length bs ≤ 8 → i < length bs → AllDigits base (take i bs) → v ≡ digits_value base (take i bs)
    → digit_value (get_or bs i 0) < base → d ≡ digit_value (get_or bs i 0) → More base bs i (v * base + d)
one_more base bs i v d some low short lt all e h de =
    let same : v * base + d ≡ digits_value base (take (i + 1) bs) = (λ j. e j * base + de j) ∙ sym (digits_value_more base bs i lt) in
    let more : AllDigits base (take (i + 1) bs) = digits_more base bs i lt all h in
    let less = small_value base (i + 1) bs some low (omega (arith, short, lt)) (omega (arith, lt)) more in
    record { value = same; digits = more; len = prefix_len-drop_yes (λ c. is_digit c base) bs i 0 lt (lt-ltb (digit_value (get_or bs i 0)) base h); small = omega (arith, same, less) }

-- digits among the first bytes
same_digits : (base most : ℕ) (bs : List ℕ) → digits_value base (take (digits base most bs) (take most bs)) ≡ digits_of base (digits base most bs) bs
same_digits base most bs =
    let within : digits base most bs ≤ length (take most bs) = prefix_len-le-length (λ d. is_digit d base) (take most bs) in
    let short : digits base most bs ≤ most = omega (arith, within, length-take most bs) in
    ap (digits_value base) (take-take (digits base most bs) most bs short)

pub found_len : (base most : ℕ) (bs front : List ℕ) (n : ℕ) → front ≡ take most bs → n ≡ prefix_len (λ d. is_digit d base) front → n ≡ digits base most bs
found_len base most bs front n f e = e ∙ ap (prefix_len (λ d. is_digit d base)) f

pub found_value : (base most : ℕ) (bs front : List ℕ) (n v : ℕ) → front ≡ take most bs → n ≡ prefix_len (λ d. is_digit d base) front → v ≡ digits_value base (take n front) → v ≡ digits_of base (digits base most bs) bs
found_value base most bs front n v f e h =
    h ∙ (λ j. digits_value base (take (found_len base most bs front n f e j) (f j))) ∙ same_digits base most bs
