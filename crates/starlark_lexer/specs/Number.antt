-- Integers written in a base of 2 to 36.
use Rattle.std.specs.Prelude.{◌≡◌, ℕ, ℤ, pos, negsuc, neg_ℤ, ◌^◌, Bool, true, false, not, ◌&&◌, ◌==◌, if◌then◌else◌, nat_lt, List, length, drop, map, Result, Ok, Err}
use Rattle.std.specs.Char.{is_digit, to_ascii_lowercase}
use Rattle.std.specs.List.{list_all, prefix_len}
use Rattle.std.specs.Str.Parse.{without_leading_sign, starts_with_minus, digits_value}
use Rattle.starlark_lexer.specs.declared.number.TokenIntError.{TokenIntError}
use Rattle.starlark_lexer.specs.declared.number.TokenIntError.TheVariants.{CannotParse, Memory}
use Rattle.starlark_lexer.specs.declared.token.TokenInt.{TokenInt}
use Rattle.starlark_lexer.specs.Items.{Number, small, big, number_of}

-- One digit or more of the base: 0 to 9, then a to z, of either case.
abbrev pub is_digits : ℕ → List ℕ → Bool
is_digits base ds = list_all (λ c. is_digit c base) ds && not (length ds == 0)

-- Digits, and one + or - before them or none.
abbrev pub is_integer : ℕ → List ℕ → Bool
is_integer base text = is_digits base (without_leading_sign text)

-- The digits in lower case, without leading zeros.
abbrev pub shortest : List ℕ → List ℕ
shortest ds = map to_ascii_lowercase (drop (prefix_len (λ d. d == 48) ds) ds)

-- The value lies between -2147483648 and 2147483647.
abbrev pub is_small : ℤ → Bool
is_small (pos n) = nat_lt n (2 ^ 31)
is_small (negsuc n) = nat_lt n (2 ^ 31)

-- The value of digits behind a minus, or behind none.
abbrev pub value : Bool → ℕ → List ℕ → ℤ
value negative base ds = if negative then neg_ℤ (pos (digits_value base ds)) else pos (digits_value base ds)

-- The value of digits, where it is small, and else the digits, whether it is negative, and the base.
unfoldable pub number : Bool → ℕ → List ℕ → Number
number negative base ds = if is_small (value negative base ds) then small (value negative base ds) else big (shortest ds) negative base

-- A text is an integer and stands for the number.
pub record IsNumber (base : ℕ) (text : List ℕ) (n : Number) : Type 0 where
  pub written : is_integer base text ≡ true
  pub value : n ≡ number (starts_with_minus text) base (without_leading_sign text)

-- A text is an integer that is not small, so that its digits take memory.
pub record IsBig (base : ℕ) (text : List ℕ) : Type 0 where
  pub written : is_integer base text ≡ true
  pub large : is_small (value (starts_with_minus text) base (without_leading_sign text)) ≡ false

-- What a call answers for a text.
abbrev pub Reads : ℕ → List ℕ → Result TokenInt TokenIntError → Type 0
Reads base text (Ok n) = IsNumber base text (number_of n)
Reads base text (Err CannotParse) = is_integer base text ≡ false
Reads base text (Err Memory) = IsBig base text
