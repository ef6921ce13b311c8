-- ASCII bytes, and the text behind them, which may be cut there.
use Rattle.std.proofs.Common.{◌≡◌, ◌<◌, ◌≤◌, ℕ, ◌+◌, ◌-◌, Bool, true, List, ◌∷◌, length, get_or, arith, suc, inl, inr, eqb, subst, IsUtf8}
use Rattle.std.proofs.lemmas.Bool.{cases_lt}
use Rattle.std.proofs.lemmas.Bool.Decides.{nat_tests}
use Rattle.std.proofs.lemmas.Str.{IsCharBoundary-after_ascii, IsCharBoundary-start}
use Rattle.std.proofs.lemmas.List.Sums.{prefix_len_passes, prefix_len-le-length}
use Rattle.std.specs.List.{prefix_len}
use Rattle.std.specs.Str.{IsCharBoundary}
use Rattle.starlark_lexer.specs.Classes.{is_blank, is_word_byte}

pub is_low : (b c : ℕ) → c < 128 → eqb b c ≡ true → b < 128
is_low b c l h = grind (arith, nat_tests)

pub blank_low : (b : ℕ) → is_blank b ≡ true → b < 128
blank_low b h = grind (arith, nat_tests)

pub word_low : (b : ℕ) → is_word_byte b ≡ true → b < 128
word_low b h = grind (arith, nat_tests)

pub at_next : (b : ℕ) (bs : List ℕ) (k m : ℕ) → k ≡ m + 1 → get_or bs m 0 < 128 → get_or (b ∷ bs) k 0 < 128
at_next b bs k m e h = let s : suc m ≡ k = omega (arith, e) in subst (λ j. get_or (b ∷ bs) j 0 < 128) s h

pub boundary_after : (xs : List ℕ) (n : ℕ) → IsUtf8 xs → 0 < n → n ≤ length xs → get_or xs (n - 1) 0 < 128 → IsCharBoundary xs n
boundary_after xs n utf8 some most low =
    let e : n - 1 + 1 ≡ n = omega (arith, some) in
    subst (IsCharBoundary xs) e (IsCharBoundary-after_ascii xs (n - 1) utf8 (omega (arith, some, most)) low)

-- behind a run of them
pub run_boundary : (p : ℕ → Bool) (xs : List ℕ) → ((b : ℕ) → p b ≡ true → b < 128) → IsUtf8 xs → IsCharBoundary xs (prefix_len p xs)
run_boundary p xs ascii utf8 =
    elim (cases_lt 0 (prefix_len p xs)) [
      | inl some ↦ boundary_after xs (prefix_len p xs) utf8 some (prefix_len-le-length p xs) (ascii (get_or xs (prefix_len p xs - 1) 0) (prefix_len_passes p xs (prefix_len p xs - 1) 0 (omega arith)))
      | inr none ↦ let e : 0 ≡ prefix_len p xs = omega arith in subst (IsCharBoundary xs) e (IsCharBoundary-start xs utf8)
    ]
