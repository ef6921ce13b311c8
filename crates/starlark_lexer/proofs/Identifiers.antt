-- A text that is one identifier with blanks around it.
use Rattle.std.proofs.Common.{◌≡◌, ◌≤◌, ℕ, ◌+◌, ◌-◌, Bool, true, false, cond, not, ◌&&◌, List, [], ◌∷◌, length, take, drop, refl, ap, sym, ◌∙◌, arith, suc, inl, inr, eqb, ltb, subst, IsUtf8}
use Rattle.std.proofs.lemmas.Bool.{cases_lt, and_right, lt-ltb, le-ltb}
use Rattle.std.proofs.lemmas.Bool.Decides.{nat_tests}
use Rattle.std.proofs.lemmas.List.Sums.{prefix_len-le-length}
use Rattle.std.specs.List.{list_all, prefix_len}
use Rattle.std.specs.Str.{IsCharBoundary}
use Rattle.std.proofs.lemmas.List.{take_rest}
use Rattle.starlark_lexer.specs.Classes.{is_blank, is_word_byte}
use Rattle.starlark_lexer.specs.Identifier.{is_identifier, unblanked, word_at, behind, is_one}
use Rattle.starlark_lexer.proofs.Runs.{list_all_run}
use Rattle.starlark_lexer.proofs.Ascii.{blank_low, word_low, run_boundary}

pub blanks_boundary : (xs : List ℕ) (n : ℕ) → IsUtf8 xs → n ≡ prefix_len is_blank xs → IsCharBoundary xs n
blanks_boundary xs n u e = subst (IsCharBoundary xs) (sym e) (run_boundary is_blank xs blank_low u)

pub word_boundary : (xs : List ℕ) (n : ℕ) → IsUtf8 xs → n ≡ prefix_len is_word_byte xs → IsCharBoundary xs n
word_boundary xs n u e = subst (IsCharBoundary xs) (sym e) (run_boundary is_word_byte xs word_low u)

one_more : (m n : ℕ) → ltb (1 + m) (suc n) ≡ ltb m n
one_more m n =
    elim (cases_lt m n) [
      | inl l ↦ lt-ltb (1 + m) (suc n) (omega (arith, l)) ∙ sym (lt-ltb m n l)
      | inr g ↦ le-ltb (1 + m) (suc n) (omega (arith, g)) ∙ sym (le-ltb m n g)
    ]

by_first : (t : Bool) (m n : ℕ) (b : Bool) → ltb m n ≡ not b → ltb (cond t (1 + m) 0) (suc n) ≡ not (t && b)
by_first true m n b h = one_more m n ∙ h
by_first false m n b h = lt-ltb 0 (suc n) (omega arith)

-- a run is shorter than the whole exactly where some byte does not pass
pub all_run : (p : ℕ → Bool) (xs : List ℕ) → ltb (prefix_len p xs) (length xs) ≡ not (list_all p xs)
all_run p [] = refl
all_run p (x ∷ xs) = by_first (p x) (prefix_len p xs) (length xs) (list_all p xs) (all_run p xs)

from_under : (m n : ℕ) (b : Bool) → m ≤ n → ltb m n ≡ not b → eqb m n ≡ b
from_under m n true le h = grind (arith, nat_tests)
from_under m n false le h = grind (arith, nat_tests)

-- a run is the whole exactly where all bytes pass
pub whole_run : (p : ℕ → Bool) (xs : List ℕ) (n : ℕ) → n ≡ prefix_len p xs → eqb n (length xs) ≡ list_all p xs
whole_run p xs n e =
    let most : prefix_len p xs ≤ length xs = prefix_len-le-length p xs in
    ap (λ k. eqb k (length xs)) e ∙ from_under (prefix_len p xs) (length xs) (list_all p xs) most (all_run p xs)

-- ---- the parts of a text

pub rest_is : (s bytes rest : List ℕ) (n : ℕ) → bytes ≡ s → n ≡ prefix_len is_blank bytes → rest ≡ drop n s → rest ≡ unblanked s
rest_is s bytes rest n b e r = r ∙ ap (λ k. drop k s) (e ∙ ap (prefix_len is_blank) b)

pub word_is : (s rest bytes word : List ℕ) (n : ℕ) → rest ≡ unblanked s → bytes ≡ rest → n ≡ prefix_len is_word_byte bytes → word ≡ take (n - 0) rest → word ≡ word_at s
word_is s rest bytes word n r b e w =
    let whole : n - 0 ≡ n = omega arith in
    w ∙ ap (λ k. take k rest) whole ∙ (λ j. take ((e ∙ ap (prefix_len is_word_byte) (b ∙ r)) j) (r j))

pub behind_is : (s rest bytes more : List ℕ) (n : ℕ) → rest ≡ unblanked s → bytes ≡ rest → more ≡ rest → n ≡ prefix_len is_word_byte bytes → take (length more - n) (drop n more) ≡ behind s
behind_is s rest bytes more n r b m e = take_rest more n ∙ (λ j. drop ((e ∙ ap (prefix_len is_word_byte) (b ∙ r)) j) ((m ∙ r) j))

pub word_all : (s word bytes : List ℕ) → word ≡ word_at s → bytes ≡ word → list_all is_word_byte bytes ≡ true
word_all s word bytes w b = ap (list_all is_word_byte) (b ∙ w) ∙ list_all_run is_word_byte (unblanked s)

pub not_blank : (s : List ℕ) (b : Bool) → b ≡ list_all is_blank (behind s) → b ≡ false → is_one s ≡ false
not_blank s b e h = ap (λ t. t && is_identifier (word_at s)) (sym e ∙ h)

pub not_identifier : (s : List ℕ) (b : Bool) → b ≡ is_identifier (word_at s) → b ≡ false → is_one s ≡ false
not_identifier s b e h = ap (λ t. list_all is_blank (behind s) && t) (sym e ∙ h) ∙ and_right (list_all is_blank (behind s)) false refl

pub is_one_from : (s : List ℕ) (a b : Bool) → a ≡ list_all is_blank (behind s) → a ≡ true → b ≡ is_identifier (word_at s) → b ≡ true → is_one s ≡ true
is_one_from s a b e h d g = (λ j. (sym e ∙ h) j && (sym d ∙ g) j)
