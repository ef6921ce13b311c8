-- Integers written in a base.
use Rattle.std.proofs.Common.{◌≡◌, ◌<◌, ℕ, ℤ, pos, negsuc, ◌^◌, Bool, true, false, eqb, List, refl, ap, sym, ◌∙◌, arith, IsUtf8, w32}
use Rattle.std.proofs.lemmas.Bool.{ltb-true}
use Rattle.std.proofs.lemmas.Bool.Decides.{nat_tests}
use Rattle.std.specs.Int.RustNames.{FitsSigned}
use Rattle.std.specs.List.{prefix_len}
use Rattle.std.specs.Str.{IsCharBoundary}
use Rattle.starlark_lexer.specs.Number.{is_small, shortest, number, value}
use Rattle.starlark_lexer.specs.Items.{small, big, is_big}
use mir.Val.{to_z, of_z}
use Rattle.std.proofs.lemmas.Int.{to_z-of_z}
use Rattle.starlark_lexer.proofs.Ascii.{run_boundary}

-- ---- what fits

small_fits : (z : ℤ) → is_small z ≡ true → FitsSigned w32 z
small_fits (pos n) h = record { sfits = ltb-true n (2 ^ 31) h }
small_fits (negsuc n) h = record { sfits = ltb-true n (2 ^ 31) h }

pub small_number : (negative : Bool) (base : ℕ) (ds : List ℕ) (z : ℤ) → z ≡ value negative base ds → is_small z ≡ true → small (to_z w32 (of_z w32 z)) ≡ number negative base ds
unfolding number
small_number negative base ds z e h =
    let is : is_small (value negative base ds) ≡ true = ap is_small (sym e) ∙ h in
    ap small (to_z-of_z w32 z (small_fits z h) ∙ e) ∙ rw is refl

pub big_number : (negative : Bool) (base : ℕ) (ds text : List ℕ) → text ≡ shortest ds → is_small (value negative base ds) ≡ false → big text negative base ≡ number negative base ds
unfolding number
big_number negative base ds text e h = ap (λ t. big t negative base) e ∙ rw h refl

-- the digits of one that does not fit take memory
pub big_takes : (negative : Bool) (base : ℕ) (ds : List ℕ) → is_small (value negative base ds) ≡ false → is_big (number negative base ds) ≡ true
big_takes negative base ds h = ap is_big (sym (big_number negative base ds (shortest ds) refl h))

-- ---- where a text may be cut

zero_low : (b : ℕ) → eqb b 48 ≡ true → b < 128
zero_low b h = grind (arith, nat_tests)

-- behind zeros
pub zeros_boundary : (xs : List ℕ) → IsUtf8 xs → IsCharBoundary xs (prefix_len (λ d. eqb d 48) xs)
zeros_boundary xs utf8 = run_boundary (λ d. eqb d 48) xs zero_low utf8
