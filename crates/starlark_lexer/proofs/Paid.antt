-- How many looks a lexeme takes at most.
use Rattle.std.proofs.Common.{◌≡◌, ◌<◌, ◌≤◌, ℕ, Bool, true, false, List, [], ◌∷◌, length, refl, sym, subst, arith}
use Rattle.std.specs.Prelude.{if◌then◌else◌}
use Rattle.std.proofs.lemmas.Bool.Decides.{nat_tests}
use Rattle.starlark_lexer.specs.Fronts.{aside}
use Rattle.starlark_lexer.specs.Scan.{scan, is_pointed, tail_len}
use Rattle.starlark_lexer.proofs.Cuts.{scan_front}
use Rattle.starlark_lexer.proofs.Longest.{pointed_by}

pub scan_some : (xs : List ℕ) → 0 < length xs → 0 < (scan xs).1
scan_some [] h = elim h [ ]
scan_some (b ∷ bs) h = (scan_front b bs).0

-- a point with a digit behind it begins no literal, and is no backslash
pub pointed_aside : (xs : List ℕ) → 0 < length xs → is_pointed xs ≡ true → aside xs ≡ 0
pointed_aside [] some h = elim some [ ]
pointed_aside (b ∷ bs) some h =
    let point : b ≡ 46 = grind (arith, nat_tests) in
    subst (λ k. aside (k ∷ bs) ≡ 0) (sym point) refl

pub pointed_some : (xs : List ℕ) → 0 < length xs → is_pointed xs ≡ true → 0 < tail_len xs
pointed_some [] some h = elim some [ ]
pointed_some (b ∷ bs) some h = (pointed_by b bs h).nonempty

pub two_at_most : (t : Bool) → (if t then 2 else 0) ≤ 2
two_at_most true = omega arith
two_at_most false = omega arith
