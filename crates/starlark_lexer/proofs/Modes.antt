-- The modes around a place, of which the code keeps the innermost last.
use Rattle.std.proofs.Common.{◌≡◌, ◌-◌, List, [], ◌∷◌, ◌++◌, length, take, refl, ap, ◌∙◌, arith, length-append}
use Rattle.starlark_lexer.specs.declared.scan.Mode.{Mode}
use Rattle.starlark_lexer.specs.Scan.{last_mode}

pub last_more : (ms : List Mode) (m : Mode) → last_mode (ms ++ m ∷ []) ≡ m
last_more [] m = refl
last_more (x ∷ []) m = refl
last_more (x ∷ y ∷ ms) m = last_more (y ∷ ms) m

take_front : (ms : List Mode) (m : Mode) → take (length ms) (ms ++ m ∷ []) ≡ ms
take_front [] m = refl
take_front (x ∷ xs) m = ap (λ ys. x ∷ ys) (take_front xs m)

pub take_more : (ms : List Mode) (m : Mode) → take (length (ms ++ m ∷ []) - 1) (ms ++ m ∷ []) ≡ ms
take_more ms m = let e : length (ms ++ m ∷ []) - 1 ≡ length ms = omega (arith, length-append ms (m ∷ [])) in ap (λ n. take n (ms ++ m ∷ [])) e ∙ take_front ms m
