-- Strings that stand for types.
use Rattle.std.specs.Prelude.{ℕ, List, [], ◌∷◌, Bool, true, nat_eq}

-- empty, or with a `_` in front: any value is of that type
abbrev pub is_wildcard : List ℕ → Bool
is_wildcard [] = true
is_wildcard (b ∷ bs) = nat_eq b 95
