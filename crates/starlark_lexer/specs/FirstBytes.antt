-- What the first bytes of a word or an operator tell.
use Rattle.std.specs.Prelude.{ℕ, Bool, false, ◌&&◌, ◌||◌, ◌==◌, List, [], ◌∷◌, length}

-- a byte that stands second in an operator
abbrev pub is_second : ℕ → Bool
is_second b = b == 61 || b == 42 || b == 47 || b == 60 || b == 62 || b == 46

-- a keyword or a reserved word may begin with that byte and have so many bytes
abbrev pub may_stand : ℕ → ℕ → Bool
may_stand b n =
    (b == 97 && (n == 2 || n == 3)) || (b == 98 && n == 5) || (b == 99 && (n == 5 || n == 8)) || (b == 100 && n == 3)
    || (b == 101 && (n == 4 || n == 6)) || (b == 102 && (n == 3 || n == 4 || n == 7)) || (b == 103 && n == 6) || (b == 105 && (n == 2 || n == 6))
    || (b == 108 && (n == 4 || n == 6)) || (b == 110 && (n == 3 || n == 8)) || (b == 111 && n == 2) || (b == 112 && n == 4)
    || (b == 114 && (n == 5 || n == 6)) || (b == 116 && n == 3) || (b == 119 && (n == 4 || n == 5)) || (b == 121 && n == 5)

-- a word that may be one of them
abbrev pub may_be_fixed : List ℕ → Bool
may_be_fixed [] = false
may_be_fixed (b ∷ bs) = may_stand b (length (b ∷ bs))
