-- Texts as lists of characters.
use Rattle.std.specs.Prelude.{◌≡◌, ℕ, zero, suc, ◌-◌, Bool, true, false, ◌&&◌, ◌||◌, ◌==◌, if◌then◌else◌, min, List, [], ◌∷◌, length, take, drop, ℤ, pos, negsuc, Option, Some, None}
use Rattle.std.specs.Str.{chars}
use Rattle.starlark_place.specs.declared.fast_string.StrIndices.{StrIndices}

-- the list begins with the needle
abbrev pub begins_with : List ℕ → List ℕ → Bool
begins_with [] cs = true
begins_with (n ∷ ns) [] = false
begins_with (n ∷ ns) (c ∷ cs) = (n == c) && begins_with ns cs

-- matches from the left that do not overlap, the first of them behind so many characters
abbrev pub matches_from : List ℕ → ℕ → List ℕ → ℕ
matches_from needle skip [] = 0
matches_from needle zero (c ∷ cs) = if begins_with needle (c ∷ cs) then suc (matches_from needle (length needle - 1) cs) else matches_from needle zero cs
matches_from needle (suc skip) (c ∷ cs) = matches_from needle skip cs

-- an empty needle stands before each character and at the end
abbrev pub matches_in : List ℕ → List ℕ → ℕ
matches_in [] cs = suc (length cs)
matches_in (n ∷ ns) cs = matches_from (n ∷ ns) 0 cs

-- the needle stands somewhere in the list
abbrev pub stands_in : List ℕ → List ℕ → Bool
stands_in needle [] = begins_with needle []
stands_in needle (c ∷ cs) = begins_with needle (c ∷ cs) || stands_in needle cs

-- a negative index counts from the end
abbrev pub from_end : ℕ → ℤ → ℕ
from_end n (pos i) = i
from_end n (negsuc i) = n - suc i

-- the same, at most the length
abbrev pub index_in : ℕ → ℤ → ℕ
index_in n i = min (from_end n i) n

abbrev pub index_or : {A : Type 0} → (A → ℕ) → Option A → ℕ → ℕ
index_or f None d = d
index_or f (Some i) d = f i

-- where a piece of n characters begins and ends
abbrev pub piece_begin : ℕ → Option ℤ → ℕ
piece_begin n start = index_or (from_end n) start 0

abbrev pub piece_end : ℕ → Option ℤ → ℕ
piece_end n end = index_or (index_in n) end n

-- the characters from one place to another
pub record IsCut (text : List ℕ) (from to : ℕ) (found : StrIndices) : Type 0 where
  pub start : found.start.0 ≡ from
  pub haystack : chars found.haystack.now ≡ take (to - from) (drop from (chars text))
