-- The count of looks at bytes.
use Rattle.std.specs.Prelude.{ℕ, ◌+◌, ◌≤◌, min}

-- the count grew by n at least, up to the greatest number that it holds
pub record Grows (old n new : ℕ) : Type 0 where
  pub up : old ≤ new
  pub least : min (old + n) 18446744073709551615 ≤ new
