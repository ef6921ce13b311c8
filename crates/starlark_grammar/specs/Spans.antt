-- From a place to a later one.
use Rattle.std.specs.Prelude.{ℕ, max}
use Rattle.starlark_place.specs.Place.{Extent, extent}

-- Tokens stand in order, so the second place is the greater one; if it were not, nothing at the first.
abbrev pub stretch : ℕ → ℕ → Extent
stretch b e = extent b (max b e)
