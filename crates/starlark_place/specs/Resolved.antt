-- Lines and columns, from 0.
use Rattle.std.specs.Prelude.{◌≡◌, ◌<◌, ◌≤◌, ◌⊎◌, ℕ, List}
use Rattle.starlark_place.specs.Place.{Extent, line_at, column_at}
use Rattle.starlark_place.specs.declared.resolved.ResolvedPos.{ResolvedPos}
use Rattle.starlark_place.specs.declared.resolved.ResolvedSpan.{ResolvedSpan}

-- the line and column of a place
abbrev pub resolved : List ℕ → ℕ → ResolvedPos
resolved text i = record { line = line_at text i; column = column_at text i }

-- those of both ends
abbrev pub resolved_span : List ℕ → Extent → ResolvedSpan
resolved_span text e = record { begin = resolved text e.begin; end = resolved text e.end }

-- one place is at or before another
abbrev pub IsAtMost : ResolvedPos → ResolvedPos → Type 0
IsAtMost a b = (a.line < b.line) ⊎ ((a.line ≡ b.line) × (a.column ≤ b.column))

-- on an earlier line, or further left on the same
abbrev pub IsBefore : ResolvedPos → ResolvedPos → Type 0
IsBefore a b = (a.line < b.line) ⊎ ((a.line ≡ b.line) × (a.column < b.column))
