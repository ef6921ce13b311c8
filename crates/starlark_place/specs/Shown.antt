-- What lines and columns print as: each counts from 1 there.
use Rattle.std.specs.Prelude.{ℕ, ◌+◌, List, [], ◌∷◌, ◌++◌, if◌then◌else◌, nat_eq, decimal}
use Rattle.starlark_place.specs.Place.{FilePlace}
use Rattle.starlark_place.specs.Resolved.{resolved_span}
use Rattle.starlark_place.specs.declared.resolved.ResolvedPos.{ResolvedPos}
use Rattle.starlark_place.specs.declared.resolved.ResolvedSpan.{ResolvedSpan}

-- `2:1`
abbrev pub shown_pos : ResolvedPos → List ℕ
shown_pos p = decimal (p.line + 1) ++ 58 ∷ decimal (p.column + 1)

-- what stands behind the beginning: nothing at an empty span, `-10` on one line, else `-3:8`
abbrev pub shown_end : ResolvedSpan → List ℕ
shown_end s =
    if nat_eq s.begin.line s.end.line then (if nat_eq s.begin.column s.end.column then [] else 45 ∷ decimal (s.end.column + 1)) else 45 ∷ shown_pos s.end

-- `1:5`, `1:9-10`, `2:1-3:8`
abbrev pub shown_span : ResolvedSpan → List ℕ
shown_span s = shown_pos s.begin ++ shown_end s

-- the name and a colon before
abbrev pub shown_in : List ℕ → ResolvedSpan → List ℕ
shown_in name s = name ++ 58 ∷ shown_span s

abbrev pub shown_place : FilePlace → List ℕ
shown_place p = shown_in p.file.name (resolved_span p.file.source p.extent)
