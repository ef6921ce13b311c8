-- What the code knows of the comments of a block that count, as far as it was read.
use Rattle.std.specs.Prelude.{◌≤◌, ℕ, Bool, true, false, ◌&&◌, ◌||◌, if◌then◌else◌, List, [], ◌∷◌, Option, Some, None}
use Rattle.std.specs.List.{list_any}
use Rattle.starlark_place.specs.Place.{Extent, Holds, merged}
use Rattle.starlark_parser.specs.declared.suppression.Tally.{Tally}
use Rattle.starlark_parser.specs.Suppressions.{covers, is_empty, line_of, names_at, same_text}

abbrev pub has_name : List ℕ → List ℕ → Extent → Bool
has_name text name place = list_any (same_text name) (names_at text place)

-- with one more comment
abbrev pub tallied : List ℕ → List ℕ → Option Tally → Extent → Option Tally
tallied text name None place = if is_empty (names_at text place) then None else Some (record { token = place; lines = line_of text place; several = false; named = has_name text name place })
tallied text name (Some t) place = Some (record { token = merged t.token place; lines = merged t.lines (line_of text place); several = true; named = t.named || has_name text name place })

-- a finding at the place is suppressed by them
abbrev pub suppresses : List ℕ → Extent → Option Tally → Bool
suppresses text finding None = false
suppresses text finding (Some t) = t.named && covers text t.several t.token t.lines finding

-- The comments and their lines cut no character, and the comments begin behind their lines' beginning.
pub record IsWithin (text : List ℕ) (t : Tally) : Type 0 where
  pub token : Holds text t.token
  pub lines : Holds text t.lines
  pub order : t.lines.begin ≤ t.token.begin

abbrev pub IsSound : List ℕ → Option Tally → Type 0
IsSound text None = Unit {0}
IsSound text (Some t) = IsWithin text t

-- A finding is suppressed by a block that is read so far and goes on with these comments, or by one behind it.
abbrev pub still_suppressed : List ℕ → List ℕ → Extent → Option Tally → List Extent → List Bool → Bool
still_suppressed text name finding block [] joined = suppresses text finding block
still_suppressed text name finding block (p ∷ ps) [] = suppresses text finding block
still_suppressed text name finding block (p ∷ ps) (true ∷ joined) = still_suppressed text name finding (tallied text name block p) ps joined
still_suppressed text name finding block (p ∷ ps) (false ∷ joined) = suppresses text finding block || still_suppressed text name finding (tallied text name None p) ps joined
