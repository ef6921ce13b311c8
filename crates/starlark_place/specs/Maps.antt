-- Code maps by their ids.
use Rattle.std.specs.Prelude.{ℕ, Option, Some, None, nat_eq, if◌then◌else◌}
use Rattle.std.specs.Ordering.{nat_cmp}
use Rattle.std.specs.BTreeMap as tree
use Rattle.starlark_place.specs.Place.{File}
use Rattle.starlark_place.specs.declared.codemaps.CodeMaps.{CodeMaps}

-- the map of an id
abbrev pub map_of : CodeMaps → ℕ → Option File
map_of c id = tree.get nat_cmp c.maps id

-- the first of two
abbrev pub or_else : Option File → Option File → Option File
or_else None o = o
or_else (Some m) o = Some m

-- one more map under an id, unless there is one
abbrev pub with_entry : (ℕ → Option File) → ℕ → File → ℕ → Option File
with_entry maps id m q = or_else (maps q) (if nat_eq q id then Some m else None)

-- one more map under its own id
abbrev pub with_map : (ℕ → Option File) → File → ℕ → Option File
with_map maps m = with_entry maps m.id m

-- those of other maps, where there are none of their ids
abbrev pub with_maps : (ℕ → Option File) → (ℕ → Option File) → ℕ → Option File
with_maps maps others id = or_else (maps id) (others id)
