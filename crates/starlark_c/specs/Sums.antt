-- Sums of lines and columns.
use Rattle.std.specs.Prelude.{ℕ, ◌+◌, Bool, not, ◌&&◌, ◌||◌, nat_eq, nat_le, if◌then◌else◌, List, length, slice_index}
use Rattle.starlark_place.specs.Place.{is_continuation, line_at, column_at}

-- a character of the text begins there, or the text ends there
abbrev pub is_between : List ℕ → ℕ → Bool
is_between text i = nat_le i (length text) && (nat_eq i (length text) || not (is_continuation (slice_index text i)))

-- the line and the column of a place between two characters, both from 0, in one; 0 for any other place
abbrev pub place_sum : List ℕ → ℕ → ℕ
place_sum text i = if is_between text i then line_at text i + column_at text i else 0
