-- A place of a text with its line and column.
use Rattle.std.specs.Prelude.{◌≡◌, ◌≤◌, ℕ, ◌+◌, List, length, not, if◌then◌else◌}
use Rattle.starlark_place.specs.Place.{is_feed, is_continuation, line_at, column_at}
use Rattle.starlark_parts.specs.declared.cursor.Cursor.{Cursor}

-- the cursor stands in the text, at its line and column
pub record IsAt (text : List ℕ) (c : Cursor) : Type 0 where
  pub within : c.place ≤ length text
  pub line : c.line ≡ line_at text c.place
  pub column : c.column ≡ column_at text c.place

-- the cursor behind one byte more
abbrev pub behind : Cursor → ℕ → Cursor
behind c b = record {
  place = c.place + 1;
  line = if is_feed b then c.line + 1 else c.line;
  column = if is_feed b then 0 else (if not (is_continuation b) then c.column + 1 else c.column);
}
