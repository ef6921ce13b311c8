-- What `Parts` shows, and what holds of its fields.
use Rattle.std.specs.Prelude.{◌≡◌, ◌≤◌, length}
use Rattle.starlark_parts.specs.Held.{AreParts, texts_of}
use Rattle.starlark_parts.specs.Kept.{Kept, joined}
use Rattle.starlark_parts.specs.declared.parts.Parts.TheInside.{Inside}

abbrev pub kept : Inside → Kept
kept a = record { texts = texts_of a.parts.items; limit = a.limit; dialect = a.dialect; cost = a.cost }

-- each part is closed and read, and the size is that of all
pub record IsHeld (a : Inside) : Type 0 where
  pub parts : AreParts a.dialect a.parts.items
  pub size : a.size ≡ length (joined (texts_of a.parts.items))
  pub short : a.size ≤ a.limit
  pub fits : a.limit ≤ 4294967295
