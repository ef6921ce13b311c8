use Rattle.std.proofs.Common.{◌≤◌, ◌-◌, length}
use Rattle.starlark_parts.specs.Cursor.{IsAt}
use Rattle.starlark_parts.proofs.cursor.reach.Given as goal

abbrev pub invariant-loop-cursor : goal.invariant-loop-cursor
invariant-loop-cursor l = IsAt l.text l.cursor × (l.cursor.place ≤ l.place)

abbrev pub decreases-loop-cursor : goal.decreases-loop-cursor
decreases-loop-cursor l = length l.text - l.cursor.place
