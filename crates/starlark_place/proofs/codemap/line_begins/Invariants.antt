use Rattle.std.proofs.Common.{◌≡◌, ◌≤◌, ◌-◌, ◌++◌, length, drop}
use Rattle.starlark_place.specs.Lines.{behind_feeds, line_begins}
use Rattle.starlark_place.proofs.codemap.line_begins.Given as goal

abbrev pub invariant-loop-at : goal.invariant-loop-at
invariant-loop-at l = (l.begins.items ++ behind_feeds l.at (drop l.at l.text) ≡ line_begins l.text) × (l.at ≤ length l.text)

abbrev pub decreases-loop-at : goal.decreases-loop-at
decreases-loop-at l = length l.text - l.at
