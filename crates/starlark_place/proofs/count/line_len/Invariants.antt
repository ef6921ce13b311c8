use Rattle.std.proofs.Common.{◌≡◌, ◌≤◌, ◌+◌, ◌-◌, not, length, drop}
use Rattle.std.specs.List.{prefix_len}
use Rattle.starlark_place.specs.Place.{is_feed}
use Rattle.starlark_place.proofs.count.line_len.Given as goal

abbrev pub invariant-loop-at : goal.invariant-loop-at
invariant-loop-at l = (l.at + prefix_len (λ b. not (is_feed b)) (drop l.at l.text) ≡ prefix_len (λ b. not (is_feed b)) l.text) × (l.at ≤ length l.text)

abbrev pub decreases-loop-at : goal.decreases-loop-at
decreases-loop-at l = length l.text - l.at
