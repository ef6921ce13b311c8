use Rattle.std.proofs.Common.{◌≡◌, ◌≤◌, ◌-◌, eqb, length, take}
use Rattle.std.specs.List.{count_by}
use Rattle.starlark_place.proofs.count.byte_count.Given as goal

abbrev pub invariant-loop-at : goal.invariant-loop-at
invariant-loop-at l = (l.at ≤ length l.text) × (l.count ≡ count_by (λ b. eqb b l.byte) (take l.at l.text))

abbrev pub decreases-loop-at : goal.decreases-loop-at
decreases-loop-at l = length l.text - l.at
