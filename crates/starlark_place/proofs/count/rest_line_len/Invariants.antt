use Rattle.std.proofs.Common.{◌≡◌, ◌≤◌, ◌+◌, ◌-◌, not, length, drop}
use Rattle.std.specs.List.{prefix_len}
use Rattle.starlark_place.specs.Place.{is_feed}
use Rattle.starlark_place.proofs.count.rest_line_len.Given as goal

abbrev pub invariant-loop-end : goal.invariant-loop-end
invariant-loop-end l = (l.end + prefix_len (λ b. not (is_feed b)) (drop l.end l.rest) ≡ prefix_len (λ b. not (is_feed b)) l.rest) × (l.end ≤ length l.rest)

abbrev pub decreases-loop-end : goal.decreases-loop-end
decreases-loop-end l = length l.rest - l.end
