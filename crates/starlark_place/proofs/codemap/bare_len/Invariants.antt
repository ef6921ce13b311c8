use Rattle.std.proofs.Common.{◌≡◌, ◌+◌, ◌≤◌, ◌<◌, length, take, get_or}
use Rattle.std.specs.List.{suffix_len}
use Rattle.starlark_place.specs.Place.{ends_line}
use Rattle.starlark_place.proofs.codemap.bare_len.Given as goal

abbrev pub invariant-loop-end : goal.invariant-loop-end
invariant-loop-end l =
    (l.end ≤ length l.bytes) × (l.end + suffix_len ends_line l.bytes ≡ length l.bytes + suffix_len ends_line (take l.end l.bytes)) × (l.end < length l.bytes → get_or l.bytes l.end 0 < 128)

abbrev pub decreases-loop-end : goal.decreases-loop-end
decreases-loop-end l = l.end
