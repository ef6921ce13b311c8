use Rattle.std.proofs.Common.{◌≡◌, length}
use Rattle.starlark_parts.specs.Walk.{left}
use Rattle.starlark_parts.proofs.top.TopLevelIterator.next.Given as goal

abbrev pub invariant-loop-line : goal.invariant-loop-line
invariant-loop-line l = left l.self ≡ left l.initial.self

abbrev pub decreases-loop-line : goal.decreases-loop-line
decreases-loop-line l = length l.self.lines.now
