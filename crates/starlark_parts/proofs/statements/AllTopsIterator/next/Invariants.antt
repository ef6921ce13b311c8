use Rattle.std.proofs.Common.{◌≡◌, length}
use Rattle.starlark_parts.specs.Left.{tops_left}
use Rattle.starlark_parts.proofs.statements.AllTopsIterator.next.Given as goal

abbrev pub invariant-loop-statement : goal.invariant-loop-statement
invariant-loop-statement l = tops_left l.self ≡ tops_left l.initial.self

abbrev pub decreases-loop-statement : goal.decreases-loop-statement
decreases-loop-statement l = length l.self.parts.now
