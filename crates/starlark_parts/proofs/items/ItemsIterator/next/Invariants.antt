use Rattle.std.proofs.Common.{◌≡◌, length}
use Rattle.starlark_parts.specs.Left.{AreFew, items_left}
use Rattle.starlark_parts.proofs.items.ItemsIterator.next.Given as goal

abbrev pub invariant-loop-self : goal.invariant-loop-self
invariant-loop-self l = record { few : AreFew l.self-inside; same : items_left l.self-inside ≡ items_left l.initial.self-inside }

abbrev pub decreases-loop-self : goal.decreases-loop-self
decreases-loop-self l = length l.self-inside.parts.now
