use Rattle.std.proofs.Common.{◌≡◌, ◌+◌, ◌-◌, ◌≤◌, length, drop}
use Rattle.std.specs.List.{prefix_len}
use Rattle.starlark_lexer.specs.Literals.{continues}
use Rattle.starlark_lexer.specs.Reads.{Grows}
use Rattle.starlark_lexer.proofs.escape.continuations.Given as goal

abbrev pub invariant-loop-end : goal.invariant-loop-end
invariant-loop-end l = (l.end + prefix_len continues (drop l.end l.bytes) ≡ prefix_len continues l.bytes) × ((l.end ≤ length l.bytes) × ((l.reads ≤ l.initial.reads + l.end) × (Grows l.initial.reads l.end l.reads)))

abbrev pub decreases-loop-end : goal.decreases-loop-end
decreases-loop-end l = length l.bytes - l.end
