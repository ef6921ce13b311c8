use Rattle.std.proofs.Common.{◌≡◌, ◌+◌, ◌-◌, ◌≤◌, length, drop}
use Rattle.starlark_lexer.specs.Scan.{gap}
use Rattle.starlark_lexer.proofs.scan.gap.Given as goal

abbrev pub invariant-loop-reads : goal.invariant-loop-reads
invariant-loop-reads l = (l.end + gap l.joined 0 (drop l.end l.bytes) ≡ gap l.joined 0 l.bytes) × ((l.end ≤ length l.bytes) × ((l.reads ≤ l.initial.reads + l.end) × (l.initial.reads ≤ l.reads)))

abbrev pub decreases-loop-reads : goal.decreases-loop-reads
decreases-loop-reads l = length l.bytes - l.end
