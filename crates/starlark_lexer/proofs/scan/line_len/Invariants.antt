use Rattle.std.proofs.Common.{◌≡◌, ◌+◌, ◌-◌, ◌*◌, ◌≤◌, length, drop}
use Rattle.starlark_lexer.specs.Classes.{line_len}
use Rattle.starlark_lexer.specs.Reads.{Grows}
use Rattle.starlark_lexer.proofs.scan.line_len.Given as goal

abbrev pub invariant-loop-end : goal.invariant-loop-end
invariant-loop-end l = (l.end + line_len (drop l.end l.bytes) ≡ line_len l.bytes) × ((l.end ≤ length l.bytes) × ((l.reads ≤ l.initial.reads + 2 * l.end) × Grows l.initial.reads l.end l.reads))

abbrev pub decreases-loop-end : goal.decreases-loop-end
decreases-loop-end l = length l.bytes - l.end
