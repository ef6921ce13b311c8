use Rattle.std.proofs.Common.{◌≡◌, ◌+◌, ◌-◌, ◌≤◌, length, drop}
use Rattle.starlark_lexer.specs.Scan.{kept}
use Rattle.starlark_lexer.proofs.layout.kept.Given as goal

abbrev pub invariant-loop-end : goal.invariant-loop-end
invariant-loop-end l = (l.end + kept (drop l.end l.widths) l.width ≡ kept l.widths l.width) × (l.end ≤ length l.widths)

abbrev pub decreases-loop-end : goal.decreases-loop-end
decreases-loop-end l = length l.widths - l.end
