use Rattle.std.proofs.Common.{◌≡◌, ◌+◌, ◌-◌, ◌≤◌, length, drop, eqb}
use Rattle.std.specs.List.{prefix_len}
use Rattle.starlark_lexer.proofs.number.zeros.Given as goal

abbrev pub invariant-loop-end : goal.invariant-loop-end
invariant-loop-end l = (l.end + prefix_len (λ d. eqb d 48) (drop l.end l.digits) ≡ prefix_len (λ d. eqb d 48) l.digits) × (l.end ≤ length l.digits)

abbrev pub decreases-loop-end : goal.decreases-loop-end
decreases-loop-end l = length l.digits - l.end
