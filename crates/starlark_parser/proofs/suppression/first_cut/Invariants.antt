use Rattle.std.proofs.Common.{◌≡◌, ◌<◌, ℕ, false, get_or}
use Rattle.starlark_parser.specs.Suppressions.{parts_names}
use Rattle.starlark_parser.proofs.suppression.first_cut.Given as goal

abbrev pub invariant-loop-i : goal.invariant-loop-i
invariant-loop-i l = (k : ℕ) → k < l.i → parts_names (get_or l.bytes k 0) ≡ false
