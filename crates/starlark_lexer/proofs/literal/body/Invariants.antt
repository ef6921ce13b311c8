use Rattle.std.proofs.Common.{◌≡◌, ◌+◌, ◌-◌, ◌*◌, ◌≤◌, length, drop}
use Rattle.starlark_lexer.specs.Literals.{body, later}
use Rattle.starlark_lexer.specs.Reads.{Grows}
use Rattle.starlark_lexer.proofs.literal.body.Given as goal

abbrev pub invariant-loop-at : goal.invariant-loop-at
invariant-loop-at l = record {
  rest : later l.at (body l.form 0 (drop l.at l.bytes)) ≡ body l.form 0 l.bytes;
  within : l.at ≤ length l.bytes;
  paid : l.reads ≤ l.initial.reads + 8 * l.at;
  looked : Grows l.initial.reads l.at l.reads;
}

abbrev pub decreases-loop-at : goal.decreases-loop-at
decreases-loop-at l = length l.bytes - l.at
