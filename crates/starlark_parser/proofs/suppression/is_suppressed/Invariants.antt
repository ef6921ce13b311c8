use Rattle.std.proofs.Common.{◌≡◌, drop}
use Rattle.starlark_parser.specs.Suppressions.{is_suppressed}
use Rattle.starlark_parser.specs.Tallies.{IsSound, still_suppressed}
use Rattle.starlark_parser.proofs.suppression.is_suppressed.Given as goal

abbrev pub invariant-loop-i : goal.invariant-loop-i
invariant-loop-i l = record {
  sound : IsSound l.codemap.source l.block;
  left : is_suppressed l.codemap.source l.comments l.joined l.name l.finding ≡ still_suppressed l.codemap.source l.name l.finding l.block (drop l.i l.comments) (drop l.i l.joined);
}
