use Rattle.std.proofs.Common.{◌≡◌, take}
use Rattle.starlark_ast.specs.View.{parameter_at, members}
use Rattle.starlark_rules.specs.Tallies.{tally_of}
use Rattle.starlark_rules.proofs.def.indices.Given as goal

abbrev pub invariant-loop-x : goal.invariant-loop-x
invariant-loop-x g l = l.tally ≡ tally_of (members parameter_at (take l.x-index l.params))
