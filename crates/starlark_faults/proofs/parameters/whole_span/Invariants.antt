use Rattle.std.proofs.Common.{◌≡◌, take, fold, None}
use Rattle.starlark_place.specs.Place.{merged_into}
use Rattle.starlark_ast.specs.View.{parameter_at, members}
use Rattle.starlark_rulebook.specs.Parameters as parameters
use Rattle.starlark_faults.proofs.parameters.whole_span.Given as goal

abbrev pub invariant-loop-x : goal.invariant-loop-x
invariant-loop-x g l = l.whole ≡ fold merged_into None (parameters.parameter_places (members parameter_at (take l.x-index l.params)))
