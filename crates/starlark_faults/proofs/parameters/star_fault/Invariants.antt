use Rattle.std.proofs.Common.{◌≡◌, take, None}
use Rattle.starlark_ast.specs.View.{parameter_at, members}
use Rattle.starlark_rulebook.specs.Parameters as parameters
use Rattle.starlark_faults.proofs.parameters.star_fault.Given as goal

abbrev pub invariant-loop-x : goal.invariant-loop-x
invariant-loop-x g l = record {
  clean : parameters.unnamed_star (members parameter_at (take l.x-index l.params)) ≡ None;
  star : l.star ≡ parameters.ending_star (members parameter_at (take l.x-index l.params));
}
