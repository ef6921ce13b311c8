use Rattle.std.proofs.Common.{◌≡◌, take, None}
use Rattle.starlark_ast.specs.View.{parameter_at, members}
use Rattle.starlark_rulebook.specs.Calls.{any}
use Rattle.starlark_rulebook.specs.Parameters as parameters
use Rattle.starlark_faults.proofs.parameters.each_fault.Given as goal

abbrev pub invariant-loop-i : goal.invariant-loop-i
invariant-loop-i g l = record {
  clean : parameters.parameters_fault (members parameter_at (take l.i l.params)) ≡ None;
  marks : l.kinds.mark ≡ any parameters.is_mark (members parameter_at (take l.i l.params));
  stars : l.kinds.starred ≡ any parameters.is_starred (members parameter_at (take l.i l.params));
  doubles : l.kinds.double_starred ≡ any parameters.is_double_starred (members parameter_at (take l.i l.params));
  optionals : l.kinds.optional ≡ any parameters.is_optional (members parameter_at (take l.i l.params));
}
