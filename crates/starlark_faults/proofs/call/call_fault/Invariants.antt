use Rattle.std.proofs.Common.{◌≡◌, take, None}
use Rattle.starlark_ast.specs.View.{argument_at, members}
use Rattle.starlark_rulebook.specs.Calls as calls
use Rattle.starlark_faults.proofs.call.call_fault.Given as goal

abbrev pub invariant-loop-i : goal.invariant-loop-i
invariant-loop-i g l = record {
  clean : calls.first_call_fault (members argument_at (take l.i l.args)) ≡ None;
  others : l.kinds.other ≡ calls.any calls.is_other (members argument_at (take l.i l.args));
  stars : l.kinds.star ≡ calls.any calls.is_star (members argument_at (take l.i l.args));
  kwargs : l.kinds.kwargs ≡ calls.any calls.is_kwargs (members argument_at (take l.i l.args));
}
