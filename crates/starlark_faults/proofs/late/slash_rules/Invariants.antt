use Rattle.std.proofs.Common.{take}
use Rattle.starlark_ast.specs.View.{parameter_at, members}
use Rattle.starlark_rulebook.specs.Found.{Adds}
use Rattle.starlark_rulebook.specs.Late as late
use Rattle.starlark_faults.proofs.late.slash_rules.Given as goal

abbrev pub invariant-loop-x : goal.invariant-loop-x
invariant-loop-x g l = Adds l.fn.out.items (late.slash_rules (members parameter_at (take l.x-index l.params))) l.out.items
