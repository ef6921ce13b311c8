use Rattle.std.proofs.Common.{◌≡◌, take}
use Rattle.starlark_ast.specs.View.{argument_at, members}
use Rattle.starlark_rulebook.specs.Calls as calls
use Rattle.starlark_faults.proofs.call.is_named.Given as goal

abbrev pub invariant-loop-x : goal.invariant-loop-x
invariant-loop-x g l = l.found ≡ calls.any (calls.has_name l.name) (members argument_at (take l.x-index l.args))
