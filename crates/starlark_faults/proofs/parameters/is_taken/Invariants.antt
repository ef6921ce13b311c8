use Rattle.std.proofs.Common.{◌≡◌, take, string_bytes}
use Rattle.starlark_ast.specs.View.{parameter_at, members}
use Rattle.starlark_rulebook.specs.Calls.{any}
use Rattle.starlark_rulebook.specs.Parameters as parameters
use Rattle.starlark_faults.proofs.parameters.is_taken.Given as goal

abbrev pub invariant-loop-x : goal.invariant-loop-x
invariant-loop-x g l = l.taken ≡ any (parameters.is_parameter (string_bytes l.name.node.ident)) (members parameter_at (take l.x-index l.params))
