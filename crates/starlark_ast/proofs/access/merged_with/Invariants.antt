use Rattle.std.proofs.Common.{◌≡◌, take}
use Rattle.starlark_ast.specs.Access.{merged_with}
use Rattle.starlark_ast.proofs.access.merged_with.Given as goal

abbrev pub invariant-loop-x : goal.invariant-loop-x
invariant-loop-x g l = l.all ≡ merged_with l.fn.first (take l.x-index l.others)
