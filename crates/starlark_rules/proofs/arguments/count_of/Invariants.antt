use Rattle.std.proofs.Common.{◌≡◌, ◌+◌, ◌-◌, take, length, count_by}
use Rattle.starlark_ast.specs.View.{argument_at}
use Rattle.starlark_rules.specs.ArgumentKinds.{is_of}
use Rattle.starlark_rules.proofs.arguments.count_of.Given as goal

abbrev pub invariant-loop-x : goal.invariant-loop-x
invariant-loop-x g l = l.count ≡ count_by (λ x. is_of l.kind (argument_at x)) (take l.x-index l.args) + (length l.args - l.x-index)
