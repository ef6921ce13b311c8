use Rattle.std.proofs.Common.{◌≡◌, take, None}
use Rattle.starlark_ast.specs.View.{argument_at}
use Rattle.starlark_rules.specs.ArgumentKinds.{is_of}
use Rattle.starlark_rules.specs.Unpacked.{first_that}
use Rattle.starlark_rules.proofs.arguments.first_with.Given as goal

abbrev pub invariant-loop-x : goal.invariant-loop-x
invariant-loop-x g l = first_that (λ x. is_of l.kind (argument_at x)) (take l.x-index l.args) ≡ None
