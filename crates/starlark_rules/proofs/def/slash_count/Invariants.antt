use Rattle.std.proofs.Common.{◌≡◌, ◌+◌, ◌-◌, take, length, count_by}
use Rattle.starlark_ast.specs.View.{parameter_at}
use Rattle.starlark_rulebook.specs.Parameters as parameters
use Rattle.starlark_rules.proofs.def.slash_count.Given as goal

abbrev pub invariant-loop-x : goal.invariant-loop-x
invariant-loop-x g l = l.count ≡ count_by (λ x. parameters.is_slash (parameter_at x)) (take l.x-index l.params) + (length l.params - l.x-index)
