use Rattle.std.proofs.Common.{◌≡◌, ◌+◌, take, map, count_by, nat_lt}
use Rattle.starlark_ast.specs.View.{parameter_at, members}
use Rattle.starlark_rulebook.specs.Calls.{any}
use Rattle.starlark_rulebook.specs.Parameters as parameters
use Rattle.starlark_rules.specs.ParameterKinds as kinds
use Rattle.starlark_rules.specs.Named.{lent_param}
use Rattle.starlark_rules.proofs.def.named_params.Given as goal

abbrev pub invariant-loop-x : goal.invariant-loop-x
invariant-loop-x g l = record {
  made : map lent_param l.out.items ≡ kinds.params_before (nat_lt 0 l.slashes) (members parameter_at (take l.x-index l.params));
  left : l.slashes + count_by (λ x. parameters.is_slash (parameter_at x)) (take l.x-index l.params) ≡ count_by (λ x. parameters.is_slash (parameter_at x)) l.params;
  behind : l.behind_args ≡ any kinds.is_args (members parameter_at (take l.x-index l.params));
}
