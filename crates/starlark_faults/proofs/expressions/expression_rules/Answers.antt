use Rattle.std.proofs.Common.{rules}
use Rattle.starlark_faults.proofs.Visiting.{ok_on}
use Rattle.starlark_faults.proofs.expressions.expression_rules.Goals as goal

pub returns : goal.returns
returns g c = ok_on c.every.result (λ e. record { all = search rules }) c.every.ensures.found
