use Rattle.starlark_faults.proofs.Firsts.{first_in}
use Rattle.starlark_faults.proofs.kept.modify_fault.Goals as goal

pub returns : goal.returns
returns g c = first_in _ _ _ _ _ c.target_fault.ensures c.expression_fault.ensures c.first_of.ensures
