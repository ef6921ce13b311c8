use Rattle.starlark_order.proofs.Staying.{stay}
use Rattle.starlark_order.proofs.laws.beginnings_stay.Goals as goal

pub returns : goal.returns
returns c = stay c.firm_trees.ensures
