use Rattle.starlark_order.proofs.Staying.{tree_early}
use Rattle.starlark_order.proofs.laws.firm_trees.Goals as goal

pub returns : goal.returns
returns c = tree_early c.in_order.ensures.order c.firm_tokens.ensures.bytes
