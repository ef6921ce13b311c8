use Rattle.starlark_order.proofs.Outlines.{outline_ordered}
use Rattle.starlark_order.proofs.laws.ordered_outline.Goals as goal

pub returns : goal.returns
returns c = outline_ordered c.resolving_keeps_order.ensures.strict c.in_order.ensures.order c.firm_tokens.ensures.bytes c.firm_tokens.ensures.first
