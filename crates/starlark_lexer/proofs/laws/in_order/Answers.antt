use Rattle.starlark_lexer.proofs.Ordered.{ordered, few_items}
use Rattle.starlark_lexer.proofs.laws.in_order.Goals as goal

pub returns-clause-order : goal.returns-clause-order
returns-clause-order c = ordered

pub returns-clause-few : goal.returns-clause-few
returns-clause-few c = few_items
