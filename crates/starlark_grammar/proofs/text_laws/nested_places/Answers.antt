use Rattle.starlark_grammar.proofs.NestedTrees.{places_in}
use Rattle.starlark_grammar.proofs.text_laws.nested_places.Goals as goal

pub returns : goal.returns
returns c = places_in c.in_order.ensures.order
