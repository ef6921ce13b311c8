use Rattle.starlark_grammar.proofs.NestedTrees.{tree_in}
use Rattle.starlark_grammar.proofs.laws.nested_places.Goals as goal

pub returns : goal.returns
returns c = tree_in
