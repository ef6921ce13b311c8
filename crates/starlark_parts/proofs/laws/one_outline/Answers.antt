use Rattle.starlark_parts.proofs.OneOutline as one
use Rattle.starlark_parts.proofs.laws.one_outline.Goals as goal

pub returns : goal.returns
returns c = one.one_outline c.one_tree.ensures
