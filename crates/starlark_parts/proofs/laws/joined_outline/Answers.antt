use Rattle.starlark_parts.proofs.JoinedOutlines as all
use Rattle.starlark_parts.proofs.laws.joined_outline.Goals as goal

pub returns : goal.returns
returns c = all.joined_outline c.joined_trees.ensures c.nested_places.ensures
