use Rattle.starlark_parts.proofs.Flat.{are_worded, flat}
use Rattle.starlark_parts.proofs.laws.good_trees.Goals as goal

pub returns-clause-flat : goal.returns-clause-flat
returns-clause-flat c = λ dialect text tree l. flat l.program.derives

pub returns-clause-worded : goal.returns-clause-worded
returns-clause-worded c = λ dialect text tree l. are_worded dialect tree l.program.sound
