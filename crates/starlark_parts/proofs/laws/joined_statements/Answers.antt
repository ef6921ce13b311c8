use Rattle.starlark_parts.proofs.JoinedTops.{joined_tops}
use Rattle.starlark_parts.proofs.laws.joined_statements.Goals as goal

pub returns : goal.returns
returns c = λ dialect texts xs. joined_tops c.joined_trees.ensures dialect 0 texts xs
