use Rattle.starlark_lexer.proofs.Joined.{joined, joined_flat}
use Rattle.starlark_lexer.proofs.laws.joined_texts.Goals as goal

pub returns-clause-level : goal.returns-clause-level
returns-clause-level c = joined

pub returns-clause-flat : goal.returns-clause-flat
returns-clause-flat c = joined_flat
