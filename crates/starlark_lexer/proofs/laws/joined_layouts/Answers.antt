use Rattle.starlark_lexer.proofs.JoinedLayouts.{joined_dedents}
use Rattle.starlark_lexer.proofs.laws.joined_layouts.Goals as goal

pub returns : goal.returns
returns c = joined_dedents
