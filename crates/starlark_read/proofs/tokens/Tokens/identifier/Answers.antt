use Rattle.starlark_read.proofs.Texts.{a_name}
use Rattle.starlark_read.proofs.tokens.Tokens.identifier.Goals as goal

pub returns : goal.returns
returns c = a_name _ _ _ c.text_of.ensures
