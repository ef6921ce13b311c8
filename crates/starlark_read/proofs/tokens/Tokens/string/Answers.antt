use Rattle.starlark_read.proofs.Texts.{a_string}
use Rattle.starlark_read.proofs.tokens.Tokens.string.Goals as goal

pub returns : goal.returns
returns c = a_string _ _ _ c.text_of.ensures
