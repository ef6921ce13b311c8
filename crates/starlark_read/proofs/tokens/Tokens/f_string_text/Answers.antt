use Rattle.starlark_read.proofs.Texts.{a_text}
use Rattle.starlark_read.proofs.tokens.Tokens.f_string_text.Goals as goal

pub returns : goal.returns
returns c = a_text _ _ _ c.text_of.ensures
