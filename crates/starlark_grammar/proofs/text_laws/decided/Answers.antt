use Rattle.starlark_grammar.proofs.Texts.{decided}
use Rattle.starlark_grammar.proofs.text_laws.decided.Goals as goal

pub returns : goal.returns
returns c = decided
