use Rattle.starlark_grammar.proofs.Texts.{one_tree}
use Rattle.starlark_grammar.proofs.text_laws.one_tree.Goals as goal

pub returns : goal.returns
returns c = one_tree c.one_reading.ensures
