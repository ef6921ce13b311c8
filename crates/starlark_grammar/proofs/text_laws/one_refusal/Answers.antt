use Rattle.starlark_grammar.proofs.Texts.{one_refusal, not_both}
use Rattle.starlark_grammar.proofs.text_laws.one_refusal.Goals as goal

pub returns-clause-one : goal.returns-clause-one
returns-clause-one c = one_refusal c.one_reading.ensures

pub returns-clause-other : goal.returns-clause-other
returns-clause-other c = not_both c.one_reading.ensures
