use Rattle.starlark_grammar.proofs.Closing.{completion_ends}
use Rattle.starlark_grammar.proofs.laws.goes_on.Goals as goal

pub returns : goal.returns
returns c = λ s. let h = completion_ends s in (h.raw, h.ends)
