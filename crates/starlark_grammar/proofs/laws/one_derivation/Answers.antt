use Rattle.starlark_grammar.proofs.Dead.{one_derivation}
use Rattle.starlark_grammar.proofs.laws.one_derivation.Goals as goal

pub returns : goal.returns
returns c = one_derivation
