use Rattle.starlark_grammar.proofs.Complete.{complete}
use Rattle.starlark_grammar.proofs.laws.complete.Goals as goal

pub returns-clause-accepts : goal.returns-clause-accepts
returns-clause-accepts c = λ u raw d. (complete u raw d).0

pub returns-clause-meets : goal.returns-clause-meets
returns-clause-meets c = λ u raw d. (complete u raw d).1
