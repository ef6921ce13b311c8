use Rattle.starlark_grammar.proofs.Longer.{ended_unless_longer}
use Rattle.starlark_grammar.proofs.NotLonger.{ended_not_longer}
use Rattle.starlark_grammar.proofs.laws.ended_or_longer.Goals as goal

pub returns-clause-ended : goal.returns-clause-ended
returns-clause-ended c = ended_unless_longer

pub returns-clause-longer : goal.returns-clause-longer
returns-clause-longer c = ended_not_longer
