use Rattle.starlark_grammar.proofs.Dead.{stuck_dead}
use Rattle.starlark_grammar.proofs.laws.stuck_at_dead.Goals as goal

pub returns : goal.returns
returns c = stuck_dead
