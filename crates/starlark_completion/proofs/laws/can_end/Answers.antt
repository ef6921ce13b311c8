use Rattle.starlark_completion.proofs.Ended.{viable_ends}
use Rattle.starlark_completion.proofs.laws.can_end.Goals as goal

pub returns : goal.returns
returns c = viable_ends (record { sound = c.sound.ensures; complete = c.complete.ensures.accepts; completes = c.goes_on.ensures; stuck_at_dead = c.stuck_at_dead.ensures })
