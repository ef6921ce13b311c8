use Rattle.starlark_completion.proofs.Ended.{viable_block}
use Rattle.starlark_completion.proofs.laws.behind_dedent.Goals as goal

pub returns : goal.returns
returns c = viable_block (record { sound = c.sound.ensures; complete = c.complete.ensures.accepts; completes = c.goes_on.ensures; stuck_at_dead = c.stuck_at_dead.ensures })
