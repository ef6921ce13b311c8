use Rattle.starlark_completion.proofs.Ended.{viable_line}
use Rattle.starlark_completion.proofs.laws.before_dedent.Goals as goal

pub returns : goal.returns
returns c dialect w z q v = viable_line (record { sound = c.sound.ensures; complete = c.complete.ensures.accepts; completes = c.goes_on.ensures; stuck_at_dead = c.stuck_at_dead.ensures }) dialect w z q v
