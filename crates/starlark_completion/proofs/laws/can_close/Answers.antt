use Rattle.starlark_completion.proofs.Closing.{line_closes, text_closes}
use Rattle.starlark_completion.proofs.laws.can_close.Goals as goal

pub returns-clause-line : goal.returns-clause-line
returns-clause-line c = line_closes (record { sound = c.sound.ensures; complete = c.complete.ensures.accepts; completes = c.goes_on.ensures; stuck_at_dead = c.stuck_at_dead.ensures })

pub returns-clause-text : goal.returns-clause-text
returns-clause-text c = text_closes (record { sound = c.sound.ensures; complete = c.complete.ensures.accepts; completes = c.goes_on.ensures; stuck_at_dead = c.stuck_at_dead.ensures })
