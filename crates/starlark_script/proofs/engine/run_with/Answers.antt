use Rattle.starlark_script.proofs.Runs.{nothing_written}
use Rattle.starlark_script.proofs.engine.run_with.Goals as goal

pub returns-in-Err-clause-front : goal.returns-in-Err-clause-front
returns-in-Err-clause-front g c = nothing_written c.joined_outline.ensures _ _ _ _

pub returns-clause-ok : goal.returns-clause-ok
returns-clause-ok g c = rw (c.with_limit-parts.ensures.limit, c.with_limit-parts.ensures.dialect) at c.answer_all-end.ensures.ok

pub returns-clause-front : goal.returns-clause-front
returns-clause-front g c = rw (c.with_limit-parts.ensures.limit, c.with_limit-parts.ensures.dialect) at c.answer_all-end.ensures.front

pub returns-clause-whole : goal.returns-clause-whole
returns-clause-whole g c = rw (c.with_limit-parts.ensures.limit, c.with_limit-parts.ensures.dialect) at c.answer_all-end.ensures.whole
