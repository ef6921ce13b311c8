use Rattle.starlark_rules.proofs.assign.with_target.Goals as goal

pub returns-in-Ok-pushed-clause-more : goal.returns-in-Ok-pushed-clause-more
returns-in-Ok-pushed-clause-more c = (c.in-Ok.x, c.in-Ok.is, c.in-Ok-pushed.ensures.items)
