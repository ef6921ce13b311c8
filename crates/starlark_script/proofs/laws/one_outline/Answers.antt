use Rattle.starlark_script.proofs.laws.one_outline.Goals as goal

pub returns : goal.returns
returns c = c.one_outline.ensures
