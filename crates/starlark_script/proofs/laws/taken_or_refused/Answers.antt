use Rattle.starlark_script.proofs.EditLaws.{not_both, one_fault}
use Rattle.starlark_script.proofs.laws.taken_or_refused.Goals as goal

pub returns-clause-taken : goal.returns-clause-taken
returns-clause-taken c = λ dialect limit texts edit f. not_both dialect limit texts edit c.one_refusal.ensures.other f

pub returns-clause-one : goal.returns-clause-one
returns-clause-one c = λ dialect limit texts edit f g. one_fault dialect limit texts edit c.one_refusal.ensures.one c.one_refusal.ensures.other f g
