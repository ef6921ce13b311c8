use Rattle.starlark_completion.proofs.Refused.{refused_text}
use Rattle.starlark_completion.proofs.laws.refused_goes_on.Goals as goal

pub returns : goal.returns
returns c = refused_text c.can_go_on.ensures
