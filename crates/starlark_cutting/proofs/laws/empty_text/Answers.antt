use Rattle.starlark_cutting.proofs.KeptSpelled as spelled
use Rattle.starlark_cutting.proofs.laws.empty_text.Goals as goal

pub returns : goal.returns
returns c = spelled.empty_text
