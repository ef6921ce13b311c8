use Rattle.starlark_parts.proofs.SameLines as same
use Rattle.starlark_parts.proofs.laws.same_lines.Goals as goal

pub returns : goal.returns
returns c = same.same_lines c.joined_outline.ensures
