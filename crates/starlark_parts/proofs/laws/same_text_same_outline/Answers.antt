use Rattle.starlark_parts.proofs.OneOutline.{same_outline}
use Rattle.starlark_parts.proofs.laws.same_text_same_outline.Goals as goal

pub returns : goal.returns
returns c = same_outline c.joined_outline.ensures c.one_outline.ensures
