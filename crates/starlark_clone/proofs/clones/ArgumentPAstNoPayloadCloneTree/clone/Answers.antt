use Rattle.std.proofs.Common.{◌∙◌, refl, None}
use Rattle.starlark_clone.proofs.Stays.{member_stays}
use Rattle.starlark_clone.proofs.clones.ArgumentPAstNoPayloadCloneTree.clone.Goals as goal

pub returns : goal.returns
returns c s = c.in_ok-argument.ensures s ∙ member_stays (λ _. None) (λ _. refl) _
