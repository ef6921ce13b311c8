use Rattle.std.proofs.Common.{◌∙◌, refl, None}
use Rattle.starlark_clone.proofs.Stays.{stays}
use Rattle.starlark_clone.proofs.clones.AssignTargetPAstNoPayloadCloneTree.clone.Goals as goal

pub returns : goal.returns
returns c s = c.in_ok-target.ensures s ∙ stays (λ _. None) (λ _. refl) _
