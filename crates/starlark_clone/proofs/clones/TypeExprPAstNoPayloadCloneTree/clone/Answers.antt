use Rattle.std.proofs.Common.{◌∙◌, refl, None}
use Rattle.starlark_clone.proofs.Stays.{type_stays}
use Rattle.starlark_clone.proofs.clones.TypeExprPAstNoPayloadCloneTree.clone.Goals as goal

pub returns : goal.returns
returns c s = c.in_ok-annotation.ensures s ∙ type_stays (λ _. None) (λ _. refl) _
