use Rattle.std.proofs.Common.{◌∙◌, refl, None}
use Rattle.starlark_clone.proofs.Moved.{same_anywhere}
use Rattle.starlark_clone.proofs.Stays.{stays}
use Rattle.starlark_clone.proofs.clones.ExprPAstNoPayloadCloneTree.clone.Goals as goal

pub returns : goal.returns
returns c s = same_anywhere _ _ _ (c.in_ok-expression.ensures ∙ stays (λ _. None) (λ _. refl) _) s
