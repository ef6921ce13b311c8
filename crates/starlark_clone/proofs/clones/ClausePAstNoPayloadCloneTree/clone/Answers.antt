use Rattle.std.proofs.Common.{◌∙◌, refl, None}
use Rattle.starlark_clone.proofs.Stays.{clause_stays}
use Rattle.starlark_clone.proofs.clones.ClausePAstNoPayloadCloneTree.clone.Goals as goal

pub returns : goal.returns
returns c = c.in_ok-clause.ensures ∙ clause_stays (λ _. None) (λ _. refl) _
