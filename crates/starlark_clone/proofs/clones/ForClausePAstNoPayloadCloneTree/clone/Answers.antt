use Rattle.std.proofs.Common.{◌∙◌, refl, None}
use Rattle.starlark_clone.proofs.Stays.{clause_stays}
use Rattle.starlark_clone.proofs.clones.ForClausePAstNoPayloadCloneTree.clone.Goals as goal

pub returns : goal.returns
returns c = c.in_ok-for_clause.ensures ∙ clause_stays (λ _. None) (λ _. refl) _
