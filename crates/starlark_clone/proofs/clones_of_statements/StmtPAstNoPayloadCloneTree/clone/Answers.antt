use Rattle.std.proofs.Common.{◌∙◌, refl, None}
use Rattle.starlark_clone.proofs.Stays.{statement_stays}
use Rattle.starlark_clone.proofs.clones_of_statements.StmtPAstNoPayloadCloneTree.clone.Goals as goal

pub returns : goal.returns
returns c s = c.in_ok-statement.ensures s ∙ statement_stays (λ _. None) (λ _. refl) _
