use Rattle.std.proofs.Common.{◌∙◌, refl, None}
use Rattle.starlark_clone.proofs.Made.{as_three}
use Rattle.starlark_clone.proofs.MadeStatements.{maybe_type_same}
use Rattle.starlark_clone.proofs.Stays.{stays, type_stays}
use Rattle.starlark_ast.specs.Tree as tree
use Rattle.starlark_clone.proofs.clones_of_statements.AssignPAstNoPayloadCloneTree.clone.Goals as goal

pub returns : goal.returns
returns c s =
    let parts = c.in_ok-lhs.ensures in
    as_three (λ x a y. tree.assign x a None y s) (parts.lhs ∙ stays (λ _. None) (λ _. refl) _) (maybe_type_same _ ∙ parts.ty ∙ type_stays (λ _. None) (λ _. refl) _) (parts.rhs ∙ stays (λ _. None) (λ _. refl) _)
