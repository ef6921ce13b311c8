use Rattle.std.proofs.Common.{◌∙◌, refl, sym, None}
use Rattle.starlark_clone.proofs.Made.{as_three}
use Rattle.starlark_clone.proofs.Stays.{statement_stays, stays}
use Rattle.starlark_ast.specs.StatementViews.{view-for}
use Rattle.starlark_ast.specs.Tree as tree
use Rattle.starlark_clone.proofs.clones_of_statements.ForPAstNoPayloadCloneTree.clone.Goals as goal

pub returns : goal.returns
returns c s =
    let parts = c.in_ok-var.ensures in
    view-for _ s
    ∙ as_three (λ x y a. tree.repeat x y a s) (parts.var ∙ stays (λ _. None) (λ _. refl) _) (parts.over ∙ stays (λ _. None) (λ _. refl) _) (parts.body ∙ statement_stays (λ _. None) (λ _. refl) _)
    ∙ sym (view-for _ s)
