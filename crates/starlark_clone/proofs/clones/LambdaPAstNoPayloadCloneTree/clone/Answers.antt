use Rattle.std.proofs.Common.{◌∙◌, refl, sym, None, ap₂}
use Rattle.starlark_clone.proofs.Stays.{members_stay, stays}
use Rattle.starlark_ast.specs.Tree as tree
use Rattle.starlark_ast.specs.Views.{view-lambda}
use Rattle.starlark_clone.proofs.clones.LambdaPAstNoPayloadCloneTree.clone.Goals as goal

pub returns : goal.returns
returns c s =
    let parts = c.in_ok-params.ensures in
    view-lambda _ s
    ∙ ap₂ (λ ms x. tree.lambda ms x s) (parts.params ∙ members_stay (λ _. None) (λ _. refl) _) (parts.body ∙ stays (λ _. None) (λ _. refl) _)
    ∙ sym (view-lambda _ s)
