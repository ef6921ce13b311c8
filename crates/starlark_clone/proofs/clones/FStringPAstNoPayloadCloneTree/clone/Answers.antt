use Rattle.std.proofs.Common.{◌∙◌, refl, sym, None}
use Rattle.starlark_clone.proofs.Made.{as_three}
use Rattle.starlark_clone.proofs.Stays.{members_stay}
use Rattle.starlark_ast.specs.Tree as tree
use Rattle.starlark_ast.specs.Views.{view-fstring}
use Rattle.starlark_clone.proofs.clones.FStringPAstNoPayloadCloneTree.clone.Goals as goal

pub returns : goal.returns
returns c u s =
    let parts = c.in_ok-format.ensures in
    view-fstring _ u s
    ∙ as_three (λ b v q. tree.fstring b v q u s) parts.bytes parts.place (parts.fields ∙ members_stay (λ _. None) (λ _. refl) _)
    ∙ sym (view-fstring _ u s)
