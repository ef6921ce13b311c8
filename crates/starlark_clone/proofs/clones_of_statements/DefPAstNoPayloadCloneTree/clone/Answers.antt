use Rattle.std.proofs.Common.{◌∙◌, refl, sym, None}
use Rattle.starlark_clone.proofs.MadeStatements.{as_four, type_same}
use Rattle.starlark_clone.proofs.Stays.{members_stay, statement_stays, type_stays}
use Rattle.starlark_ast.specs.StatementViews.{view-def}
use Rattle.starlark_ast.specs.Tree as tree
use Rattle.starlark_clone.proofs.clones_of_statements.DefPAstNoPayloadCloneTree.clone.Goals as goal

pub returns : goal.returns
returns c s =
    let parts = c.in_ok-name.ensures in
    view-def _ s
    ∙ as_four (λ n ps a b. tree.define n ps a b s) parts.name (parts.params ∙ members_stay (λ _. None) (λ _. refl) _) (type_same _ ∙ parts.ty ∙ type_stays (λ _. None) (λ _. refl) _) (parts.body ∙ statement_stays (λ _. None) (λ _. refl) _)
    ∙ sym (view-def _ s)
