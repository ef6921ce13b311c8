use Rattle.std.proofs.Common.{◌∙◌, ap, refl, sym, None}
use Rattle.starlark_clone.proofs.Stays.{members_stay}
use Rattle.starlark_ast.specs.View.{argument_at, members}
use Rattle.starlark_ast.specs.Views.{view-args}
use Rattle.starlark_clone.proofs.clones.CallArgsPAstNoPayloadCloneTree.clone.Goals as goal

pub returns : goal.returns
returns c = view-args _ ∙ c.in_ok-args.ensures ∙ members_stay (λ _. None) (λ _. refl) _ ∙ ap (λ q. members argument_at q) c.deref.ensures.value ∙ sym (view-args _)
