use mathlib.Core.Path.{fun_ext}
use Rattle.std.proofs.Common.{ap, ◌∙◌}
use Rattle.starlark_ast.specs.View.{argument_view}
use Rattle.starlark_ast.specs.Views.{argument_view-Args, argument_view-KwArgs, argument_view-Named, argument_view-Positional}
use Rattle.starlark_payload.proofs.openers.open_argument.Goals as goal

pub returns-in-Positional-clause-kept : goal.returns-in-Positional-clause-kept
returns-in-Positional-clause-kept g c = ap argument_view c.in-Positional.is ∙ fun_ext (λ s. argument_view-Positional c.in-Positional.x s)

pub returns-in-Named-clause-kept : goal.returns-in-Named-clause-kept
returns-in-Named-clause-kept g c = ap argument_view c.in-Named.is ∙ fun_ext (λ s. argument_view-Named c.in-Named.name c.in-Named.x s)

pub returns-in-Args-clause-kept : goal.returns-in-Args-clause-kept
returns-in-Args-clause-kept g c = ap argument_view c.in-Args.is ∙ fun_ext (λ s. argument_view-Args c.in-Args.x s)

pub returns-in-KwArgs-clause-kept : goal.returns-in-KwArgs-clause-kept
returns-in-KwArgs-clause-kept g c = ap argument_view c.in-KwArgs.is ∙ fun_ext (λ s. argument_view-KwArgs c.in-KwArgs.x s)
