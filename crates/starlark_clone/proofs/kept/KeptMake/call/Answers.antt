use Rattle.std.proofs.Common.{ap, ◌∙◌}
use Rattle.starlark_ast.specs.Tree as tree
use Rattle.starlark_ast.specs.View.{expr_at}
use Rattle.starlark_ast.specs.Views.{expr_view-Call, view-args}
use Rattle.starlark_clone.proofs.kept.KeptMake.call.Goals as goal

pub returns : goal.returns
returns c s = expr_view-Call c.args.x _ s ∙ ap (λ q. tree.call (expr_at c.args.x.value) q s) (view-args _)
