use Rattle.std.proofs.Common.{◌∙◌}
use Rattle.starlark_ast.specs.Views.{expr_view-Lambda, view-lambda}
use Rattle.starlark_clone.proofs.kept.KeptMake.lambda.Goals as goal

pub returns : goal.returns
returns c s = expr_view-Lambda _ s ∙ view-lambda _ s
