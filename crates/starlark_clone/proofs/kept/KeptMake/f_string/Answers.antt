use Rattle.std.proofs.Common.{◌∙◌}
use Rattle.starlark_ast.specs.Views.{expr_view-FString, view-fstring}
use Rattle.starlark_clone.proofs.kept.KeptMake.f_string.Goals as goal

pub returns : goal.returns
returns c s = expr_view-FString _ s ∙ view-fstring _ _ s
