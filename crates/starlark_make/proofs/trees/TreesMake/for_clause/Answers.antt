use Rattle.std.proofs.Common.{ap, ap₂, ◌∙◌}
use Rattle.std.proofs.lemmas.Result.{IfOk-at_ok}
use Rattle.starlark_ast.specs.Tree as tree
use Rattle.starlark_ast.specs.View.{expr_at}
use Rattle.starlark_make.proofs.trees.TreesMake.for_clause.Goals as goal

pub returns : goal.returns
returns c = c.for_clause.ensures ∙ ap₂ tree.for_clause (IfOk-at_ok _ c.in_ok-var.ensures.0 c.target.ensures) (ap expr_at c.in_ok-var.ensures.1)
