use Rattle.std.proofs.Common.{ap, ◌∙◌}
use Rattle.starlark_clone.proofs.MadeStatements.{type_same}
use Rattle.starlark_clone.specs.Copies.{members_by}
use Rattle.starlark_ast.specs.StatementViews.{stmt_view-Def, view-def}
use Rattle.starlark_ast.specs.Tree as tree
use Rattle.starlark_ast.specs.View.{ident_at, parameter_view, stmt_at}
use Rattle.starlark_clone.proofs.kept_statements.KeptMakeStatements.def_statement.Goals as goal

pub returns : goal.returns
returns c s = stmt_view-Def _ s ∙ view-def _ s ∙ ap (λ q. tree.define (ident_at c.args.name) (members_by parameter_view c.args.params.items) q (stmt_at c.args.body.value) s) (type_same c.args.return_type)
