use mathlib.Core.Path.{fun_ext}
use Rattle.std.proofs.Common.{ap, ◌∙◌}
use Rattle.starlark_ast.specs.View.{stmt_view}
use Rattle.starlark_ast.specs.StatementViews.{stmt_view-Break, stmt_view-Continue, stmt_view-Pass}
use Rattle.starlark_payload.proofs.statement_openers.open_plain.Goals as goal

pub returns-in-Break-clause-kept : goal.returns-in-Break-clause-kept
returns-in-Break-clause-kept g c = ap stmt_view c.in-Break.is ∙ fun_ext (λ s. stmt_view-Break _ _ _ _ _ _ s)

pub returns-in-Continue-clause-kept : goal.returns-in-Continue-clause-kept
returns-in-Continue-clause-kept g c = ap stmt_view c.in-Continue.is ∙ fun_ext (λ s. stmt_view-Continue _ _ _ _ _ _ s)

pub returns-in-Pass-clause-kept : goal.returns-in-Pass-clause-kept
returns-in-Pass-clause-kept g c = ap stmt_view c.in-Pass.is ∙ fun_ext (λ s. stmt_view-Pass _ _ _ _ _ _ s)
