use Rattle.std.proofs.Common.{ap, ◌∙◌}
use Rattle.starlark_ast.specs.View.{stmt_view}
use Rattle.starlark_payload.specs.Payloads.{stmt_payloads}
use Rattle.starlark_payload.specs.StatementWeights.{stmt_weight}
use Rattle.starlark_payload.proofs.StatementOpening.{Statements_payloads, Statements_view, Statements_weight}
use Rattle.starlark_payload.proofs.statement_openers.open_statements.Goals as goal

pub returns-clause-kept : goal.returns-clause-kept
returns-clause-kept g c = ap stmt_view c.in-Statements.is ∙ Statements_view c.in-Statements.xs

pub returns-clause-payloads : goal.returns-clause-payloads
returns-clause-payloads g c = ap stmt_payloads c.in-Statements.is ∙ Statements_payloads c.in-Statements.xs

pub returns-clause-weight : goal.returns-clause-weight
returns-clause-weight g c = ap stmt_weight c.in-Statements.is ∙ Statements_weight c.in-Statements.xs
