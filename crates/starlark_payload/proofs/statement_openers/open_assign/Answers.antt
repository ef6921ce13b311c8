use Rattle.std.proofs.Common.{ap, ◌∙◌}
use Rattle.starlark_ast.specs.View.{stmt_view}
use Rattle.starlark_payload.specs.Payloads.{stmt_payloads}
use Rattle.starlark_payload.proofs.StatementOpening.{Assign_payloads, Assign_view}
use Rattle.starlark_payload.proofs.statement_openers.open_assign.Goals as goal

pub returns-clause-kept : goal.returns-clause-kept
returns-clause-kept g c = ap stmt_view c.in-Assign.is ∙ Assign_view c.in-Assign.x

pub returns-clause-payloads : goal.returns-clause-payloads
returns-clause-payloads g c = ap stmt_payloads c.in-Assign.is ∙ Assign_payloads c.in-Assign.x
