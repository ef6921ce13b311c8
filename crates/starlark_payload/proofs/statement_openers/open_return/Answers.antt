use Rattle.std.proofs.Common.{ap, ◌∙◌}
use Rattle.starlark_ast.specs.View.{stmt_view}
use Rattle.starlark_payload.specs.Payloads.{stmt_payloads}
use Rattle.starlark_payload.proofs.StatementOpening.{Return_payloads, Return_view}
use Rattle.starlark_payload.proofs.statement_openers.open_return.Goals as goal

pub returns-clause-kept : goal.returns-clause-kept
returns-clause-kept g c = ap stmt_view c.in-Return.is ∙ Return_view c.in-Return.x

pub returns-clause-payloads : goal.returns-clause-payloads
returns-clause-payloads g c = ap stmt_payloads c.in-Return.is ∙ Return_payloads c.in-Return.x
