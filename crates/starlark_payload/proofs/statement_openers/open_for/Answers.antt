use Rattle.std.proofs.Common.{ap, ◌∙◌}
use Rattle.starlark_ast.specs.View.{stmt_view}
use Rattle.starlark_payload.specs.Payloads.{stmt_payloads}
use Rattle.starlark_payload.specs.StatementWeights.{stmt_weight}
use Rattle.starlark_payload.proofs.StatementOpening.{For_payloads, For_view, For_weight}
use Rattle.starlark_payload.proofs.statement_openers.open_for.Goals as goal

pub returns-clause-kept : goal.returns-clause-kept
returns-clause-kept g c = ap stmt_view c.in-For.is ∙ For_view c.in-For.x

pub returns-clause-payloads : goal.returns-clause-payloads
returns-clause-payloads g c = ap stmt_payloads c.in-For.is ∙ For_payloads c.in-For.x

pub returns-clause-weight : goal.returns-clause-weight
returns-clause-weight g c = ap stmt_weight c.in-For.is ∙ For_weight c.in-For.x
