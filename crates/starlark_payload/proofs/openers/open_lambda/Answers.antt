use Rattle.std.proofs.Common.{ap, ◌∙◌}
use Rattle.starlark_ast.specs.View.{expr_view}
use Rattle.starlark_payload.specs.Payloads.{expr_payloads}
use Rattle.starlark_payload.specs.Weights.{expr_weight}
use Rattle.starlark_payload.proofs.Opening.{Lambda_payloads, Lambda_view, Lambda_weight}
use Rattle.starlark_payload.proofs.openers.open_lambda.Goals as goal

pub returns-clause-kept : goal.returns-clause-kept
returns-clause-kept g c = ap expr_view c.in-Lambda.is ∙ Lambda_view c.in-Lambda.x

pub returns-clause-payloads : goal.returns-clause-payloads
returns-clause-payloads g c = ap expr_payloads c.in-Lambda.is ∙ Lambda_payloads c.in-Lambda.x

pub returns-clause-weight : goal.returns-clause-weight
returns-clause-weight g c = ap expr_weight c.in-Lambda.is ∙ Lambda_weight c.in-Lambda.x
