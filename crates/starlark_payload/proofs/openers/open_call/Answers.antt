use Rattle.std.proofs.Common.{ap, ◌∙◌}
use Rattle.starlark_ast.specs.View.{expr_view}
use Rattle.starlark_payload.specs.Payloads.{expr_payloads}
use Rattle.starlark_payload.specs.Weights.{expr_weight}
use Rattle.starlark_payload.proofs.Opening.{Call_payloads, Call_view, Call_weight}
use Rattle.starlark_payload.proofs.openers.open_call.Goals as goal

pub returns-clause-kept : goal.returns-clause-kept
returns-clause-kept g c = ap expr_view c.in-Call.is ∙ Call_view c.in-Call.x c.in-Call.args

pub returns-clause-payloads : goal.returns-clause-payloads
returns-clause-payloads g c = ap expr_payloads c.in-Call.is ∙ Call_payloads c.in-Call.x c.in-Call.args

pub returns-clause-weight : goal.returns-clause-weight
returns-clause-weight g c = ap expr_weight c.in-Call.is ∙ Call_weight c.in-Call.x c.in-Call.args
