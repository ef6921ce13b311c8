use Rattle.std.proofs.Common.{ap, ◌∙◌}
use Rattle.starlark_ast.specs.View.{parameter_view}
use Rattle.starlark_payload.specs.Payloads.{parameter_payloads}
use Rattle.starlark_payload.specs.Weights.{parameter_weight}
use Rattle.starlark_payload.proofs.Opening.{Normal_payloads, Normal_view, Normal_weight}
use Rattle.starlark_payload.proofs.openers.open_normal.Goals as goal

pub returns-clause-kept : goal.returns-clause-kept
returns-clause-kept g c = ap parameter_view c.in-Normal.is ∙ Normal_view c.in-Normal.name c.in-Normal.ty c.in-Normal.default

pub returns-clause-payloads : goal.returns-clause-payloads
returns-clause-payloads g c = ap parameter_payloads c.in-Normal.is ∙ Normal_payloads c.in-Normal.name c.in-Normal.ty c.in-Normal.default

pub returns-clause-weight : goal.returns-clause-weight
returns-clause-weight g c = ap parameter_weight c.in-Normal.is ∙ Normal_weight c.in-Normal.name c.in-Normal.ty c.in-Normal.default
