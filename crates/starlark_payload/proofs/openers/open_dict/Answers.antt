use Rattle.std.proofs.Common.{ap, ◌∙◌}
use Rattle.starlark_ast.specs.View.{expr_view}
use Rattle.starlark_payload.specs.Payloads.{expr_payloads}
use Rattle.starlark_payload.specs.Weights.{expr_weight}
use Rattle.starlark_payload.proofs.Opening.{Dict_payloads, Dict_view, Dict_weight}
use Rattle.starlark_payload.proofs.openers.open_dict.Goals as goal

pub returns-clause-kept : goal.returns-clause-kept
returns-clause-kept g c = ap expr_view c.in-Dict.is ∙ Dict_view c.in-Dict.xs

pub returns-clause-payloads : goal.returns-clause-payloads
returns-clause-payloads g c = ap expr_payloads c.in-Dict.is ∙ Dict_payloads c.in-Dict.xs

pub returns-clause-weight : goal.returns-clause-weight
returns-clause-weight g c = ap expr_weight c.in-Dict.is ∙ Dict_weight c.in-Dict.xs
