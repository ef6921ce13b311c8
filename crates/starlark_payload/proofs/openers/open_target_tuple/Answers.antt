use Rattle.std.proofs.Common.{ap, ◌∙◌}
use Rattle.starlark_ast.specs.View.{target_view}
use Rattle.starlark_payload.specs.Payloads.{target_payloads}
use Rattle.starlark_payload.specs.Weights.{target_weight}
use Rattle.starlark_payload.proofs.Opening.{Targets_payloads, Targets_view, Targets_weight}
use Rattle.starlark_payload.proofs.openers.open_target_tuple.Goals as goal

pub returns-clause-kept : goal.returns-clause-kept
returns-clause-kept g c = ap target_view c.in-Tuple.is ∙ Targets_view c.in-Tuple.xs

pub returns-clause-payloads : goal.returns-clause-payloads
returns-clause-payloads g c = ap target_payloads c.in-Tuple.is ∙ Targets_payloads c.in-Tuple.xs

pub returns-clause-weight : goal.returns-clause-weight
returns-clause-weight g c = ap target_weight c.in-Tuple.is ∙ Targets_weight c.in-Tuple.xs
