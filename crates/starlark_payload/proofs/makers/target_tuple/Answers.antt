use Rattle.starlark_payload.proofs.Opening.{Targets_payloads, Targets_view}
use Rattle.starlark_payload.proofs.makers.target_tuple.Goals as goal

pub returns-clause-kept : goal.returns-clause-kept
returns-clause-kept g c = Targets_view _

pub returns-clause-payloads : goal.returns-clause-payloads
returns-clause-payloads g c = Targets_payloads _
