use Rattle.starlark_payload.proofs.Opening.{Dict_payloads, Dict_view}
use Rattle.starlark_payload.proofs.makers.dict.Goals as goal

pub returns-clause-kept : goal.returns-clause-kept
returns-clause-kept g c = Dict_view _

pub returns-clause-payloads : goal.returns-clause-payloads
returns-clause-payloads g c = Dict_payloads _
