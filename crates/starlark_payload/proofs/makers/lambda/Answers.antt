use Rattle.starlark_payload.proofs.Opening.{Lambda_payloads, Lambda_view}
use Rattle.starlark_payload.proofs.makers.lambda.Goals as goal

pub returns-clause-kept : goal.returns-clause-kept
returns-clause-kept g c = Lambda_view _

pub returns-clause-payloads : goal.returns-clause-payloads
returns-clause-payloads g c = Lambda_payloads _
