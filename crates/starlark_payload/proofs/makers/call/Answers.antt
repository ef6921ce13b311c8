use Rattle.starlark_payload.proofs.Opening.{Call_payloads, Call_view}
use Rattle.starlark_payload.proofs.makers.call.Goals as goal

pub returns-clause-kept : goal.returns-clause-kept
returns-clause-kept g c = Call_view c.args.x _

pub returns-clause-payloads : goal.returns-clause-payloads
returns-clause-payloads g c = Call_payloads c.args.x _
