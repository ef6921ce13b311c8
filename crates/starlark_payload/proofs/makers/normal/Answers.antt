use Rattle.starlark_payload.proofs.Opening.{Normal_payloads, Normal_view}
use Rattle.starlark_payload.proofs.makers.normal.Goals as goal

pub returns-clause-kept : goal.returns-clause-kept
returns-clause-kept g c = Normal_view c.args.name c.args.ty c.args.default

pub returns-clause-payloads : goal.returns-clause-payloads
returns-clause-payloads g c = Normal_payloads c.args.name c.args.ty c.args.default
