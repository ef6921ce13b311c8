use Rattle.starlark_payload.proofs.Opening.{Slice_payloads, Slice_view}
use Rattle.starlark_payload.proofs.makers.slice.Goals as goal

pub returns-clause-kept : goal.returns-clause-kept
returns-clause-kept g c = Slice_view c.args.x c.args.a c.args.b c.args.c

pub returns-clause-payloads : goal.returns-clause-payloads
returns-clause-payloads g c = Slice_payloads c.args.x c.args.a c.args.b c.args.c
