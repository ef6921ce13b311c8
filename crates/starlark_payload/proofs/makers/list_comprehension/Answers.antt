use Rattle.starlark_payload.proofs.Opening.{ListComprehension_payloads, ListComprehension_view}
use Rattle.starlark_payload.proofs.makers.list_comprehension.Goals as goal

pub returns-clause-kept : goal.returns-clause-kept
returns-clause-kept g c = ListComprehension_view c.args.x c.args.first c.args.rest

pub returns-clause-payloads : goal.returns-clause-payloads
returns-clause-payloads g c = ListComprehension_payloads c.args.x c.args.first c.args.rest
