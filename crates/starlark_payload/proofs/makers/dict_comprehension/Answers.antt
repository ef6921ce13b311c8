use Rattle.starlark_payload.proofs.Opening.{DictComprehension_payloads, DictComprehension_view}
use Rattle.starlark_payload.proofs.makers.dict_comprehension.Goals as goal

pub returns-clause-kept : goal.returns-clause-kept
returns-clause-kept g c = DictComprehension_view c.args.x c.args.first c.args.rest

pub returns-clause-payloads : goal.returns-clause-payloads
returns-clause-payloads g c = DictComprehension_payloads c.args.x c.args.first c.args.rest
