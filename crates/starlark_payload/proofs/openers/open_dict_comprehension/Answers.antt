use Rattle.std.proofs.Common.{ap, ◌∙◌}
use Rattle.starlark_ast.specs.View.{expr_view}
use Rattle.starlark_payload.specs.Payloads.{expr_payloads}
use Rattle.starlark_payload.specs.Weights.{expr_weight}
use Rattle.starlark_payload.proofs.Opening.{DictComprehension_payloads, DictComprehension_view, DictComprehension_weight}
use Rattle.starlark_payload.proofs.openers.open_dict_comprehension.Goals as goal

pub returns-clause-kept : goal.returns-clause-kept
returns-clause-kept g c = ap expr_view c.in-DictComprehension.is ∙ DictComprehension_view c.in-DictComprehension.x c.in-DictComprehension.first c.in-DictComprehension.rest

pub returns-clause-payloads : goal.returns-clause-payloads
returns-clause-payloads g c = ap expr_payloads c.in-DictComprehension.is ∙ DictComprehension_payloads c.in-DictComprehension.x c.in-DictComprehension.first c.in-DictComprehension.rest

pub returns-clause-weight : goal.returns-clause-weight
returns-clause-weight g c = ap expr_weight c.in-DictComprehension.is ∙ DictComprehension_weight c.in-DictComprehension.x c.in-DictComprehension.first c.in-DictComprehension.rest
