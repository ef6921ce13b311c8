use Rattle.std.proofs.Common.{ap, ◌∙◌}
use Rattle.starlark_ast.specs.View.{expr_view}
use Rattle.starlark_payload.specs.Payloads.{expr_payloads}
use Rattle.starlark_payload.specs.Weights.{expr_weight}
use Rattle.starlark_payload.proofs.Opening.{ListComprehension_payloads, ListComprehension_view, ListComprehension_weight}
use Rattle.starlark_payload.proofs.openers.open_list_comprehension.Goals as goal

pub returns-clause-kept : goal.returns-clause-kept
returns-clause-kept g c = ap expr_view c.in-ListComprehension.is ∙ ListComprehension_view c.in-ListComprehension.x c.in-ListComprehension.first c.in-ListComprehension.rest

pub returns-clause-payloads : goal.returns-clause-payloads
returns-clause-payloads g c = ap expr_payloads c.in-ListComprehension.is ∙ ListComprehension_payloads c.in-ListComprehension.x c.in-ListComprehension.first c.in-ListComprehension.rest

pub returns-clause-weight : goal.returns-clause-weight
returns-clause-weight g c = ap expr_weight c.in-ListComprehension.is ∙ ListComprehension_weight c.in-ListComprehension.x c.in-ListComprehension.first c.in-ListComprehension.rest
