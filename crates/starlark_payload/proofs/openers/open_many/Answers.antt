use Rattle.std.proofs.Common.{ap, ◌∙◌}
use Rattle.starlark_ast.specs.View.{expr_view}
use Rattle.starlark_payload.specs.Payloads.{expr_payloads}
use Rattle.starlark_payload.specs.Weights.{expr_weight}
use Rattle.starlark_payload.proofs.Opening.{FString_payloads, FString_view, FString_weight, List_payloads, List_view, List_weight, Tuple_payloads, Tuple_view, Tuple_weight}
use Rattle.starlark_payload.proofs.openers.open_many.Goals as goal

pub returns-in-Tuple-clause-kept : goal.returns-in-Tuple-clause-kept
returns-in-Tuple-clause-kept g c = ap expr_view c.in-Tuple.is ∙ Tuple_view c.in-Tuple.xs

pub returns-in-Tuple-clause-payloads : goal.returns-in-Tuple-clause-payloads
returns-in-Tuple-clause-payloads g c = ap expr_payloads c.in-Tuple.is ∙ Tuple_payloads c.in-Tuple.xs

pub returns-in-Tuple-clause-weight : goal.returns-in-Tuple-clause-weight
returns-in-Tuple-clause-weight g c = ap expr_weight c.in-Tuple.is ∙ Tuple_weight c.in-Tuple.xs

pub returns-in-List-clause-kept : goal.returns-in-List-clause-kept
returns-in-List-clause-kept g c = ap expr_view c.in-List.is ∙ List_view c.in-List.xs

pub returns-in-List-clause-payloads : goal.returns-in-List-clause-payloads
returns-in-List-clause-payloads g c = ap expr_payloads c.in-List.is ∙ List_payloads c.in-List.xs

pub returns-in-List-clause-weight : goal.returns-in-List-clause-weight
returns-in-List-clause-weight g c = ap expr_weight c.in-List.is ∙ List_weight c.in-List.xs

pub returns-in-FString-clause-kept : goal.returns-in-FString-clause-kept
returns-in-FString-clause-kept g c = ap expr_view c.in-FString.is ∙ FString_view c.in-FString.x

pub returns-in-FString-clause-payloads : goal.returns-in-FString-clause-payloads
returns-in-FString-clause-payloads g c = ap expr_payloads c.in-FString.is ∙ FString_payloads c.in-FString.x

pub returns-in-FString-clause-weight : goal.returns-in-FString-clause-weight
returns-in-FString-clause-weight g c = ap expr_weight c.in-FString.is ∙ FString_weight c.in-FString.x
