use Rattle.std.proofs.Common.{sym, ap, ◌∙◌, map}
use Rattle.starlark_ast.specs.View.{expr_view}
use Rattle.starlark_payload.specs.Around.{many_view}
use Rattle.starlark_payload.proofs.Opening.{FString_payloads, FString_view, List_payloads, List_view, Tuple_payloads, Tuple_view}
use Rattle.starlark_payload.proofs.makers.many.Goals as goal

pub returns-in-Tuple-clause-kept : goal.returns-in-Tuple-clause-kept
returns-in-Tuple-clause-kept g c = Tuple_view c.args.xs ∙ ap (λ q. many_view q (map (λ y. expr_view y.node y.span) c.args.xs.items)) (sym c.in-Tuple.is)

pub returns-in-Tuple-clause-payloads : goal.returns-in-Tuple-clause-payloads
returns-in-Tuple-clause-payloads g c = Tuple_payloads c.args.xs

pub returns-in-List-clause-kept : goal.returns-in-List-clause-kept
returns-in-List-clause-kept g c = List_view c.args.xs ∙ ap (λ q. many_view q (map (λ y. expr_view y.node y.span) c.args.xs.items)) (sym c.in-List.is)

pub returns-in-List-clause-payloads : goal.returns-in-List-clause-payloads
returns-in-List-clause-payloads g c = List_payloads c.args.xs

pub returns-in-FString-clause-kept : goal.returns-in-FString-clause-kept
returns-in-FString-clause-kept g c = FString_view _ ∙ ap (λ q. many_view q (map (λ y. expr_view y.node y.span) c.args.xs.items)) (sym c.in-FString.is)

pub returns-in-FString-clause-payloads : goal.returns-in-FString-clause-payloads
returns-in-FString-clause-payloads g c = FString_payloads _
