use Rattle.std.proofs.Common.{rules, sym, ap, ◌∙◌, [], ◌∷◌, ◌++◌, flat_map}
use Rattle.starlark_ast.specs.Calls.{lent}
use Rattle.starlark_visit.proofs.Children.{children-signed}
use Rattle.starlark_visit.proofs.GoesOn.{out_err}
use Rattle.starlark_visit.proofs.Taking.{first_taken, front_taken, next_taken, rest_taken, takes_at}
use Rattle.starlark_visit.proofs.Until.{until_ok, until_err, until_at, until_then, until_stop}
use Rattle.starlark_ast.specs.Places.{children, expr_layer, maybe_place, parameter_places, pair_places, for_clause_places, clause_places}
use Rattle.starlark_ast.specs.declared.ast.ExprP.TheVariants as expr
use Rattle.starlark_visit.proofs.visit.ExprPVisitExpr.lend_exprs.Goals as goal

pub returns-in_err-f-in-Call : goal.returns-in_err-f-in-Call
returns-in_err-f-in-Call g c =
    until_at lent g.F.FnMut (ap children c.in-Call.is ∙ ap expr_layer (expr.outs-Call c.in-Call.x c.in-Call.args)) (until_err lent g.F.FnMut c.f.ensures c.in_err-f-in-Call.was (out_err c.from_residual.result c.from_residual.ensures.1) c.deref-in-Call.ensures)

pub returns-in_ok-f-in-Call : goal.returns-in_ok-f-in-Call
returns-in_ok-f-in-Call g c =
    until_at lent g.F.FnMut (ap children c.in-Call.is ∙ ap expr_layer (expr.outs-Call c.in-Call.x c.in-Call.args)) (until_ok lent g.F.FnMut c.f.ensures c.in_ok-f-in-Call.was c.deref-in-Call.ensures (until_at lent g.F.FnMut (search rules) c.arguments.ensures))

pub returns-in_err-f-in-Slice : goal.returns-in_err-f-in-Slice
returns-in_err-f-in-Slice g c =
    until_at lent g.F.FnMut (ap children c.in-Slice.is ∙ ap expr_layer (expr.outs-Slice c.in-Slice.x c.in-Slice.a c.in-Slice.b c.in-Slice.c)) (until_err lent g.F.FnMut c.f-in-Slice.ensures c.in_err-f-in-Slice.was (out_err c.from_residual-in_err-f-in-Slice.result c.from_residual-in_err-f-in-Slice.ensures.1) c.deref-in-Slice.ensures)

pub returns-in_err-maybe-in-Slice : goal.returns-in_err-maybe-in-Slice
returns-in_err-maybe-in-Slice g c =
    until_at lent g.F.FnMut (ap children c.in-Slice.is ∙ ap expr_layer (expr.outs-Slice c.in-Slice.x c.in-Slice.a c.in-Slice.b c.in-Slice.c)) (until_ok lent g.F.FnMut c.f-in-Slice.ensures c.in_ok-f-in-Slice.was c.deref-in-Slice.ensures (until_stop lent g.F.FnMut _ c.maybe.ensures c.in_err-maybe-in-Slice.was (out_err c.from_residual-in_err-maybe-in-Slice.result c.from_residual-in_err-maybe-in-Slice.ensures.1)))

pub returns-in_err-maybe-in-Slice-2 : goal.returns-in_err-maybe-in-Slice-2
returns-in_err-maybe-in-Slice-2 g c =
    until_at lent g.F.FnMut (ap children c.in-Slice.is ∙ ap expr_layer (expr.outs-Slice c.in-Slice.x c.in-Slice.a c.in-Slice.b c.in-Slice.c)) (until_ok lent g.F.FnMut c.f-in-Slice.ensures c.in_ok-f-in-Slice.was c.deref-in-Slice.ensures (until_then lent g.F.FnMut c.maybe.ensures c.in_ok-maybe-in-Slice.was (until_stop lent g.F.FnMut _ c.maybe-in-Slice.ensures c.in_err-maybe-in-Slice-2.was (out_err c.from_residual-in_err-maybe-in-Slice-2.result c.from_residual-in_err-maybe-in-Slice-2.ensures.1))))

pub returns-in_ok-maybe-in-Slice-2 : goal.returns-in_ok-maybe-in-Slice-2
returns-in_ok-maybe-in-Slice-2 g c =
    until_at lent g.F.FnMut (ap children c.in-Slice.is ∙ ap expr_layer (expr.outs-Slice c.in-Slice.x c.in-Slice.a c.in-Slice.b c.in-Slice.c)) (until_ok lent g.F.FnMut c.f-in-Slice.ensures c.in_ok-f-in-Slice.was c.deref-in-Slice.ensures (until_then lent g.F.FnMut c.maybe.ensures c.in_ok-maybe-in-Slice.was (until_then lent g.F.FnMut c.maybe-in-Slice.ensures c.in_ok-maybe-in-Slice-2.was c.maybe-in-Slice-2.ensures)))

pub returns-in_err-parameters-in-Lambda : goal.returns-in_err-parameters-in-Lambda
returns-in_err-parameters-in-Lambda g c =
    until_at lent g.F.FnMut (ap children c.in-Lambda.is ∙ ap expr_layer (expr.outs-Lambda c.in-Lambda.x) ∙ ap (λ q. flat_map (λ p. parameter_places p.node) q ++ c.in-Lambda.x.body.value ∷ []) (sym c.deref-in-Lambda.ensures.value)) (until_stop lent g.F.FnMut _ c.parameters.ensures c.in_err-parameters-in-Lambda.was (out_err c.from_residual-in_err-parameters-in-Lambda.result c.from_residual-in_err-parameters-in-Lambda.ensures.1))

pub returns-in_ok-parameters-in-Lambda : goal.returns-in_ok-parameters-in-Lambda
returns-in_ok-parameters-in-Lambda g c =
    until_at lent g.F.FnMut (ap children c.in-Lambda.is ∙ ap expr_layer (expr.outs-Lambda c.in-Lambda.x) ∙ ap (λ q. flat_map (λ p. parameter_places p.node) q ++ c.in-Lambda.x.body.value ∷ []) (sym c.deref-in-Lambda.ensures.value)) (until_then lent g.F.FnMut c.parameters.ensures c.in_ok-parameters-in-Lambda.was (until_at lent g.F.FnMut (search rules) c.boxed-in-Lambda.ensures))

pub returns-in_err-lend_exprs-in-ListComprehension : goal.returns-in_err-lend_exprs-in-ListComprehension
returns-in_err-lend_exprs-in-ListComprehension g c =
    until_at lent g.F.FnMut (ap children c.in-ListComprehension.is ∙ ap expr_layer (expr.outs-ListComprehension c.in-ListComprehension.x c.in-ListComprehension.first c.in-ListComprehension.rest)) (until_stop lent g.F.FnMut _ (until_at lent g.F.FnMut (ap for_clause_places (sym c.deref-in-ListComprehension.ensures)) c.lend_exprs.ensures) c.in_err-lend_exprs-in-ListComprehension.was (out_err c.from_residual-in_err-lend_exprs-in-ListComprehension.result c.from_residual-in_err-lend_exprs-in-ListComprehension.ensures.1))

pub returns-in_err-clauses-in-ListComprehension : goal.returns-in_err-clauses-in-ListComprehension
returns-in_err-clauses-in-ListComprehension g c =
    until_at lent g.F.FnMut (ap children c.in-ListComprehension.is ∙ ap expr_layer (expr.outs-ListComprehension c.in-ListComprehension.x c.in-ListComprehension.first c.in-ListComprehension.rest)) (until_then lent g.F.FnMut (until_at lent g.F.FnMut (ap for_clause_places (sym c.deref-in-ListComprehension.ensures)) c.lend_exprs.ensures) c.in_ok-lend_exprs-in-ListComprehension.was (until_stop lent g.F.FnMut _ (until_at lent g.F.FnMut (ap (flat_map clause_places) (sym c.deref-in-ListComprehension-2.ensures.value)) c.clauses.ensures) c.in_err-clauses-in-ListComprehension.was (out_err c.from_residual-in_err-clauses-in-ListComprehension.result c.from_residual-in_err-clauses-in-ListComprehension.ensures.1)))

pub returns-in_ok-clauses-in-ListComprehension : goal.returns-in_ok-clauses-in-ListComprehension
returns-in_ok-clauses-in-ListComprehension g c =
    until_at lent g.F.FnMut (ap children c.in-ListComprehension.is ∙ ap expr_layer (expr.outs-ListComprehension c.in-ListComprehension.x c.in-ListComprehension.first c.in-ListComprehension.rest)) (until_then lent g.F.FnMut (until_at lent g.F.FnMut (ap for_clause_places (sym c.deref-in-ListComprehension.ensures)) c.lend_exprs.ensures) c.in_ok-lend_exprs-in-ListComprehension.was (until_then lent g.F.FnMut (until_at lent g.F.FnMut (ap (flat_map clause_places) (sym c.deref-in-ListComprehension-2.ensures.value)) c.clauses.ensures) c.in_ok-clauses-in-ListComprehension.was (until_at lent g.F.FnMut (cc) c.boxed-in-ListComprehension.ensures)))

pub returns-in_err-lend_exprs-in-DictComprehension : goal.returns-in_err-lend_exprs-in-DictComprehension
returns-in_err-lend_exprs-in-DictComprehension g c =
    until_at lent g.F.FnMut (ap children c.in-DictComprehension.is ∙ ap expr_layer (expr.outs-DictComprehension c.in-DictComprehension.x c.in-DictComprehension.first c.in-DictComprehension.rest)) (until_stop lent g.F.FnMut _ (until_at lent g.F.FnMut (ap for_clause_places (sym c.deref-in-DictComprehension.ensures)) c.lend_exprs-in-DictComprehension.ensures) c.in_err-lend_exprs-in-DictComprehension.was (out_err c.from_residual-in_err-lend_exprs-in-DictComprehension.result c.from_residual-in_err-lend_exprs-in-DictComprehension.ensures.1))

pub returns-in_err-clauses-in-DictComprehension : goal.returns-in_err-clauses-in-DictComprehension
returns-in_err-clauses-in-DictComprehension g c =
    until_at lent g.F.FnMut (ap children c.in-DictComprehension.is ∙ ap expr_layer (expr.outs-DictComprehension c.in-DictComprehension.x c.in-DictComprehension.first c.in-DictComprehension.rest)) (until_then lent g.F.FnMut (until_at lent g.F.FnMut (ap for_clause_places (sym c.deref-in-DictComprehension.ensures)) c.lend_exprs-in-DictComprehension.ensures) c.in_ok-lend_exprs-in-DictComprehension.was (until_stop lent g.F.FnMut _ (until_at lent g.F.FnMut (ap (flat_map clause_places) (sym c.deref-in-DictComprehension-2.ensures.value)) c.clauses-in-DictComprehension.ensures) c.in_err-clauses-in-DictComprehension.was (out_err c.from_residual-in_err-clauses-in-DictComprehension.result c.from_residual-in_err-clauses-in-DictComprehension.ensures.1)))

pub returns-in_ok-clauses-in-DictComprehension : goal.returns-in_ok-clauses-in-DictComprehension
returns-in_ok-clauses-in-DictComprehension g c =
    until_at lent g.F.FnMut (ap children c.in-DictComprehension.is ∙ ap expr_layer (expr.outs-DictComprehension c.in-DictComprehension.x c.in-DictComprehension.first c.in-DictComprehension.rest)) (until_then lent g.F.FnMut (until_at lent g.F.FnMut (ap for_clause_places (sym c.deref-in-DictComprehension.ensures)) c.lend_exprs-in-DictComprehension.ensures) c.in_ok-lend_exprs-in-DictComprehension.was (until_then lent g.F.FnMut (until_at lent g.F.FnMut (ap (flat_map clause_places) (sym c.deref-in-DictComprehension-2.ensures.value)) c.clauses-in-DictComprehension.ensures) c.in_ok-clauses-in-DictComprehension.was (until_at lent g.F.FnMut (cc) c.two-in-DictComprehension.ensures)))

pub returns-in-Index2 : goal.returns-in-Index2
returns-in-Index2 g c =
    until_at lent g.F.FnMut (ap children c.in-Index2.is ∙ ap expr_layer (expr.outs-Index2 c.in-Index2.x) ∙ (cc)) c.three.ensures

pub returns-in-If : goal.returns-in-If
returns-in-If g c =
    until_at lent g.F.FnMut (ap children c.in-If.is ∙ ap expr_layer (expr.outs-If c.in-If.x) ∙ (cc)) c.three-in-If.ensures

pub returns-in-Dict : goal.returns-in-Dict
returns-in-Dict g c =
    until_at lent g.F.FnMut (ap children c.in-Dict.is ∙ ap expr_layer (expr.outs-Dict c.in-Dict.xs) ∙ ap (flat_map pair_places) (sym c.deref-in-Dict.ensures.value)) c.pairs.ensures

pub returns-in-Tuple : goal.returns-in-Tuple
returns-in-Tuple g c =
    until_at lent g.F.FnMut (ap children c.in-Tuple.is ∙ ap expr_layer (expr.outs-Tuple c.in-Tuple.xs) ∙ sym c.deref.ensures.value) c.each.ensures

pub returns-in-Dot : goal.returns-in-Dot
returns-in-Dot g c =
    until_at lent g.F.FnMut (ap children c.in-Dot.is ∙ ap expr_layer (expr.outs-Dot c.in-Dot.x c.in-Dot.field-1)) c.boxed.ensures

pub returns-in-Index : goal.returns-in-Index
returns-in-Index g c =
    until_at lent g.F.FnMut (ap children c.in-Index.is ∙ ap expr_layer (expr.outs-Index c.in-Index.x) ∙ (cc)) c.two.ensures

pub returns-in-Op : goal.returns-in-Op
returns-in-Op g c =
    until_at lent g.F.FnMut (ap children c.in-Op.is ∙ ap expr_layer (expr.outs-Op c.in-Op.x c.in-Op.field-1 c.in-Op.y)) c.operands.ensures

pub returns-in-Not : goal.returns-in-Not
returns-in-Not g c =
    until_at lent g.F.FnMut (children-signed c.args.self.now c.in-Not.x c.in-Not.is) c.boxed-in-Not.ensures

pub returns-in-List : goal.returns-in-List
returns-in-List g c =
    until_at lent g.F.FnMut (ap children c.in-List.is ∙ ap expr_layer (expr.outs-List c.in-List.xs) ∙ sym c.deref-in-List.ensures.value) c.each-in-List.ensures

pub returns-in-FString : goal.returns-in-FString
returns-in-FString g c =
    until_at lent g.F.FnMut (ap children c.in-FString.is ∙ ap expr_layer (expr.outs-FString c.in-FString.x) ∙ sym c.deref-in-FString.ensures.value) c.each-in-FString.ensures

pub each-requires : goal.each-requires
each-requires g c = takes_at lent g.F.FnMut (ap children c.in-Tuple.is ∙ ap expr_layer (expr.outs-Tuple c.in-Tuple.xs) ∙ sym c.deref.ensures.value) c.requires

pub boxed-requires : goal.boxed-requires
boxed-requires g c = takes_at lent g.F.FnMut (ap children c.in-Dot.is ∙ ap expr_layer (expr.outs-Dot c.in-Dot.x c.in-Dot.field-1)) c.requires

pub f-requires : goal.f-requires
f-requires g c = first_taken lent g.F.FnMut (takes_at lent g.F.FnMut (ap children c.in-Call.is ∙ ap expr_layer (expr.outs-Call c.in-Call.x c.in-Call.args)) c.requires) c.deref-in-Call.ensures

pub arguments-requires : goal.arguments-requires
arguments-requires g c = takes_at lent g.F.FnMut (search rules) (next_taken lent g.F.FnMut (takes_at lent g.F.FnMut (ap children c.in-Call.is ∙ ap expr_layer (expr.outs-Call c.in-Call.x c.in-Call.args)) c.requires) c.f.ensures c.in_ok-f-in-Call.was c.deref-in-Call.ensures)

pub two-requires : goal.two-requires
two-requires g c = takes_at lent g.F.FnMut (ap children c.in-Index.is ∙ ap expr_layer (expr.outs-Index c.in-Index.x) ∙ (cc)) c.requires

pub three-requires : goal.three-requires
three-requires g c = takes_at lent g.F.FnMut (ap children c.in-Index2.is ∙ ap expr_layer (expr.outs-Index2 c.in-Index2.x) ∙ (cc)) c.requires

pub f-requires-in-Slice : goal.f-requires-in-Slice
f-requires-in-Slice g c = first_taken lent g.F.FnMut (takes_at lent g.F.FnMut (ap children c.in-Slice.is ∙ ap expr_layer (expr.outs-Slice c.in-Slice.x c.in-Slice.a c.in-Slice.b c.in-Slice.c)) c.requires) c.deref-in-Slice.ensures

pub maybe-requires : goal.maybe-requires
maybe-requires g c = front_taken lent g.F.FnMut (maybe_place c.in-Slice.a) (maybe_place c.in-Slice.b ++ maybe_place c.in-Slice.c) (next_taken lent g.F.FnMut (takes_at lent g.F.FnMut (ap children c.in-Slice.is ∙ ap expr_layer (expr.outs-Slice c.in-Slice.x c.in-Slice.a c.in-Slice.b c.in-Slice.c)) c.requires) c.f-in-Slice.ensures c.in_ok-f-in-Slice.was c.deref-in-Slice.ensures)

pub maybe-requires-in-Slice : goal.maybe-requires-in-Slice
maybe-requires-in-Slice g c = front_taken lent g.F.FnMut (maybe_place c.in-Slice.b) (maybe_place c.in-Slice.c) (rest_taken lent g.F.FnMut (maybe_place c.in-Slice.a) (maybe_place c.in-Slice.b ++ maybe_place c.in-Slice.c) (next_taken lent g.F.FnMut (takes_at lent g.F.FnMut (ap children c.in-Slice.is ∙ ap expr_layer (expr.outs-Slice c.in-Slice.x c.in-Slice.a c.in-Slice.b c.in-Slice.c)) c.requires) c.f-in-Slice.ensures c.in_ok-f-in-Slice.was c.deref-in-Slice.ensures) c.maybe.ensures c.in_ok-maybe-in-Slice.was)

pub maybe-requires-in-Slice-2 : goal.maybe-requires-in-Slice-2
maybe-requires-in-Slice-2 g c = rest_taken lent g.F.FnMut (maybe_place c.in-Slice.b) (maybe_place c.in-Slice.c) (rest_taken lent g.F.FnMut (maybe_place c.in-Slice.a) (maybe_place c.in-Slice.b ++ maybe_place c.in-Slice.c) (next_taken lent g.F.FnMut (takes_at lent g.F.FnMut (ap children c.in-Slice.is ∙ ap expr_layer (expr.outs-Slice c.in-Slice.x c.in-Slice.a c.in-Slice.b c.in-Slice.c)) c.requires) c.f-in-Slice.ensures c.in_ok-f-in-Slice.was c.deref-in-Slice.ensures) c.maybe.ensures c.in_ok-maybe-in-Slice.was) c.maybe-in-Slice.ensures c.in_ok-maybe-in-Slice-2.was

pub parameters-requires : goal.parameters-requires
parameters-requires g c = front_taken lent g.F.FnMut (flat_map (λ p. parameter_places p.node) c.deref-in-Lambda.result.now) (c.in-Lambda.x.body.value ∷ []) (takes_at lent g.F.FnMut (ap children c.in-Lambda.is ∙ ap expr_layer (expr.outs-Lambda c.in-Lambda.x) ∙ ap (λ q. flat_map (λ p. parameter_places p.node) q ++ c.in-Lambda.x.body.value ∷ []) (sym c.deref-in-Lambda.ensures.value)) c.requires)

pub boxed-requires-in-Lambda : goal.boxed-requires-in-Lambda
boxed-requires-in-Lambda g c = takes_at lent g.F.FnMut (search rules) (rest_taken lent g.F.FnMut (flat_map (λ p. parameter_places p.node) c.deref-in-Lambda.result.now) (c.in-Lambda.x.body.value ∷ []) (takes_at lent g.F.FnMut (ap children c.in-Lambda.is ∙ ap expr_layer (expr.outs-Lambda c.in-Lambda.x) ∙ ap (λ q. flat_map (λ p. parameter_places p.node) q ++ c.in-Lambda.x.body.value ∷ []) (sym c.deref-in-Lambda.ensures.value)) c.requires) c.parameters.ensures c.in_ok-parameters-in-Lambda.was)

pub boxed-requires-in-Not : goal.boxed-requires-in-Not
boxed-requires-in-Not g c = takes_at lent g.F.FnMut (children-signed c.args.self.now c.in-Not.x c.in-Not.is) c.requires

pub operands-requires : goal.operands-requires
operands-requires g c = takes_at lent g.F.FnMut (ap children c.in-Op.is ∙ ap expr_layer (expr.outs-Op c.in-Op.x c.in-Op.field-1 c.in-Op.y)) c.requires

pub three-requires-in-If : goal.three-requires-in-If
three-requires-in-If g c = takes_at lent g.F.FnMut (ap children c.in-If.is ∙ ap expr_layer (expr.outs-If c.in-If.x) ∙ (cc)) c.requires

pub each-requires-in-List : goal.each-requires-in-List
each-requires-in-List g c = takes_at lent g.F.FnMut (ap children c.in-List.is ∙ ap expr_layer (expr.outs-List c.in-List.xs) ∙ sym c.deref-in-List.ensures.value) c.requires

pub pairs-requires : goal.pairs-requires
pairs-requires g c = takes_at lent g.F.FnMut (ap children c.in-Dict.is ∙ ap expr_layer (expr.outs-Dict c.in-Dict.xs) ∙ ap (flat_map pair_places) (sym c.deref-in-Dict.ensures.value)) c.requires

pub lend_exprs-requires : goal.lend_exprs-requires
lend_exprs-requires g c = takes_at lent g.F.FnMut (ap for_clause_places (sym c.deref-in-ListComprehension.ensures)) (front_taken lent g.F.FnMut (for_clause_places c.in-ListComprehension.first.value) (flat_map clause_places c.in-ListComprehension.rest.items ++ c.in-ListComprehension.x.value ∷ []) (takes_at lent g.F.FnMut (ap children c.in-ListComprehension.is ∙ ap expr_layer (expr.outs-ListComprehension c.in-ListComprehension.x c.in-ListComprehension.first c.in-ListComprehension.rest)) c.requires))

pub clauses-requires : goal.clauses-requires
clauses-requires g c = takes_at lent g.F.FnMut (ap (flat_map clause_places) (sym c.deref-in-ListComprehension-2.ensures.value)) (front_taken lent g.F.FnMut (flat_map clause_places c.in-ListComprehension.rest.items) (c.in-ListComprehension.x.value ∷ []) (rest_taken lent g.F.FnMut (for_clause_places c.in-ListComprehension.first.value) (flat_map clause_places c.in-ListComprehension.rest.items ++ c.in-ListComprehension.x.value ∷ []) (takes_at lent g.F.FnMut (ap children c.in-ListComprehension.is ∙ ap expr_layer (expr.outs-ListComprehension c.in-ListComprehension.x c.in-ListComprehension.first c.in-ListComprehension.rest)) c.requires) (until_at lent g.F.FnMut (ap for_clause_places (sym c.deref-in-ListComprehension.ensures)) c.lend_exprs.ensures) c.in_ok-lend_exprs-in-ListComprehension.was))

pub boxed-requires-in-ListComprehension : goal.boxed-requires-in-ListComprehension
boxed-requires-in-ListComprehension g c = takes_at lent g.F.FnMut (cc) (rest_taken lent g.F.FnMut (flat_map clause_places c.in-ListComprehension.rest.items) (c.in-ListComprehension.x.value ∷ []) (rest_taken lent g.F.FnMut (for_clause_places c.in-ListComprehension.first.value) (flat_map clause_places c.in-ListComprehension.rest.items ++ c.in-ListComprehension.x.value ∷ []) (takes_at lent g.F.FnMut (ap children c.in-ListComprehension.is ∙ ap expr_layer (expr.outs-ListComprehension c.in-ListComprehension.x c.in-ListComprehension.first c.in-ListComprehension.rest)) c.requires) (until_at lent g.F.FnMut (ap for_clause_places (sym c.deref-in-ListComprehension.ensures)) c.lend_exprs.ensures) c.in_ok-lend_exprs-in-ListComprehension.was) (until_at lent g.F.FnMut (ap (flat_map clause_places) (sym c.deref-in-ListComprehension-2.ensures.value)) c.clauses.ensures) c.in_ok-clauses-in-ListComprehension.was)

pub lend_exprs-requires-in-DictComprehension : goal.lend_exprs-requires-in-DictComprehension
lend_exprs-requires-in-DictComprehension g c = takes_at lent g.F.FnMut (ap for_clause_places (sym c.deref-in-DictComprehension.ensures)) (front_taken lent g.F.FnMut (for_clause_places c.in-DictComprehension.first.value) (flat_map clause_places c.in-DictComprehension.rest.items ++ c.in-DictComprehension.x.value.0 ∷ c.in-DictComprehension.x.value.1 ∷ []) (takes_at lent g.F.FnMut (ap children c.in-DictComprehension.is ∙ ap expr_layer (expr.outs-DictComprehension c.in-DictComprehension.x c.in-DictComprehension.first c.in-DictComprehension.rest)) c.requires))

pub clauses-requires-in-DictComprehension : goal.clauses-requires-in-DictComprehension
clauses-requires-in-DictComprehension g c = takes_at lent g.F.FnMut (ap (flat_map clause_places) (sym c.deref-in-DictComprehension-2.ensures.value)) (front_taken lent g.F.FnMut (flat_map clause_places c.in-DictComprehension.rest.items) (c.in-DictComprehension.x.value.0 ∷ c.in-DictComprehension.x.value.1 ∷ []) (rest_taken lent g.F.FnMut (for_clause_places c.in-DictComprehension.first.value) (flat_map clause_places c.in-DictComprehension.rest.items ++ c.in-DictComprehension.x.value.0 ∷ c.in-DictComprehension.x.value.1 ∷ []) (takes_at lent g.F.FnMut (ap children c.in-DictComprehension.is ∙ ap expr_layer (expr.outs-DictComprehension c.in-DictComprehension.x c.in-DictComprehension.first c.in-DictComprehension.rest)) c.requires) (until_at lent g.F.FnMut (ap for_clause_places (sym c.deref-in-DictComprehension.ensures)) c.lend_exprs-in-DictComprehension.ensures) c.in_ok-lend_exprs-in-DictComprehension.was))

pub two-requires-in-DictComprehension : goal.two-requires-in-DictComprehension
two-requires-in-DictComprehension g c = takes_at lent g.F.FnMut (cc) (rest_taken lent g.F.FnMut (flat_map clause_places c.in-DictComprehension.rest.items) (c.in-DictComprehension.x.value.0 ∷ c.in-DictComprehension.x.value.1 ∷ []) (rest_taken lent g.F.FnMut (for_clause_places c.in-DictComprehension.first.value) (flat_map clause_places c.in-DictComprehension.rest.items ++ c.in-DictComprehension.x.value.0 ∷ c.in-DictComprehension.x.value.1 ∷ []) (takes_at lent g.F.FnMut (ap children c.in-DictComprehension.is ∙ ap expr_layer (expr.outs-DictComprehension c.in-DictComprehension.x c.in-DictComprehension.first c.in-DictComprehension.rest)) c.requires) (until_at lent g.F.FnMut (ap for_clause_places (sym c.deref-in-DictComprehension.ensures)) c.lend_exprs-in-DictComprehension.ensures) c.in_ok-lend_exprs-in-DictComprehension.was) (until_at lent g.F.FnMut (ap (flat_map clause_places) (sym c.deref-in-DictComprehension-2.ensures.value)) c.clauses-in-DictComprehension.ensures) c.in_ok-clauses-in-DictComprehension.was)

pub each-requires-in-FString : goal.each-requires-in-FString
each-requires-in-FString g c = takes_at lent g.F.FnMut (ap children c.in-FString.is ∙ ap expr_layer (expr.outs-FString c.in-FString.x) ∙ sym c.deref-in-FString.ensures.value) c.requires
