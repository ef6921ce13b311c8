use Rattle.std.proofs.Common.{refl, sym, ap, ◌∙◌, subst, [], ◌∷◌, ◌++◌, flat_map, length, ap₂}
use denote.Param.{param}
use Rattle.std.specs.Vec.{SameBlock}
use Rattle.starlark_write.specs.Beside as beside
use Rattle.starlark_write.specs.Beside.{AtPlace, Each, KeepsArgs, KeepsClause, KeepsExpr, KeepsForClause, KeepsFString, KeepsLambda, SameBox, args_places, block_of, fstring_places, lambda_places}
use Rattle.starlark_ast.specs.Places.{children, expr_layer, clause_places, for_clause_places, maybe_place, pair_places}
use Rattle.starlark_write.specs.Writing.{WritesUntil}
use Rattle.starlark_ast.specs.declared.ast.ExprP.TheVariants as expr
use Rattle.starlark_write.proofs.Lent.{expr_lent, seen, seen_left}
use Rattle.starlark_write.proofs.Loops.{each_length}
use Rattle.starlark_write.proofs.Writes.{writes_at, writes_none}
use Rattle.starlark_write.proofs.expressions.ExprPVisitExprMut.visit_expr_err_mut.Goals as goal

pub returns-in-Tuple-clause-calls : goal.returns-in-Tuple-clause-calls
returns-in-Tuple-clause-calls g c =
    expr_lent (param 0 g.row.P) (param 1 g.row.P-LoadPayload) (param 2 g.row.P-IdentPayload) (param 3 g.row.P-IdentAssignPayload) (param 4 g.row.P-DefPayload) (param 5 g.row.P-TypeExprPayload) 0 (λ y v. expr.Tuple y) (λ a b. WritesUntil g.F.FnMut c.args.f.now (children a) c.list.result c.list.new.f (children b)) c.list.new.xs (c.in-Tuple.xs, tt) c.in-Tuple.is
    (writes_at g.F.FnMut (ap expr_layer (expr.outs-Tuple c.in-Tuple.xs) ∙ ap (λ q. q.items) (sym c.in-Tuple.xs-is)) (ap expr_layer (expr.outs-Tuple c.list.new.xs)) c.list.ensures.calls)

pub returns-in-Tuple-clause-kept : goal.returns-in-Tuple-clause-kept
returns-in-Tuple-clause-kept g c =
    expr_lent (param 0 g.row.P) (param 1 g.row.P-LoadPayload) (param 2 g.row.P-IdentPayload) (param 3 g.row.P-IdentAssignPayload) (param 4 g.row.P-DefPayload) (param 5 g.row.P-TypeExprPayload) 0 (λ y v. expr.Tuple y) KeepsExpr c.list.new.xs (c.in-Tuple.xs, tt) c.in-Tuple.is (beside.tuple _ _ (seen_left SameBlock {u = c.list.new.xs} c.in-Tuple.xs-is c.list.ensures.block) (c.list.ensures.kept ∙ ap (λ q. length q.items) c.in-Tuple.xs-is))

pub returns-in-Index-clause-calls : goal.returns-in-Index-clause-calls
returns-in-Index-clause-calls g c =
    expr_lent (param 0 g.row.P) (param 1 g.row.P-LoadPayload) (param 2 g.row.P-IdentPayload) (param 3 g.row.P-IdentAssignPayload) (param 4 g.row.P-DefPayload) (param 5 g.row.P-TypeExprPayload) 3 (λ y v. expr.Index y) (λ a b. WritesUntil g.F.FnMut c.args.f.now (children a) c.pair.result c.pair.new.f (children b)) c.pair.new.x (c.in-Index.x, tt) c.in-Index.is
    (writes_at g.F.FnMut (ap expr_layer (expr.outs-Index c.in-Index.x) ∙ ap (λ q. q.value.0 ∷ q.value.1 ∷ []) (sym c.in-Index.x-is)) (ap expr_layer (expr.outs-Index c.pair.new.x)) c.pair.ensures.calls)

pub returns-in-Index-clause-kept : goal.returns-in-Index-clause-kept
returns-in-Index-clause-kept g c =
    expr_lent (param 0 g.row.P) (param 1 g.row.P-LoadPayload) (param 2 g.row.P-IdentPayload) (param 3 g.row.P-IdentAssignPayload) (param 4 g.row.P-DefPayload) (param 5 g.row.P-TypeExprPayload) 3 (λ y v. expr.Index y) KeepsExpr c.pair.new.x (c.in-Index.x, tt) c.in-Index.is (beside.index _ _ (seen_left SameBox {u = c.pair.new.x} c.in-Index.x-is c.pair.ensures.block))

pub returns-in-Index2-clause-calls : goal.returns-in-Index2-clause-calls
returns-in-Index2-clause-calls g c =
    expr_lent (param 0 g.row.P) (param 1 g.row.P-LoadPayload) (param 2 g.row.P-IdentPayload) (param 3 g.row.P-IdentAssignPayload) (param 4 g.row.P-DefPayload) (param 5 g.row.P-TypeExprPayload) 4 (λ y v. expr.Index2 y) (λ a b. WritesUntil g.F.FnMut c.args.f.now (children a) c.triple.result c.triple.new.f (children b)) c.triple.new.x (c.in-Index2.x, tt) c.in-Index2.is
    (writes_at g.F.FnMut (ap expr_layer (expr.outs-Index2 c.in-Index2.x) ∙ ap (λ q. q.value.0 ∷ q.value.1 ∷ q.value.2 ∷ []) (sym c.in-Index2.x-is)) (ap expr_layer (expr.outs-Index2 c.triple.new.x)) c.triple.ensures.calls)

pub returns-in-Index2-clause-kept : goal.returns-in-Index2-clause-kept
returns-in-Index2-clause-kept g c =
    expr_lent (param 0 g.row.P) (param 1 g.row.P-LoadPayload) (param 2 g.row.P-IdentPayload) (param 3 g.row.P-IdentAssignPayload) (param 4 g.row.P-DefPayload) (param 5 g.row.P-TypeExprPayload) 4 (λ y v. expr.Index2 y) KeepsExpr c.triple.new.x (c.in-Index2.x, tt) c.in-Index2.is (beside.index2 _ _ (seen_left SameBox {u = c.triple.new.x} c.in-Index2.x-is c.triple.ensures.block))

pub returns-in-Lambda-clause-calls : goal.returns-in-Lambda-clause-calls
returns-in-Lambda-clause-calls g c =
    expr_lent (param 0 g.row.P) (param 1 g.row.P-LoadPayload) (param 2 g.row.P-IdentPayload) (param 3 g.row.P-IdentAssignPayload) (param 4 g.row.P-DefPayload) (param 5 g.row.P-TypeExprPayload) 7 (λ y v. expr.Lambda y) (λ a b. WritesUntil g.F.FnMut c.args.f.now (children a) c.visit_expr_err_mut.result c.visit_expr_err_mut.new.f (children b)) c.visit_expr_err_mut.new.self (c.in-Lambda.x, tt) c.in-Lambda.is
    (writes_at g.F.FnMut (ap expr_layer (expr.outs-Lambda c.in-Lambda.x) ∙ ap (λ q. lambda_places q) (sym c.in-Lambda.x-is)) (ap expr_layer (expr.outs-Lambda c.visit_expr_err_mut.new.self)) c.visit_expr_err_mut.ensures.calls)

pub returns-in-Lambda-clause-kept : goal.returns-in-Lambda-clause-kept
returns-in-Lambda-clause-kept g c =
    expr_lent (param 0 g.row.P) (param 1 g.row.P-LoadPayload) (param 2 g.row.P-IdentPayload) (param 3 g.row.P-IdentAssignPayload) (param 4 g.row.P-DefPayload) (param 5 g.row.P-TypeExprPayload) 7 (λ y v. expr.Lambda y) KeepsExpr c.visit_expr_err_mut.new.self (c.in-Lambda.x, tt) c.in-Lambda.is (beside.lambda _ _ (seen_left KeepsLambda c.in-Lambda.x-is c.visit_expr_err_mut.ensures.kept))

pub returns-in-Not-clause-calls : goal.returns-in-Not-clause-calls
returns-in-Not-clause-calls g c =
    expr_lent (param 0 g.row.P) (param 1 g.row.P-LoadPayload) (param 2 g.row.P-IdentPayload) (param 3 g.row.P-IdentAssignPayload) (param 4 g.row.P-DefPayload) (param 5 g.row.P-TypeExprPayload) 9 (λ y v. expr.Not y) (λ a b. WritesUntil g.F.FnMut c.args.f.now (children a) c.boxed.result c.boxed.new.f (children b)) c.boxed.new.x (c.in-Not.x, tt) c.in-Not.is
    (writes_at g.F.FnMut (ap expr_layer (expr.outs-Not c.in-Not.x) ∙ ap (λ q. q.value ∷ []) (sym c.in-Not.x-is)) (ap expr_layer (expr.outs-Not c.boxed.new.x)) c.boxed.ensures.calls)

pub returns-in-Not-clause-kept : goal.returns-in-Not-clause-kept
returns-in-Not-clause-kept g c =
    expr_lent (param 0 g.row.P) (param 1 g.row.P-LoadPayload) (param 2 g.row.P-IdentPayload) (param 3 g.row.P-IdentAssignPayload) (param 4 g.row.P-DefPayload) (param 5 g.row.P-TypeExprPayload) 9 (λ y v. expr.Not y) KeepsExpr c.boxed.new.x (c.in-Not.x, tt) c.in-Not.is (beside.not _ _ (seen_left SameBox {u = c.boxed.new.x} c.in-Not.x-is c.boxed.ensures.block))

pub returns-in-Minus-clause-calls : goal.returns-in-Minus-clause-calls
returns-in-Minus-clause-calls g c =
    expr_lent (param 0 g.row.P) (param 1 g.row.P-LoadPayload) (param 2 g.row.P-IdentPayload) (param 3 g.row.P-IdentAssignPayload) (param 4 g.row.P-DefPayload) (param 5 g.row.P-TypeExprPayload) 10 (λ y v. expr.Minus y) (λ a b. WritesUntil g.F.FnMut c.args.f.now (children a) c.boxed-in-Minus.result c.boxed-in-Minus.new.f (children b)) c.boxed-in-Minus.new.x (c.in-Minus.x, tt) c.in-Minus.is
    (writes_at g.F.FnMut (ap expr_layer (expr.outs-Minus c.in-Minus.x) ∙ ap (λ q. q.value ∷ []) (sym c.in-Minus.x-is)) (ap expr_layer (expr.outs-Minus c.boxed-in-Minus.new.x)) c.boxed-in-Minus.ensures.calls)

pub returns-in-Minus-clause-kept : goal.returns-in-Minus-clause-kept
returns-in-Minus-clause-kept g c =
    expr_lent (param 0 g.row.P) (param 1 g.row.P-LoadPayload) (param 2 g.row.P-IdentPayload) (param 3 g.row.P-IdentAssignPayload) (param 4 g.row.P-DefPayload) (param 5 g.row.P-TypeExprPayload) 10 (λ y v. expr.Minus y) KeepsExpr c.boxed-in-Minus.new.x (c.in-Minus.x, tt) c.in-Minus.is (beside.minus _ _ (seen_left SameBox {u = c.boxed-in-Minus.new.x} c.in-Minus.x-is c.boxed-in-Minus.ensures.block))

pub returns-in-Plus-clause-calls : goal.returns-in-Plus-clause-calls
returns-in-Plus-clause-calls g c =
    expr_lent (param 0 g.row.P) (param 1 g.row.P-LoadPayload) (param 2 g.row.P-IdentPayload) (param 3 g.row.P-IdentAssignPayload) (param 4 g.row.P-DefPayload) (param 5 g.row.P-TypeExprPayload) 11 (λ y v. expr.Plus y) (λ a b. WritesUntil g.F.FnMut c.args.f.now (children a) c.boxed-in-Plus.result c.boxed-in-Plus.new.f (children b)) c.boxed-in-Plus.new.x (c.in-Plus.x, tt) c.in-Plus.is
    (writes_at g.F.FnMut (ap expr_layer (expr.outs-Plus c.in-Plus.x) ∙ ap (λ q. q.value ∷ []) (sym c.in-Plus.x-is)) (ap expr_layer (expr.outs-Plus c.boxed-in-Plus.new.x)) c.boxed-in-Plus.ensures.calls)

pub returns-in-Plus-clause-kept : goal.returns-in-Plus-clause-kept
returns-in-Plus-clause-kept g c =
    expr_lent (param 0 g.row.P) (param 1 g.row.P-LoadPayload) (param 2 g.row.P-IdentPayload) (param 3 g.row.P-IdentAssignPayload) (param 4 g.row.P-DefPayload) (param 5 g.row.P-TypeExprPayload) 11 (λ y v. expr.Plus y) KeepsExpr c.boxed-in-Plus.new.x (c.in-Plus.x, tt) c.in-Plus.is (beside.plus _ _ (seen_left SameBox {u = c.boxed-in-Plus.new.x} c.in-Plus.x-is c.boxed-in-Plus.ensures.block))

pub returns-in-BitNot-clause-calls : goal.returns-in-BitNot-clause-calls
returns-in-BitNot-clause-calls g c =
    expr_lent (param 0 g.row.P) (param 1 g.row.P-LoadPayload) (param 2 g.row.P-IdentPayload) (param 3 g.row.P-IdentAssignPayload) (param 4 g.row.P-DefPayload) (param 5 g.row.P-TypeExprPayload) 12 (λ y v. expr.BitNot y) (λ a b. WritesUntil g.F.FnMut c.args.f.now (children a) c.boxed-in-BitNot.result c.boxed-in-BitNot.new.f (children b)) c.boxed-in-BitNot.new.x (c.in-BitNot.x, tt) c.in-BitNot.is
    (writes_at g.F.FnMut (ap expr_layer (expr.outs-BitNot c.in-BitNot.x) ∙ ap (λ q. q.value ∷ []) (sym c.in-BitNot.x-is)) (ap expr_layer (expr.outs-BitNot c.boxed-in-BitNot.new.x)) c.boxed-in-BitNot.ensures.calls)

pub returns-in-BitNot-clause-kept : goal.returns-in-BitNot-clause-kept
returns-in-BitNot-clause-kept g c =
    expr_lent (param 0 g.row.P) (param 1 g.row.P-LoadPayload) (param 2 g.row.P-IdentPayload) (param 3 g.row.P-IdentAssignPayload) (param 4 g.row.P-DefPayload) (param 5 g.row.P-TypeExprPayload) 12 (λ y v. expr.BitNot y) KeepsExpr c.boxed-in-BitNot.new.x (c.in-BitNot.x, tt) c.in-BitNot.is (beside.bit_not _ _ (seen_left SameBox {u = c.boxed-in-BitNot.new.x} c.in-BitNot.x-is c.boxed-in-BitNot.ensures.block))

pub returns-in-If-clause-calls : goal.returns-in-If-clause-calls
returns-in-If-clause-calls g c =
    expr_lent (param 0 g.row.P) (param 1 g.row.P-LoadPayload) (param 2 g.row.P-IdentPayload) (param 3 g.row.P-IdentAssignPayload) (param 4 g.row.P-DefPayload) (param 5 g.row.P-TypeExprPayload) 14 (λ y v. expr.If y) (λ a b. WritesUntil g.F.FnMut c.args.f.now (children a) c.triple-in-If.result c.triple-in-If.new.f (children b)) c.triple-in-If.new.x (c.in-If.x, tt) c.in-If.is
    (writes_at g.F.FnMut (ap expr_layer (expr.outs-If c.in-If.x) ∙ ap (λ q. q.value.0 ∷ q.value.1 ∷ q.value.2 ∷ []) (sym c.in-If.x-is)) (ap expr_layer (expr.outs-If c.triple-in-If.new.x)) c.triple-in-If.ensures.calls)

pub returns-in-If-clause-kept : goal.returns-in-If-clause-kept
returns-in-If-clause-kept g c =
    expr_lent (param 0 g.row.P) (param 1 g.row.P-LoadPayload) (param 2 g.row.P-IdentPayload) (param 3 g.row.P-IdentAssignPayload) (param 4 g.row.P-DefPayload) (param 5 g.row.P-TypeExprPayload) 14 (λ y v. expr.If y) KeepsExpr c.triple-in-If.new.x (c.in-If.x, tt) c.in-If.is (beside.choice _ _ (seen_left SameBox {u = c.triple-in-If.new.x} c.in-If.x-is c.triple-in-If.ensures.block))

pub returns-in-List-clause-calls : goal.returns-in-List-clause-calls
returns-in-List-clause-calls g c =
    expr_lent (param 0 g.row.P) (param 1 g.row.P-LoadPayload) (param 2 g.row.P-IdentPayload) (param 3 g.row.P-IdentAssignPayload) (param 4 g.row.P-DefPayload) (param 5 g.row.P-TypeExprPayload) 15 (λ y v. expr.List y) (λ a b. WritesUntil g.F.FnMut c.args.f.now (children a) c.list-in-List.result c.list-in-List.new.f (children b)) c.list-in-List.new.xs (c.in-List.xs, tt) c.in-List.is
    (writes_at g.F.FnMut (ap expr_layer (expr.outs-List c.in-List.xs) ∙ ap (λ q. q.items) (sym c.in-List.xs-is)) (ap expr_layer (expr.outs-List c.list-in-List.new.xs)) c.list-in-List.ensures.calls)

pub returns-in-List-clause-kept : goal.returns-in-List-clause-kept
returns-in-List-clause-kept g c =
    expr_lent (param 0 g.row.P) (param 1 g.row.P-LoadPayload) (param 2 g.row.P-IdentPayload) (param 3 g.row.P-IdentAssignPayload) (param 4 g.row.P-DefPayload) (param 5 g.row.P-TypeExprPayload) 15 (λ y v. expr.List y) KeepsExpr c.list-in-List.new.xs (c.in-List.xs, tt) c.in-List.is (beside.list _ _ (seen_left SameBlock {u = c.list-in-List.new.xs} c.in-List.xs-is c.list-in-List.ensures.block) (c.list-in-List.ensures.kept ∙ ap (λ q. length q.items) c.in-List.xs-is))

pub returns-in-Dict-clause-calls : goal.returns-in-Dict-clause-calls
returns-in-Dict-clause-calls g c =
    expr_lent (param 0 g.row.P) (param 1 g.row.P-LoadPayload) (param 2 g.row.P-IdentPayload) (param 3 g.row.P-IdentAssignPayload) (param 4 g.row.P-DefPayload) (param 5 g.row.P-TypeExprPayload) 16 (λ y v. expr.Dict y) (λ a b. WritesUntil g.F.FnMut c.args.f.now (children a) c.parts.result c.parts.new.f (children b)) c.parts.new.xs (c.in-Dict.xs, tt) c.in-Dict.is
    (writes_at g.F.FnMut (ap expr_layer (expr.outs-Dict c.in-Dict.xs) ∙ ap (λ q. flat_map pair_places q.items) (sym c.in-Dict.xs-is)) (ap expr_layer (expr.outs-Dict c.parts.new.xs)) c.parts.ensures.calls)

pub returns-in-Dict-clause-kept : goal.returns-in-Dict-clause-kept
returns-in-Dict-clause-kept g c =
    expr_lent (param 0 g.row.P) (param 1 g.row.P-LoadPayload) (param 2 g.row.P-IdentPayload) (param 3 g.row.P-IdentAssignPayload) (param 4 g.row.P-DefPayload) (param 5 g.row.P-TypeExprPayload) 16 (λ y v. expr.Dict y) KeepsExpr c.parts.new.xs (c.in-Dict.xs, tt) c.in-Dict.is (beside.dict _ _ (seen_left SameBlock {u = c.parts.new.xs} c.in-Dict.xs-is c.parts.ensures.block) (each_length _ c.parts.ensures.kept ∙ ap (λ q. length q.items) c.in-Dict.xs-is))

pub returns-in-FString-clause-calls : goal.returns-in-FString-clause-calls
returns-in-FString-clause-calls g c =
    expr_lent (param 0 g.row.P) (param 1 g.row.P-LoadPayload) (param 2 g.row.P-IdentPayload) (param 3 g.row.P-IdentAssignPayload) (param 4 g.row.P-DefPayload) (param 5 g.row.P-TypeExprPayload) 19 (λ y v. expr.FString y) (λ a b. WritesUntil g.F.FnMut c.args.f.now (children a) c.visit_expr_err_mut-in-FString.result c.visit_expr_err_mut-in-FString.new.f (children b)) c.visit_expr_err_mut-in-FString.new.self (c.in-FString.x, tt) c.in-FString.is
    (writes_at g.F.FnMut (ap expr_layer (expr.outs-FString c.in-FString.x) ∙ ap (λ q. fstring_places q) (sym c.in-FString.x-is)) (ap expr_layer (expr.outs-FString c.visit_expr_err_mut-in-FString.new.self)) c.visit_expr_err_mut-in-FString.ensures.calls)

pub returns-in-FString-clause-kept : goal.returns-in-FString-clause-kept
returns-in-FString-clause-kept g c =
    expr_lent (param 0 g.row.P) (param 1 g.row.P-LoadPayload) (param 2 g.row.P-IdentPayload) (param 3 g.row.P-IdentAssignPayload) (param 4 g.row.P-DefPayload) (param 5 g.row.P-TypeExprPayload) 19 (λ y v. expr.FString y) KeepsExpr c.visit_expr_err_mut-in-FString.new.self (c.in-FString.x, tt) c.in-FString.is (beside.fstring _ _ (seen_left (AtPlace KeepsFString) c.in-FString.x-is c.visit_expr_err_mut-in-FString.ensures.kept))

pub returns-in-Dot-clause-calls : goal.returns-in-Dot-clause-calls
returns-in-Dot-clause-calls g c =
    writes_at g.F.FnMut (ap children c.in-Dot.is ∙ ap expr_layer (expr.outs-Dot c.in-Dot.x c.in-Dot.name) ∙ ap (λ q. q.value ∷ []) (sym c.in-Dot.x-is)) (ap expr_layer (expr.outs-Dot c.beside.new.x c.beside.new.other)) c.beside.ensures.calls

pub returns-in-Dot-clause-kept : goal.returns-in-Dot-clause-kept
returns-in-Dot-clause-kept g c =
    seen KeepsExpr c.in-Dot.is (subst (λ q. KeepsExpr (expr.Dot c.in-Dot.x c.in-Dot.name) (expr.Dot c.beside.new.x q)) (sym (c.beside.ensures.kept ∙ c.in-Dot.name-is)) (beside.dot _ _ _ (seen_left SameBox {u = c.beside.new.x} c.in-Dot.x-is c.beside.ensures.block)))

pub returns-in-Call-clause-calls : goal.returns-in-Call-clause-calls
returns-in-Call-clause-calls g c =
    writes_at g.F.FnMut (ap children c.in-Call.is ∙ ap expr_layer (expr.outs-Call c.in-Call.x c.in-Call.args) ∙ ap₂ (λ p q. p.value ∷ args_places q) (sym c.in-Call.x-is) (sym c.in-Call.args-is)) (ap expr_layer (expr.outs-Call c.call.new.x c.call.new.args)) c.call.ensures.calls

pub returns-in-Call-clause-kept : goal.returns-in-Call-clause-kept
returns-in-Call-clause-kept g c =
    seen KeepsExpr c.in-Call.is (beside.call _ _ _ _ (seen_left SameBox {u = c.call.new.x} c.in-Call.x-is c.call.ensures.block) (seen_left KeepsArgs c.in-Call.args-is c.call.ensures.kept))

pub returns-in-Slice-clause-calls : goal.returns-in-Slice-clause-calls
returns-in-Slice-clause-calls g c =
    writes_at g.F.FnMut (ap children c.in-Slice.is ∙ ap expr_layer (expr.outs-Slice c.in-Slice.x c.in-Slice.a c.in-Slice.b c.in-Slice.c) ∙ ap₂ (λ p q. p.value ∷ q) (sym c.in-Slice.x-is) (ap₂ (λ p q. maybe_place p ++ q) (sym c.in-Slice.a-is) (ap₂ (λ p q. maybe_place p ++ maybe_place q) (sym c.in-Slice.b-is) (sym c.in-Slice.c-is)))) (ap expr_layer (expr.outs-Slice c.slice.new.x c.slice.new.a c.slice.new.b c.slice.new.c)) c.slice.ensures.calls

pub returns-in-Slice-clause-kept : goal.returns-in-Slice-clause-kept
returns-in-Slice-clause-kept g c =
    seen KeepsExpr c.in-Slice.is (beside.slice _ _ _ _ _ _ _ _ (seen_left SameBox {u = c.slice.new.x} c.in-Slice.x-is c.slice.ensures.block) (c.slice.ensures.first ∙ ap block_of c.in-Slice.a-is) (c.slice.ensures.second ∙ ap block_of c.in-Slice.b-is) (c.slice.ensures.third ∙ ap block_of c.in-Slice.c-is))

pub returns-in-Op-clause-calls : goal.returns-in-Op-clause-calls
returns-in-Op-clause-calls g c =
    writes_at g.F.FnMut (ap children c.in-Op.is ∙ ap expr_layer (expr.outs-Op c.in-Op.x c.in-Op.op c.in-Op.y) ∙ ap₂ (λ p q. p.value ∷ q.value ∷ []) (sym c.in-Op.x-is) (sym c.in-Op.y-is)) (ap expr_layer (expr.outs-Op c.around.new.x c.around.new.other c.around.new.y)) c.around.ensures.calls

pub returns-in-Op-clause-kept : goal.returns-in-Op-clause-kept
returns-in-Op-clause-kept g c =
    seen KeepsExpr c.in-Op.is (subst (λ q. KeepsExpr (expr.Op c.in-Op.x c.in-Op.op c.in-Op.y) (expr.Op c.around.new.x q c.around.new.y)) (sym (c.around.ensures.kept ∙ c.in-Op.op-is)) (beside.op _ _ _ _ _ (seen_left SameBox {u = c.around.new.x} c.in-Op.x-is c.around.ensures.first_block) (seen_left SameBox {u = c.around.new.y} c.in-Op.y-is c.around.ensures.second_block)))

pub returns-in-ListComprehension-clause-calls : goal.returns-in-ListComprehension-clause-calls
returns-in-ListComprehension-clause-calls g c =
    writes_at g.F.FnMut (ap children c.in-ListComprehension.is ∙ ap expr_layer (expr.outs-ListComprehension c.in-ListComprehension.x c.in-ListComprehension.first c.in-ListComprehension.rest) ∙ ap₂ (λ p q. for_clause_places p.value ++ q) (sym c.in-ListComprehension.first-is) (ap₂ (λ q r. flat_map clause_places q.items ++ r.value ∷ []) (sym c.in-ListComprehension.rest-is) (sym c.in-ListComprehension.x-is))) (ap expr_layer (expr.outs-ListComprehension c.listed.new.x c.listed.new.first c.listed.new.rest)) c.listed.ensures.calls

pub returns-in-ListComprehension-clause-kept : goal.returns-in-ListComprehension-clause-kept
returns-in-ListComprehension-clause-kept g c =
    seen KeepsExpr c.in-ListComprehension.is (beside.list_comprehension _ _ _ _ _ _ (seen_left SameBox {u = c.listed.new.x} c.in-ListComprehension.x-is c.listed.ensures.block) (seen_left SameBox {u = c.listed.new.first} c.in-ListComprehension.first-is c.listed.ensures.first_block) (seen_left SameBlock {u = c.listed.new.rest} c.in-ListComprehension.rest-is c.listed.ensures.rest_block) (seen_left (λ p q. KeepsForClause p.value q) c.in-ListComprehension.first-is c.listed.ensures.first) (seen_left (λ p q. Each KeepsClause p.items q) c.in-ListComprehension.rest-is c.listed.ensures.rest))

pub returns-in-DictComprehension-clause-calls : goal.returns-in-DictComprehension-clause-calls
returns-in-DictComprehension-clause-calls g c =
    writes_at g.F.FnMut (ap children c.in-DictComprehension.is ∙ ap expr_layer (expr.outs-DictComprehension c.in-DictComprehension.x c.in-DictComprehension.first c.in-DictComprehension.rest) ∙ ap₂ (λ p q. for_clause_places p.value ++ q) (sym c.in-DictComprehension.first-is) (ap₂ (λ q r. flat_map clause_places q.items ++ r.value.0 ∷ r.value.1 ∷ []) (sym c.in-DictComprehension.rest-is) (sym c.in-DictComprehension.x-is))) (ap expr_layer (expr.outs-DictComprehension c.mapped.new.x c.mapped.new.first c.mapped.new.rest)) c.mapped.ensures.calls

pub returns-in-DictComprehension-clause-kept : goal.returns-in-DictComprehension-clause-kept
returns-in-DictComprehension-clause-kept g c =
    seen KeepsExpr c.in-DictComprehension.is (beside.dict_comprehension _ _ _ _ _ _ (seen_left SameBox {u = c.mapped.new.x} c.in-DictComprehension.x-is c.mapped.ensures.block) (seen_left SameBox {u = c.mapped.new.first} c.in-DictComprehension.first-is c.mapped.ensures.first_block) (seen_left SameBlock {u = c.mapped.new.rest} c.in-DictComprehension.rest-is c.mapped.ensures.rest_block) (seen_left (λ p q. KeepsForClause p.value q) c.in-DictComprehension.first-is c.mapped.ensures.first) (seen_left (λ p q. Each KeepsClause p.items q) c.in-DictComprehension.rest-is c.mapped.ensures.rest))

pub returns-in-Identifier-clause-calls : goal.returns-in-Identifier-clause-calls
returns-in-Identifier-clause-calls g c =
    let none = ap children c.in-Identifier.is ∙ ap expr_layer (expr.outs-Identifier c.in-Identifier.field-0) in
    writes_at g.F.FnMut none none (writes_none g.F.FnMut refl)

pub returns-in-Identifier-clause-kept : goal.returns-in-Identifier-clause-kept
returns-in-Identifier-clause-kept g c = beside.same _

pub returns-in-Literal-clause-calls : goal.returns-in-Literal-clause-calls
returns-in-Literal-clause-calls g c =
    let none = ap children c.in-Literal.is ∙ ap expr_layer (expr.outs-Literal c.in-Literal.field-0) in
    writes_at g.F.FnMut none none (writes_none g.F.FnMut refl)

pub returns-in-Literal-clause-kept : goal.returns-in-Literal-clause-kept
returns-in-Literal-clause-kept g c = beside.same _
