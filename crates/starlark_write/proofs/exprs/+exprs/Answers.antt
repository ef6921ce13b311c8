use Rattle.std.proofs.Common.{rules, of_calls, arith, ◌≡◌, ◌<◌, ◌+◌, refl, sym, ap, ◌∙◌, subst, ◌++◌, append_assoc, flat_map, length, drop, ap₂}
use Rattle.std.specs.List.{sum_by}
use denote.Param.{param}
use Rattle.std.specs.Vec.{SameBlock}
use Rattle.starlark_ast.specs.Access.{argument_expr}
use Rattle.starlark_ast.specs.declared.ast.AssignTargetP.TheVariants as target
use Rattle.starlark_ast.specs.declared.ast.ClauseP.TheVariants as clause
use Rattle.starlark_ast.specs.declared.ast.ExprP.TheVariants as expr
use Rattle.starlark_ast.specs.declared.ast.ParameterP.TheVariants as parameter
use Rattle.starlark_visit.proofs.GoesOn.{out_err}
use Rattle.starlark_write.specs.Beside.{AtPlace, KeepsArgument, SameBox}
use Rattle.starlark_write.specs.BesideTypes as kept
use Rattle.starlark_write.specs.BesideTypes.{KeepsAll, KeepsArguments, KeepsClauseTypes, KeepsClauses, KeepsDefault, KeepsDefaults, KeepsFor, KeepsLambda, KeepsMaybe, KeepsPairs, KeepsTargetTypes, KeepsTargetsTypes, KeepsTypes}
use Rattle.starlark_write.specs.TypePlaces.{argument_types, clause_types, default_types, expr_types, for_clause_types, lambda_types, maybe_expr_types, own_type, target_types}
use Rattle.starlark_write.specs.Writing.{WritesUntil}
use Rattle.starlark_write.proofs.KeptParts.{argument_kept, expr_of_with}
use Rattle.starlark_write.proofs.KeptTypes.{KeepsPair, all_back, argument_nodes_of, argument_types_of, arguments_back, blocks_then, clauses_back, defaults_back, fewer, maybe_same, pairs_back, same_default_nodes, same_defaults, same_own, targets_back}
use Rattle.starlark_write.proofs.Lent.{expr_lent, seen, seen_left, target_lent}
use Rattle.starlark_write.proofs.Loops as loops
use Rattle.starlark_write.proofs.Loops.{both_more, end_in, front_more, lengths_more, stop_in, take_back, whole, writes_more, writes_stop_here}
use Rattle.starlark_write.proofs.TypeParts.{call_args_types-parts, clause_types-For, clause_types-If, default_types-Args, default_types-KwArgs, default_types-NoArgs, default_types-Normal, default_types-Slash, expr_types-BitNot, expr_types-Call, expr_types-Dict, expr_types-DictComprehension, expr_types-Dot, expr_types-FString, expr_types-Identifier, expr_types-If, expr_types-Index, expr_types-Index2, expr_types-Lambda, expr_types-List, expr_types-ListComprehension, expr_types-Literal, expr_types-Minus, expr_types-Not, expr_types-Op, expr_types-Plus, expr_types-Slice, expr_types-Tuple, for_clause_types-parts, fstring_types-parts, lambda_types-parts, target_types-Dot, target_types-Identifier, target_types-Index, target_types-Tuple}
use Rattle.starlark_write.proofs.TypelessNodes.{argument_nodes, call_args_nodes-parts, clause_nodes, clause_nodes-For, clause_nodes-If, default_nodes, default_nodes-Normal, expr_nodes, expr_nodes-BitNot, expr_nodes-Call, expr_nodes-Dict, expr_nodes-DictComprehension, expr_nodes-Dot, expr_nodes-FString, expr_nodes-If, expr_nodes-Index, expr_nodes-Index2, expr_nodes-Lambda, expr_nodes-List, expr_nodes-ListComprehension, expr_nodes-Minus, expr_nodes-Not, expr_nodes-Op, expr_nodes-Plus, expr_nodes-Slice, expr_nodes-Tuple, for_clause_nodes, for_clause_nodes-parts, fstring_nodes-parts, lambda_nodes, lambda_nodes-parts, maybe_nodes, target_nodes, target_nodes-Dot, target_nodes-Index, target_nodes-Tuple}
use Rattle.starlark_write.proofs.Writes.{writes_at, writes_none, writes_stop, writes_then}
use Rattle.starlark_write.proofs.exprs.+exprs.Goals as goal

pub expr-returns-in-Tuple-clause-calls : goal.expr-returns-in-Tuple-clause-calls
expr-returns-in-Tuple-clause-calls g t c =
    expr_lent (param 0 g.row.P) (param 3 g.row.P-LoadPayload) (param 4 g.row.P-IdentPayload) (param 5 g.row.P-IdentAssignPayload) (param 6 g.row.P-DefPayload) (param 7 g.row.P-TypeExprPayload) 0 (λ y v. expr.Tuple y) (λ a b. WritesUntil g.F.FnMut c.args.f.now (expr_types a) c.list.result c.list.new.f (expr_types b)) c.list.new.xs (c.in-Tuple.xs, tt) c.in-Tuple.is
    (writes_at g.F.FnMut (expr_types-Tuple c.in-Tuple.xs ∙ ap (λ q. flat_map (λ x. expr_types x.node) q.items) (sym c.in-Tuple.xs-is)) (expr_types-Tuple c.list.new.xs) c.list.ensures.calls)

pub expr-returns-in-Tuple-clause-kept : goal.expr-returns-in-Tuple-clause-kept
expr-returns-in-Tuple-clause-kept g t c =
    let s = c.args.x.now.span in
    expr_lent (param 0 g.row.P) (param 3 g.row.P-LoadPayload) (param 4 g.row.P-IdentPayload) (param 5 g.row.P-IdentAssignPayload) (param 6 g.row.P-DefPayload) (param 7 g.row.P-TypeExprPayload) 0 (λ y v. expr.Tuple y) (λ a b. KeepsTypes (record { span = s; node = a }) (record { span = s; node = b })) c.list.new.xs (c.in-Tuple.xs, tt) c.in-Tuple.is
    (kept.tuple s _ _ (seen_left SameBlock {u = c.list.new.xs} c.in-Tuple.xs-is c.list.ensures.block) (seen_left (λ a b. KeepsAll a.items b) c.in-Tuple.xs-is c.list.ensures.kept))

pub expr-returns-in-Index-clause-calls : goal.expr-returns-in-Index-clause-calls
expr-returns-in-Index-clause-calls g t c =
    expr_lent (param 0 g.row.P) (param 3 g.row.P-LoadPayload) (param 4 g.row.P-IdentPayload) (param 5 g.row.P-IdentAssignPayload) (param 6 g.row.P-DefPayload) (param 7 g.row.P-TypeExprPayload) 3 (λ y v. expr.Index y) (λ a b. WritesUntil g.F.FnMut c.args.f.now (expr_types a) c.pair.result c.pair.new.f (expr_types b)) c.pair.new.x (c.in-Index.x, tt) c.in-Index.is
    (writes_at g.F.FnMut (expr_types-Index c.in-Index.x ∙ ap (λ q. expr_types q.value.0.node ++ expr_types q.value.1.node) (sym c.in-Index.x-is)) (expr_types-Index c.pair.new.x) c.pair.ensures.calls)

pub expr-returns-in-Index-clause-kept : goal.expr-returns-in-Index-clause-kept
expr-returns-in-Index-clause-kept g t c =
    let s = c.args.x.now.span in
    expr_lent (param 0 g.row.P) (param 3 g.row.P-LoadPayload) (param 4 g.row.P-IdentPayload) (param 5 g.row.P-IdentAssignPayload) (param 6 g.row.P-DefPayload) (param 7 g.row.P-TypeExprPayload) 3 (λ y v. expr.Index y) (λ a b. KeepsTypes (record { span = s; node = a }) (record { span = s; node = b })) c.pair.new.x (c.in-Index.x, tt) c.in-Index.is
    (kept.index s _ _ (seen_left SameBox {u = c.pair.new.x} c.in-Index.x-is c.pair.ensures.block) (seen_left (λ a b. KeepsTypes a.value.0 b) c.in-Index.x-is c.pair.ensures.first) (seen_left (λ a b. KeepsTypes a.value.1 b) c.in-Index.x-is c.pair.ensures.second))

pub expr-returns-in-Index2-clause-calls : goal.expr-returns-in-Index2-clause-calls
expr-returns-in-Index2-clause-calls g t c =
    expr_lent (param 0 g.row.P) (param 3 g.row.P-LoadPayload) (param 4 g.row.P-IdentPayload) (param 5 g.row.P-IdentAssignPayload) (param 6 g.row.P-DefPayload) (param 7 g.row.P-TypeExprPayload) 4 (λ y v. expr.Index2 y) (λ a b. WritesUntil g.F.FnMut c.args.f.now (expr_types a) c.triple.result c.triple.new.f (expr_types b)) c.triple.new.x (c.in-Index2.x, tt) c.in-Index2.is
    (writes_at g.F.FnMut (expr_types-Index2 c.in-Index2.x ∙ ap (λ q. expr_types q.value.0.node ++ (expr_types q.value.1.node ++ expr_types q.value.2.node)) (sym c.in-Index2.x-is)) (expr_types-Index2 c.triple.new.x) c.triple.ensures.calls)

pub expr-returns-in-Index2-clause-kept : goal.expr-returns-in-Index2-clause-kept
expr-returns-in-Index2-clause-kept g t c =
    let s = c.args.x.now.span in
    expr_lent (param 0 g.row.P) (param 3 g.row.P-LoadPayload) (param 4 g.row.P-IdentPayload) (param 5 g.row.P-IdentAssignPayload) (param 6 g.row.P-DefPayload) (param 7 g.row.P-TypeExprPayload) 4 (λ y v. expr.Index2 y) (λ a b. KeepsTypes (record { span = s; node = a }) (record { span = s; node = b })) c.triple.new.x (c.in-Index2.x, tt) c.in-Index2.is
    (kept.index2 s _ _ (seen_left SameBox {u = c.triple.new.x} c.in-Index2.x-is c.triple.ensures.block) (seen_left (λ a b. KeepsTypes a.value.0 b) c.in-Index2.x-is c.triple.ensures.first) (seen_left (λ a b. KeepsTypes a.value.1 b) c.in-Index2.x-is c.triple.ensures.second) (seen_left (λ a b. KeepsTypes a.value.2 b) c.in-Index2.x-is c.triple.ensures.third))

pub expr-returns-in-Lambda-clause-calls : goal.expr-returns-in-Lambda-clause-calls
expr-returns-in-Lambda-clause-calls g t c =
    expr_lent (param 0 g.row.P) (param 3 g.row.P-LoadPayload) (param 4 g.row.P-IdentPayload) (param 5 g.row.P-IdentAssignPayload) (param 6 g.row.P-DefPayload) (param 7 g.row.P-TypeExprPayload) 7 (λ y v. expr.Lambda y) (λ a b. WritesUntil g.F.FnMut c.args.f.now (expr_types a) c.lambda.result c.lambda.new.f (expr_types b)) c.lambda.new.x (c.in-Lambda.x, tt) c.in-Lambda.is
    (writes_at g.F.FnMut (expr_types-Lambda c.in-Lambda.x ∙ ap (λ q. lambda_types q) (sym c.in-Lambda.x-is)) (expr_types-Lambda c.lambda.new.x) c.lambda.ensures.calls)

pub expr-returns-in-Lambda-clause-kept : goal.expr-returns-in-Lambda-clause-kept
expr-returns-in-Lambda-clause-kept g t c =
    let s = c.args.x.now.span in
    expr_lent (param 0 g.row.P) (param 3 g.row.P-LoadPayload) (param 4 g.row.P-IdentPayload) (param 5 g.row.P-IdentAssignPayload) (param 6 g.row.P-DefPayload) (param 7 g.row.P-TypeExprPayload) 7 (λ y v. expr.Lambda y) (λ a b. KeepsTypes (record { span = s; node = a }) (record { span = s; node = b })) c.lambda.new.x (c.in-Lambda.x, tt) c.in-Lambda.is
    (kept.lambda s _ _ (seen_left (λ a b. KeepsLambda a b) c.in-Lambda.x-is c.lambda.ensures.kept))

pub expr-returns-in-Not-clause-calls : goal.expr-returns-in-Not-clause-calls
expr-returns-in-Not-clause-calls g t c =
    expr_lent (param 0 g.row.P) (param 3 g.row.P-LoadPayload) (param 4 g.row.P-IdentPayload) (param 5 g.row.P-IdentAssignPayload) (param 6 g.row.P-DefPayload) (param 7 g.row.P-TypeExprPayload) 9 (λ y v. expr.Not y) (λ a b. WritesUntil g.F.FnMut c.args.f.now (expr_types a) c.boxed.result c.boxed.new.f (expr_types b)) c.boxed.new.x (c.in-Not.x, tt) c.in-Not.is
    (writes_at g.F.FnMut (expr_types-Not c.in-Not.x ∙ ap (λ q. expr_types q.value.node) (sym c.in-Not.x-is)) (expr_types-Not c.boxed.new.x) c.boxed.ensures.calls)

pub expr-returns-in-Not-clause-kept : goal.expr-returns-in-Not-clause-kept
expr-returns-in-Not-clause-kept g t c =
    let s = c.args.x.now.span in
    expr_lent (param 0 g.row.P) (param 3 g.row.P-LoadPayload) (param 4 g.row.P-IdentPayload) (param 5 g.row.P-IdentAssignPayload) (param 6 g.row.P-DefPayload) (param 7 g.row.P-TypeExprPayload) 9 (λ y v. expr.Not y) (λ a b. KeepsTypes (record { span = s; node = a }) (record { span = s; node = b })) c.boxed.new.x (c.in-Not.x, tt) c.in-Not.is
    (kept.not s _ _ (seen_left SameBox {u = c.boxed.new.x} c.in-Not.x-is c.boxed.ensures.block) (seen_left (λ a b. KeepsTypes a.value b) c.in-Not.x-is c.boxed.ensures.kept))

pub expr-returns-in-Minus-clause-calls : goal.expr-returns-in-Minus-clause-calls
expr-returns-in-Minus-clause-calls g t c =
    expr_lent (param 0 g.row.P) (param 3 g.row.P-LoadPayload) (param 4 g.row.P-IdentPayload) (param 5 g.row.P-IdentAssignPayload) (param 6 g.row.P-DefPayload) (param 7 g.row.P-TypeExprPayload) 10 (λ y v. expr.Minus y) (λ a b. WritesUntil g.F.FnMut c.args.f.now (expr_types a) c.boxed-in-Minus.result c.boxed-in-Minus.new.f (expr_types b)) c.boxed-in-Minus.new.x (c.in-Minus.x, tt) c.in-Minus.is
    (writes_at g.F.FnMut (expr_types-Minus c.in-Minus.x ∙ ap (λ q. expr_types q.value.node) (sym c.in-Minus.x-is)) (expr_types-Minus c.boxed-in-Minus.new.x) c.boxed-in-Minus.ensures.calls)

pub expr-returns-in-Minus-clause-kept : goal.expr-returns-in-Minus-clause-kept
expr-returns-in-Minus-clause-kept g t c =
    let s = c.args.x.now.span in
    expr_lent (param 0 g.row.P) (param 3 g.row.P-LoadPayload) (param 4 g.row.P-IdentPayload) (param 5 g.row.P-IdentAssignPayload) (param 6 g.row.P-DefPayload) (param 7 g.row.P-TypeExprPayload) 10 (λ y v. expr.Minus y) (λ a b. KeepsTypes (record { span = s; node = a }) (record { span = s; node = b })) c.boxed-in-Minus.new.x (c.in-Minus.x, tt) c.in-Minus.is
    (kept.minus s _ _ (seen_left SameBox {u = c.boxed-in-Minus.new.x} c.in-Minus.x-is c.boxed-in-Minus.ensures.block) (seen_left (λ a b. KeepsTypes a.value b) c.in-Minus.x-is c.boxed-in-Minus.ensures.kept))

pub expr-returns-in-Plus-clause-calls : goal.expr-returns-in-Plus-clause-calls
expr-returns-in-Plus-clause-calls g t c =
    expr_lent (param 0 g.row.P) (param 3 g.row.P-LoadPayload) (param 4 g.row.P-IdentPayload) (param 5 g.row.P-IdentAssignPayload) (param 6 g.row.P-DefPayload) (param 7 g.row.P-TypeExprPayload) 11 (λ y v. expr.Plus y) (λ a b. WritesUntil g.F.FnMut c.args.f.now (expr_types a) c.boxed-in-Plus.result c.boxed-in-Plus.new.f (expr_types b)) c.boxed-in-Plus.new.x (c.in-Plus.x, tt) c.in-Plus.is
    (writes_at g.F.FnMut (expr_types-Plus c.in-Plus.x ∙ ap (λ q. expr_types q.value.node) (sym c.in-Plus.x-is)) (expr_types-Plus c.boxed-in-Plus.new.x) c.boxed-in-Plus.ensures.calls)

pub expr-returns-in-Plus-clause-kept : goal.expr-returns-in-Plus-clause-kept
expr-returns-in-Plus-clause-kept g t c =
    let s = c.args.x.now.span in
    expr_lent (param 0 g.row.P) (param 3 g.row.P-LoadPayload) (param 4 g.row.P-IdentPayload) (param 5 g.row.P-IdentAssignPayload) (param 6 g.row.P-DefPayload) (param 7 g.row.P-TypeExprPayload) 11 (λ y v. expr.Plus y) (λ a b. KeepsTypes (record { span = s; node = a }) (record { span = s; node = b })) c.boxed-in-Plus.new.x (c.in-Plus.x, tt) c.in-Plus.is
    (kept.plus s _ _ (seen_left SameBox {u = c.boxed-in-Plus.new.x} c.in-Plus.x-is c.boxed-in-Plus.ensures.block) (seen_left (λ a b. KeepsTypes a.value b) c.in-Plus.x-is c.boxed-in-Plus.ensures.kept))

pub expr-returns-in-BitNot-clause-calls : goal.expr-returns-in-BitNot-clause-calls
expr-returns-in-BitNot-clause-calls g t c =
    expr_lent (param 0 g.row.P) (param 3 g.row.P-LoadPayload) (param 4 g.row.P-IdentPayload) (param 5 g.row.P-IdentAssignPayload) (param 6 g.row.P-DefPayload) (param 7 g.row.P-TypeExprPayload) 12 (λ y v. expr.BitNot y) (λ a b. WritesUntil g.F.FnMut c.args.f.now (expr_types a) c.boxed-in-BitNot.result c.boxed-in-BitNot.new.f (expr_types b)) c.boxed-in-BitNot.new.x (c.in-BitNot.x, tt) c.in-BitNot.is
    (writes_at g.F.FnMut (expr_types-BitNot c.in-BitNot.x ∙ ap (λ q. expr_types q.value.node) (sym c.in-BitNot.x-is)) (expr_types-BitNot c.boxed-in-BitNot.new.x) c.boxed-in-BitNot.ensures.calls)

pub expr-returns-in-BitNot-clause-kept : goal.expr-returns-in-BitNot-clause-kept
expr-returns-in-BitNot-clause-kept g t c =
    let s = c.args.x.now.span in
    expr_lent (param 0 g.row.P) (param 3 g.row.P-LoadPayload) (param 4 g.row.P-IdentPayload) (param 5 g.row.P-IdentAssignPayload) (param 6 g.row.P-DefPayload) (param 7 g.row.P-TypeExprPayload) 12 (λ y v. expr.BitNot y) (λ a b. KeepsTypes (record { span = s; node = a }) (record { span = s; node = b })) c.boxed-in-BitNot.new.x (c.in-BitNot.x, tt) c.in-BitNot.is
    (kept.bit_not s _ _ (seen_left SameBox {u = c.boxed-in-BitNot.new.x} c.in-BitNot.x-is c.boxed-in-BitNot.ensures.block) (seen_left (λ a b. KeepsTypes a.value b) c.in-BitNot.x-is c.boxed-in-BitNot.ensures.kept))

pub expr-returns-in-If-clause-calls : goal.expr-returns-in-If-clause-calls
expr-returns-in-If-clause-calls g t c =
    expr_lent (param 0 g.row.P) (param 3 g.row.P-LoadPayload) (param 4 g.row.P-IdentPayload) (param 5 g.row.P-IdentAssignPayload) (param 6 g.row.P-DefPayload) (param 7 g.row.P-TypeExprPayload) 14 (λ y v. expr.If y) (λ a b. WritesUntil g.F.FnMut c.args.f.now (expr_types a) c.triple-in-If.result c.triple-in-If.new.f (expr_types b)) c.triple-in-If.new.x (c.in-If.x, tt) c.in-If.is
    (writes_at g.F.FnMut (expr_types-If c.in-If.x ∙ ap (λ q. expr_types q.value.0.node ++ (expr_types q.value.1.node ++ expr_types q.value.2.node)) (sym c.in-If.x-is)) (expr_types-If c.triple-in-If.new.x) c.triple-in-If.ensures.calls)

pub expr-returns-in-If-clause-kept : goal.expr-returns-in-If-clause-kept
expr-returns-in-If-clause-kept g t c =
    let s = c.args.x.now.span in
    expr_lent (param 0 g.row.P) (param 3 g.row.P-LoadPayload) (param 4 g.row.P-IdentPayload) (param 5 g.row.P-IdentAssignPayload) (param 6 g.row.P-DefPayload) (param 7 g.row.P-TypeExprPayload) 14 (λ y v. expr.If y) (λ a b. KeepsTypes (record { span = s; node = a }) (record { span = s; node = b })) c.triple-in-If.new.x (c.in-If.x, tt) c.in-If.is
    (kept.choice s _ _ (seen_left SameBox {u = c.triple-in-If.new.x} c.in-If.x-is c.triple-in-If.ensures.block) (seen_left (λ a b. KeepsTypes a.value.0 b) c.in-If.x-is c.triple-in-If.ensures.first) (seen_left (λ a b. KeepsTypes a.value.1 b) c.in-If.x-is c.triple-in-If.ensures.second) (seen_left (λ a b. KeepsTypes a.value.2 b) c.in-If.x-is c.triple-in-If.ensures.third))

pub expr-returns-in-List-clause-calls : goal.expr-returns-in-List-clause-calls
expr-returns-in-List-clause-calls g t c =
    expr_lent (param 0 g.row.P) (param 3 g.row.P-LoadPayload) (param 4 g.row.P-IdentPayload) (param 5 g.row.P-IdentAssignPayload) (param 6 g.row.P-DefPayload) (param 7 g.row.P-TypeExprPayload) 15 (λ y v. expr.List y) (λ a b. WritesUntil g.F.FnMut c.args.f.now (expr_types a) c.list-in-List.result c.list-in-List.new.f (expr_types b)) c.list-in-List.new.xs (c.in-List.xs, tt) c.in-List.is
    (writes_at g.F.FnMut (expr_types-List c.in-List.xs ∙ ap (λ q. flat_map (λ x. expr_types x.node) q.items) (sym c.in-List.xs-is)) (expr_types-List c.list-in-List.new.xs) c.list-in-List.ensures.calls)

pub expr-returns-in-List-clause-kept : goal.expr-returns-in-List-clause-kept
expr-returns-in-List-clause-kept g t c =
    let s = c.args.x.now.span in
    expr_lent (param 0 g.row.P) (param 3 g.row.P-LoadPayload) (param 4 g.row.P-IdentPayload) (param 5 g.row.P-IdentAssignPayload) (param 6 g.row.P-DefPayload) (param 7 g.row.P-TypeExprPayload) 15 (λ y v. expr.List y) (λ a b. KeepsTypes (record { span = s; node = a }) (record { span = s; node = b })) c.list-in-List.new.xs (c.in-List.xs, tt) c.in-List.is
    (kept.list s _ _ (seen_left SameBlock {u = c.list-in-List.new.xs} c.in-List.xs-is c.list-in-List.ensures.block) (seen_left (λ a b. KeepsAll a.items b) c.in-List.xs-is c.list-in-List.ensures.kept))

pub expr-returns-in-Dict-clause-calls : goal.expr-returns-in-Dict-clause-calls
expr-returns-in-Dict-clause-calls g t c =
    expr_lent (param 0 g.row.P) (param 3 g.row.P-LoadPayload) (param 4 g.row.P-IdentPayload) (param 5 g.row.P-IdentAssignPayload) (param 6 g.row.P-DefPayload) (param 7 g.row.P-TypeExprPayload) 16 (λ y v. expr.Dict y) (λ a b. WritesUntil g.F.FnMut c.args.f.now (expr_types a) c.dict.result c.dict.new.f (expr_types b)) c.dict.new.xs (c.in-Dict.xs, tt) c.in-Dict.is
    (writes_at g.F.FnMut (expr_types-Dict c.in-Dict.xs ∙ ap (λ q. flat_map (λ x. expr_types x.0.node ++ expr_types x.1.node) q.items) (sym c.in-Dict.xs-is)) (expr_types-Dict c.dict.new.xs) c.dict.ensures.calls)

pub expr-returns-in-Dict-clause-kept : goal.expr-returns-in-Dict-clause-kept
expr-returns-in-Dict-clause-kept g t c =
    let s = c.args.x.now.span in
    expr_lent (param 0 g.row.P) (param 3 g.row.P-LoadPayload) (param 4 g.row.P-IdentPayload) (param 5 g.row.P-IdentAssignPayload) (param 6 g.row.P-DefPayload) (param 7 g.row.P-TypeExprPayload) 16 (λ y v. expr.Dict y) (λ a b. KeepsTypes (record { span = s; node = a }) (record { span = s; node = b })) c.dict.new.xs (c.in-Dict.xs, tt) c.in-Dict.is
    (kept.dict s _ _ (seen_left SameBlock {u = c.dict.new.xs} c.in-Dict.xs-is c.dict.ensures.block) (seen_left (λ a b. KeepsPairs a.items b) c.in-Dict.xs-is c.dict.ensures.kept))

pub expr-returns-in-FString-clause-calls : goal.expr-returns-in-FString-clause-calls
expr-returns-in-FString-clause-calls g t c =
    expr_lent (param 0 g.row.P) (param 3 g.row.P-LoadPayload) (param 4 g.row.P-IdentPayload) (param 5 g.row.P-IdentAssignPayload) (param 6 g.row.P-DefPayload) (param 7 g.row.P-TypeExprPayload) 19 (λ y v. expr.FString y) (λ a b. WritesUntil g.F.FnMut c.args.f.now (expr_types a) c.fstring.result c.fstring.new.f (expr_types b)) c.fstring.new.x (c.in-FString.x, tt) c.in-FString.is
    (writes_at g.F.FnMut (expr_types-FString c.in-FString.x ∙ fstring_types-parts c.in-FString.x.node ∙ ap (λ q. flat_map (λ y. expr_types y.node) q.node.expressions.items) (sym c.in-FString.x-is)) (expr_types-FString c.fstring.new.x ∙ fstring_types-parts c.fstring.new.x.node) c.fstring.ensures.calls)

pub expr-returns-in-FString-clause-kept : goal.expr-returns-in-FString-clause-kept
expr-returns-in-FString-clause-kept g t c =
    let s = c.args.x.now.span in
    expr_lent (param 0 g.row.P) (param 3 g.row.P-LoadPayload) (param 4 g.row.P-IdentPayload) (param 5 g.row.P-IdentAssignPayload) (param 6 g.row.P-DefPayload) (param 7 g.row.P-TypeExprPayload) 19 (λ y v. expr.FString y) (λ a b. KeepsTypes (record { span = s; node = a }) (record { span = s; node = b })) c.fstring.new.x (c.in-FString.x, tt) c.in-FString.is
    (kept.fstring s _ _ (c.fstring.ensures.span ∙ ap (λ q. q.span) c.in-FString.x-is) (c.fstring.ensures.format ∙ ap (λ q. q.node.format) c.in-FString.x-is) (seen_left (λ a b. SameBlock a.node.expressions b) {u = c.fstring.new.x.node.expressions} c.in-FString.x-is c.fstring.ensures.block) (seen_left (λ a b. KeepsAll a.node.expressions.items b) c.in-FString.x-is c.fstring.ensures.kept))

pub expr-returns-in-Identifier-clause-calls : goal.expr-returns-in-Identifier-clause-calls
expr-returns-in-Identifier-clause-calls g t c =
    let none = ap expr_types c.in-Identifier.is ∙ expr_types-Identifier c.in-Identifier.field-0 in
    writes_at g.F.FnMut none none (writes_none g.F.FnMut refl)

pub expr-returns-in-Identifier-clause-kept : goal.expr-returns-in-Identifier-clause-kept
expr-returns-in-Identifier-clause-kept g t c =
    kept.same _

pub expr-returns-in-Literal-clause-calls : goal.expr-returns-in-Literal-clause-calls
expr-returns-in-Literal-clause-calls g t c =
    let none = ap expr_types c.in-Literal.is ∙ expr_types-Literal g.row.P.Denot g.row.P-LoadPayload.Denot g.row.P-IdentPayload.Denot g.row.P-IdentAssignPayload.Denot g.row.P-DefPayload.Denot g.row.P-TypeExprPayload.Denot c.in-Literal.field-0 in
    writes_at g.F.FnMut none none (writes_none g.F.FnMut refl)

pub expr-returns-in-Literal-clause-kept : goal.expr-returns-in-Literal-clause-kept
expr-returns-in-Literal-clause-kept g t c =
    kept.same _

pub expr-returns-in-Dot-clause-calls : goal.expr-returns-in-Dot-clause-calls
expr-returns-in-Dot-clause-calls g t c =
    writes_at g.F.FnMut (ap expr_types c.in-Dot.is ∙ expr_types-Dot c.in-Dot.x c.in-Dot.name ∙ ap (λ q. expr_types q.value.node) (sym c.in-Dot.x-is)) (expr_types-Dot c.named.new.x c.named.new.name) c.named.ensures.calls

pub expr-returns-in-Dot-clause-kept : goal.expr-returns-in-Dot-clause-kept
expr-returns-in-Dot-clause-kept g t c =
    let s = c.args.x.now.span in
    let arm = c.in-Dot in
    let call = c.named in
    seen (λ a b. KeepsTypes (record { span = s; node = a }) b) arm.is
    (subst (λ q. KeepsTypes (record { span = s; node = expr.Dot arm.x arm.name }) (record { span = s; node = expr.Dot call.new.x q })) (sym (call.ensures.name ∙ arm.name-is)) (kept.dot s _ _ _ (seen_left SameBox {u = call.new.x} arm.x-is call.ensures.block) (seen_left (λ a b. KeepsTypes a.value b) arm.x-is call.ensures.kept)))

pub expr-returns-in-Call-clause-calls : goal.expr-returns-in-Call-clause-calls
expr-returns-in-Call-clause-calls g t c =
    writes_at g.F.FnMut (ap expr_types c.in-Call.is ∙ expr_types-Call c.in-Call.x c.in-Call.args ∙ ap (λ q. expr_types c.in-Call.x.value.node ++ q) (call_args_types-parts c.in-Call.args) ∙ ap₂ (λ p q. expr_types p.value.node ++ flat_map (λ a. argument_types a.node) q.args.items) (sym c.in-Call.x-is) (sym c.in-Call.args-is)) (expr_types-Call c.call.new.x c.call.new.args ∙ ap (λ q. expr_types c.call.new.x.value.node ++ q) (call_args_types-parts c.call.new.args)) c.call.ensures.calls

pub expr-returns-in-Call-clause-kept : goal.expr-returns-in-Call-clause-kept
expr-returns-in-Call-clause-kept g t c =
    let s = c.args.x.now.span in
    let arm = c.in-Call in
    let call = c.call in
    seen (λ a b. KeepsTypes (record { span = s; node = a }) b) arm.is
    (kept.call s _ _ _ _ (seen_left SameBox {u = call.new.x} arm.x-is call.ensures.block) (seen_left (λ a b. SameBlock a.args b) {u = call.new.args.args} arm.args-is call.ensures.arguments_block) (seen_left (λ a b. KeepsTypes a.value b) arm.x-is call.ensures.kept) (seen_left (λ a b. KeepsArguments a.args.items b) arm.args-is call.ensures.arguments))

pub expr-returns-in-Slice-clause-calls : goal.expr-returns-in-Slice-clause-calls
expr-returns-in-Slice-clause-calls g t c =
    writes_at g.F.FnMut (ap expr_types c.in-Slice.is ∙ expr_types-Slice c.in-Slice.x c.in-Slice.a c.in-Slice.b c.in-Slice.c ∙ ap₂ (λ p q. expr_types p.value.node ++ q) (sym c.in-Slice.x-is) (ap₂ (λ p q. maybe_expr_types p ++ q) (sym c.in-Slice.a-is) (ap₂ (λ p q. maybe_expr_types p ++ maybe_expr_types q) (sym c.in-Slice.b-is) (sym c.in-Slice.c-is)))) (expr_types-Slice c.slice.new.x c.slice.new.a c.slice.new.b c.slice.new.c) c.slice.ensures.calls

pub expr-returns-in-Slice-clause-kept : goal.expr-returns-in-Slice-clause-kept
expr-returns-in-Slice-clause-kept g t c =
    let s = c.args.x.now.span in
    let arm = c.in-Slice in
    let call = c.slice in
    seen (λ a b. KeepsTypes (record { span = s; node = a }) b) arm.is
    (kept.slice s _ _ _ _ _ _ _ _ (seen_left SameBox {u = call.new.x} arm.x-is call.ensures.block) (seen_left (λ a b. KeepsTypes a.value b) arm.x-is call.ensures.kept) (seen_left KeepsMaybe arm.a-is call.ensures.first) (seen_left KeepsMaybe arm.b-is call.ensures.second) (seen_left KeepsMaybe arm.c-is call.ensures.third))

pub expr-returns-in-Op-clause-calls : goal.expr-returns-in-Op-clause-calls
expr-returns-in-Op-clause-calls g t c =
    writes_at g.F.FnMut (ap expr_types c.in-Op.is ∙ expr_types-Op c.in-Op.x c.in-Op.op c.in-Op.y ∙ ap₂ (λ p q. expr_types p.value.node ++ expr_types q.value.node) (sym c.in-Op.x-is) (sym c.in-Op.y-is)) (expr_types-Op c.operation.new.x c.operation.new.op c.operation.new.y) c.operation.ensures.calls

pub expr-returns-in-Op-clause-kept : goal.expr-returns-in-Op-clause-kept
expr-returns-in-Op-clause-kept g t c =
    let s = c.args.x.now.span in
    let arm = c.in-Op in
    let call = c.operation in
    seen (λ a b. KeepsTypes (record { span = s; node = a }) b) arm.is
    (subst (λ q. KeepsTypes (record { span = s; node = expr.Op arm.x arm.op arm.y }) (record { span = s; node = expr.Op call.new.x q call.new.y })) (sym (call.ensures.op ∙ arm.op-is)) (kept.op s _ _ _ _ _ (seen_left SameBox {u = call.new.x} arm.x-is call.ensures.first_block) (seen_left SameBox {u = call.new.y} arm.y-is call.ensures.second_block) (seen_left (λ a b. KeepsTypes a.value b) arm.x-is call.ensures.first) (seen_left (λ a b. KeepsTypes a.value b) arm.y-is call.ensures.second)))

pub expr-returns-in-ListComprehension-clause-calls : goal.expr-returns-in-ListComprehension-clause-calls
expr-returns-in-ListComprehension-clause-calls g t c =
    writes_at g.F.FnMut (ap expr_types c.in-ListComprehension.is ∙ expr_types-ListComprehension c.in-ListComprehension.x c.in-ListComprehension.first c.in-ListComprehension.rest ∙ ap₂ (λ p q. for_clause_types p.value ++ q) (sym c.in-ListComprehension.first-is) (ap₂ (λ p q. flat_map clause_types p.items ++ expr_types q.value.node) (sym c.in-ListComprehension.rest-is) (sym c.in-ListComprehension.x-is))) (expr_types-ListComprehension c.listed.new.x c.listed.new.first c.listed.new.rest) c.listed.ensures.calls

pub expr-returns-in-ListComprehension-clause-kept : goal.expr-returns-in-ListComprehension-clause-kept
expr-returns-in-ListComprehension-clause-kept g t c =
    let s = c.args.x.now.span in
    let arm = c.in-ListComprehension in
    let call = c.listed in
    seen (λ a b. KeepsTypes (record { span = s; node = a }) b) arm.is
    (kept.list_comprehension s _ _ _ _ _ _ (seen_left SameBox {u = call.new.x} arm.x-is call.ensures.block) (seen_left SameBox {u = call.new.first} arm.first-is call.ensures.first_block) (seen_left SameBlock {u = call.new.rest} arm.rest-is call.ensures.rest_block) (seen_left (λ a b. KeepsFor a.value b) arm.first-is call.ensures.first) (seen_left (λ a b. KeepsClauses a.items b) arm.rest-is call.ensures.rest) (seen_left (λ a b. KeepsTypes a.value b) arm.x-is call.ensures.kept))

pub expr-returns-in-DictComprehension-clause-calls : goal.expr-returns-in-DictComprehension-clause-calls
expr-returns-in-DictComprehension-clause-calls g t c =
    writes_at g.F.FnMut (ap expr_types c.in-DictComprehension.is ∙ expr_types-DictComprehension c.in-DictComprehension.x c.in-DictComprehension.first c.in-DictComprehension.rest ∙ ap₂ (λ p q. for_clause_types p.value ++ q) (sym c.in-DictComprehension.first-is) (ap₂ (λ p q. flat_map clause_types p.items ++ (expr_types q.value.0.node ++ expr_types q.value.1.node)) (sym c.in-DictComprehension.rest-is) (sym c.in-DictComprehension.x-is))) (expr_types-DictComprehension c.mapped.new.x c.mapped.new.first c.mapped.new.rest) c.mapped.ensures.calls

pub expr-returns-in-DictComprehension-clause-kept : goal.expr-returns-in-DictComprehension-clause-kept
expr-returns-in-DictComprehension-clause-kept g t c =
    let s = c.args.x.now.span in
    let arm = c.in-DictComprehension in
    let call = c.mapped in
    seen (λ a b. KeepsTypes (record { span = s; node = a }) b) arm.is
    (kept.dict_comprehension s _ _ _ _ _ _ (seen_left SameBox {u = call.new.x} arm.x-is call.ensures.block) (seen_left SameBox {u = call.new.first} arm.first-is call.ensures.first_block) (seen_left SameBlock {u = call.new.rest} arm.rest-is call.ensures.rest_block) (seen_left (λ a b. KeepsFor a.value b) arm.first-is call.ensures.first) (seen_left (λ a b. KeepsClauses a.items b) arm.rest-is call.ensures.rest) (seen_left (λ a b. KeepsTypes a.value.0 b) arm.x-is call.ensures.key) (seen_left (λ a b. KeepsTypes a.value.1 b) arm.x-is call.ensures.kept))

pub target-returns-in-Tuple-clause-calls : goal.target-returns-in-Tuple-clause-calls
target-returns-in-Tuple-clause-calls g t c =
    target_lent (param 0 g.row.P) (param 3 g.row.P-LoadPayload) (param 4 g.row.P-IdentPayload) (param 5 g.row.P-IdentAssignPayload) (param 6 g.row.P-DefPayload) (param 7 g.row.P-TypeExprPayload) 0 (λ y v. target.Tuple y) (λ a b. WritesUntil g.F.FnMut c.args.f.now (target_types a) c.targets.result c.targets.new.f (target_types b)) c.targets.new.xs (c.in-Tuple.xs, tt) c.in-Tuple.is
    (writes_at g.F.FnMut (target_types-Tuple c.in-Tuple.xs ∙ ap (λ q. flat_map (λ x. target_types x.node) q.items) (sym c.in-Tuple.xs-is)) (target_types-Tuple c.targets.new.xs) c.targets.ensures.calls)

pub target-returns-in-Tuple-clause-kept : goal.target-returns-in-Tuple-clause-kept
target-returns-in-Tuple-clause-kept g t c =
    let s = c.args.x.now.span in
    target_lent (param 0 g.row.P) (param 3 g.row.P-LoadPayload) (param 4 g.row.P-IdentPayload) (param 5 g.row.P-IdentAssignPayload) (param 6 g.row.P-DefPayload) (param 7 g.row.P-TypeExprPayload) 0 (λ y v. target.Tuple y) (λ a b. KeepsTargetTypes (record { span = s; node = a }) (record { span = s; node = b })) c.targets.new.xs (c.in-Tuple.xs, tt) c.in-Tuple.is
    (kept.target_tuple s _ _ (seen_left SameBlock {u = c.targets.new.xs} c.in-Tuple.xs-is c.targets.ensures.block) (seen_left (λ a b. KeepsTargetsTypes a.items b) c.in-Tuple.xs-is c.targets.ensures.kept))

pub target-returns-in-Index-clause-calls : goal.target-returns-in-Index-clause-calls
target-returns-in-Index-clause-calls g t c =
    target_lent (param 0 g.row.P) (param 3 g.row.P-LoadPayload) (param 4 g.row.P-IdentPayload) (param 5 g.row.P-IdentAssignPayload) (param 6 g.row.P-DefPayload) (param 7 g.row.P-TypeExprPayload) 1 (λ y v. target.Index y) (λ a b. WritesUntil g.F.FnMut c.args.f.now (target_types a) c.pair.result c.pair.new.f (target_types b)) c.pair.new.x (c.in-Index.x, tt) c.in-Index.is
    (writes_at g.F.FnMut (target_types-Index c.in-Index.x ∙ ap (λ q. expr_types q.value.0.node ++ expr_types q.value.1.node) (sym c.in-Index.x-is)) (target_types-Index c.pair.new.x) c.pair.ensures.calls)

pub target-returns-in-Index-clause-kept : goal.target-returns-in-Index-clause-kept
target-returns-in-Index-clause-kept g t c =
    let s = c.args.x.now.span in
    target_lent (param 0 g.row.P) (param 3 g.row.P-LoadPayload) (param 4 g.row.P-IdentPayload) (param 5 g.row.P-IdentAssignPayload) (param 6 g.row.P-DefPayload) (param 7 g.row.P-TypeExprPayload) 1 (λ y v. target.Index y) (λ a b. KeepsTargetTypes (record { span = s; node = a }) (record { span = s; node = b })) c.pair.new.x (c.in-Index.x, tt) c.in-Index.is
    (kept.target_index s _ _ (seen_left SameBox {u = c.pair.new.x} c.in-Index.x-is c.pair.ensures.block) (seen_left (λ a b. KeepsTypes a.value.0 b) c.in-Index.x-is c.pair.ensures.first) (seen_left (λ a b. KeepsTypes a.value.1 b) c.in-Index.x-is c.pair.ensures.second))

pub target-returns-in-Dot-clause-calls : goal.target-returns-in-Dot-clause-calls
target-returns-in-Dot-clause-calls g t c =
    writes_at g.F.FnMut (ap target_types c.in-Dot.is ∙ target_types-Dot c.in-Dot.x c.in-Dot.name ∙ ap (λ q. expr_types q.value.node) (sym c.in-Dot.x-is)) (target_types-Dot c.named.new.x c.named.new.name) c.named.ensures.calls

pub target-returns-in-Dot-clause-kept : goal.target-returns-in-Dot-clause-kept
target-returns-in-Dot-clause-kept g t c =
    let s = c.args.x.now.span in
    let arm = c.in-Dot in
    let call = c.named in
    seen (λ a b. KeepsTargetTypes (record { span = s; node = a }) b) arm.is
    (subst (λ q. KeepsTargetTypes (record { span = s; node = target.Dot arm.x arm.name }) (record { span = s; node = target.Dot call.new.x q })) (sym (call.ensures.name ∙ arm.name-is)) (kept.target_dot s _ _ _ (seen_left SameBox {u = call.new.x} arm.x-is call.ensures.block) (seen_left (λ a b. KeepsTypes a.value b) arm.x-is call.ensures.kept)))

pub target-returns-in-Identifier-clause-calls : goal.target-returns-in-Identifier-clause-calls
target-returns-in-Identifier-clause-calls g t c =
    let none = ap target_types c.in-Identifier.is ∙ target_types-Identifier c.in-Identifier.field-0 in
    writes_at g.F.FnMut none none (writes_none g.F.FnMut refl)

pub target-returns-in-Identifier-clause-kept : goal.target-returns-in-Identifier-clause-kept
target-returns-in-Identifier-clause-kept g t c =
    kept.same_target _

pub clause-returns-in-For-clause-calls : goal.clause-returns-in-For-clause-calls
clause-returns-in-For-clause-calls g t c =
    (writes_at g.F.FnMut (ap clause_types c.in-For.is ∙ clause_types-For c.in-For.x ∙ ap (λ q. for_clause_types q) (sym c.in-For.x-is)) (clause_types-For c.for_clause.new.x) c.for_clause.ensures.calls)

pub clause-returns-in-For-clause-kept : goal.clause-returns-in-For-clause-kept
clause-returns-in-For-clause-kept g t c =
    seen KeepsClauseTypes c.in-For.is (kept.for_clause _ _ (seen_left (λ a b. KeepsFor a b) c.in-For.x-is c.for_clause.ensures.kept))

pub clause-returns-in-If-clause-calls : goal.clause-returns-in-If-clause-calls
clause-returns-in-If-clause-calls g t c =
    (writes_at g.F.FnMut (ap clause_types c.in-If.is ∙ clause_types-If c.in-If.x ∙ ap (λ q. expr_types q.node) (sym c.in-If.x-is)) (clause_types-If c.expr.new.x) c.expr.ensures.calls)

pub clause-returns-in-If-clause-kept : goal.clause-returns-in-If-clause-kept
clause-returns-in-If-clause-kept g t c =
    seen KeepsClauseTypes c.in-If.is (kept.if_clause _ _ (seen_left (λ a b. KeepsTypes a b) c.in-If.x-is c.expr.ensures.kept))

pub default-returns-in-Slash-clause-calls : goal.default-returns-in-Slash-clause-calls
default-returns-in-Slash-clause-calls g t c =
    let none = ap default_types c.in-Slash.is ∙ default_types-Slash g.row.P.Denot g.row.P-LoadPayload.Denot g.row.P-IdentPayload.Denot g.row.P-IdentAssignPayload.Denot g.row.P-DefPayload.Denot g.row.P-TypeExprPayload.Denot in
    writes_at g.F.FnMut none none (writes_none g.F.FnMut refl)

pub default-returns-in-Slash-clause-kept : goal.default-returns-in-Slash-clause-kept
default-returns-in-Slash-clause-kept g t c =
    kept.same_parameter _

pub default-returns-in-NoArgs-clause-calls : goal.default-returns-in-NoArgs-clause-calls
default-returns-in-NoArgs-clause-calls g t c =
    let none = ap default_types c.in-NoArgs.is ∙ default_types-NoArgs g.row.P.Denot g.row.P-LoadPayload.Denot g.row.P-IdentPayload.Denot g.row.P-IdentAssignPayload.Denot g.row.P-DefPayload.Denot g.row.P-TypeExprPayload.Denot in
    writes_at g.F.FnMut none none (writes_none g.F.FnMut refl)

pub default-returns-in-NoArgs-clause-kept : goal.default-returns-in-NoArgs-clause-kept
default-returns-in-NoArgs-clause-kept g t c =
    kept.same_parameter _

pub default-returns-in-Args-clause-calls : goal.default-returns-in-Args-clause-calls
default-returns-in-Args-clause-calls g t c =
    let none = ap default_types c.in-Args.is ∙ default_types-Args c.in-Args.field-0 c.in-Args.field-1 in
    writes_at g.F.FnMut none none (writes_none g.F.FnMut refl)

pub default-returns-in-Args-clause-kept : goal.default-returns-in-Args-clause-kept
default-returns-in-Args-clause-kept g t c =
    kept.same_parameter _

pub default-returns-in-KwArgs-clause-calls : goal.default-returns-in-KwArgs-clause-calls
default-returns-in-KwArgs-clause-calls g t c =
    let none = ap default_types c.in-KwArgs.is ∙ default_types-KwArgs c.in-KwArgs.field-0 c.in-KwArgs.field-1 in
    writes_at g.F.FnMut none none (writes_none g.F.FnMut refl)

pub default-returns-in-KwArgs-clause-kept : goal.default-returns-in-KwArgs-clause-kept
default-returns-in-KwArgs-clause-kept g t c =
    kept.same_parameter _

pub default-returns-in-Normal-clause-calls : goal.default-returns-in-Normal-clause-calls
default-returns-in-Normal-clause-calls g t c =
    writes_at g.F.FnMut (ap default_types c.in-Normal.is ∙ default_types-Normal c.in-Normal.name c.in-Normal.ty c.in-Normal.default ∙ ap maybe_expr_types (sym c.in-Normal.default-is)) (default_types-Normal c.plain.new.name c.plain.new.ty c.plain.new.x) c.plain.ensures.calls

pub default-returns-in-Normal-clause-kept : goal.default-returns-in-Normal-clause-kept
default-returns-in-Normal-clause-kept g t c =
    let s = c.args.x.now.span in
    let arm = c.in-Normal in
    let call = c.plain in
    seen (λ a b. KeepsDefault (record { span = s; node = a }) b) arm.is
    (subst (λ q. KeepsDefault (record { span = s; node = parameter.Normal arm.name arm.ty arm.default }) (record { span = s; node = parameter.Normal q call.new.ty call.new.x })) (sym (call.ensures.name ∙ arm.name-is))
    (subst (λ q. KeepsDefault (record { span = s; node = parameter.Normal arm.name arm.ty arm.default }) (record { span = s; node = parameter.Normal arm.name q call.new.x })) (sym (call.ensures.ty ∙ arm.ty-is)) (kept.default s _ _ _ _ (seen_left KeepsMaybe arm.default-is call.ensures.kept))))

pub bound-returns-in-None-clause-kept : goal.bound-returns-in-None-clause-kept
bound-returns-in-None-clause-kept g t c =
    subst (λ q. KeepsMaybe q q) (sym c.in-None.is) kept.absent

pub both-returns-in_err-expr-clause-calls : goal.both-returns-in_err-expr-clause-calls
both-returns-in_err-expr-clause-calls g t c =
    writes_stop g.F.FnMut (expr_types c.args.y.now.node) c.expr.ensures.calls c.in_err-expr.was (out_err c.from_residual.result c.from_residual.ensures.1)

pub both-returns-in_err-expr-clause-second : goal.both-returns-in_err-expr-clause-second
both-returns-in_err-expr-clause-second g t c =
    kept.same _

pub both-returns-clause-calls : goal.both-returns-clause-calls
both-returns-clause-calls g t c =
    writes_then g.F.FnMut c.expr.ensures.calls c.in_ok-expr.was c.expr-2.ensures.calls

pub three-returns-in_err-expr-clause-calls : goal.three-returns-in_err-expr-clause-calls
three-returns-in_err-expr-clause-calls g t c =
    writes_stop g.F.FnMut (expr_types c.args.y.now.node ++ expr_types c.args.z.now.node) c.expr.ensures.calls c.in_err-expr.was (out_err c.from_residual.result c.from_residual.ensures.1)

pub three-returns-in_err-expr-clause-second : goal.three-returns-in_err-expr-clause-second
three-returns-in_err-expr-clause-second g t c =
    kept.same _

pub three-returns-in_err-expr-clause-third : goal.three-returns-in_err-expr-clause-third
three-returns-in_err-expr-clause-third g t c =
    kept.same _

pub three-returns-clause-calls : goal.three-returns-clause-calls
three-returns-clause-calls g t c =
    writes_then g.F.FnMut c.expr.ensures.calls c.in_ok-expr.was c.both.ensures.calls

pub slice-returns-in_err-boxed-clause-calls : goal.slice-returns-in_err-boxed-clause-calls
slice-returns-in_err-boxed-clause-calls g t c =
    writes_stop g.F.FnMut (maybe_expr_types c.args.a.now ++ (maybe_expr_types c.args.b.now ++ maybe_expr_types c.args.c.now)) c.boxed.ensures.calls c.in_err-boxed.was (out_err c.from_residual.result c.from_residual.ensures.1)

pub slice-returns-in_err-boxed-clause-first : goal.slice-returns-in_err-boxed-clause-first
slice-returns-in_err-boxed-clause-first g t c =
    maybe_same _

pub slice-returns-in_err-boxed-clause-second : goal.slice-returns-in_err-boxed-clause-second
slice-returns-in_err-boxed-clause-second g t c =
    maybe_same _

pub slice-returns-in_err-boxed-clause-third : goal.slice-returns-in_err-boxed-clause-third
slice-returns-in_err-boxed-clause-third g t c =
    maybe_same _

pub slice-returns-clause-calls : goal.slice-returns-clause-calls
slice-returns-clause-calls g t c =
    writes_then g.F.FnMut c.boxed.ensures.calls c.in_ok-boxed.was c.bounds.ensures.calls

pub call-returns-in_err-boxed-clause-calls : goal.call-returns-in_err-boxed-clause-calls
call-returns-in_err-boxed-clause-calls g t c =
    writes_stop g.F.FnMut (flat_map (λ a. argument_types a.node) c.args.args.now.args.items) c.boxed.ensures.calls c.in_err-boxed.was (out_err c.from_residual.result c.from_residual.ensures.1)

pub call-returns-in_err-boxed-clause-arguments : goal.call-returns-in_err-boxed-clause-arguments
call-returns-in_err-boxed-clause-arguments g t c =
    kept.arguments_rest _

pub call-returns-clause-calls : goal.call-returns-clause-calls
call-returns-clause-calls g t c =
    writes_then g.F.FnMut c.boxed.ensures.calls c.in_ok-boxed.was c.arguments.ensures.calls

pub bounds-returns-in_err-bound-clause-calls : goal.bounds-returns-in_err-bound-clause-calls
bounds-returns-in_err-bound-clause-calls g t c =
    writes_stop g.F.FnMut (maybe_expr_types c.args.b.now ++ maybe_expr_types c.args.c.now) c.bound.ensures.calls c.in_err-bound.was (out_err c.from_residual.result c.from_residual.ensures.1)

pub bounds-returns-in_err-bound-clause-second : goal.bounds-returns-in_err-bound-clause-second
bounds-returns-in_err-bound-clause-second g t c =
    maybe_same _

pub bounds-returns-in_err-bound-clause-third : goal.bounds-returns-in_err-bound-clause-third
bounds-returns-in_err-bound-clause-third g t c =
    maybe_same _

pub bounds-returns-in_err-bound-2-clause-calls : goal.bounds-returns-in_err-bound-2-clause-calls
bounds-returns-in_err-bound-2-clause-calls g t c =
    writes_then g.F.FnMut c.bound.ensures.calls c.in_ok-bound.was (writes_stop g.F.FnMut (maybe_expr_types c.args.c.now) c.bound-2.ensures.calls c.in_err-bound-2.was (out_err c.from_residual-in_err-bound-2.result c.from_residual-in_err-bound-2.ensures.1))

pub bounds-returns-in_err-bound-2-clause-third : goal.bounds-returns-in_err-bound-2-clause-third
bounds-returns-in_err-bound-2-clause-third g t c =
    maybe_same _

pub bounds-returns-clause-calls : goal.bounds-returns-clause-calls
bounds-returns-clause-calls g t c =
    writes_then g.F.FnMut c.bound.ensures.calls c.in_ok-bound.was (writes_then g.F.FnMut c.bound-2.ensures.calls c.in_ok-bound-2.was c.bound-3.ensures.calls)

pub clauses-returns-in_err-for_clause-clause-calls : goal.clauses-returns-in_err-for_clause-clause-calls
clauses-returns-in_err-for_clause-clause-calls g t c =
    writes_stop g.F.FnMut (flat_map clause_types c.args.rest.now.items) (writes_at g.F.FnMut (ap for_clause_types (sym c.deref_mut.ensures.value)) refl c.for_clause.ensures.calls) c.in_err-for_clause.was (out_err c.from_residual.result c.from_residual.ensures.1)

pub clauses-returns-in_err-for_clause-clause-first : goal.clauses-returns-in_err-for_clause-clause-first
clauses-returns-in_err-for_clause-clause-first g t c =
    seen_left KeepsFor c.deref_mut.ensures.value c.for_clause.ensures.kept

pub clauses-returns-in_err-for_clause-clause-rest : goal.clauses-returns-in_err-for_clause-clause-rest
clauses-returns-in_err-for_clause-clause-rest g t c =
    kept.clauses_rest _

pub listed-returns-in_err-clauses-clause-calls : goal.listed-returns-in_err-clauses-clause-calls
listed-returns-in_err-clauses-clause-calls g t c =
    writes_at g.F.FnMut (sym (append_assoc (for_clause_types c.args.first.now.value) (flat_map clause_types c.args.rest.now.items) (expr_types c.args.x.now.value.node))) (sym (append_assoc (for_clause_types c.clauses.new.first.value) (flat_map clause_types c.clauses.new.rest.items) (expr_types c.args.x.now.value.node))) (writes_stop g.F.FnMut (expr_types c.args.x.now.value.node) c.clauses.ensures.calls c.in_err-clauses.was (out_err c.from_residual.result c.from_residual.ensures.1))

pub listed-returns-in_err-clauses-clause-kept : goal.listed-returns-in_err-clauses-clause-kept
listed-returns-in_err-clauses-clause-kept g t c =
    kept.same _

pub listed-returns-clause-calls : goal.listed-returns-clause-calls
listed-returns-clause-calls g t c =
    writes_at g.F.FnMut (sym (append_assoc (for_clause_types c.args.first.now.value) (flat_map clause_types c.args.rest.now.items) (expr_types c.args.x.now.value.node))) (sym (append_assoc (for_clause_types c.clauses.new.first.value) (flat_map clause_types c.clauses.new.rest.items) (expr_types c.boxed.new.x.value.node))) (writes_then g.F.FnMut c.clauses.ensures.calls c.in_ok-clauses.was c.boxed.ensures.calls)

pub mapped-returns-in_err-clauses-clause-calls : goal.mapped-returns-in_err-clauses-clause-calls
mapped-returns-in_err-clauses-clause-calls g t c =
    writes_at g.F.FnMut (sym (append_assoc (for_clause_types c.args.first.now.value) (flat_map clause_types c.args.rest.now.items) (expr_types c.args.x.now.value.0.node ++ expr_types c.args.x.now.value.1.node))) (sym (append_assoc (for_clause_types c.clauses.new.first.value) (flat_map clause_types c.clauses.new.rest.items) (expr_types c.args.x.now.value.0.node ++ expr_types c.args.x.now.value.1.node))) (writes_stop g.F.FnMut (expr_types c.args.x.now.value.0.node ++ expr_types c.args.x.now.value.1.node) c.clauses.ensures.calls c.in_err-clauses.was (out_err c.from_residual.result c.from_residual.ensures.1))

pub mapped-returns-in_err-clauses-clause-kept : goal.mapped-returns-in_err-clauses-clause-kept
mapped-returns-in_err-clauses-clause-kept g t c =
    kept.same _

pub mapped-returns-in_err-clauses-clause-key : goal.mapped-returns-in_err-clauses-clause-key
mapped-returns-in_err-clauses-clause-key g t c =
    kept.same _

pub mapped-returns-clause-calls : goal.mapped-returns-clause-calls
mapped-returns-clause-calls g t c =
    writes_at g.F.FnMut (sym (append_assoc (for_clause_types c.args.first.now.value) (flat_map clause_types c.args.rest.now.items) (expr_types c.args.x.now.value.0.node ++ expr_types c.args.x.now.value.1.node))) (sym (append_assoc (for_clause_types c.clauses.new.first.value) (flat_map clause_types c.clauses.new.rest.items) (expr_types c.pair.new.x.value.0.node ++ expr_types c.pair.new.x.value.1.node))) (writes_then g.F.FnMut c.clauses.ensures.calls c.in_ok-clauses.was c.pair.ensures.calls)

pub for_clause-returns-in_err-target-clause-calls : goal.for_clause-returns-in_err-target-clause-calls
for_clause-returns-in_err-target-clause-calls g t c =
    writes_at g.F.FnMut (for_clause_types-parts _) (for_clause_types-parts _) (writes_stop g.F.FnMut (expr_types c.args.x.now.over.node) c.target.ensures.calls c.in_err-target.was (out_err c.from_residual.result c.from_residual.ensures.1))

pub for_clause-returns-in_err-target-clause-kept : goal.for_clause-returns-in_err-target-clause-kept
for_clause-returns-in_err-target-clause-kept g t c =
    kept.for_parts _ _ c.target.ensures.kept (kept.same _)

pub for_clause-returns-clause-calls : goal.for_clause-returns-clause-calls
for_clause-returns-clause-calls g t c =
    writes_at g.F.FnMut (for_clause_types-parts _) (for_clause_types-parts _) (writes_then g.F.FnMut c.target.ensures.calls c.in_ok-target.was c.expr.ensures.calls)

pub for_clause-returns-clause-kept : goal.for_clause-returns-clause-kept
for_clause-returns-clause-kept g t c =
    kept.for_parts _ _ c.target.ensures.kept c.expr.ensures.kept

pub argument-returns-clause-calls : goal.argument-returns-clause-calls
argument-returns-clause-calls g t c =
    writes_at g.F.FnMut (argument_types_of c.args.x.now.node ∙ ap (λ q. expr_types q.node) (sym c.expr_mut.ensures.value)) (argument_types_of _ ∙ ap (λ q. expr_types q.node) (expr_of_with c.args.x.now.node c.expr.new.x)) c.expr.ensures.calls

pub argument-returns-clause-kind : goal.argument-returns-clause-kind
argument-returns-clause-kind g t c =
    record { span = refl; node = argument_kept c.args.x.now.node c.expr.new.x }

pub argument-returns-clause-kept : goal.argument-returns-clause-kept
argument-returns-clause-kept g t c =
    seen (λ a b. KeepsTypes a b) (sym c.expr_mut.ensures.value) (subst (λ q. KeepsTypes c.expr_mut.result.now q) (sym (expr_of_with c.args.x.now.node c.expr.new.x)) c.expr.ensures.kept)

pub each-loop-i-init : goal.each-loop-i-init
each-loop-i-init g t c =
    (search of_calls, writes_none g.F.FnMut refl, loops.none, refl, refl)

pub each-loop-i-preserved : goal.each-loop-i-preserved
each-loop-i-preserved g t c =
    let old = c.args.xs.now in
    let xs = c.loop-i.xs in
    let i = c.loop-i.i in
    let x = c.index-xs-i.result in
    let y = c.expr.new.x in
    let below : i < length xs = search rules in (
      search of_calls,
      writes_more old xs i x y below c.loop-i.invariant.3 c.index-xs-i.is c.loop-i.invariant.4 g.F.FnMut (λ x. expr_types x.node) c.loop-i.invariant.1 (writes_at g.F.FnMut (ap (λ x. expr_types x.node) c.index-xs-i.is) refl c.expr.ensures.calls) c.in_ok-expr.was,
      both_more old xs i x y below c.loop-i.invariant.3 c.index-xs-i.is c.loop-i.invariant.4 KeepsTypes c.loop-i.invariant.2 (seen KeepsTypes c.index-xs-i.is c.expr.ensures.kept),
      lengths_more old xs i x y below c.loop-i.invariant.3 c.index-xs-i.is c.loop-i.invariant.4,
      front_more old xs i x y below c.loop-i.invariant.3 c.index-xs-i.is c.loop-i.invariant.4,
    )

pub each-returns-in_err-expr-clause-calls : goal.each-returns-in_err-expr-clause-calls
each-returns-in_err-expr-clause-calls g t c =
    let old = c.args.xs.now in
    let xs = c.loop-i.xs in
    let i = c.loop-i.i in
    let x = c.index-xs-i.result in
    let y = c.expr.new.x in
    let below : i < length xs = search rules in
    writes_stop_here old xs i x y below c.loop-i.invariant.3 c.index-xs-i.is c.loop-i.invariant.4 g.F.FnMut (λ x. expr_types x.node) c.loop-i.invariant.1 (writes_at g.F.FnMut (ap (λ x. expr_types x.node) c.index-xs-i.is) refl c.expr.ensures.calls) c.in_err-expr.was (out_err c.from_residual.result c.from_residual.ensures.1)

pub each-returns-in_err-expr-clause-kept : goal.each-returns-in_err-expr-clause-kept
each-returns-in_err-expr-clause-kept g t c =
    let old = c.args.xs.now in
    let xs = c.loop-i.xs in
    let i = c.loop-i.i in
    let x = c.index-xs-i.result in
    let y = c.expr.new.x in
    let below : i < length xs = search rules in
    stop_in old xs i x y below c.loop-i.invariant.3 c.index-xs-i.is c.loop-i.invariant.4 KeepsTypes KeepsAll all_back c.loop-i.invariant.2 (seen KeepsTypes c.index-xs-i.is c.expr.ensures.kept)

pub each-returns-clause-calls : goal.each-returns-clause-calls
each-returns-clause-calls g t c =
    let done : c.loop-i.i ≡ length c.loop-i.xs = omega (arith, c.loop-i-test.false, c.loop-i.auto.i-end, c.loop-i.invariant.3, c.loop-i.auto.xs) in
    writes_at g.F.FnMut (ap (flat_map (λ x. expr_types x.node)) (whole _ _ (done ∙ c.loop-i.invariant.3))) (ap (flat_map (λ x. expr_types x.node)) (whole _ _ done)) c.loop-i.invariant.1

pub each-returns-clause-kept : goal.each-returns-clause-kept
each-returns-clause-kept g t c =
    let done : c.loop-i.i ≡ length c.loop-i.xs = omega (arith, c.loop-i-test.false, c.loop-i.auto.i-end, c.loop-i.invariant.3, c.loop-i.auto.xs) in
    end_in KeepsTypes KeepsAll all_back c.args.xs.now c.loop-i.xs c.loop-i.i (done ∙ c.loop-i.invariant.3) done c.loop-i.invariant.2

pub each-expr-requires : goal.each-expr-requires
each-expr-requires g t c κs within =
    let below : c.loop-i.i < length c.loop-i.xs = search rules in
    let le = fewer (λ x. expr_nodes x.node) c.args.xs.now c.loop-i.xs c.loop-i.i c.index-xs-i.result below c.loop-i.invariant.3 c.loop-i.invariant.4 in
    (omega (arith, le), (within.0, (within.1.0, (within.1.1.0, (within.1.1.1.0, (within.1.1.1.1.0, (within.1.1.1.1.1.0, (within.1.1.1.1.1.1.0, (within.1.1.1.1.1.1.1, c.loop-i.invariant.0)))))))))

pub pairs-loop-i-init : goal.pairs-loop-i-init
pairs-loop-i-init g t c =
    (search of_calls, writes_none g.F.FnMut refl, loops.none, refl, refl)

pub pairs-loop-i-preserved : goal.pairs-loop-i-preserved
pairs-loop-i-preserved g t c =
    let old = c.args.xs.now in
    let xs = c.loop-i.xs in
    let i = c.loop-i.i in
    let x = c.index-xs-i.result in
    let y = c.entry.new.x in
    let below : i < length xs = search rules in (
      search of_calls,
      writes_more old xs i x y below c.loop-i.invariant.3 c.index-xs-i.is c.loop-i.invariant.4 g.F.FnMut (λ x. expr_types x.0.node ++ expr_types x.1.node) c.loop-i.invariant.1 (writes_at g.F.FnMut (ap (λ x. expr_types x.0.node ++ expr_types x.1.node) c.index-xs-i.is) refl c.entry.ensures.calls) c.in_ok-entry.was,
      both_more old xs i x y below c.loop-i.invariant.3 c.index-xs-i.is c.loop-i.invariant.4 (λ x y. KeepsTypes x.0 y.0 × KeepsTypes x.1 y.1) c.loop-i.invariant.2 (seen KeepsPair c.index-xs-i.is (c.entry.ensures.first, c.entry.ensures.second)),
      lengths_more old xs i x y below c.loop-i.invariant.3 c.index-xs-i.is c.loop-i.invariant.4,
      front_more old xs i x y below c.loop-i.invariant.3 c.index-xs-i.is c.loop-i.invariant.4,
    )

pub pairs-returns-in_err-entry-clause-calls : goal.pairs-returns-in_err-entry-clause-calls
pairs-returns-in_err-entry-clause-calls g t c =
    let old = c.args.xs.now in
    let xs = c.loop-i.xs in
    let i = c.loop-i.i in
    let x = c.index-xs-i.result in
    let y = c.entry.new.x in
    let below : i < length xs = search rules in
    writes_stop_here old xs i x y below c.loop-i.invariant.3 c.index-xs-i.is c.loop-i.invariant.4 g.F.FnMut (λ x. expr_types x.0.node ++ expr_types x.1.node) c.loop-i.invariant.1 (writes_at g.F.FnMut (ap (λ x. expr_types x.0.node ++ expr_types x.1.node) c.index-xs-i.is) refl c.entry.ensures.calls) c.in_err-entry.was (out_err c.from_residual.result c.from_residual.ensures.1)

pub pairs-returns-in_err-entry-clause-kept : goal.pairs-returns-in_err-entry-clause-kept
pairs-returns-in_err-entry-clause-kept g t c =
    let old = c.args.xs.now in
    let xs = c.loop-i.xs in
    let i = c.loop-i.i in
    let x = c.index-xs-i.result in
    let y = c.entry.new.x in
    let below : i < length xs = search rules in
    stop_in old xs i x y below c.loop-i.invariant.3 c.index-xs-i.is c.loop-i.invariant.4 (λ x y. KeepsTypes x.0 y.0 × KeepsTypes x.1 y.1) KeepsPairs pairs_back c.loop-i.invariant.2 (seen KeepsPair c.index-xs-i.is (c.entry.ensures.first, c.entry.ensures.second))

pub pairs-returns-clause-calls : goal.pairs-returns-clause-calls
pairs-returns-clause-calls g t c =
    let done : c.loop-i.i ≡ length c.loop-i.xs = omega (arith, c.loop-i-test.false, c.loop-i.auto.i-end, c.loop-i.invariant.3, c.loop-i.auto.xs) in
    writes_at g.F.FnMut (ap (flat_map (λ x. expr_types x.0.node ++ expr_types x.1.node)) (whole _ _ (done ∙ c.loop-i.invariant.3))) (ap (flat_map (λ x. expr_types x.0.node ++ expr_types x.1.node)) (whole _ _ done)) c.loop-i.invariant.1

pub pairs-returns-clause-kept : goal.pairs-returns-clause-kept
pairs-returns-clause-kept g t c =
    let done : c.loop-i.i ≡ length c.loop-i.xs = omega (arith, c.loop-i-test.false, c.loop-i.auto.i-end, c.loop-i.invariant.3, c.loop-i.auto.xs) in
    end_in (λ x y. KeepsTypes x.0 y.0 × KeepsTypes x.1 y.1) KeepsPairs pairs_back c.args.xs.now c.loop-i.xs c.loop-i.i (done ∙ c.loop-i.invariant.3) done c.loop-i.invariant.2

pub pairs-entry-requires : goal.pairs-entry-requires
pairs-entry-requires g t c κs within =
    let below : c.loop-i.i < length c.loop-i.xs = search rules in
    let le = fewer (λ x. expr_nodes x.0.node + expr_nodes x.1.node) c.args.xs.now c.loop-i.xs c.loop-i.i c.index-xs-i.result below c.loop-i.invariant.3 c.loop-i.invariant.4 in
    (omega (arith, le), (within.0, (within.1.0, (within.1.1.0, (within.1.1.1.0, (within.1.1.1.1.0, (within.1.1.1.1.1.0, (within.1.1.1.1.1.1.0, (within.1.1.1.1.1.1.1, c.loop-i.invariant.0)))))))))

pub each_argument-loop-i-init : goal.each_argument-loop-i-init
each_argument-loop-i-init g t c =
    (search of_calls, writes_none g.F.FnMut refl, loops.none, refl, refl)

pub each_argument-loop-i-preserved : goal.each_argument-loop-i-preserved
each_argument-loop-i-preserved g t c =
    let old = c.args.xs.now in
    let xs = c.loop-i.xs in
    let i = c.loop-i.i in
    let x = c.index-xs-i.result in
    let y = c.argument.new.x in
    let below : i < length xs = search rules in (
      search of_calls,
      writes_more old xs i x y below c.loop-i.invariant.3 c.index-xs-i.is c.loop-i.invariant.4 g.F.FnMut (λ a. argument_types a.node) c.loop-i.invariant.1 (writes_at g.F.FnMut (ap (λ a. argument_types a.node) c.index-xs-i.is) refl c.argument.ensures.calls) c.in_ok-argument.was,
      both_more old xs i x y below c.loop-i.invariant.3 c.index-xs-i.is c.loop-i.invariant.4 (λ x y. AtPlace KeepsArgument x y × KeepsTypes (argument_expr x.node) (argument_expr y.node)) c.loop-i.invariant.2 (seen (λ x y. AtPlace KeepsArgument x y × KeepsTypes (argument_expr x.node) (argument_expr y.node)) c.index-xs-i.is (c.argument.ensures.kind, c.argument.ensures.kept)),
      lengths_more old xs i x y below c.loop-i.invariant.3 c.index-xs-i.is c.loop-i.invariant.4,
      front_more old xs i x y below c.loop-i.invariant.3 c.index-xs-i.is c.loop-i.invariant.4,
    )

pub each_argument-returns-in_err-argument-clause-calls : goal.each_argument-returns-in_err-argument-clause-calls
each_argument-returns-in_err-argument-clause-calls g t c =
    let old = c.args.xs.now in
    let xs = c.loop-i.xs in
    let i = c.loop-i.i in
    let x = c.index-xs-i.result in
    let y = c.argument.new.x in
    let below : i < length xs = search rules in
    writes_stop_here old xs i x y below c.loop-i.invariant.3 c.index-xs-i.is c.loop-i.invariant.4 g.F.FnMut (λ a. argument_types a.node) c.loop-i.invariant.1 (writes_at g.F.FnMut (ap (λ a. argument_types a.node) c.index-xs-i.is) refl c.argument.ensures.calls) c.in_err-argument.was (out_err c.from_residual.result c.from_residual.ensures.1)

pub each_argument-returns-in_err-argument-clause-kept : goal.each_argument-returns-in_err-argument-clause-kept
each_argument-returns-in_err-argument-clause-kept g t c =
    let old = c.args.xs.now in
    let xs = c.loop-i.xs in
    let i = c.loop-i.i in
    let x = c.index-xs-i.result in
    let y = c.argument.new.x in
    let below : i < length xs = search rules in
    stop_in old xs i x y below c.loop-i.invariant.3 c.index-xs-i.is c.loop-i.invariant.4 (λ x y. AtPlace KeepsArgument x y × KeepsTypes (argument_expr x.node) (argument_expr y.node)) KeepsArguments arguments_back c.loop-i.invariant.2 (seen (λ x y. AtPlace KeepsArgument x y × KeepsTypes (argument_expr x.node) (argument_expr y.node)) c.index-xs-i.is (c.argument.ensures.kind, c.argument.ensures.kept))

pub each_argument-returns-clause-calls : goal.each_argument-returns-clause-calls
each_argument-returns-clause-calls g t c =
    let done : c.loop-i.i ≡ length c.loop-i.xs = omega (arith, c.loop-i-test.false, c.loop-i.auto.i-end, c.loop-i.invariant.3, c.loop-i.auto.xs) in
    writes_at g.F.FnMut (ap (flat_map (λ a. argument_types a.node)) (whole _ _ (done ∙ c.loop-i.invariant.3))) (ap (flat_map (λ a. argument_types a.node)) (whole _ _ done)) c.loop-i.invariant.1

pub each_argument-returns-clause-kept : goal.each_argument-returns-clause-kept
each_argument-returns-clause-kept g t c =
    let done : c.loop-i.i ≡ length c.loop-i.xs = omega (arith, c.loop-i-test.false, c.loop-i.auto.i-end, c.loop-i.invariant.3, c.loop-i.auto.xs) in
    end_in (λ x y. AtPlace KeepsArgument x y × KeepsTypes (argument_expr x.node) (argument_expr y.node)) KeepsArguments arguments_back c.args.xs.now c.loop-i.xs c.loop-i.i (done ∙ c.loop-i.invariant.3) done c.loop-i.invariant.2

pub each_argument-argument-requires : goal.each_argument-argument-requires
each_argument-argument-requires g t c κs within =
    let below : c.loop-i.i < length c.loop-i.xs = search rules in
    let le = fewer (λ a. argument_nodes a.node) c.args.xs.now c.loop-i.xs c.loop-i.i c.index-xs-i.result below c.loop-i.invariant.3 c.loop-i.invariant.4 in
    (omega (arith, le), (within.0, (within.1.0, (within.1.1.0, (within.1.1.1.0, (within.1.1.1.1.0, (within.1.1.1.1.1.0, (within.1.1.1.1.1.1.0, (within.1.1.1.1.1.1.1, c.loop-i.invariant.0)))))))))

pub each_default-loop-i-init : goal.each_default-loop-i-init
each_default-loop-i-init g t c =
    (search of_calls, writes_none g.F.FnMut refl, loops.none, refl, refl)

pub each_default-loop-i-preserved : goal.each_default-loop-i-preserved
each_default-loop-i-preserved g t c =
    let old = c.args.xs.now in
    let xs = c.loop-i.xs in
    let i = c.loop-i.i in
    let x = c.index-xs-i.result in
    let y = c.default.new.x in
    let below : i < length xs = search rules in (
      search of_calls,
      writes_more old xs i x y below c.loop-i.invariant.3 c.index-xs-i.is c.loop-i.invariant.4 g.F.FnMut (λ p. default_types p.node) c.loop-i.invariant.1 (writes_at g.F.FnMut (ap (λ p. default_types p.node) c.index-xs-i.is) refl c.default.ensures.calls) c.in_ok-default.was,
      both_more old xs i x y below c.loop-i.invariant.3 c.index-xs-i.is c.loop-i.invariant.4 KeepsDefault c.loop-i.invariant.2 (seen KeepsDefault c.index-xs-i.is c.default.ensures.kept),
      lengths_more old xs i x y below c.loop-i.invariant.3 c.index-xs-i.is c.loop-i.invariant.4,
      front_more old xs i x y below c.loop-i.invariant.3 c.index-xs-i.is c.loop-i.invariant.4,
    )

pub each_default-returns-in_err-default-clause-calls : goal.each_default-returns-in_err-default-clause-calls
each_default-returns-in_err-default-clause-calls g t c =
    let old = c.args.xs.now in
    let xs = c.loop-i.xs in
    let i = c.loop-i.i in
    let x = c.index-xs-i.result in
    let y = c.default.new.x in
    let below : i < length xs = search rules in
    writes_stop_here old xs i x y below c.loop-i.invariant.3 c.index-xs-i.is c.loop-i.invariant.4 g.F.FnMut (λ p. default_types p.node) c.loop-i.invariant.1 (writes_at g.F.FnMut (ap (λ p. default_types p.node) c.index-xs-i.is) refl c.default.ensures.calls) c.in_err-default.was (out_err c.from_residual.result c.from_residual.ensures.1)

pub each_default-returns-in_err-default-clause-kept : goal.each_default-returns-in_err-default-clause-kept
each_default-returns-in_err-default-clause-kept g t c =
    let old = c.args.xs.now in
    let xs = c.loop-i.xs in
    let i = c.loop-i.i in
    let x = c.index-xs-i.result in
    let y = c.default.new.x in
    let below : i < length xs = search rules in
    stop_in old xs i x y below c.loop-i.invariant.3 c.index-xs-i.is c.loop-i.invariant.4 KeepsDefault KeepsDefaults defaults_back c.loop-i.invariant.2 (seen KeepsDefault c.index-xs-i.is c.default.ensures.kept)

pub each_default-returns-clause-calls : goal.each_default-returns-clause-calls
each_default-returns-clause-calls g t c =
    let done : c.loop-i.i ≡ length c.loop-i.xs = omega (arith, c.loop-i-test.false, c.loop-i.auto.i-end, c.loop-i.invariant.3, c.loop-i.auto.xs) in
    writes_at g.F.FnMut (ap (flat_map (λ p. default_types p.node)) (whole _ _ (done ∙ c.loop-i.invariant.3))) (ap (flat_map (λ p. default_types p.node)) (whole _ _ done)) c.loop-i.invariant.1

pub each_default-returns-clause-kept : goal.each_default-returns-clause-kept
each_default-returns-clause-kept g t c =
    let done : c.loop-i.i ≡ length c.loop-i.xs = omega (arith, c.loop-i-test.false, c.loop-i.auto.i-end, c.loop-i.invariant.3, c.loop-i.auto.xs) in
    end_in KeepsDefault KeepsDefaults defaults_back c.args.xs.now c.loop-i.xs c.loop-i.i (done ∙ c.loop-i.invariant.3) done c.loop-i.invariant.2

pub each_default-default-requires : goal.each_default-default-requires
each_default-default-requires g t c κs within =
    let below : c.loop-i.i < length c.loop-i.xs = search rules in
    let le = fewer (λ p. default_nodes p.node) c.args.xs.now c.loop-i.xs c.loop-i.i c.index-xs-i.result below c.loop-i.invariant.3 c.loop-i.invariant.4 in
    (omega (arith, le), (within.0, (within.1.0, (within.1.1.0, (within.1.1.1.0, (within.1.1.1.1.0, (within.1.1.1.1.1.0, (within.1.1.1.1.1.1.0, (within.1.1.1.1.1.1.1, c.loop-i.invariant.0)))))))))

pub each_clause-loop-i-init : goal.each_clause-loop-i-init
each_clause-loop-i-init g t c =
    (search of_calls, writes_none g.F.FnMut refl, loops.none, refl, refl)

pub each_clause-loop-i-preserved : goal.each_clause-loop-i-preserved
each_clause-loop-i-preserved g t c =
    let old = c.args.xs.now in
    let xs = c.loop-i.xs in
    let i = c.loop-i.i in
    let x = c.index-xs-i.result in
    let y = c.clause.new.x in
    let below : i < length xs = search rules in (
      search of_calls,
      writes_more old xs i x y below c.loop-i.invariant.3 c.index-xs-i.is c.loop-i.invariant.4 g.F.FnMut clause_types c.loop-i.invariant.1 (writes_at g.F.FnMut (ap clause_types c.index-xs-i.is) refl c.clause.ensures.calls) c.in_ok-clause.was,
      both_more old xs i x y below c.loop-i.invariant.3 c.index-xs-i.is c.loop-i.invariant.4 KeepsClauseTypes c.loop-i.invariant.2 (seen KeepsClauseTypes c.index-xs-i.is c.clause.ensures.kept),
      lengths_more old xs i x y below c.loop-i.invariant.3 c.index-xs-i.is c.loop-i.invariant.4,
      front_more old xs i x y below c.loop-i.invariant.3 c.index-xs-i.is c.loop-i.invariant.4,
    )

pub each_clause-returns-in_err-clause-clause-calls : goal.each_clause-returns-in_err-clause-clause-calls
each_clause-returns-in_err-clause-clause-calls g t c =
    let old = c.args.xs.now in
    let xs = c.loop-i.xs in
    let i = c.loop-i.i in
    let x = c.index-xs-i.result in
    let y = c.clause.new.x in
    let below : i < length xs = search rules in
    writes_stop_here old xs i x y below c.loop-i.invariant.3 c.index-xs-i.is c.loop-i.invariant.4 g.F.FnMut clause_types c.loop-i.invariant.1 (writes_at g.F.FnMut (ap clause_types c.index-xs-i.is) refl c.clause.ensures.calls) c.in_err-clause.was (out_err c.from_residual.result c.from_residual.ensures.1)

pub each_clause-returns-in_err-clause-clause-kept : goal.each_clause-returns-in_err-clause-clause-kept
each_clause-returns-in_err-clause-clause-kept g t c =
    let old = c.args.xs.now in
    let xs = c.loop-i.xs in
    let i = c.loop-i.i in
    let x = c.index-xs-i.result in
    let y = c.clause.new.x in
    let below : i < length xs = search rules in
    stop_in old xs i x y below c.loop-i.invariant.3 c.index-xs-i.is c.loop-i.invariant.4 KeepsClauseTypes KeepsClauses clauses_back c.loop-i.invariant.2 (seen KeepsClauseTypes c.index-xs-i.is c.clause.ensures.kept)

pub each_clause-returns-clause-calls : goal.each_clause-returns-clause-calls
each_clause-returns-clause-calls g t c =
    let done : c.loop-i.i ≡ length c.loop-i.xs = omega (arith, c.loop-i-test.false, c.loop-i.auto.i-end, c.loop-i.invariant.3, c.loop-i.auto.xs) in
    writes_at g.F.FnMut (ap (flat_map clause_types) (whole _ _ (done ∙ c.loop-i.invariant.3))) (ap (flat_map clause_types) (whole _ _ done)) c.loop-i.invariant.1

pub each_clause-returns-clause-kept : goal.each_clause-returns-clause-kept
each_clause-returns-clause-kept g t c =
    let done : c.loop-i.i ≡ length c.loop-i.xs = omega (arith, c.loop-i-test.false, c.loop-i.auto.i-end, c.loop-i.invariant.3, c.loop-i.auto.xs) in
    end_in KeepsClauseTypes KeepsClauses clauses_back c.args.xs.now c.loop-i.xs c.loop-i.i (done ∙ c.loop-i.invariant.3) done c.loop-i.invariant.2

pub each_clause-clause-requires : goal.each_clause-clause-requires
each_clause-clause-requires g t c κs within =
    let below : c.loop-i.i < length c.loop-i.xs = search rules in
    let le = fewer clause_nodes c.args.xs.now c.loop-i.xs c.loop-i.i c.index-xs-i.result below c.loop-i.invariant.3 c.loop-i.invariant.4 in
    (omega (arith, le), (within.0, (within.1.0, (within.1.1.0, (within.1.1.1.0, (within.1.1.1.1.0, (within.1.1.1.1.1.0, (within.1.1.1.1.1.1.0, (within.1.1.1.1.1.1.1, c.loop-i.invariant.0)))))))))

pub all_targets-loop-i-init : goal.all_targets-loop-i-init
all_targets-loop-i-init g t c =
    (search of_calls, writes_none g.F.FnMut refl, loops.none, refl, refl)

pub all_targets-loop-i-preserved : goal.all_targets-loop-i-preserved
all_targets-loop-i-preserved g t c =
    let old = c.args.xs.now in
    let xs = c.loop-i.xs in
    let i = c.loop-i.i in
    let x = c.index-xs-i.result in
    let y = c.target.new.x in
    let below : i < length xs = search rules in (
      search of_calls,
      writes_more old xs i x y below c.loop-i.invariant.3 c.index-xs-i.is c.loop-i.invariant.4 g.F.FnMut (λ x. target_types x.node) c.loop-i.invariant.1 (writes_at g.F.FnMut (ap (λ x. target_types x.node) c.index-xs-i.is) refl c.target.ensures.calls) c.in_ok-target.was,
      both_more old xs i x y below c.loop-i.invariant.3 c.index-xs-i.is c.loop-i.invariant.4 KeepsTargetTypes c.loop-i.invariant.2 (seen KeepsTargetTypes c.index-xs-i.is c.target.ensures.kept),
      lengths_more old xs i x y below c.loop-i.invariant.3 c.index-xs-i.is c.loop-i.invariant.4,
      front_more old xs i x y below c.loop-i.invariant.3 c.index-xs-i.is c.loop-i.invariant.4,
    )

pub all_targets-returns-in_err-target-clause-calls : goal.all_targets-returns-in_err-target-clause-calls
all_targets-returns-in_err-target-clause-calls g t c =
    let old = c.args.xs.now in
    let xs = c.loop-i.xs in
    let i = c.loop-i.i in
    let x = c.index-xs-i.result in
    let y = c.target.new.x in
    let below : i < length xs = search rules in
    writes_stop_here old xs i x y below c.loop-i.invariant.3 c.index-xs-i.is c.loop-i.invariant.4 g.F.FnMut (λ x. target_types x.node) c.loop-i.invariant.1 (writes_at g.F.FnMut (ap (λ x. target_types x.node) c.index-xs-i.is) refl c.target.ensures.calls) c.in_err-target.was (out_err c.from_residual.result c.from_residual.ensures.1)

pub all_targets-returns-in_err-target-clause-kept : goal.all_targets-returns-in_err-target-clause-kept
all_targets-returns-in_err-target-clause-kept g t c =
    let old = c.args.xs.now in
    let xs = c.loop-i.xs in
    let i = c.loop-i.i in
    let x = c.index-xs-i.result in
    let y = c.target.new.x in
    let below : i < length xs = search rules in
    stop_in old xs i x y below c.loop-i.invariant.3 c.index-xs-i.is c.loop-i.invariant.4 KeepsTargetTypes KeepsTargetsTypes targets_back c.loop-i.invariant.2 (seen KeepsTargetTypes c.index-xs-i.is c.target.ensures.kept)

pub all_targets-returns-clause-calls : goal.all_targets-returns-clause-calls
all_targets-returns-clause-calls g t c =
    let done : c.loop-i.i ≡ length c.loop-i.xs = omega (arith, c.loop-i-test.false, c.loop-i.auto.i-end, c.loop-i.invariant.3, c.loop-i.auto.xs) in
    writes_at g.F.FnMut (ap (flat_map (λ x. target_types x.node)) (whole _ _ (done ∙ c.loop-i.invariant.3))) (ap (flat_map (λ x. target_types x.node)) (whole _ _ done)) c.loop-i.invariant.1

pub all_targets-returns-clause-kept : goal.all_targets-returns-clause-kept
all_targets-returns-clause-kept g t c =
    let done : c.loop-i.i ≡ length c.loop-i.xs = omega (arith, c.loop-i-test.false, c.loop-i.auto.i-end, c.loop-i.invariant.3, c.loop-i.auto.xs) in
    end_in KeepsTargetTypes KeepsTargetsTypes targets_back c.args.xs.now c.loop-i.xs c.loop-i.i (done ∙ c.loop-i.invariant.3) done c.loop-i.invariant.2

pub all_targets-target-requires : goal.all_targets-target-requires
all_targets-target-requires g t c κs within =
    let below : c.loop-i.i < length c.loop-i.xs = search rules in
    let le = fewer (λ x. target_nodes x.node) c.args.xs.now c.loop-i.xs c.loop-i.i c.index-xs-i.result below c.loop-i.invariant.3 c.loop-i.invariant.4 in
    (omega (arith, le), (within.0, (within.1.0, (within.1.1.0, (within.1.1.1.0, (within.1.1.1.1.0, (within.1.1.1.1.1.0, (within.1.1.1.1.1.1.0, (within.1.1.1.1.1.1.1, c.loop-i.invariant.0)))))))))

pub expr-list-requires : goal.expr-list-requires
expr-list-requires g t c κs within =
    let up = ap expr_nodes c.in-Tuple.is ∙ expr_nodes-Tuple c.in-Tuple.xs in
    let here0 = ap (λ q. sum_by (λ x. expr_nodes x.node) q.items) c.in-Tuple.xs-is in
    (omega (arith, up, here0), (within.0, (within.1.0, (within.1.1.0, (within.1.1.1.0, (within.1.1.1.1.0, (within.1.1.1.1.1.0, (within.1.1.1.1.1.1.0, (within.1.1.1.1.1.1.1, c.requires)))))))))

pub expr-list-requires-in-List : goal.expr-list-requires-in-List
expr-list-requires-in-List g t c κs within =
    let up = ap expr_nodes c.in-List.is ∙ expr_nodes-List c.in-List.xs in
    let here0 = ap (λ q. sum_by (λ x. expr_nodes x.node) q.items) c.in-List.xs-is in
    (omega (arith, up, here0), (within.0, (within.1.0, (within.1.1.0, (within.1.1.1.0, (within.1.1.1.1.0, (within.1.1.1.1.1.0, (within.1.1.1.1.1.1.0, (within.1.1.1.1.1.1.1, c.requires)))))))))

pub expr-named-requires : goal.expr-named-requires
expr-named-requires g t c κs within =
    let up = ap expr_nodes c.in-Dot.is ∙ expr_nodes-Dot c.in-Dot.x c.in-Dot.name in
    let here0 = ap (λ q. expr_nodes q.value.node) c.in-Dot.x-is in
    (omega (arith, up, here0), (within.0, (within.1.0, (within.1.1.0, (within.1.1.1.0, (within.1.1.1.1.0, (within.1.1.1.1.1.0, (within.1.1.1.1.1.1.0, (within.1.1.1.1.1.1.1, c.requires)))))))))

pub expr-call-requires : goal.expr-call-requires
expr-call-requires g t c κs within =
    let up = ap expr_nodes c.in-Call.is ∙ expr_nodes-Call c.in-Call.x c.in-Call.args in
    let here0 = ap (λ q. expr_nodes q.value.node) c.in-Call.x-is in
    let here1 = ap (λ q. sum_by (λ a. argument_nodes a.node) q.args.items) c.in-Call.args-is in
    let all = call_args_nodes-parts c.in-Call.args in
    (omega (arith, up, here0, here1, all), (within.0, (within.1.0, (within.1.1.0, (within.1.1.1.0, (within.1.1.1.1.0, (within.1.1.1.1.1.0, (within.1.1.1.1.1.1.0, (within.1.1.1.1.1.1.1, c.requires)))))))))

pub expr-pair-requires : goal.expr-pair-requires
expr-pair-requires g t c κs within =
    let up = ap expr_nodes c.in-Index.is ∙ expr_nodes-Index c.in-Index.x in
    let here0 = ap (λ q. expr_nodes q.value.0.node + expr_nodes q.value.1.node) c.in-Index.x-is in
    (omega (arith, up, here0), (within.0, (within.1.0, (within.1.1.0, (within.1.1.1.0, (within.1.1.1.1.0, (within.1.1.1.1.1.0, (within.1.1.1.1.1.1.0, (within.1.1.1.1.1.1.1, c.requires)))))))))

pub expr-triple-requires : goal.expr-triple-requires
expr-triple-requires g t c κs within =
    let up = ap expr_nodes c.in-Index2.is ∙ expr_nodes-Index2 c.in-Index2.x in
    let here0 = ap (λ q. expr_nodes q.value.0.node + expr_nodes q.value.1.node + expr_nodes q.value.2.node) c.in-Index2.x-is in
    (omega (arith, up, here0), (within.0, (within.1.0, (within.1.1.0, (within.1.1.1.0, (within.1.1.1.1.0, (within.1.1.1.1.1.0, (within.1.1.1.1.1.1.0, (within.1.1.1.1.1.1.1, c.requires)))))))))

pub expr-triple-requires-in-If : goal.expr-triple-requires-in-If
expr-triple-requires-in-If g t c κs within =
    let up = ap expr_nodes c.in-If.is ∙ expr_nodes-If c.in-If.x in
    let here0 = ap (λ q. expr_nodes q.value.0.node + expr_nodes q.value.1.node + expr_nodes q.value.2.node) c.in-If.x-is in
    (omega (arith, up, here0), (within.0, (within.1.0, (within.1.1.0, (within.1.1.1.0, (within.1.1.1.1.0, (within.1.1.1.1.1.0, (within.1.1.1.1.1.1.0, (within.1.1.1.1.1.1.1, c.requires)))))))))

pub expr-slice-requires : goal.expr-slice-requires
expr-slice-requires g t c κs within =
    let up = ap expr_nodes c.in-Slice.is ∙ expr_nodes-Slice c.in-Slice.x c.in-Slice.a c.in-Slice.b c.in-Slice.c in
    let here0 = ap (λ q. expr_nodes q.value.node) c.in-Slice.x-is in
    let here1 = ap (λ q. maybe_nodes q) c.in-Slice.a-is in
    let here2 = ap (λ q. maybe_nodes q) c.in-Slice.b-is in
    let here3 = ap (λ q. maybe_nodes q) c.in-Slice.c-is in
    (omega (arith, up, here0, here1, here2, here3), (within.0, (within.1.0, (within.1.1.0, (within.1.1.1.0, (within.1.1.1.1.0, (within.1.1.1.1.1.0, (within.1.1.1.1.1.1.0, (within.1.1.1.1.1.1.1, c.requires)))))))))

pub expr-lambda-requires : goal.expr-lambda-requires
expr-lambda-requires g t c κs within =
    let up = ap expr_nodes c.in-Lambda.is ∙ expr_nodes-Lambda c.in-Lambda.x in
    let here0 = ap (λ q. lambda_nodes q) c.in-Lambda.x-is in
    (omega (arith, up, here0), (within.0, (within.1.0, (within.1.1.0, (within.1.1.1.0, (within.1.1.1.1.0, (within.1.1.1.1.1.0, (within.1.1.1.1.1.1.0, (within.1.1.1.1.1.1.1, c.requires)))))))))

pub expr-boxed-requires : goal.expr-boxed-requires
expr-boxed-requires g t c κs within =
    let up = ap expr_nodes c.in-Not.is ∙ expr_nodes-Not c.in-Not.x in
    let here0 = ap (λ q. expr_nodes q.value.node) c.in-Not.x-is in
    (omega (arith, up, here0), (within.0, (within.1.0, (within.1.1.0, (within.1.1.1.0, (within.1.1.1.1.0, (within.1.1.1.1.1.0, (within.1.1.1.1.1.1.0, (within.1.1.1.1.1.1.1, c.requires)))))))))

pub expr-boxed-requires-in-Minus : goal.expr-boxed-requires-in-Minus
expr-boxed-requires-in-Minus g t c κs within =
    let up = ap expr_nodes c.in-Minus.is ∙ expr_nodes-Minus c.in-Minus.x in
    let here0 = ap (λ q. expr_nodes q.value.node) c.in-Minus.x-is in
    (omega (arith, up, here0), (within.0, (within.1.0, (within.1.1.0, (within.1.1.1.0, (within.1.1.1.1.0, (within.1.1.1.1.1.0, (within.1.1.1.1.1.1.0, (within.1.1.1.1.1.1.1, c.requires)))))))))

pub expr-boxed-requires-in-Plus : goal.expr-boxed-requires-in-Plus
expr-boxed-requires-in-Plus g t c κs within =
    let up = ap expr_nodes c.in-Plus.is ∙ expr_nodes-Plus c.in-Plus.x in
    let here0 = ap (λ q. expr_nodes q.value.node) c.in-Plus.x-is in
    (omega (arith, up, here0), (within.0, (within.1.0, (within.1.1.0, (within.1.1.1.0, (within.1.1.1.1.0, (within.1.1.1.1.1.0, (within.1.1.1.1.1.1.0, (within.1.1.1.1.1.1.1, c.requires)))))))))

pub expr-boxed-requires-in-BitNot : goal.expr-boxed-requires-in-BitNot
expr-boxed-requires-in-BitNot g t c κs within =
    let up = ap expr_nodes c.in-BitNot.is ∙ expr_nodes-BitNot c.in-BitNot.x in
    let here0 = ap (λ q. expr_nodes q.value.node) c.in-BitNot.x-is in
    (omega (arith, up, here0), (within.0, (within.1.0, (within.1.1.0, (within.1.1.1.0, (within.1.1.1.1.0, (within.1.1.1.1.1.0, (within.1.1.1.1.1.1.0, (within.1.1.1.1.1.1.1, c.requires)))))))))

pub expr-operation-requires : goal.expr-operation-requires
expr-operation-requires g t c κs within =
    let up = ap expr_nodes c.in-Op.is ∙ expr_nodes-Op c.in-Op.x c.in-Op.op c.in-Op.y in
    let here0 = ap (λ q. expr_nodes q.value.node) c.in-Op.x-is in
    let here2 = ap (λ q. expr_nodes q.value.node) c.in-Op.y-is in
    (omega (arith, up, here0, here2), (within.0, (within.1.0, (within.1.1.0, (within.1.1.1.0, (within.1.1.1.1.0, (within.1.1.1.1.1.0, (within.1.1.1.1.1.1.0, (within.1.1.1.1.1.1.1, c.requires)))))))))

pub expr-dict-requires : goal.expr-dict-requires
expr-dict-requires g t c κs within =
    let up = ap expr_nodes c.in-Dict.is ∙ expr_nodes-Dict c.in-Dict.xs in
    let here0 = ap (λ q. sum_by (λ x. expr_nodes x.0.node + expr_nodes x.1.node) q.items) c.in-Dict.xs-is in
    (omega (arith, up, here0), (within.0, (within.1.0, (within.1.1.0, (within.1.1.1.0, (within.1.1.1.1.0, (within.1.1.1.1.1.0, (within.1.1.1.1.1.1.0, (within.1.1.1.1.1.1.1, c.requires)))))))))

pub expr-listed-requires : goal.expr-listed-requires
expr-listed-requires g t c κs within =
    let up = ap expr_nodes c.in-ListComprehension.is ∙ expr_nodes-ListComprehension c.in-ListComprehension.x c.in-ListComprehension.first c.in-ListComprehension.rest in
    let here0 = ap (λ q. expr_nodes q.value.node) c.in-ListComprehension.x-is in
    let here1 = ap (λ q. for_clause_nodes q.value) c.in-ListComprehension.first-is in
    let here2 = ap (λ q. sum_by clause_nodes q.items) c.in-ListComprehension.rest-is in
    (omega (arith, up, here0, here1, here2), (within.0, (within.1.0, (within.1.1.0, (within.1.1.1.0, (within.1.1.1.1.0, (within.1.1.1.1.1.0, (within.1.1.1.1.1.1.0, (within.1.1.1.1.1.1.1, c.requires)))))))))

pub expr-mapped-requires : goal.expr-mapped-requires
expr-mapped-requires g t c κs within =
    let up = ap expr_nodes c.in-DictComprehension.is ∙ expr_nodes-DictComprehension c.in-DictComprehension.x c.in-DictComprehension.first c.in-DictComprehension.rest in
    let here0 = ap (λ q. expr_nodes q.value.0.node + expr_nodes q.value.1.node) c.in-DictComprehension.x-is in
    let here1 = ap (λ q. for_clause_nodes q.value) c.in-DictComprehension.first-is in
    let here2 = ap (λ q. sum_by clause_nodes q.items) c.in-DictComprehension.rest-is in
    (omega (arith, up, here0, here1, here2), (within.0, (within.1.0, (within.1.1.0, (within.1.1.1.0, (within.1.1.1.1.0, (within.1.1.1.1.1.0, (within.1.1.1.1.1.1.0, (within.1.1.1.1.1.1.1, c.requires)))))))))

pub expr-fstring-requires : goal.expr-fstring-requires
expr-fstring-requires g t c κs within =
    let up = ap expr_nodes c.in-FString.is ∙ expr_nodes-FString c.in-FString.x in
    let here0 = ap (λ q. sum_by (λ y. expr_nodes y.node) q.node.expressions.items) c.in-FString.x-is in
    let all = fstring_nodes-parts c.in-FString.x.node in
    (omega (arith, up, here0, all), (within.0, (within.1.0, (within.1.1.0, (within.1.1.1.0, (within.1.1.1.1.0, (within.1.1.1.1.1.0, (within.1.1.1.1.1.1.0, (within.1.1.1.1.1.1.1, c.requires)))))))))

pub target-targets-requires : goal.target-targets-requires
target-targets-requires g t c κs within =
    let up = ap target_nodes c.in-Tuple.is ∙ target_nodes-Tuple c.in-Tuple.xs in
    let here0 = ap (λ q. sum_by (λ x. target_nodes x.node) q.items) c.in-Tuple.xs-is in
    (omega (arith, up, here0), (within.0, (within.1.0, (within.1.1.0, (within.1.1.1.0, (within.1.1.1.1.0, (within.1.1.1.1.1.0, (within.1.1.1.1.1.1.0, (within.1.1.1.1.1.1.1, c.requires)))))))))

pub target-pair-requires : goal.target-pair-requires
target-pair-requires g t c κs within =
    let up = ap target_nodes c.in-Index.is ∙ target_nodes-Index c.in-Index.x in
    let here0 = ap (λ q. expr_nodes q.value.0.node + expr_nodes q.value.1.node) c.in-Index.x-is in
    (omega (arith, up, here0), (within.0, (within.1.0, (within.1.1.0, (within.1.1.1.0, (within.1.1.1.1.0, (within.1.1.1.1.1.0, (within.1.1.1.1.1.1.0, (within.1.1.1.1.1.1.1, c.requires)))))))))

pub target-named-requires : goal.target-named-requires
target-named-requires g t c κs within =
    let up = ap target_nodes c.in-Dot.is ∙ target_nodes-Dot c.in-Dot.x c.in-Dot.name in
    let here0 = ap (λ q. expr_nodes q.value.node) c.in-Dot.x-is in
    (omega (arith, up, here0), (within.0, (within.1.0, (within.1.1.0, (within.1.1.1.0, (within.1.1.1.1.0, (within.1.1.1.1.1.0, (within.1.1.1.1.1.1.0, (within.1.1.1.1.1.1.1, c.requires)))))))))

pub clause-for_clause-requires : goal.clause-for_clause-requires
clause-for_clause-requires g t c κs within =
    let up = ap clause_nodes c.in-For.is ∙ clause_nodes-For c.in-For.x in
    let here0 = ap (λ q. for_clause_nodes q) c.in-For.x-is in
    (omega (arith, up, here0), (within.0, (within.1.0, (within.1.1.0, (within.1.1.1.0, (within.1.1.1.1.0, (within.1.1.1.1.1.0, (within.1.1.1.1.1.1.0, (within.1.1.1.1.1.1.1, c.requires)))))))))

pub clause-expr-requires : goal.clause-expr-requires
clause-expr-requires g t c κs within =
    let up = ap clause_nodes c.in-If.is ∙ clause_nodes-If c.in-If.x in
    let here0 = ap (λ q. expr_nodes q.node) c.in-If.x-is in
    (omega (arith, up, here0), (within.0, (within.1.0, (within.1.1.0, (within.1.1.1.0, (within.1.1.1.1.0, (within.1.1.1.1.1.0, (within.1.1.1.1.1.1.0, (within.1.1.1.1.1.1.1, c.requires)))))))))

pub default-plain-requires : goal.default-plain-requires
default-plain-requires g t c κs within =
    let up = ap default_nodes c.in-Normal.is ∙ default_nodes-Normal c.in-Normal.name c.in-Normal.ty c.in-Normal.default in
    let here = ap maybe_nodes c.in-Normal.default-is in
    (omega (arith, up, here), (within.0, (within.1.0, (within.1.1.0, (within.1.1.1.0, (within.1.1.1.1.0, (within.1.1.1.1.1.0, (within.1.1.1.1.1.1.0, (within.1.1.1.1.1.1.1, c.requires)))))))))

pub for_clause-target-requires : goal.for_clause-target-requires
for_clause-target-requires g t c κs within =
    let up = for_clause_nodes-parts c.args.x.now in
    (omega (arith, up), (within.0, (within.1.0, (within.1.1.0, (within.1.1.1.0, (within.1.1.1.1.0, (within.1.1.1.1.1.0, (within.1.1.1.1.1.1.0, (within.1.1.1.1.1.1.1, c.requires)))))))))

pub for_clause-expr-requires : goal.for_clause-expr-requires
for_clause-expr-requires g t c κs within =
    let up = for_clause_nodes-parts c.args.x.now in
    (omega (arith, up), (within.0, (within.1.0, (within.1.1.0, (within.1.1.1.0, (within.1.1.1.1.0, (within.1.1.1.1.1.0, (within.1.1.1.1.1.1.0, (within.1.1.1.1.1.1.1, c.target.ensures.callable)))))))))

pub argument-expr-requires : goal.argument-expr-requires
argument-expr-requires g t c κs within =
    let up = argument_nodes_of c.args.x.now.node in
    let here = ap (λ q. expr_nodes q.node) c.expr_mut.ensures.value in
    (omega (arith, up, here), (within.0, (within.1.0, (within.1.1.0, (within.1.1.1.0, (within.1.1.1.1.0, (within.1.1.1.1.1.0, (within.1.1.1.1.1.1.0, (within.1.1.1.1.1.1.1, c.requires)))))))))

pub lambda-defaults-requires : goal.lambda-defaults-requires
lambda-defaults-requires g t c κs within =
    let up = lambda_nodes-parts c.args.x.now in
    let same = same_default_nodes c.own_types.ensures.kept in
    (omega (arith, up, same), (within.0, (within.1.0, (within.1.1.0, (within.1.1.1.0, (within.1.1.1.1.0, (within.1.1.1.1.1.0, (within.1.1.1.1.1.1.0, (within.1.1.1.1.1.1.1, c.own_types.ensures.callable)))))))))

pub lambda-boxed-requires : goal.lambda-boxed-requires
lambda-boxed-requires g t c κs within =
    let up = lambda_nodes-parts c.args.x.now in
    (omega (arith, up), (within.0, (within.1.0, (within.1.1.0, (within.1.1.1.0, (within.1.1.1.1.0, (within.1.1.1.1.1.0, (within.1.1.1.1.1.1.0, (within.1.1.1.1.1.1.1, c.defaults.ensures.callable)))))))))

pub arguments-returns-clause-calls : goal.arguments-returns-clause-calls
arguments-returns-clause-calls g t c =
    let is = c.deref_mut.ensures.value in
    let all : c.args.xs.now.len ≡ length c.each_argument.new.xs = omega (arith, ap length is, c.each_argument.auto.xs, c.deref_mut.ensures.len) in
    writes_at g.F.FnMut (ap (flat_map (λ a. argument_types a.node)) (sym is)) (ap (flat_map (λ a. argument_types a.node)) (take_back c.each_argument.new.xs (drop (length c.each_argument.new.xs) c.args.xs.now.items) c.args.xs.now.len all)) c.each_argument.ensures.calls

pub bound-returns-in-Some-clause-kept : goal.bound-returns-in-Some-clause-kept
bound-returns-in-Some-clause-kept g t c =
    seen KeepsMaybe c.in-Some.is (kept.present _ _ (seen_left SameBox {u = c.boxed.new.x} c.in-Some.x-is c.boxed.ensures.block) (seen_left (λ a b. KeepsTypes a.value b) c.in-Some.x-is c.boxed.ensures.kept))

pub clauses-returns-clause-calls : goal.clauses-returns-clause-calls
clauses-returns-clause-calls g t c =
    writes_then g.F.FnMut (writes_at g.F.FnMut (ap for_clause_types (sym c.deref_mut.ensures.value)) refl c.for_clause.ensures.calls) c.in_ok-for_clause.was c.others.ensures.calls

pub lambda-returns-in_err-own_types-clause-calls : goal.lambda-returns-in_err-own_types-clause-calls
lambda-returns-in_err-own_types-clause-calls g t c =
    writes_at g.F.FnMut (lambda_types-parts _) (lambda_types-parts _ ∙ ap (λ q. flat_map (λ p. own_type p.node) c.own_types.new.xs.items ++ (q ++ expr_types c.args.x.now.body.value.node)) (sym (same_defaults c.own_types.ensures.kept))) (writes_stop g.F.FnMut (flat_map (λ p. default_types p.node) c.args.x.now.params.items ++ expr_types c.args.x.now.body.value.node) c.own_types.ensures.calls c.in_err-own_types.was (out_err c.from_residual.result c.from_residual.ensures.1))

pub lambda-returns-in_err-own_types-clause-kept : goal.lambda-returns-in_err-own_types-clause-kept
lambda-returns-in_err-own_types-clause-kept g t c =
    kept.lambda_parts _ _ c.own_types.new.xs.items c.own_types.ensures.block c.own_types.ensures.kept (kept.defaults_rest _) refl (kept.same _) refl

pub lambda-returns-in_err-defaults-clause-calls : goal.lambda-returns-in_err-defaults-clause-calls
lambda-returns-in_err-defaults-clause-calls g t c =
    writes_at g.F.FnMut (lambda_types-parts _) (lambda_types-parts _ ∙ ap (λ q. q ++ (flat_map (λ p. default_types p.node) c.defaults.new.xs.items ++ expr_types c.args.x.now.body.value.node)) (sym (same_own c.defaults.ensures.kept))) (writes_then g.F.FnMut c.own_types.ensures.calls c.in_ok-own_types.was (writes_at g.F.FnMut (ap (λ q. q ++ expr_types c.args.x.now.body.value.node) (same_defaults c.own_types.ensures.kept)) refl (writes_stop g.F.FnMut (expr_types c.args.x.now.body.value.node) c.defaults.ensures.calls c.in_err-defaults.was (out_err c.from_residual-in_err-defaults.result c.from_residual-in_err-defaults.ensures.1))))

pub lambda-returns-in_err-defaults-clause-kept : goal.lambda-returns-in_err-defaults-clause-kept
lambda-returns-in_err-defaults-clause-kept g t c =
    kept.lambda_parts _ _ c.own_types.new.xs.items (blocks_then c.args.x.now.params c.own_types.new.xs c.defaults.new.xs c.own_types.ensures.block c.defaults.ensures.block) c.own_types.ensures.kept c.defaults.ensures.kept refl (kept.same _) refl

pub lambda-returns-clause-calls : goal.lambda-returns-clause-calls
lambda-returns-clause-calls g t c =
    writes_at g.F.FnMut (lambda_types-parts _) (lambda_types-parts _ ∙ ap (λ q. q ++ (flat_map (λ p. default_types p.node) c.defaults.new.xs.items ++ expr_types c.boxed.new.x.value.node)) (sym (same_own c.defaults.ensures.kept))) (writes_then g.F.FnMut c.own_types.ensures.calls c.in_ok-own_types.was (writes_at g.F.FnMut (ap (λ q. q ++ expr_types c.args.x.now.body.value.node) (same_defaults c.own_types.ensures.kept)) refl (writes_then g.F.FnMut c.defaults.ensures.calls c.in_ok-defaults.was c.boxed.ensures.calls)))

pub lambda-returns-clause-kept : goal.lambda-returns-clause-kept
lambda-returns-clause-kept g t c =
    kept.lambda_parts _ _ c.own_types.new.xs.items (blocks_then c.args.x.now.params c.own_types.new.xs c.defaults.new.xs c.own_types.ensures.block c.defaults.ensures.block) c.own_types.ensures.kept c.defaults.ensures.kept c.boxed.ensures.block c.boxed.ensures.kept refl
