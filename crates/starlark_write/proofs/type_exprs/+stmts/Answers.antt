use Rattle.std.proofs.Common.{rules, of_calls, arith, ◌≡◌, ◌<◌, ◌+◌, refl, sym, ap, ◌∙◌, subst, ◌++◌, append_assoc, flat_map, length, drop, get_or, ap₂}
use denote.Param.{param}
use Rattle.std.specs.Vec.{SameBlock}
use Rattle.starlark_ast.specs.Places.{maybe_place}
use Rattle.starlark_ast.specs.declared.ast.StmtP.TheVariants as stmt
use Rattle.starlark_ast.proofs.Tops.{count, falls-Def, falls-For, falls-If}
use Rattle.starlark_visit.proofs.GoesOn.{out_err}
use Rattle.starlark_write.specs.Beside.{AtPlace, SameBox}
use Rattle.starlark_write.specs.BesideTypes as kept
use Rattle.starlark_write.specs.BesideTypes.{KeepsAssign, KeepsDef, KeepsForStmt, KeepsReturned, KeepsStmtTypes, KeepsStmtsTypes, KeepsTargetTypes, KeepsTypes}
use Rattle.starlark_write.specs.TypePlaces.{assign_types, def_types, default_types, expr_types, for_types, own_type, returned_types, stmt_types, target_types}
use Rattle.starlark_write.specs.Writing.{WritesUntil}
use Rattle.starlark_write.proofs.KeptParts.{with_node}
use Rattle.starlark_write.proofs.KeptTypes.{blocks_then, fewer, same_defaults, same_own, stmts_back}
use Rattle.starlark_write.proofs.Lent.{seen, seen_left, stmt_lent}
use Rattle.starlark_write.proofs.Loops as loops
use Rattle.starlark_write.proofs.Loops.{both_more, end_in, front_more, lengths_more, stop_in, take_back, whole, writes_more, writes_stop_here}
use Rattle.starlark_write.proofs.StatementTypeParts.{count-IfElse, def_types-parts, for_types-parts, stmt_types-Assign, stmt_types-AssignModify, stmt_types-Break, stmt_types-Continue, stmt_types-Def, stmt_types-Expression, stmt_types-For, stmt_types-If, stmt_types-IfElse, stmt_types-Load, stmt_types-Pass, stmt_types-Return, stmt_types-Statements}
use Rattle.starlark_write.proofs.Writes.{writes_at, writes_none, writes_stop, writes_then}
use Rattle.starlark_write.proofs.WritesTops.{counts, counts_list}
use Rattle.starlark_write.proofs.type_exprs.+stmts.Goals as goal

pub stmt-returns-in-Return-clause-calls : goal.stmt-returns-in-Return-clause-calls
stmt-returns-in-Return-clause-calls g t c =
    stmt_lent (param 0 g.row.P) (param 3 g.row.P-LoadPayload) (param 4 g.row.P-IdentPayload) (param 5 g.row.P-IdentAssignPayload) (param 6 g.row.P-DefPayload) (param 7 g.row.P-TypeExprPayload) 3 (λ y v. stmt.Return y) (λ a b. WritesUntil g.F.FnMut c.args.f.now (stmt_types a) c.returned.result c.returned.new.f (stmt_types b)) c.returned.new.x (c.in-Return.x, tt) c.in-Return.is
    (writes_at g.F.FnMut (stmt_types-Return c.in-Return.x ∙ ap (λ q. returned_types q) (sym c.in-Return.x-is)) (stmt_types-Return c.returned.new.x) c.returned.ensures.calls)

pub stmt-returns-in-Return-clause-kept : goal.stmt-returns-in-Return-clause-kept
stmt-returns-in-Return-clause-kept g t c =
    stmt_lent (param 0 g.row.P) (param 3 g.row.P-LoadPayload) (param 4 g.row.P-IdentPayload) (param 5 g.row.P-IdentAssignPayload) (param 6 g.row.P-DefPayload) (param 7 g.row.P-TypeExprPayload) 3 (λ y v. stmt.Return y) KeepsStmtTypes c.returned.new.x (c.in-Return.x, tt) c.in-Return.is (kept.return_stmt _ _ (seen_left (λ a b. KeepsReturned a b) c.in-Return.x-is c.returned.ensures.kept))

pub stmt-returns-in-Expression-clause-calls : goal.stmt-returns-in-Expression-clause-calls
stmt-returns-in-Expression-clause-calls g t c =
    stmt_lent (param 0 g.row.P) (param 3 g.row.P-LoadPayload) (param 4 g.row.P-IdentPayload) (param 5 g.row.P-IdentAssignPayload) (param 6 g.row.P-DefPayload) (param 7 g.row.P-TypeExprPayload) 4 (λ y v. stmt.Expression y) (λ a b. WritesUntil g.F.FnMut c.args.f.now (stmt_types a) c.expr.result c.expr.new.f (stmt_types b)) c.expr.new.x (c.in-Expression.x, tt) c.in-Expression.is
    (writes_at g.F.FnMut (stmt_types-Expression c.in-Expression.x ∙ ap (λ q. expr_types q.node) (sym c.in-Expression.x-is)) (stmt_types-Expression c.expr.new.x) c.expr.ensures.calls)

pub stmt-returns-in-Expression-clause-kept : goal.stmt-returns-in-Expression-clause-kept
stmt-returns-in-Expression-clause-kept g t c =
    stmt_lent (param 0 g.row.P) (param 3 g.row.P-LoadPayload) (param 4 g.row.P-IdentPayload) (param 5 g.row.P-IdentAssignPayload) (param 6 g.row.P-DefPayload) (param 7 g.row.P-TypeExprPayload) 4 (λ y v. stmt.Expression y) KeepsStmtTypes c.expr.new.x (c.in-Expression.x, tt) c.in-Expression.is (kept.expression_stmt _ _ (seen_left (λ a b. KeepsTypes a b) c.in-Expression.x-is c.expr.ensures.kept))

pub stmt-returns-in-Assign-clause-calls : goal.stmt-returns-in-Assign-clause-calls
stmt-returns-in-Assign-clause-calls g t c =
    stmt_lent (param 0 g.row.P) (param 3 g.row.P-LoadPayload) (param 4 g.row.P-IdentPayload) (param 5 g.row.P-IdentAssignPayload) (param 6 g.row.P-DefPayload) (param 7 g.row.P-TypeExprPayload) 5 (λ y v. stmt.Assign y) (λ a b. WritesUntil g.F.FnMut c.args.f.now (stmt_types a) c.assign.result c.assign.new.f (stmt_types b)) c.assign.new.x (c.in-Assign.x, tt) c.in-Assign.is
    (writes_at g.F.FnMut (stmt_types-Assign c.in-Assign.x ∙ ap (λ q. assign_types q) (sym c.in-Assign.x-is)) (stmt_types-Assign c.assign.new.x) c.assign.ensures.calls)

pub stmt-returns-in-Assign-clause-kept : goal.stmt-returns-in-Assign-clause-kept
stmt-returns-in-Assign-clause-kept g t c =
    stmt_lent (param 0 g.row.P) (param 3 g.row.P-LoadPayload) (param 4 g.row.P-IdentPayload) (param 5 g.row.P-IdentAssignPayload) (param 6 g.row.P-DefPayload) (param 7 g.row.P-TypeExprPayload) 5 (λ y v. stmt.Assign y) KeepsStmtTypes c.assign.new.x (c.in-Assign.x, tt) c.in-Assign.is (kept.assign_stmt _ _ (seen_left (λ a b. KeepsAssign a b) c.in-Assign.x-is c.assign.ensures.kept))

pub stmt-returns-in-Statements-clause-calls : goal.stmt-returns-in-Statements-clause-calls
stmt-returns-in-Statements-clause-calls g t c =
    stmt_lent (param 0 g.row.P) (param 3 g.row.P-LoadPayload) (param 4 g.row.P-IdentPayload) (param 5 g.row.P-IdentAssignPayload) (param 6 g.row.P-DefPayload) (param 7 g.row.P-TypeExprPayload) 7 (λ y v. stmt.Statements y) (λ a b. WritesUntil g.F.FnMut c.args.f.now (stmt_types a) c.stmts.result c.stmts.new.f (stmt_types b)) c.stmts.new.xs (c.in-Statements.xs, tt) c.in-Statements.is
    (writes_at g.F.FnMut (stmt_types-Statements c.in-Statements.xs ∙ ap (λ q. flat_map (λ x. stmt_types x.node) q.items) (sym c.in-Statements.xs-is)) (stmt_types-Statements c.stmts.new.xs) c.stmts.ensures.calls)

pub stmt-returns-in-Statements-clause-kept : goal.stmt-returns-in-Statements-clause-kept
stmt-returns-in-Statements-clause-kept g t c =
    stmt_lent (param 0 g.row.P) (param 3 g.row.P-LoadPayload) (param 4 g.row.P-IdentPayload) (param 5 g.row.P-IdentAssignPayload) (param 6 g.row.P-DefPayload) (param 7 g.row.P-TypeExprPayload) 7 (λ y v. stmt.Statements y) KeepsStmtTypes c.stmts.new.xs (c.in-Statements.xs, tt) c.in-Statements.is (kept.list_stmt _ _ (seen_left SameBlock {u = c.stmts.new.xs} c.in-Statements.xs-is c.stmts.ensures.block) (seen_left (λ a b. KeepsStmtsTypes a.items b) c.in-Statements.xs-is c.stmts.ensures.kept))

pub stmt-returns-in-For-clause-calls : goal.stmt-returns-in-For-clause-calls
stmt-returns-in-For-clause-calls g t c =
    stmt_lent (param 0 g.row.P) (param 3 g.row.P-LoadPayload) (param 4 g.row.P-IdentPayload) (param 5 g.row.P-IdentAssignPayload) (param 6 g.row.P-DefPayload) (param 7 g.row.P-TypeExprPayload) 10 (λ y v. stmt.For y) (λ a b. WritesUntil g.F.FnMut c.args.f.now (stmt_types a) c.repeat.result c.repeat.new.f (stmt_types b)) c.repeat.new.x (c.in-For.x, tt) c.in-For.is
    (writes_at g.F.FnMut (stmt_types-For c.in-For.x ∙ ap (λ q. for_types q) (sym c.in-For.x-is)) (stmt_types-For c.repeat.new.x) c.repeat.ensures.calls)

pub stmt-returns-in-For-clause-kept : goal.stmt-returns-in-For-clause-kept
stmt-returns-in-For-clause-kept g t c =
    stmt_lent (param 0 g.row.P) (param 3 g.row.P-LoadPayload) (param 4 g.row.P-IdentPayload) (param 5 g.row.P-IdentAssignPayload) (param 6 g.row.P-DefPayload) (param 7 g.row.P-TypeExprPayload) 10 (λ y v. stmt.For y) KeepsStmtTypes c.repeat.new.x (c.in-For.x, tt) c.in-For.is (kept.for_stmt _ _ (seen_left (λ a b. KeepsForStmt a b) c.in-For.x-is c.repeat.ensures.kept))

pub stmt-returns-in-Def-clause-calls : goal.stmt-returns-in-Def-clause-calls
stmt-returns-in-Def-clause-calls g t c =
    stmt_lent (param 0 g.row.P) (param 3 g.row.P-LoadPayload) (param 4 g.row.P-IdentPayload) (param 5 g.row.P-IdentAssignPayload) (param 6 g.row.P-DefPayload) (param 7 g.row.P-TypeExprPayload) 11 (λ y v. stmt.Def y) (λ a b. WritesUntil g.F.FnMut c.args.f.now (stmt_types a) c.define.result c.define.new.f (stmt_types b)) c.define.new.x (c.in-Def.x, tt) c.in-Def.is
    (writes_at g.F.FnMut (stmt_types-Def c.in-Def.x ∙ ap (λ q. def_types q) (sym c.in-Def.x-is)) (stmt_types-Def c.define.new.x) c.define.ensures.calls)

pub stmt-returns-in-Def-clause-kept : goal.stmt-returns-in-Def-clause-kept
stmt-returns-in-Def-clause-kept g t c =
    stmt_lent (param 0 g.row.P) (param 3 g.row.P-LoadPayload) (param 4 g.row.P-IdentPayload) (param 5 g.row.P-IdentAssignPayload) (param 6 g.row.P-DefPayload) (param 7 g.row.P-TypeExprPayload) 11 (λ y v. stmt.Def y) KeepsStmtTypes c.define.new.x (c.in-Def.x, tt) c.in-Def.is (kept.def_stmt _ _ (seen_left (λ a b. KeepsDef a b) c.in-Def.x-is c.define.ensures.kept))

pub stmt-returns-in-Break-clause-calls : goal.stmt-returns-in-Break-clause-calls
stmt-returns-in-Break-clause-calls g t c =
    let none = ap stmt_types c.in-Break.is ∙ stmt_types-Break g.row.P.Denot g.row.P-LoadPayload.Denot g.row.P-IdentPayload.Denot g.row.P-IdentAssignPayload.Denot g.row.P-DefPayload.Denot g.row.P-TypeExprPayload.Denot in
    writes_at g.F.FnMut none none (writes_none g.F.FnMut refl)

pub stmt-returns-in-Break-clause-kept : goal.stmt-returns-in-Break-clause-kept
stmt-returns-in-Break-clause-kept g t c =
    kept.same_stmt _

pub stmt-returns-in-Continue-clause-calls : goal.stmt-returns-in-Continue-clause-calls
stmt-returns-in-Continue-clause-calls g t c =
    let none = ap stmt_types c.in-Continue.is ∙ stmt_types-Continue g.row.P.Denot g.row.P-LoadPayload.Denot g.row.P-IdentPayload.Denot g.row.P-IdentAssignPayload.Denot g.row.P-DefPayload.Denot g.row.P-TypeExprPayload.Denot in
    writes_at g.F.FnMut none none (writes_none g.F.FnMut refl)

pub stmt-returns-in-Continue-clause-kept : goal.stmt-returns-in-Continue-clause-kept
stmt-returns-in-Continue-clause-kept g t c =
    kept.same_stmt _

pub stmt-returns-in-Pass-clause-calls : goal.stmt-returns-in-Pass-clause-calls
stmt-returns-in-Pass-clause-calls g t c =
    let none = ap stmt_types c.in-Pass.is ∙ stmt_types-Pass g.row.P.Denot g.row.P-LoadPayload.Denot g.row.P-IdentPayload.Denot g.row.P-IdentAssignPayload.Denot g.row.P-DefPayload.Denot g.row.P-TypeExprPayload.Denot in
    writes_at g.F.FnMut none none (writes_none g.F.FnMut refl)

pub stmt-returns-in-Pass-clause-kept : goal.stmt-returns-in-Pass-clause-kept
stmt-returns-in-Pass-clause-kept g t c =
    kept.same_stmt _

pub stmt-returns-in-Load-clause-calls : goal.stmt-returns-in-Load-clause-calls
stmt-returns-in-Load-clause-calls g t c =
    let none = ap stmt_types c.in-Load.is ∙ stmt_types-Load c.in-Load.field-0 in
    writes_at g.F.FnMut none none (writes_none g.F.FnMut refl)

pub stmt-returns-in-Load-clause-kept : goal.stmt-returns-in-Load-clause-kept
stmt-returns-in-Load-clause-kept g t c =
    kept.same_stmt _

pub stmt-returns-in-AssignModify-clause-calls : goal.stmt-returns-in-AssignModify-clause-calls
stmt-returns-in-AssignModify-clause-calls g t c =
    writes_at g.F.FnMut (ap stmt_types c.in-AssignModify.is ∙ stmt_types-AssignModify c.in-AssignModify.lhs c.in-AssignModify.op c.in-AssignModify.rhs ∙ ap₂ (λ p q. target_types p.node ++ expr_types q.value.node) (sym c.in-AssignModify.lhs-is) (sym c.in-AssignModify.rhs-is)) (stmt_types-AssignModify c.modify.new.lhs c.modify.new.op c.modify.new.rhs) c.modify.ensures.calls

pub stmt-returns-in-AssignModify-clause-kept : goal.stmt-returns-in-AssignModify-clause-kept
stmt-returns-in-AssignModify-clause-kept g t c =
    let arm = c.in-AssignModify in
    let call = c.modify in
    seen KeepsStmtTypes arm.is
    (subst (λ q. KeepsStmtTypes (stmt.AssignModify arm.lhs arm.op arm.rhs) (stmt.AssignModify call.new.lhs q call.new.rhs)) (sym (call.ensures.op ∙ arm.op-is)) (kept.modify_stmt _ _ _ _ _ (seen_left SameBox {u = call.new.rhs} arm.rhs-is call.ensures.block) (seen_left KeepsTargetTypes arm.lhs-is call.ensures.target) (seen_left (λ a b. KeepsTypes a.value b) arm.rhs-is call.ensures.kept)))

pub stmt-returns-in-If-clause-calls : goal.stmt-returns-in-If-clause-calls
stmt-returns-in-If-clause-calls g t c =
    writes_at g.F.FnMut (ap stmt_types c.in-If.is ∙ stmt_types-If c.in-If.c c.in-If.x ∙ ap₂ (λ p q. expr_types p.node ++ stmt_types q.value.node) (sym c.in-If.c-is) (sym c.in-If.x-is)) (stmt_types-If c.branch-c.new.c c.branch-c.new.x) c.branch-c.ensures.calls

pub stmt-returns-in-If-clause-kept : goal.stmt-returns-in-If-clause-kept
stmt-returns-in-If-clause-kept g t c =
    let arm = c.in-If in
    let call = c.branch-c in
    seen KeepsStmtTypes arm.is
    (let there = seen_left (λ a b. AtPlace KeepsStmtTypes a.value b) arm.x-is call.ensures.kept in kept.if_stmt _ _ _ _ (seen_left SameBox {u = call.new.x} arm.x-is call.ensures.block) (seen_left KeepsTypes arm.c-is call.ensures.condition) there.span there.node)

pub stmt-returns-in-IfElse-clause-calls : goal.stmt-returns-in-IfElse-clause-calls
stmt-returns-in-IfElse-clause-calls g t c =
    writes_at g.F.FnMut (ap stmt_types c.in-IfElse.is ∙ stmt_types-IfElse c.in-IfElse.c c.in-IfElse.x ∙ ap₂ (λ p q. expr_types p.node ++ (stmt_types q.value.0.node ++ stmt_types q.value.1.node)) (sym c.in-IfElse.c-is) (sym c.in-IfElse.x-is)) (stmt_types-IfElse c.branches.new.c c.branches.new.x) c.branches.ensures.calls

pub stmt-returns-in-IfElse-clause-kept : goal.stmt-returns-in-IfElse-clause-kept
stmt-returns-in-IfElse-clause-kept g t c =
    let arm = c.in-IfElse in
    let call = c.branches in
    seen KeepsStmtTypes arm.is
    (let one = seen_left (λ a b. AtPlace KeepsStmtTypes a.value.0 b) arm.x-is call.ensures.first in let two = seen_left (λ a b. AtPlace KeepsStmtTypes a.value.1 b) arm.x-is call.ensures.second in kept.if_else_stmt _ _ _ _ (seen_left SameBox {u = call.new.x} arm.x-is call.ensures.block) (seen_left KeepsTypes arm.c-is call.ensures.condition) one.span one.node two.span two.node)

pub stmt-stmts-requires : goal.stmt-stmts-requires
stmt-stmts-requires g t c κs within =
    let up = counts_list c.args.x.now c.in-Statements.xs c.in-Statements.is in
    let here = ap (λ q. counts q.items) c.in-Statements.xs-is in
    (omega (arith, up, here), (within.0, (within.1.0, (within.1.1.0, (within.1.1.1.0, (within.1.1.1.1.0, (within.1.1.1.1.1.0, (within.1.1.1.1.1.1.0, (within.1.1.1.1.1.1.1, c.requires)))))))))

pub stmt-branch-c-requires : goal.stmt-branch-c-requires
stmt-branch-c-requires g t c κs within =
    let less = falls-If c.args.x.now c.in-If.c c.in-If.x (count c.args.x.now) c.in-If.is refl in
    let here = ap (λ q. count q.value.node) c.in-If.x-is in
    (omega (arith, less, here), (within.0, (within.1.0, (within.1.1.0, (within.1.1.1.0, (within.1.1.1.1.0, (within.1.1.1.1.1.0, (within.1.1.1.1.1.1.0, (within.1.1.1.1.1.1.1, c.requires)))))))))

pub stmt-branches-requires : goal.stmt-branches-requires
stmt-branches-requires g t c κs within =
    let up = count-IfElse c.args.x.now c.in-IfElse.c c.in-IfElse.x c.in-IfElse.is in
    let here = ap (λ q. count q.value.0.node + count q.value.1.node) c.in-IfElse.x-is in
    (omega (arith, up, here), (within.0, (within.1.0, (within.1.1.0, (within.1.1.1.0, (within.1.1.1.1.0, (within.1.1.1.1.1.0, (within.1.1.1.1.1.1.0, (within.1.1.1.1.1.1.1, c.requires)))))))))

pub stmt-repeat-requires : goal.stmt-repeat-requires
stmt-repeat-requires g t c κs within =
    let less = falls-For c.args.x.now c.in-For.x (count c.args.x.now) c.in-For.is refl in
    let here = ap (λ q. count q.body.value.node) c.in-For.x-is in
    (omega (arith, less, here), (within.0, (within.1.0, (within.1.1.0, (within.1.1.1.0, (within.1.1.1.1.0, (within.1.1.1.1.1.0, (within.1.1.1.1.1.1.0, (within.1.1.1.1.1.1.1, c.requires)))))))))

pub stmt-define-requires : goal.stmt-define-requires
stmt-define-requires g t c κs within =
    let less = falls-Def c.args.x.now c.in-Def.x (count c.args.x.now) c.in-Def.is refl in
    let here = ap (λ q. count q.body.value.node) c.in-Def.x-is in
    (omega (arith, less, here), (within.0, (within.1.0, (within.1.1.0, (within.1.1.1.0, (within.1.1.1.1.0, (within.1.1.1.1.1.0, (within.1.1.1.1.1.1.0, (within.1.1.1.1.1.1.1, c.requires)))))))))

pub each_stmt-loop-i-init : goal.each_stmt-loop-i-init
each_stmt-loop-i-init g t c =
    (search of_calls, writes_none g.F.FnMut refl, loops.none, refl, refl)

pub each_stmt-loop-i-preserved : goal.each_stmt-loop-i-preserved
each_stmt-loop-i-preserved g t c =
    let old = c.args.xs.now in
    let xs = c.loop-i.xs in
    let i = c.loop-i.i in
    let x = c.index-xs-i.result in
    let y = with_node (get_or xs i x) c.stmt.new.x in
    let below : i < length xs = search rules in (
      search of_calls,
      writes_more old xs i x y below c.loop-i.invariant.3 c.index-xs-i.is c.loop-i.invariant.4 g.F.FnMut (λ x. stmt_types x.node) c.loop-i.invariant.1 (writes_at g.F.FnMut (ap (λ x. stmt_types x.node) c.index-xs-i.is) refl c.stmt.ensures.calls) c.in_ok-stmt.was,
      both_more old xs i x y below c.loop-i.invariant.3 c.index-xs-i.is c.loop-i.invariant.4 (AtPlace KeepsStmtTypes) c.loop-i.invariant.2 (seen (AtPlace KeepsStmtTypes) c.index-xs-i.is (record { span = refl; node = c.stmt.ensures.kept })),
      lengths_more old xs i x y below c.loop-i.invariant.3 c.index-xs-i.is c.loop-i.invariant.4,
      front_more old xs i x y below c.loop-i.invariant.3 c.index-xs-i.is c.loop-i.invariant.4,
    )

pub each_stmt-returns-in_err-stmt-clause-calls : goal.each_stmt-returns-in_err-stmt-clause-calls
each_stmt-returns-in_err-stmt-clause-calls g t c =
    let old = c.args.xs.now in
    let xs = c.loop-i.xs in
    let i = c.loop-i.i in
    let x = c.index-xs-i.result in
    let y = with_node (get_or xs i x) c.stmt.new.x in
    let below : i < length xs = search rules in
    writes_stop_here old xs i x y below c.loop-i.invariant.3 c.index-xs-i.is c.loop-i.invariant.4 g.F.FnMut (λ x. stmt_types x.node) c.loop-i.invariant.1 (writes_at g.F.FnMut (ap (λ x. stmt_types x.node) c.index-xs-i.is) refl c.stmt.ensures.calls) c.in_err-stmt.was (out_err c.from_residual.result c.from_residual.ensures.1)

pub each_stmt-returns-in_err-stmt-clause-kept : goal.each_stmt-returns-in_err-stmt-clause-kept
each_stmt-returns-in_err-stmt-clause-kept g t c =
    let old = c.args.xs.now in
    let xs = c.loop-i.xs in
    let i = c.loop-i.i in
    let x = c.index-xs-i.result in
    let y = with_node (get_or xs i x) c.stmt.new.x in
    let below : i < length xs = search rules in
    stop_in old xs i x y below c.loop-i.invariant.3 c.index-xs-i.is c.loop-i.invariant.4 (AtPlace KeepsStmtTypes) KeepsStmtsTypes stmts_back c.loop-i.invariant.2 (seen (AtPlace KeepsStmtTypes) c.index-xs-i.is (record { span = refl; node = c.stmt.ensures.kept }))

pub each_stmt-returns-clause-calls : goal.each_stmt-returns-clause-calls
each_stmt-returns-clause-calls g t c =
    let done : c.loop-i.i ≡ length c.loop-i.xs = omega (arith, c.loop-i-test.false, c.loop-i.auto.i-end, c.loop-i.invariant.3, c.loop-i.auto.xs) in
    writes_at g.F.FnMut (ap (flat_map (λ x. stmt_types x.node)) (whole _ _ (done ∙ c.loop-i.invariant.3))) (ap (flat_map (λ x. stmt_types x.node)) (whole _ _ done)) c.loop-i.invariant.1

pub each_stmt-returns-clause-kept : goal.each_stmt-returns-clause-kept
each_stmt-returns-clause-kept g t c =
    let done : c.loop-i.i ≡ length c.loop-i.xs = omega (arith, c.loop-i-test.false, c.loop-i.auto.i-end, c.loop-i.invariant.3, c.loop-i.auto.xs) in
    end_in (AtPlace KeepsStmtTypes) KeepsStmtsTypes stmts_back c.args.xs.now c.loop-i.xs c.loop-i.i (done ∙ c.loop-i.invariant.3) done c.loop-i.invariant.2

pub each_stmt-stmt-requires : goal.each_stmt-stmt-requires
each_stmt-stmt-requires g t c κs within =
    let below : c.loop-i.i < length c.loop-i.xs = search rules in
    let le = fewer (λ x. count x.node) c.args.xs.now c.loop-i.xs c.loop-i.i c.index-xs-i.result below c.loop-i.invariant.3 c.loop-i.invariant.4 in
    (omega (arith, le), (within.0, (within.1.0, (within.1.1.0, (within.1.1.1.0, (within.1.1.1.1.0, (within.1.1.1.1.1.0, (within.1.1.1.1.1.1.0, (within.1.1.1.1.1.1.1, c.loop-i.invariant.0)))))))))

pub branch-returns-in_err-expr-clause-calls : goal.branch-returns-in_err-expr-clause-calls
branch-returns-in_err-expr-clause-calls g t c =
    writes_stop g.F.FnMut (stmt_types c.args.x.now.value.node) c.expr.ensures.calls c.in_err-expr.was (out_err c.from_residual.result c.from_residual.ensures.1)

pub branch-returns-in_err-expr-clause-kept : goal.branch-returns-in_err-expr-clause-kept
branch-returns-in_err-expr-clause-kept g t c =
    record { span = refl; node = kept.same_stmt _ }

pub branch-returns-clause-calls : goal.branch-returns-clause-calls
branch-returns-clause-calls g t c =
    writes_then g.F.FnMut c.expr.ensures.calls c.in_ok-expr.was c.body.ensures.calls

pub branches-returns-in_err-expr-clause-calls : goal.branches-returns-in_err-expr-clause-calls
branches-returns-in_err-expr-clause-calls g t c =
    writes_stop g.F.FnMut (stmt_types c.args.x.now.value.0.node ++ stmt_types c.args.x.now.value.1.node) c.expr.ensures.calls c.in_err-expr.was (out_err c.from_residual.result c.from_residual.ensures.1)

pub branches-returns-in_err-expr-clause-first : goal.branches-returns-in_err-expr-clause-first
branches-returns-in_err-expr-clause-first g t c =
    record { span = refl; node = kept.same_stmt _ }

pub branches-returns-in_err-expr-clause-second : goal.branches-returns-in_err-expr-clause-second
branches-returns-in_err-expr-clause-second g t c =
    record { span = refl; node = kept.same_stmt _ }

pub branches-returns-clause-calls : goal.branches-returns-clause-calls
branches-returns-clause-calls g t c =
    writes_then g.F.FnMut c.expr.ensures.calls c.in_ok-expr.was c.both_stmts.ensures.calls

pub two_stmts-returns-in_err-stmt-clause-calls : goal.two_stmts-returns-in_err-stmt-clause-calls
two_stmts-returns-in_err-stmt-clause-calls g t c =
    writes_stop g.F.FnMut (stmt_types c.args.y.now.node) c.stmt.ensures.calls c.in_err-stmt.was (out_err c.from_residual.result c.from_residual.ensures.1)

pub two_stmts-returns-in_err-stmt-clause-first : goal.two_stmts-returns-in_err-stmt-clause-first
two_stmts-returns-in_err-stmt-clause-first g t c =
    record { span = refl; node = c.stmt.ensures.kept }

pub two_stmts-returns-in_err-stmt-clause-second : goal.two_stmts-returns-in_err-stmt-clause-second
two_stmts-returns-in_err-stmt-clause-second g t c =
    record { span = refl; node = kept.same_stmt _ }

pub two_stmts-returns-clause-calls : goal.two_stmts-returns-clause-calls
two_stmts-returns-clause-calls g t c =
    writes_then g.F.FnMut c.stmt.ensures.calls c.in_ok-stmt.was c.stmt-2.ensures.calls

pub two_stmts-returns-clause-first : goal.two_stmts-returns-clause-first
two_stmts-returns-clause-first g t c =
    record { span = refl; node = c.stmt.ensures.kept }

pub two_stmts-returns-clause-second : goal.two_stmts-returns-clause-second
two_stmts-returns-clause-second g t c =
    record { span = refl; node = c.stmt-2.ensures.kept }

pub repeat-returns-in_err-target-clause-calls : goal.repeat-returns-in_err-target-clause-calls
repeat-returns-in_err-target-clause-calls g t c =
    writes_at g.F.FnMut (for_types-parts _) (for_types-parts _) (writes_stop g.F.FnMut (expr_types c.args.x.now.over.node ++ stmt_types c.args.x.now.body.value.node) c.target.ensures.calls c.in_err-target.was (out_err c.from_residual.result c.from_residual.ensures.1))

pub repeat-returns-in_err-target-clause-kept : goal.repeat-returns-in_err-target-clause-kept
repeat-returns-in_err-target-clause-kept g t c =
    kept.for_stmt_parts _ _ c.target.ensures.kept (kept.same _) refl refl (kept.same_stmt _)

pub repeat-returns-in_err-expr-clause-calls : goal.repeat-returns-in_err-expr-clause-calls
repeat-returns-in_err-expr-clause-calls g t c =
    writes_at g.F.FnMut (for_types-parts _) (for_types-parts _) (writes_then g.F.FnMut c.target.ensures.calls c.in_ok-target.was (writes_stop g.F.FnMut (stmt_types c.args.x.now.body.value.node) c.expr.ensures.calls c.in_err-expr.was (out_err c.from_residual-in_err-expr.result c.from_residual-in_err-expr.ensures.1)))

pub repeat-returns-in_err-expr-clause-kept : goal.repeat-returns-in_err-expr-clause-kept
repeat-returns-in_err-expr-clause-kept g t c =
    kept.for_stmt_parts _ _ c.target.ensures.kept c.expr.ensures.kept refl refl (kept.same_stmt _)

pub repeat-returns-clause-calls : goal.repeat-returns-clause-calls
repeat-returns-clause-calls g t c =
    writes_at g.F.FnMut (for_types-parts _) (for_types-parts _) (writes_then g.F.FnMut c.target.ensures.calls c.in_ok-target.was (writes_then g.F.FnMut c.expr.ensures.calls c.in_ok-expr.was c.body.ensures.calls))

pub repeat-returns-clause-kept : goal.repeat-returns-clause-kept
repeat-returns-clause-kept g t c =
    kept.for_stmt_parts _ _ c.target.ensures.kept c.expr.ensures.kept c.body.ensures.block c.body.ensures.kept.span c.body.ensures.kept.node

pub define-returns-in_err-defined-clause-calls : goal.define-returns-in_err-defined-clause-calls
define-returns-in_err-defined-clause-calls g t c =
    writes_at g.F.FnMut (def_types-parts _ ∙ sym (append_assoc (flat_map (λ p. own_type p.node) c.args.x.now.params.items) (maybe_place c.args.x.now.return_type) (flat_map (λ p. default_types p.node) c.args.x.now.params.items ++ stmt_types c.args.x.now.body.value.node))) (def_types-parts _ ∙ ap (λ q. flat_map (λ p. own_type p.node) c.defined.new.params.items ++ (maybe_place c.defined.new.returned ++ (q ++ stmt_types c.args.x.now.body.value.node))) (sym (same_defaults c.defined.ensures.params)) ∙ sym (append_assoc (flat_map (λ p. own_type p.node) c.defined.new.params.items) (maybe_place c.defined.new.returned) (flat_map (λ p. default_types p.node) c.args.x.now.params.items ++ stmt_types c.args.x.now.body.value.node))) (writes_stop g.F.FnMut (flat_map (λ p. default_types p.node) c.args.x.now.params.items ++ stmt_types c.args.x.now.body.value.node) c.defined.ensures.calls c.in_err-defined.was (out_err c.from_residual.result c.from_residual.ensures.1))

pub define-returns-in_err-defined-clause-kept : goal.define-returns-in_err-defined-clause-kept
define-returns-in_err-defined-clause-kept g t c =
    kept.def_parts _ _ c.defined.new.params.items refl c.defined.ensures.block c.defined.ensures.params (kept.defaults_rest _) c.defined.ensures.returned refl refl (kept.same_stmt _) refl

pub define-returns-in_err-defaults-clause-calls : goal.define-returns-in_err-defaults-clause-calls
define-returns-in_err-defaults-clause-calls g t c =
    writes_at g.F.FnMut (def_types-parts _ ∙ sym (append_assoc (flat_map (λ p. own_type p.node) c.args.x.now.params.items) (maybe_place c.args.x.now.return_type) (flat_map (λ p. default_types p.node) c.args.x.now.params.items ++ stmt_types c.args.x.now.body.value.node))) (def_types-parts _ ∙ ap (λ q. q ++ (maybe_place c.defined.new.returned ++ (flat_map (λ p. default_types p.node) c.defaults.new.xs.items ++ stmt_types c.args.x.now.body.value.node))) (sym (same_own c.defaults.ensures.kept)) ∙ sym (append_assoc (flat_map (λ p. own_type p.node) c.defined.new.params.items) (maybe_place c.defined.new.returned) (flat_map (λ p. default_types p.node) c.defaults.new.xs.items ++ stmt_types c.args.x.now.body.value.node))) (writes_then g.F.FnMut c.defined.ensures.calls c.in_ok-defined.was (writes_at g.F.FnMut (ap (λ q. q ++ stmt_types c.args.x.now.body.value.node) (same_defaults c.defined.ensures.params)) refl (writes_stop g.F.FnMut (stmt_types c.args.x.now.body.value.node) c.defaults.ensures.calls c.in_err-defaults.was (out_err c.from_residual-in_err-defaults.result c.from_residual-in_err-defaults.ensures.1))))

pub define-returns-in_err-defaults-clause-kept : goal.define-returns-in_err-defaults-clause-kept
define-returns-in_err-defaults-clause-kept g t c =
    kept.def_parts _ _ c.defined.new.params.items refl (blocks_then c.args.x.now.params c.defined.new.params c.defaults.new.xs c.defined.ensures.block c.defaults.ensures.block) c.defined.ensures.params c.defaults.ensures.kept c.defined.ensures.returned refl refl (kept.same_stmt _) refl

pub define-returns-clause-calls : goal.define-returns-clause-calls
define-returns-clause-calls g t c =
    writes_at g.F.FnMut (def_types-parts _ ∙ sym (append_assoc (flat_map (λ p. own_type p.node) c.args.x.now.params.items) (maybe_place c.args.x.now.return_type) (flat_map (λ p. default_types p.node) c.args.x.now.params.items ++ stmt_types c.args.x.now.body.value.node))) (def_types-parts _ ∙ ap (λ q. q ++ (maybe_place c.defined.new.returned ++ (flat_map (λ p. default_types p.node) c.defaults.new.xs.items ++ stmt_types c.body.new.x.value.node))) (sym (same_own c.defaults.ensures.kept)) ∙ sym (append_assoc (flat_map (λ p. own_type p.node) c.defined.new.params.items) (maybe_place c.defined.new.returned) (flat_map (λ p. default_types p.node) c.defaults.new.xs.items ++ stmt_types c.body.new.x.value.node))) (writes_then g.F.FnMut c.defined.ensures.calls c.in_ok-defined.was (writes_at g.F.FnMut (ap (λ q. q ++ stmt_types c.args.x.now.body.value.node) (same_defaults c.defined.ensures.params)) refl (writes_then g.F.FnMut c.defaults.ensures.calls c.in_ok-defaults.was c.body.ensures.calls)))

pub define-returns-clause-kept : goal.define-returns-clause-kept
define-returns-clause-kept g t c =
    kept.def_parts _ _ c.defined.new.params.items refl (blocks_then c.args.x.now.params c.defined.new.params c.defaults.new.xs c.defined.ensures.block c.defaults.ensures.block) c.defined.ensures.params c.defaults.ensures.kept c.defined.ensures.returned c.body.ensures.block c.body.ensures.kept.span c.body.ensures.kept.node refl

pub stmts-returns-clause-calls : goal.stmts-returns-clause-calls
stmts-returns-clause-calls g t c =
    let is = c.deref_mut.ensures.value in
    let all : c.args.xs.now.len ≡ length c.each_stmt.new.xs = omega (arith, ap length is, c.each_stmt.auto.xs, c.deref_mut.ensures.len) in
    writes_at g.F.FnMut (ap (flat_map (λ x. stmt_types x.node)) (sym is)) (ap (flat_map (λ x. stmt_types x.node)) (take_back c.each_stmt.new.xs (drop (length c.each_stmt.new.xs) c.args.xs.now.items) c.args.xs.now.len all)) c.each_stmt.ensures.calls

pub stmts-returns-clause-kept : goal.stmts-returns-clause-kept
stmts-returns-clause-kept g t c =
    let is = c.deref_mut.ensures.value in
    let all : c.args.xs.now.len ≡ length c.each_stmt.new.xs = omega (arith, ap length is, c.each_stmt.auto.xs, c.deref_mut.ensures.len) in
    seen_left KeepsStmtsTypes is (subst (λ q. KeepsStmtsTypes c.deref_mut.result.now q) (sym (take_back c.each_stmt.new.xs (drop (length c.each_stmt.new.xs) c.args.xs.now.items) c.args.xs.now.len all)) c.each_stmt.ensures.kept)
