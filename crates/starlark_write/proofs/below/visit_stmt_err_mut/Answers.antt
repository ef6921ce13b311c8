use Rattle.std.proofs.Common.{refl, sym, ap, ◌∙◌, subst, [], ◌∷◌, length}
use denote.Param.{param}
use Rattle.std.specs.Vec.{SameBlock}
use Rattle.starlark_write.specs.Beside.{SameBox}
use Rattle.starlark_write.specs.BesideStatements as beside
use Rattle.starlark_write.specs.BesideStatements.{KeepsDefHead, KeepsForHead, KeepsHead, def_body, for_body}
use Rattle.starlark_ast.specs.Statements.{stmts_below, stmts_layer}
use Rattle.starlark_write.specs.Writing.{WritesUntil}
use Rattle.starlark_ast.specs.declared.ast.StmtP.TheVariants as stmt
use Rattle.starlark_write.proofs.KeptStatements.{def_body_is, def_head_kept, for_body_is, for_head_kept, with_def_body, with_for_body}
use Rattle.starlark_write.proofs.Lent.{seen, seen_left, stmt_fields, stmt_lent}
use Rattle.starlark_write.proofs.Writes.{writes_at, writes_none}
use Rattle.starlark_write.proofs.below.visit_stmt_err_mut.Goals as goal

pub returns-in-Statements-clause-calls : goal.returns-in-Statements-clause-calls
returns-in-Statements-clause-calls g c =
    stmt_lent (param 0 g.row.P) (param 1 g.row.P-LoadPayload) (param 2 g.row.P-IdentPayload) (param 3 g.row.P-IdentAssignPayload) (param 4 g.row.P-DefPayload) (param 5 g.row.P-TypeExprPayload) 7 (λ y v. stmt.Statements y) (λ a b. WritesUntil g.F.FnMut c.args.f.now (stmts_below a) c.list.result c.list.new.f (stmts_below b)) c.list.new.xs (c.in-Statements.xs, tt) c.in-Statements.is
    (writes_at g.F.FnMut (ap stmts_layer (stmt.outs-Statements c.in-Statements.xs) ∙ ap (λ q. q.items) (sym c.in-Statements.xs-is)) (ap stmts_layer (stmt.outs-Statements c.list.new.xs)) c.list.ensures.calls)

pub returns-in-Statements-clause-kept : goal.returns-in-Statements-clause-kept
returns-in-Statements-clause-kept g c =
    stmt_lent (param 0 g.row.P) (param 1 g.row.P-LoadPayload) (param 2 g.row.P-IdentPayload) (param 3 g.row.P-IdentAssignPayload) (param 4 g.row.P-DefPayload) (param 5 g.row.P-TypeExprPayload) 7 (λ y v. stmt.Statements y) KeepsHead c.list.new.xs (c.in-Statements.xs, tt) c.in-Statements.is (beside.head_statements _ _ (seen_left SameBlock {u = c.list.new.xs} c.in-Statements.xs-is c.list.ensures.block) (c.list.ensures.kept ∙ ap (λ q. length q.items) c.in-Statements.xs-is))

pub returns-in-For-clause-calls : goal.returns-in-For-clause-calls
returns-in-For-clause-calls g c =
    let x = (stmt_fields (param 0 g.row.P) (param 1 g.row.P-LoadPayload) (param 2 g.row.P-IdentPayload) (param 3 g.row.P-IdentAssignPayload) (param 4 g.row.P-DefPayload) (param 5 g.row.P-TypeExprPayload) 10 (c.in-For.x, tt) c.args.whole.now).0 in
    stmt_lent (param 0 g.row.P) (param 1 g.row.P-LoadPayload) (param 2 g.row.P-IdentPayload) (param 3 g.row.P-IdentAssignPayload) (param 4 g.row.P-DefPayload) (param 5 g.row.P-TypeExprPayload) 10 (λ y v. stmt.For y) (λ a b. WritesUntil g.F.FnMut c.args.f.now (stmts_below a) c.boxed.result c.boxed.new.f (stmts_below b)) (with_for_body x c.boxed.new.x) (c.in-For.x, tt) c.in-For.is
    (writes_at g.F.FnMut (ap stmts_layer (stmt.outs-For c.in-For.x) ∙ ap (λ q. for_body q ∷ []) (sym c.in-For.x-is)) (ap stmts_layer (stmt.outs-For (with_for_body x c.boxed.new.x)) ∙ ap (λ q. q ∷ []) (for_body_is x c.boxed.new.x)) c.boxed.ensures.calls)

pub returns-in-For-clause-kept : goal.returns-in-For-clause-kept
returns-in-For-clause-kept g c =
    let x = (stmt_fields (param 0 g.row.P) (param 1 g.row.P-LoadPayload) (param 2 g.row.P-IdentPayload) (param 3 g.row.P-IdentAssignPayload) (param 4 g.row.P-DefPayload) (param 5 g.row.P-TypeExprPayload) 10 (c.in-For.x, tt) c.args.whole.now).0 in
    stmt_lent (param 0 g.row.P) (param 1 g.row.P-LoadPayload) (param 2 g.row.P-IdentPayload) (param 3 g.row.P-IdentAssignPayload) (param 4 g.row.P-DefPayload) (param 5 g.row.P-TypeExprPayload) 10 (λ y v. stmt.For y) KeepsHead (with_for_body x c.boxed.new.x) (c.in-For.x, tt) c.in-For.is (beside.head_repeat _ _ (seen_left KeepsForHead c.in-For.x-is (for_head_kept x c.boxed.new.x c.boxed.ensures.block)))

pub returns-in-Def-clause-calls : goal.returns-in-Def-clause-calls
returns-in-Def-clause-calls g c =
    let x = (stmt_fields (param 0 g.row.P) (param 1 g.row.P-LoadPayload) (param 2 g.row.P-IdentPayload) (param 3 g.row.P-IdentAssignPayload) (param 4 g.row.P-DefPayload) (param 5 g.row.P-TypeExprPayload) 11 (c.in-Def.x, tt) c.args.whole.now).0 in
    stmt_lent (param 0 g.row.P) (param 1 g.row.P-LoadPayload) (param 2 g.row.P-IdentPayload) (param 3 g.row.P-IdentAssignPayload) (param 4 g.row.P-DefPayload) (param 5 g.row.P-TypeExprPayload) 11 (λ y v. stmt.Def y) (λ a b. WritesUntil g.F.FnMut c.args.f.now (stmts_below a) c.boxed-in-Def.result c.boxed-in-Def.new.f (stmts_below b)) (with_def_body x c.boxed-in-Def.new.x) (c.in-Def.x, tt) c.in-Def.is
    (writes_at g.F.FnMut (ap stmts_layer (stmt.outs-Def c.in-Def.x) ∙ ap (λ q. def_body q ∷ []) (sym c.in-Def.x-is)) (ap stmts_layer (stmt.outs-Def (with_def_body x c.boxed-in-Def.new.x)) ∙ ap (λ q. q ∷ []) (def_body_is x c.boxed-in-Def.new.x)) c.boxed-in-Def.ensures.calls)

pub returns-in-Def-clause-kept : goal.returns-in-Def-clause-kept
returns-in-Def-clause-kept g c =
    let x = (stmt_fields (param 0 g.row.P) (param 1 g.row.P-LoadPayload) (param 2 g.row.P-IdentPayload) (param 3 g.row.P-IdentAssignPayload) (param 4 g.row.P-DefPayload) (param 5 g.row.P-TypeExprPayload) 11 (c.in-Def.x, tt) c.args.whole.now).0 in
    stmt_lent (param 0 g.row.P) (param 1 g.row.P-LoadPayload) (param 2 g.row.P-IdentPayload) (param 3 g.row.P-IdentAssignPayload) (param 4 g.row.P-DefPayload) (param 5 g.row.P-TypeExprPayload) 11 (λ y v. stmt.Def y) KeepsHead (with_def_body x c.boxed-in-Def.new.x) (c.in-Def.x, tt) c.in-Def.is (beside.head_define _ _ (seen_left KeepsDefHead c.in-Def.x-is (def_head_kept x c.boxed-in-Def.new.x c.boxed-in-Def.ensures.block)))

pub returns-in-If-clause-calls : goal.returns-in-If-clause-calls
returns-in-If-clause-calls g c =
    writes_at g.F.FnMut (ap stmts_below c.in-If.is ∙ ap stmts_layer (stmt.outs-If c.in-If.c c.in-If.x) ∙ ap (λ q. q.value ∷ []) (sym c.in-If.x-is)) (ap stmts_layer (stmt.outs-If c.beside.new.other c.beside.new.x)) c.beside.ensures.calls

pub returns-in-If-clause-kept : goal.returns-in-If-clause-kept
returns-in-If-clause-kept g c =
    seen KeepsHead c.in-If.is (subst (λ q. KeepsHead (stmt.If c.in-If.c c.in-If.x) (stmt.If q c.beside.new.x)) (sym (c.beside.ensures.kept ∙ c.in-If.c-is)) (beside.head_condition _ _ _ (seen_left SameBox {u = c.beside.new.x} c.in-If.x-is c.beside.ensures.block)))

pub returns-in-IfElse-clause-calls : goal.returns-in-IfElse-clause-calls
returns-in-IfElse-clause-calls g c =
    writes_at g.F.FnMut (ap stmts_below c.in-IfElse.is ∙ ap stmts_layer (stmt.outs-IfElse c.in-IfElse.c c.in-IfElse.x) ∙ ap (λ q. q.value.0 ∷ q.value.1 ∷ []) (sym c.in-IfElse.x-is)) (ap stmts_layer (stmt.outs-IfElse c.pair_beside.new.other c.pair_beside.new.x)) c.pair_beside.ensures.calls

pub returns-in-IfElse-clause-kept : goal.returns-in-IfElse-clause-kept
returns-in-IfElse-clause-kept g c =
    seen KeepsHead c.in-IfElse.is (subst (λ q. KeepsHead (stmt.IfElse c.in-IfElse.c c.in-IfElse.x) (stmt.IfElse q c.pair_beside.new.x)) (sym (c.pair_beside.ensures.kept ∙ c.in-IfElse.c-is)) (beside.head_choice _ _ _ (seen_left SameBox {u = c.pair_beside.new.x} c.in-IfElse.x-is c.pair_beside.ensures.block)))

pub returns-in-Return-clause-calls : goal.returns-in-Return-clause-calls
returns-in-Return-clause-calls g c =
    let none = ap stmts_below c.in-Return.is ∙ ap stmts_layer (stmt.outs-Return c.in-Return.field-0) in
    writes_at g.F.FnMut none none (writes_none g.F.FnMut refl)

pub returns-in-Return-clause-kept : goal.returns-in-Return-clause-kept
returns-in-Return-clause-kept g c = beside.head_same _

pub returns-in-Expression-clause-calls : goal.returns-in-Expression-clause-calls
returns-in-Expression-clause-calls g c =
    let none = ap stmts_below c.in-Expression.is ∙ ap stmts_layer (stmt.outs-Expression c.in-Expression.field-0) in
    writes_at g.F.FnMut none none (writes_none g.F.FnMut refl)

pub returns-in-Expression-clause-kept : goal.returns-in-Expression-clause-kept
returns-in-Expression-clause-kept g c = beside.head_same _

pub returns-in-Assign-clause-calls : goal.returns-in-Assign-clause-calls
returns-in-Assign-clause-calls g c =
    let none = ap stmts_below c.in-Assign.is ∙ ap stmts_layer (stmt.outs-Assign c.in-Assign.field-0) in
    writes_at g.F.FnMut none none (writes_none g.F.FnMut refl)

pub returns-in-Assign-clause-kept : goal.returns-in-Assign-clause-kept
returns-in-Assign-clause-kept g c = beside.head_same _

pub returns-in-AssignModify-clause-calls : goal.returns-in-AssignModify-clause-calls
returns-in-AssignModify-clause-calls g c =
    let none = ap stmts_below c.in-AssignModify.is ∙ ap stmts_layer (stmt.outs-AssignModify c.in-AssignModify.field-0 c.in-AssignModify.field-1 c.in-AssignModify.field-2) in
    writes_at g.F.FnMut none none (writes_none g.F.FnMut refl)

pub returns-in-AssignModify-clause-kept : goal.returns-in-AssignModify-clause-kept
returns-in-AssignModify-clause-kept g c = beside.head_same _

pub returns-in-Load-clause-calls : goal.returns-in-Load-clause-calls
returns-in-Load-clause-calls g c =
    let none = ap stmts_below c.in-Load.is ∙ ap stmts_layer (stmt.outs-Load c.in-Load.field-0) in
    writes_at g.F.FnMut none none (writes_none g.F.FnMut refl)

pub returns-in-Load-clause-kept : goal.returns-in-Load-clause-kept
returns-in-Load-clause-kept g c = beside.head_same _

pub returns-in-Break-clause-kept : goal.returns-in-Break-clause-kept
returns-in-Break-clause-kept g c = beside.head_same _

pub returns-in-Continue-clause-kept : goal.returns-in-Continue-clause-kept
returns-in-Continue-clause-kept g c = beside.head_same _

pub returns-in-Pass-clause-kept : goal.returns-in-Pass-clause-kept
returns-in-Pass-clause-kept g c = beside.head_same _
