use Rattle.std.proofs.Common.{refl, sym, ap, ◌∙◌, subst, [], ◌∷◌, ◌++◌, ap₂}
use denote.Param.{param}
use Rattle.starlark_write.specs.Beside.{AtPlace, KeepsTarget, SameBox, stands}
use Rattle.starlark_write.specs.BesideStatements as beside
use Rattle.starlark_write.specs.BesideStatements.{KeepsAssign, KeepsDef, KeepsFor, KeepsStmt}
use Rattle.starlark_ast.specs.Places.{target_places}
use Rattle.starlark_ast.specs.Statements.{assign_places, def_places, exprs_below, exprs_layer, for_places, maybe_here}
use Rattle.starlark_write.specs.Writing.{WritesUntil}
use Rattle.starlark_ast.specs.declared.ast.StmtP.TheVariants as stmt
use Rattle.starlark_write.proofs.Lent.{seen, seen_left, stmt_lent}
use Rattle.starlark_write.proofs.Writes.{writes_at, writes_none}
use Rattle.starlark_write.proofs.statements.exprs_err_mut.Goals as goal

pub returns-in-Return-clause-calls : goal.returns-in-Return-clause-calls
returns-in-Return-clause-calls g c =
    stmt_lent (param 0 g.row.P) (param 3 g.row.P-LoadPayload) (param 4 g.row.P-IdentPayload) (param 5 g.row.P-IdentAssignPayload) (param 6 g.row.P-DefPayload) (param 7 g.row.P-TypeExprPayload) 3 (λ y v. stmt.Return y) (λ a b. WritesUntil g.F.FnMut c.args.f.now (exprs_below a) c.held.result c.held.new.f (exprs_below b)) c.held.new.x (c.in-Return.x, tt) c.in-Return.is
    (writes_at g.F.FnMut (ap exprs_layer (stmt.outs-Return c.in-Return.x) ∙ ap (λ q. maybe_here q) (sym c.in-Return.x-is)) (ap exprs_layer (stmt.outs-Return c.held.new.x)) c.held.ensures.calls)

pub returns-in-Return-clause-kept : goal.returns-in-Return-clause-kept
returns-in-Return-clause-kept g c =
    stmt_lent (param 0 g.row.P) (param 3 g.row.P-LoadPayload) (param 4 g.row.P-IdentPayload) (param 5 g.row.P-IdentAssignPayload) (param 6 g.row.P-DefPayload) (param 7 g.row.P-TypeExprPayload) 3 (λ y v. stmt.Return y) KeepsStmt c.held.new.x (c.in-Return.x, tt) c.in-Return.is (beside.returned _ _ (c.held.ensures.kept ∙ ap stands c.in-Return.x-is))

pub returns-in-Expression-clause-calls : goal.returns-in-Expression-clause-calls
returns-in-Expression-clause-calls g c =
    stmt_lent (param 0 g.row.P) (param 3 g.row.P-LoadPayload) (param 4 g.row.P-IdentPayload) (param 5 g.row.P-IdentAssignPayload) (param 6 g.row.P-DefPayload) (param 7 g.row.P-TypeExprPayload) 4 (λ y v. stmt.Expression y) (λ a b. WritesUntil g.F.FnMut c.args.f.now (exprs_below a) c.one.result c.one.new.f (exprs_below b)) c.one.new.x (c.in-Expression.x, tt) c.in-Expression.is
    (writes_at g.F.FnMut (ap exprs_layer (stmt.outs-Expression c.in-Expression.x) ∙ ap (λ q. q ∷ []) (sym c.in-Expression.x-is)) (ap exprs_layer (stmt.outs-Expression c.one.new.x)) c.one.ensures.calls)

pub returns-in-Expression-clause-kept : goal.returns-in-Expression-clause-kept
returns-in-Expression-clause-kept g c =
    stmt_lent (param 0 g.row.P) (param 3 g.row.P-LoadPayload) (param 4 g.row.P-IdentPayload) (param 5 g.row.P-IdentAssignPayload) (param 6 g.row.P-DefPayload) (param 7 g.row.P-TypeExprPayload) 4 (λ y v. stmt.Expression y) KeepsStmt c.one.new.x (c.in-Expression.x, tt) c.in-Expression.is (beside.expression _ _)

pub returns-in-Assign-clause-calls : goal.returns-in-Assign-clause-calls
returns-in-Assign-clause-calls g c =
    stmt_lent (param 0 g.row.P) (param 3 g.row.P-LoadPayload) (param 4 g.row.P-IdentPayload) (param 5 g.row.P-IdentAssignPayload) (param 6 g.row.P-DefPayload) (param 7 g.row.P-TypeExprPayload) 5 (λ y v. stmt.Assign y) (λ a b. WritesUntil g.F.FnMut c.args.f.now (exprs_below a) c.visit_expr_err_mut.result c.visit_expr_err_mut.new.f (exprs_below b)) c.visit_expr_err_mut.new.self (c.in-Assign.x, tt) c.in-Assign.is
    (writes_at g.F.FnMut (ap exprs_layer (stmt.outs-Assign c.in-Assign.x) ∙ ap (λ q. assign_places q) (sym c.in-Assign.x-is)) (ap exprs_layer (stmt.outs-Assign c.visit_expr_err_mut.new.self)) c.visit_expr_err_mut.ensures.calls)

pub returns-in-Assign-clause-kept : goal.returns-in-Assign-clause-kept
returns-in-Assign-clause-kept g c =
    stmt_lent (param 0 g.row.P) (param 3 g.row.P-LoadPayload) (param 4 g.row.P-IdentPayload) (param 5 g.row.P-IdentAssignPayload) (param 6 g.row.P-DefPayload) (param 7 g.row.P-TypeExprPayload) 5 (λ y v. stmt.Assign y) KeepsStmt c.visit_expr_err_mut.new.self (c.in-Assign.x, tt) c.in-Assign.is (beside.assign _ _ (seen_left KeepsAssign c.in-Assign.x-is c.visit_expr_err_mut.ensures.kept))

pub returns-in-For-clause-calls : goal.returns-in-For-clause-calls
returns-in-For-clause-calls g c =
    stmt_lent (param 0 g.row.P) (param 3 g.row.P-LoadPayload) (param 4 g.row.P-IdentPayload) (param 5 g.row.P-IdentAssignPayload) (param 6 g.row.P-DefPayload) (param 7 g.row.P-TypeExprPayload) 10 (λ y v. stmt.For y) (λ a b. WritesUntil g.F.FnMut c.args.f.now (exprs_below a) c.visit_expr_err_mut-in-For.result c.visit_expr_err_mut-in-For.new.f (exprs_below b)) c.visit_expr_err_mut-in-For.new.self (c.in-For.x, tt) c.in-For.is
    (writes_at g.F.FnMut (ap exprs_layer (stmt.outs-For c.in-For.x) ∙ ap (λ q. for_places q) (sym c.in-For.x-is)) (ap exprs_layer (stmt.outs-For c.visit_expr_err_mut-in-For.new.self)) c.visit_expr_err_mut-in-For.ensures.calls)

pub returns-in-For-clause-kept : goal.returns-in-For-clause-kept
returns-in-For-clause-kept g c =
    stmt_lent (param 0 g.row.P) (param 3 g.row.P-LoadPayload) (param 4 g.row.P-IdentPayload) (param 5 g.row.P-IdentAssignPayload) (param 6 g.row.P-DefPayload) (param 7 g.row.P-TypeExprPayload) 10 (λ y v. stmt.For y) KeepsStmt c.visit_expr_err_mut-in-For.new.self (c.in-For.x, tt) c.in-For.is (beside.repeat _ _ (seen_left KeepsFor c.in-For.x-is c.visit_expr_err_mut-in-For.ensures.kept))

pub returns-in-Def-clause-calls : goal.returns-in-Def-clause-calls
returns-in-Def-clause-calls g c =
    stmt_lent (param 0 g.row.P) (param 3 g.row.P-LoadPayload) (param 4 g.row.P-IdentPayload) (param 5 g.row.P-IdentAssignPayload) (param 6 g.row.P-DefPayload) (param 7 g.row.P-TypeExprPayload) 11 (λ y v. stmt.Def y) (λ a b. WritesUntil g.F.FnMut c.args.f.now (exprs_below a) c.visit_expr_err_mut-in-Def.result c.visit_expr_err_mut-in-Def.new.f (exprs_below b)) c.visit_expr_err_mut-in-Def.new.self (c.in-Def.x, tt) c.in-Def.is
    (writes_at g.F.FnMut (ap exprs_layer (stmt.outs-Def c.in-Def.x) ∙ ap (λ q. def_places q) (sym c.in-Def.x-is)) (ap exprs_layer (stmt.outs-Def c.visit_expr_err_mut-in-Def.new.self)) c.visit_expr_err_mut-in-Def.ensures.calls)

pub returns-in-Def-clause-kept : goal.returns-in-Def-clause-kept
returns-in-Def-clause-kept g c =
    stmt_lent (param 0 g.row.P) (param 3 g.row.P-LoadPayload) (param 4 g.row.P-IdentPayload) (param 5 g.row.P-IdentAssignPayload) (param 6 g.row.P-DefPayload) (param 7 g.row.P-TypeExprPayload) 11 (λ y v. stmt.Def y) KeepsStmt c.visit_expr_err_mut-in-Def.new.self (c.in-Def.x, tt) c.in-Def.is (beside.define _ _ (seen_left KeepsDef c.in-Def.x-is c.visit_expr_err_mut-in-Def.ensures.kept))

pub returns-in-AssignModify-clause-calls : goal.returns-in-AssignModify-clause-calls
returns-in-AssignModify-clause-calls g c =
    writes_at g.F.FnMut (ap exprs_below c.in-AssignModify.is ∙ ap exprs_layer (stmt.outs-AssignModify c.in-AssignModify.lhs c.in-AssignModify.op c.in-AssignModify.rhs) ∙ ap₂ (λ p q. target_places p.node ++ q.value ∷ []) (sym c.in-AssignModify.lhs-is) (sym c.in-AssignModify.rhs-is)) (ap exprs_layer (stmt.outs-AssignModify c.modified.new.lhs c.modified.new.op c.modified.new.rhs)) c.modified.ensures.calls

pub returns-in-AssignModify-clause-kept : goal.returns-in-AssignModify-clause-kept
returns-in-AssignModify-clause-kept g c =
    seen KeepsStmt c.in-AssignModify.is (subst (λ q. KeepsStmt (stmt.AssignModify c.in-AssignModify.lhs c.in-AssignModify.op c.in-AssignModify.rhs) (stmt.AssignModify c.modified.new.lhs q c.modified.new.rhs)) (sym (c.modified.ensures.operator ∙ c.in-AssignModify.op-is)) (beside.assign_modify _ _ _ _ _ (seen_left SameBox {u = c.modified.new.rhs} c.in-AssignModify.rhs-is c.modified.ensures.block) (seen_left (AtPlace KeepsTarget) c.in-AssignModify.lhs-is c.modified.ensures.target)))

pub returns-in-If-clause-calls : goal.returns-in-If-clause-calls
returns-in-If-clause-calls g c =
    writes_at g.F.FnMut (ap exprs_below c.in-If.is ∙ ap exprs_layer (stmt.outs-If c.in-If.c c.in-If.x) ∙ ap (λ q. q ∷ []) (sym c.in-If.c-is)) (ap exprs_layer (stmt.outs-If c.leading.new.x c.leading.new.other)) c.leading.ensures.calls

pub returns-in-If-clause-kept : goal.returns-in-If-clause-kept
returns-in-If-clause-kept g c =
    seen KeepsStmt c.in-If.is (subst (λ q. KeepsStmt (stmt.If c.in-If.c c.in-If.x) (stmt.If c.leading.new.x q)) (sym (c.leading.ensures.kept ∙ c.in-If.x-is)) (beside.condition _ _ _))

pub returns-in-IfElse-clause-calls : goal.returns-in-IfElse-clause-calls
returns-in-IfElse-clause-calls g c =
    writes_at g.F.FnMut (ap exprs_below c.in-IfElse.is ∙ ap exprs_layer (stmt.outs-IfElse c.in-IfElse.c c.in-IfElse.x) ∙ ap (λ q. q ∷ []) (sym c.in-IfElse.c-is)) (ap exprs_layer (stmt.outs-IfElse c.leading-in-IfElse.new.x c.leading-in-IfElse.new.other)) c.leading-in-IfElse.ensures.calls

pub returns-in-IfElse-clause-kept : goal.returns-in-IfElse-clause-kept
returns-in-IfElse-clause-kept g c =
    seen KeepsStmt c.in-IfElse.is (subst (λ q. KeepsStmt (stmt.IfElse c.in-IfElse.c c.in-IfElse.x) (stmt.IfElse c.leading-in-IfElse.new.x q)) (sym (c.leading-in-IfElse.ensures.kept ∙ c.in-IfElse.x-is)) (beside.choice _ _ _))

pub returns-in-Statements-clause-calls : goal.returns-in-Statements-clause-calls
returns-in-Statements-clause-calls g c =
    let none = ap exprs_below c.in-Statements.is ∙ ap exprs_layer (stmt.outs-Statements c.in-Statements.field-0) in
    writes_at g.F.FnMut none none (writes_none g.F.FnMut refl)

pub returns-in-Statements-clause-kept : goal.returns-in-Statements-clause-kept
returns-in-Statements-clause-kept g c = beside.same _

pub returns-in-Load-clause-calls : goal.returns-in-Load-clause-calls
returns-in-Load-clause-calls g c =
    let none = ap exprs_below c.in-Load.is ∙ ap exprs_layer (stmt.outs-Load c.in-Load.field-0) in
    writes_at g.F.FnMut none none (writes_none g.F.FnMut refl)

pub returns-in-Load-clause-kept : goal.returns-in-Load-clause-kept
returns-in-Load-clause-kept g c = beside.same _

pub returns-in-Break-clause-kept : goal.returns-in-Break-clause-kept
returns-in-Break-clause-kept g c = beside.same _

pub returns-in-Continue-clause-kept : goal.returns-in-Continue-clause-kept
returns-in-Continue-clause-kept g c = beside.same _

pub returns-in-Pass-clause-kept : goal.returns-in-Pass-clause-kept
returns-in-Pass-clause-kept g c = beside.same _
