use Rattle.std.proofs.Common.{refl, sym, ap, ◌∙◌, subst, [], ◌∷◌, length, map}
use denote.Param.{param}
use Rattle.std.specs.Vec.{SameBlock}
use Rattle.starlark_ast.specs.Nodes.{statement}
use Rattle.starlark_ast.specs.Statements.{stmts_below, stmts_layer}
use Rattle.starlark_ast.specs.declared.ast.StmtP.TheVariants as stmt
use Rattle.starlark_visit.proofs.GoesOn.{out_err}
use Rattle.starlark_write.specs.Beside.{SameBox}
use Rattle.starlark_write.specs.BesideStatements as beside
use Rattle.starlark_write.specs.BesideStatements.{KeepsDefHead, KeepsForHead, KeepsHead, def_body, for_body}
use Rattle.starlark_write.specs.WritingNodes.{NodesUntil}
use Rattle.starlark_write.proofs.KeptStatements.{def_body_is, def_head_kept, for_body_is, for_head_kept, stmts_none, with_def_body, with_for_body}
use Rattle.starlark_write.proofs.Lent.{seen, seen_left, stmt_fields, stmt_lent}
use Rattle.starlark_write.proofs.NodesWritten.{nodes_at, nodes_both, nodes_first, nodes_none}
use Rattle.starlark_write.proofs.nodes_mut.StmtPVisitChildrenMutAstStmtPAstExprP.lend_children_mut.Goals as goal

pub returns-in_err-expr_nodes-clause-calls : goal.returns-in_err-expr_nodes-clause-calls
returns-in_err-expr_nodes-clause-calls g c = nodes_first g.V.NodeVisitorMut.leaves c.expr_nodes.ensures.calls c.expr_nodes.ensures.kept c.in_err-expr_nodes.was (out_err c.from_residual.result c.from_residual.ensures.1)

pub returns-in_err-expr_nodes-clause-kept : goal.returns-in_err-expr_nodes-clause-kept
returns-in_err-expr_nodes-clause-kept g c = beside.nodes c.expr_nodes.ensures.kept (beside.head_same _)

pub returns-in-Statements-clause-calls : goal.returns-in-Statements-clause-calls
returns-in-Statements-clause-calls g c =
    nodes_both g.V.NodeVisitorMut.leaves c.expr_nodes.ensures.calls c.expr_nodes.ensures.kept c.in_ok-expr_nodes.was
    (stmt_lent (param 0 g.row.P) (param 1 g.row.P-LoadPayload) (param 2 g.row.P-IdentPayload) (param 3 g.row.P-IdentAssignPayload) (param 4 g.row.P-DefPayload) (param 5 g.row.P-TypeExprPayload) 7 (λ y v. stmt.Statements y) KeepsHead c.list.new.xs (c.in-Statements.xs, tt) c.in-Statements.is (beside.head_statements _ _ (seen_left SameBlock {u = c.list.new.xs} c.in-Statements.xs-is c.list.ensures.block) (c.list.ensures.kept ∙ ap (λ q. length q.items) c.in-Statements.xs-is)))
    (stmt_lent (param 0 g.row.P) (param 1 g.row.P-LoadPayload) (param 2 g.row.P-IdentPayload) (param 3 g.row.P-IdentAssignPayload) (param 4 g.row.P-DefPayload) (param 5 g.row.P-TypeExprPayload) 7 (λ y v. stmt.Statements y) (λ a b. NodesUntil g.V.NodeVisitorMut.leaves c.expr_nodes.new.v (map statement (stmts_below a)) c.list.result c.list.new.v (map statement (stmts_below b))) c.list.new.xs (c.in-Statements.xs, tt) c.in-Statements.is (nodes_at g.V.NodeVisitorMut.leaves (ap (map statement) (ap stmts_layer (stmt.outs-Statements c.in-Statements.xs) ∙ ap (λ q. q.items) (sym c.in-Statements.xs-is))) (ap (map statement) (ap stmts_layer (stmt.outs-Statements c.list.new.xs))) c.list.ensures.calls))

pub returns-in-Statements-clause-kept : goal.returns-in-Statements-clause-kept
returns-in-Statements-clause-kept g c =
    beside.nodes c.expr_nodes.ensures.kept (stmt_lent (param 0 g.row.P) (param 1 g.row.P-LoadPayload) (param 2 g.row.P-IdentPayload) (param 3 g.row.P-IdentAssignPayload) (param 4 g.row.P-DefPayload) (param 5 g.row.P-TypeExprPayload) 7 (λ y v. stmt.Statements y) KeepsHead c.list.new.xs (c.in-Statements.xs, tt) c.in-Statements.is (beside.head_statements _ _ (seen_left SameBlock {u = c.list.new.xs} c.in-Statements.xs-is c.list.ensures.block) (c.list.ensures.kept ∙ ap (λ q. length q.items) c.in-Statements.xs-is)))

pub returns-in-For-clause-calls : goal.returns-in-For-clause-calls
returns-in-For-clause-calls g c =
    let x = (stmt_fields (param 0 g.row.P) (param 1 g.row.P-LoadPayload) (param 2 g.row.P-IdentPayload) (param 3 g.row.P-IdentAssignPayload) (param 4 g.row.P-DefPayload) (param 5 g.row.P-TypeExprPayload) 10 (c.in-For.x, tt) c.expr_nodes.new.x).0 in
    nodes_both g.V.NodeVisitorMut.leaves c.expr_nodes.ensures.calls c.expr_nodes.ensures.kept c.in_ok-expr_nodes.was
    (stmt_lent (param 0 g.row.P) (param 1 g.row.P-LoadPayload) (param 2 g.row.P-IdentPayload) (param 3 g.row.P-IdentAssignPayload) (param 4 g.row.P-DefPayload) (param 5 g.row.P-TypeExprPayload) 10 (λ y v. stmt.For y) KeepsHead (with_for_body x c.boxed.new.x) (c.in-For.x, tt) c.in-For.is (beside.head_repeat _ _ (seen_left KeepsForHead c.in-For.x-is (for_head_kept x c.boxed.new.x c.boxed.ensures.block))))
    (stmt_lent (param 0 g.row.P) (param 1 g.row.P-LoadPayload) (param 2 g.row.P-IdentPayload) (param 3 g.row.P-IdentAssignPayload) (param 4 g.row.P-DefPayload) (param 5 g.row.P-TypeExprPayload) 10 (λ y v. stmt.For y) (λ a b. NodesUntil g.V.NodeVisitorMut.leaves c.expr_nodes.new.v (map statement (stmts_below a)) c.boxed.result c.boxed.new.v (map statement (stmts_below b))) (with_for_body x c.boxed.new.x) (c.in-For.x, tt) c.in-For.is (nodes_at g.V.NodeVisitorMut.leaves (ap (map statement) (ap stmts_layer (stmt.outs-For c.in-For.x) ∙ ap (λ q. for_body q ∷ []) (sym c.in-For.x-is))) (ap (map statement) (ap stmts_layer (stmt.outs-For (with_for_body x c.boxed.new.x)) ∙ ap (λ q. q ∷ []) (for_body_is x c.boxed.new.x))) c.boxed.ensures.calls))

pub returns-in-For-clause-kept : goal.returns-in-For-clause-kept
returns-in-For-clause-kept g c =
    let x = (stmt_fields (param 0 g.row.P) (param 1 g.row.P-LoadPayload) (param 2 g.row.P-IdentPayload) (param 3 g.row.P-IdentAssignPayload) (param 4 g.row.P-DefPayload) (param 5 g.row.P-TypeExprPayload) 10 (c.in-For.x, tt) c.expr_nodes.new.x).0 in
    beside.nodes c.expr_nodes.ensures.kept (stmt_lent (param 0 g.row.P) (param 1 g.row.P-LoadPayload) (param 2 g.row.P-IdentPayload) (param 3 g.row.P-IdentAssignPayload) (param 4 g.row.P-DefPayload) (param 5 g.row.P-TypeExprPayload) 10 (λ y v. stmt.For y) KeepsHead (with_for_body x c.boxed.new.x) (c.in-For.x, tt) c.in-For.is (beside.head_repeat _ _ (seen_left KeepsForHead c.in-For.x-is (for_head_kept x c.boxed.new.x c.boxed.ensures.block))))

pub returns-in-Def-clause-calls : goal.returns-in-Def-clause-calls
returns-in-Def-clause-calls g c =
    let x = (stmt_fields (param 0 g.row.P) (param 1 g.row.P-LoadPayload) (param 2 g.row.P-IdentPayload) (param 3 g.row.P-IdentAssignPayload) (param 4 g.row.P-DefPayload) (param 5 g.row.P-TypeExprPayload) 11 (c.in-Def.x, tt) c.expr_nodes.new.x).0 in
    nodes_both g.V.NodeVisitorMut.leaves c.expr_nodes.ensures.calls c.expr_nodes.ensures.kept c.in_ok-expr_nodes.was
    (stmt_lent (param 0 g.row.P) (param 1 g.row.P-LoadPayload) (param 2 g.row.P-IdentPayload) (param 3 g.row.P-IdentAssignPayload) (param 4 g.row.P-DefPayload) (param 5 g.row.P-TypeExprPayload) 11 (λ y v. stmt.Def y) KeepsHead (with_def_body x c.boxed-in-Def.new.x) (c.in-Def.x, tt) c.in-Def.is (beside.head_define _ _ (seen_left KeepsDefHead c.in-Def.x-is (def_head_kept x c.boxed-in-Def.new.x c.boxed-in-Def.ensures.block))))
    (stmt_lent (param 0 g.row.P) (param 1 g.row.P-LoadPayload) (param 2 g.row.P-IdentPayload) (param 3 g.row.P-IdentAssignPayload) (param 4 g.row.P-DefPayload) (param 5 g.row.P-TypeExprPayload) 11 (λ y v. stmt.Def y) (λ a b. NodesUntil g.V.NodeVisitorMut.leaves c.expr_nodes.new.v (map statement (stmts_below a)) c.boxed-in-Def.result c.boxed-in-Def.new.v (map statement (stmts_below b))) (with_def_body x c.boxed-in-Def.new.x) (c.in-Def.x, tt) c.in-Def.is (nodes_at g.V.NodeVisitorMut.leaves (ap (map statement) (ap stmts_layer (stmt.outs-Def c.in-Def.x) ∙ ap (λ q. def_body q ∷ []) (sym c.in-Def.x-is))) (ap (map statement) (ap stmts_layer (stmt.outs-Def (with_def_body x c.boxed-in-Def.new.x)) ∙ ap (λ q. q ∷ []) (def_body_is x c.boxed-in-Def.new.x))) c.boxed-in-Def.ensures.calls))

pub returns-in-Def-clause-kept : goal.returns-in-Def-clause-kept
returns-in-Def-clause-kept g c =
    let x = (stmt_fields (param 0 g.row.P) (param 1 g.row.P-LoadPayload) (param 2 g.row.P-IdentPayload) (param 3 g.row.P-IdentAssignPayload) (param 4 g.row.P-DefPayload) (param 5 g.row.P-TypeExprPayload) 11 (c.in-Def.x, tt) c.expr_nodes.new.x).0 in
    beside.nodes c.expr_nodes.ensures.kept (stmt_lent (param 0 g.row.P) (param 1 g.row.P-LoadPayload) (param 2 g.row.P-IdentPayload) (param 3 g.row.P-IdentAssignPayload) (param 4 g.row.P-DefPayload) (param 5 g.row.P-TypeExprPayload) 11 (λ y v. stmt.Def y) KeepsHead (with_def_body x c.boxed-in-Def.new.x) (c.in-Def.x, tt) c.in-Def.is (beside.head_define _ _ (seen_left KeepsDefHead c.in-Def.x-is (def_head_kept x c.boxed-in-Def.new.x c.boxed-in-Def.ensures.block))))

pub returns-in-If-clause-calls : goal.returns-in-If-clause-calls
returns-in-If-clause-calls g c =
    nodes_both g.V.NodeVisitorMut.leaves c.expr_nodes.ensures.calls c.expr_nodes.ensures.kept c.in_ok-expr_nodes.was
    (seen KeepsHead c.in-If.is (subst (λ q. KeepsHead (stmt.If c.in-If.c c.in-If.x) (stmt.If q c.beside.new.x)) (sym (c.beside.ensures.kept ∙ c.in-If.c-is)) (beside.head_condition _ _ _ (seen_left SameBox {u = c.beside.new.x} c.in-If.x-is c.beside.ensures.block))))
    (nodes_at g.V.NodeVisitorMut.leaves (ap (map statement) (ap stmts_below c.in-If.is ∙ ap stmts_layer (stmt.outs-If c.in-If.c c.in-If.x) ∙ ap (λ q. q.value ∷ []) (sym c.in-If.x-is))) (ap (map statement) (ap stmts_layer (stmt.outs-If c.beside.new.other c.beside.new.x))) c.beside.ensures.calls)

pub returns-in-If-clause-kept : goal.returns-in-If-clause-kept
returns-in-If-clause-kept g c =
    beside.nodes c.expr_nodes.ensures.kept (seen KeepsHead c.in-If.is (subst (λ q. KeepsHead (stmt.If c.in-If.c c.in-If.x) (stmt.If q c.beside.new.x)) (sym (c.beside.ensures.kept ∙ c.in-If.c-is)) (beside.head_condition _ _ _ (seen_left SameBox {u = c.beside.new.x} c.in-If.x-is c.beside.ensures.block))))

pub returns-in-IfElse-clause-calls : goal.returns-in-IfElse-clause-calls
returns-in-IfElse-clause-calls g c =
    nodes_both g.V.NodeVisitorMut.leaves c.expr_nodes.ensures.calls c.expr_nodes.ensures.kept c.in_ok-expr_nodes.was
    (seen KeepsHead c.in-IfElse.is (subst (λ q. KeepsHead (stmt.IfElse c.in-IfElse.c c.in-IfElse.x) (stmt.IfElse q c.pair.new.x)) (sym (c.pair.ensures.kept ∙ c.in-IfElse.c-is)) (beside.head_choice _ _ _ (seen_left SameBox {u = c.pair.new.x} c.in-IfElse.x-is c.pair.ensures.block))))
    (nodes_at g.V.NodeVisitorMut.leaves (ap (map statement) (ap stmts_below c.in-IfElse.is ∙ ap stmts_layer (stmt.outs-IfElse c.in-IfElse.c c.in-IfElse.x) ∙ ap (λ q. q.value.0 ∷ q.value.1 ∷ []) (sym c.in-IfElse.x-is))) (ap (map statement) (ap stmts_layer (stmt.outs-IfElse c.pair.new.other c.pair.new.x))) c.pair.ensures.calls)

pub returns-in-IfElse-clause-kept : goal.returns-in-IfElse-clause-kept
returns-in-IfElse-clause-kept g c =
    beside.nodes c.expr_nodes.ensures.kept (seen KeepsHead c.in-IfElse.is (subst (λ q. KeepsHead (stmt.IfElse c.in-IfElse.c c.in-IfElse.x) (stmt.IfElse q c.pair.new.x)) (sym (c.pair.ensures.kept ∙ c.in-IfElse.c-is)) (beside.head_choice _ _ _ (seen_left SameBox {u = c.pair.new.x} c.in-IfElse.x-is c.pair.ensures.block))))

pub returns-in_default : goal.returns-in_default
returns-in_default g c =
    let none = ap (map statement) (stmts_none c.expr_nodes.new.x (record { statements = c.in_default.not-Statements; when = c.in_default.not-If; either = c.in_default.not-IfElse; repeat = c.in_default.not-For; define = c.in_default.not-Def })) in
    record {
      calls = nodes_both g.V.NodeVisitorMut.leaves c.expr_nodes.ensures.calls c.expr_nodes.ensures.kept c.in_ok-expr_nodes.was (beside.head_same _) (nodes_at g.V.NodeVisitorMut.leaves none none (nodes_none g.V.NodeVisitorMut.leaves refl));
      kept = beside.nodes c.expr_nodes.ensures.kept (beside.head_same _);
      ready = c.expr_nodes.ensures.ready;
    }
