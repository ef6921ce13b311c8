use Rattle.std.proofs.Common.{sym, ap, [], ◌∷◌}
use Rattle.starlark_ast.specs.Nodes.{statement}
use Rattle.starlark_visit.proofs.GoesOn.{out_err}
use Rattle.starlark_visit.proofs.Steps.{steps_at, steps_one, steps_stop, steps_then}
use Rattle.starlark_visit.proofs.nodes.DefPVisitChildrenAstStmtPAstExprP.lend_children.Goals as goal

pub returns-in_err-expr_nodes-clause-calls : goal.returns-in_err-expr_nodes-clause-calls
returns-in_err-expr_nodes-clause-calls g c = steps_stop g.V.NodeVisitor.leaves _ c.expr_nodes.ensures.calls c.in_err-expr_nodes.was (out_err c.from_residual.result c.from_residual.ensures.1)

pub returns-clause-calls : goal.returns-clause-calls
returns-clause-calls g c =
    steps_then g.V.NodeVisitor.leaves c.expr_nodes.ensures.calls c.in_ok-expr_nodes.was (steps_at g.V.NodeVisitor.leaves (ap (λ y. statement y ∷ []) (sym c.deref.ensures)) (steps_one g.V.NodeVisitor.leaves c.at_stmt.ensures.called))
