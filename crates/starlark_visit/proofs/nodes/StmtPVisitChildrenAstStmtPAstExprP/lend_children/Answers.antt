use Rattle.starlark_visit.proofs.GoesOn.{out_err}
use Rattle.starlark_visit.proofs.Steps.{steps_stop, steps_then}
use Rattle.starlark_visit.proofs.nodes.StmtPVisitChildrenAstStmtPAstExprP.lend_children.Goals as goal

pub returns-in_err-expr_nodes-clause-calls : goal.returns-in_err-expr_nodes-clause-calls
returns-in_err-expr_nodes-clause-calls g c = steps_stop g.V.NodeVisitor.leaves _ c.expr_nodes.ensures.calls c.in_err-expr_nodes.was (out_err c.from_residual.result c.from_residual.ensures.1)

pub returns-clause-calls : goal.returns-clause-calls
returns-clause-calls g c = steps_then g.V.NodeVisitor.leaves c.expr_nodes.ensures.calls c.in_ok-expr_nodes.was c.stmt_nodes.ensures.calls
