use Rattle.std.proofs.Common.{[], ◌∷◌}
use Rattle.starlark_visit.proofs.GoesOn.{out_err}
use Rattle.starlark_write.proofs.Writes.{writes_stop, writes_then}
use Rattle.starlark_write.proofs.members.ForClausePVisitExprMut.visit_expr_err_mut.Goals as goal

pub returns-in_err-visit_expr_err_mut-clause-calls : goal.returns-in_err-visit_expr_err_mut-clause-calls
returns-in_err-visit_expr_err_mut-clause-calls g c = writes_stop g.F.FnMut (c.args.self.now.over ∷ []) c.visit_expr_err_mut.ensures.calls c.in_err-visit_expr_err_mut.was (out_err c.from_residual.result c.from_residual.ensures.1)

pub returns-clause-calls : goal.returns-clause-calls
returns-clause-calls g c = writes_then g.F.FnMut c.visit_expr_err_mut.ensures.calls c.in_ok-visit_expr_err_mut.was c.one.ensures.calls
