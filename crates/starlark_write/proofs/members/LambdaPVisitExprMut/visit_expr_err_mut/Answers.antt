use Rattle.std.proofs.Common.{[], ◌∷◌}
use Rattle.starlark_visit.proofs.GoesOn.{out_err}
use Rattle.starlark_write.proofs.Writes.{writes_stop, writes_then}
use Rattle.starlark_write.proofs.members.LambdaPVisitExprMut.visit_expr_err_mut.Goals as goal

pub returns-in_err-parts-clause-calls : goal.returns-in_err-parts-clause-calls
returns-in_err-parts-clause-calls g c = writes_stop g.F.FnMut (c.args.self.now.body.value ∷ []) c.parts.ensures.calls c.in_err-parts.was (out_err c.from_residual.result c.from_residual.ensures.1)

pub returns-clause-calls : goal.returns-clause-calls
returns-clause-calls g c = writes_then g.F.FnMut c.parts.ensures.calls c.in_ok-parts.was c.boxed.ensures.calls
