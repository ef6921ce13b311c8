use Rattle.starlark_visit.proofs.GoesOn.{out_err}
use Rattle.starlark_write.proofs.Writes.{writes_stop, writes_then}
use Rattle.starlark_write.proofs.expressions.slice.Goals as goal

pub returns-in_err-boxed-clause-calls : goal.returns-in_err-boxed-clause-calls
returns-in_err-boxed-clause-calls g c = writes_stop g.F.FnMut _ c.boxed.ensures.calls c.in_err-boxed.was (out_err c.from_residual.result c.from_residual.ensures.1)

pub returns-clause-calls : goal.returns-clause-calls
returns-clause-calls g c = writes_then g.F.FnMut c.boxed.ensures.calls c.in_ok-boxed.was c.bounds.ensures.calls
