use Rattle.starlark_visit.proofs.GoesOn.{out_err}
use Rattle.starlark_write.proofs.Writes.{writes_stop, writes_then}
use Rattle.starlark_write.proofs.expressions.bounds.Goals as goal

pub returns-in_err-maybe-clause-calls : goal.returns-in_err-maybe-clause-calls
returns-in_err-maybe-clause-calls g c = writes_stop g.F.FnMut _ c.maybe.ensures.calls c.in_err-maybe.was (out_err c.from_residual.result c.from_residual.ensures.1)

pub returns-in_err-maybe-2-clause-calls : goal.returns-in_err-maybe-2-clause-calls
returns-in_err-maybe-2-clause-calls g c = writes_then g.F.FnMut c.maybe.ensures.calls c.in_ok-maybe.was (writes_stop g.F.FnMut _ c.maybe-2.ensures.calls c.in_err-maybe-2.was (out_err c.from_residual-in_err-maybe-2.result c.from_residual-in_err-maybe-2.ensures.1))

pub returns-clause-calls : goal.returns-clause-calls
returns-clause-calls g c = writes_then g.F.FnMut c.maybe.ensures.calls c.in_ok-maybe.was (writes_then g.F.FnMut c.maybe-2.ensures.calls c.in_ok-maybe-2.was c.maybe-3.ensures.calls)
