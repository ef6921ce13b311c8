use Rattle.std.proofs.Common.{refl}
use Rattle.starlark_visit.proofs.GoesOn.{out_err}
use Rattle.starlark_write.proofs.Writes.{writes_ok, writes_err}
use Rattle.starlark_write.proofs.visit_mut.two.Goals as goal

pub returns-in_err-f-clause-calls : goal.returns-in_err-f-clause-calls
returns-in_err-f-clause-calls g c = writes_err g.F.FnMut c.f.ensures c.in_err-f.was (out_err c.from_residual.result c.from_residual.ensures.1) refl refl

pub returns-clause-calls : goal.returns-clause-calls
returns-clause-calls g c = writes_ok g.F.FnMut c.f.ensures c.in_ok-f.was refl refl c.one.ensures.calls
