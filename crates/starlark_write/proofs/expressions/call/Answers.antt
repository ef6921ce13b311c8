use Rattle.std.proofs.Common.{refl}
use Rattle.starlark_visit.proofs.GoesOn.{out_err}
use Rattle.starlark_write.specs.Beside as beside
use Rattle.starlark_write.specs.Beside.{args_places}
use Rattle.starlark_write.proofs.Writes.{writes_stop, writes_then}
use Rattle.starlark_write.proofs.expressions.call.Goals as goal

pub returns-in_err-boxed-clause-calls : goal.returns-in_err-boxed-clause-calls
returns-in_err-boxed-clause-calls g c = writes_stop g.F.FnMut (args_places c.args.args.now) c.boxed.ensures.calls c.in_err-boxed.was (out_err c.from_residual.result c.from_residual.ensures.1)

pub returns-in_err-boxed-clause-kept : goal.returns-in_err-boxed-clause-kept
returns-in_err-boxed-clause-kept g c = record { block = (refl, (refl, refl)); args = beside.rest _ }

pub returns-clause-calls : goal.returns-clause-calls
returns-clause-calls g c = writes_then g.F.FnMut c.boxed.ensures.calls c.in_ok-boxed.was c.visit_expr_err_mut.ensures.calls
