use Rattle.starlark_visit.proofs.GoesOn.{out_err}
use Rattle.starlark_write.specs.BesideTypes as kept
use Rattle.starlark_write.specs.TypePlaces.{expr_types}
use Rattle.starlark_write.proofs.Writes.{writes_stop, writes_then}
use Rattle.starlark_write.proofs.type_exprs.modify.Goals as goal

pub returns-in_err-target-clause-calls : goal.returns-in_err-target-clause-calls
returns-in_err-target-clause-calls g c = writes_stop g.F.FnMut (expr_types c.args.rhs.now.value.node) c.target.ensures.calls c.in_err-target.was (out_err c.from_residual.result c.from_residual.ensures.1)

pub returns-in_err-target-clause-kept : goal.returns-in_err-target-clause-kept
returns-in_err-target-clause-kept g c = kept.same _

pub returns-clause-calls : goal.returns-clause-calls
returns-clause-calls g c = writes_then g.F.FnMut c.target.ensures.calls c.in_ok-target.was c.boxed.ensures.calls
