use Rattle.starlark_ast.specs.Places.{maybe_place}
use Rattle.starlark_visit.proofs.GoesOn.{out_err}
use Rattle.starlark_write.proofs.Writes.{writes_stop, writes_then}
use Rattle.starlark_write.proofs.own_types.defined.Goals as goal

pub returns-in_err-own_types-clause-calls : goal.returns-in_err-own_types-clause-calls
returns-in_err-own_types-clause-calls g c = writes_stop g.F.FnMut (maybe_place c.args.returned.now) c.own_types.ensures.calls c.in_err-own_types.was (out_err c.from_residual.result c.from_residual.ensures.1)

pub returns-clause-calls : goal.returns-clause-calls
returns-clause-calls g c = writes_then g.F.FnMut c.own_types.ensures.calls c.in_ok-own_types.was c.maybe.ensures.calls
