use Rattle.starlark_write.proofs.Writes.{writes_then}
use Rattle.starlark_write.proofs.members.normal.Goals as goal

pub returns-clause-calls : goal.returns-clause-calls
returns-clause-calls g c = writes_then g.F.FnMut c.maybe_type.ensures.calls c.in_ok-maybe_type.was c.maybe.ensures.calls
