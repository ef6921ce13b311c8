use Rattle.std.proofs.Common.{refl}
use Rattle.starlark_write.proofs.Writes.{writes_last}
use Rattle.starlark_write.proofs.visit_mut.one.Goals as goal

pub returns-clause-calls : goal.returns-clause-calls
returns-clause-calls g c = writes_last g.F.FnMut c.f.ensures refl refl
