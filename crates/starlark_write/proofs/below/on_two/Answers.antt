use Rattle.std.proofs.Common.{refl}
use Rattle.starlark_write.proofs.EachWritten.{each_call}
use Rattle.starlark_write.proofs.below.on_two.Goals as goal

pub returns-clause-calls : goal.returns-clause-calls
returns-clause-calls g c = each_call g.F.FnMut c.f.ensures refl refl c.on_one.ensures.calls
