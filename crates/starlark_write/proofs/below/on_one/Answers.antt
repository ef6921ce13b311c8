use Rattle.std.proofs.Common.{refl}
use Rattle.starlark_write.proofs.EachWritten.{each_call, each_none}
use Rattle.starlark_write.proofs.below.on_one.Goals as goal

pub returns-clause-calls : goal.returns-clause-calls
returns-clause-calls g c = each_call g.F.FnMut c.f.ensures refl refl (each_none g.F.FnMut)
