use Rattle.std.proofs.Common.{refl}
use Rattle.starlark_ast.specs.Calls.{lent}
use Rattle.starlark_visit.proofs.Taking.{first_taken}
use Rattle.starlark_visit.proofs.Until.{until_last}
use Rattle.starlark_visit.proofs.visit.one.Goals as goal

pub f-requires : goal.f-requires
f-requires g c = first_taken lent g.F.FnMut c.requires refl

pub returns : goal.returns
returns g c =
    until_last lent g.F.FnMut c.f.ensures refl
