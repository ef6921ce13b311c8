use Rattle.std.proofs.Common.{ap}
use Rattle.starlark_ast.specs.Calls.{lent}
use Rattle.starlark_visit.proofs.Taking.{first_taken, takes_at}
use Rattle.starlark_visit.proofs.Until.{until_last, until_at}
use Rattle.starlark_ast.specs.Places.{maybe_type_place, type_place}
use Rattle.starlark_visit.proofs.visit.maybe_type.Goals as goal

pub returns-in-Some : goal.returns-in-Some
returns-in-Some g c =
    until_at lent g.F.FnMut (ap maybe_type_place c.in-Some.is) (until_last lent g.F.FnMut c.f.ensures (ap type_place c.deref.ensures))

pub f-requires : goal.f-requires
f-requires g c = first_taken lent g.F.FnMut (takes_at lent g.F.FnMut (ap maybe_type_place c.in-Some.is) c.requires) (ap type_place c.deref.ensures)
