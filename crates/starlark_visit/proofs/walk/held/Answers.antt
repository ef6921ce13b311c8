use Rattle.std.proofs.Common.{refl, ap}
use Rattle.starlark_ast.specs.Calls.{lent}
use Rattle.starlark_ast.specs.Statements.{maybe_here}
use Rattle.starlark_visit.proofs.Taking.{first_taken, takes_at}
use Rattle.starlark_visit.proofs.Until.{until_at, until_last}
use Rattle.starlark_visit.proofs.walk.held.Goals as goal

pub returns-in-Some : goal.returns-in-Some
returns-in-Some g c =
    until_at lent g.F.FnMut (ap maybe_here c.in-Some.is) (until_last lent g.F.FnMut c.f.ensures refl)

pub f-requires : goal.f-requires
f-requires g c = first_taken lent g.F.FnMut (takes_at lent g.F.FnMut (ap maybe_here c.in-Some.is) c.requires) refl
