use Rattle.std.proofs.Common.{refl}
use Rattle.starlark_ast.specs.Calls.{lent}
use Rattle.starlark_visit.proofs.GoesOn.{out_err}
use Rattle.starlark_visit.proofs.Taking.{first_taken, next_taken}
use Rattle.starlark_visit.proofs.Until.{until_ok, until_err}
use Rattle.starlark_visit.proofs.visit.three.Goals as goal

pub f-requires : goal.f-requires
f-requires g c = first_taken lent g.F.FnMut c.requires refl

pub returns-in_err-f : goal.returns-in_err-f
returns-in_err-f g c =
    until_err lent g.F.FnMut c.f.ensures c.in_err-f.was (out_err c.from_residual.result c.from_residual.ensures.1) refl

pub two-requires : goal.two-requires
two-requires g c = next_taken lent g.F.FnMut c.requires c.f.ensures c.in_ok-f.was refl

pub returns : goal.returns
returns g c =
    until_ok lent g.F.FnMut c.f.ensures c.in_ok-f.was refl c.two.ensures
