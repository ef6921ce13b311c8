use Rattle.std.proofs.Common.{refl}
use Rattle.starlark_ast.specs.Calls.{lent}
use Rattle.starlark_visit.proofs.GoesOn.{out_err}
use Rattle.starlark_visit.proofs.Taking.{first_taken, next_taken}
use Rattle.starlark_visit.proofs.Until.{until_ok, until_err, until_last}
use Rattle.starlark_visit.proofs.visit.two.Goals as goal

pub f-requires : goal.f-requires
f-requires g c = first_taken lent g.F.FnMut c.requires refl

pub returns-in_err-f : goal.returns-in_err-f
returns-in_err-f g c =
    until_err lent g.F.FnMut c.f.ensures c.in_err-f.was (out_err c.from_residual.result c.from_residual.ensures.1) refl

pub f-requires-2 : goal.f-requires-2
f-requires-2 g c = first_taken lent g.F.FnMut (next_taken lent g.F.FnMut c.requires c.f.ensures c.in_ok-f.was refl) refl

pub returns : goal.returns
returns g c =
    until_ok lent g.F.FnMut c.f.ensures c.in_ok-f.was refl (until_last lent g.F.FnMut c.f-2.ensures refl)
