use Rattle.std.proofs.lemmas.List.{nil_from_length}
use Rattle.std.proofs.Common.{refl, ap, map}
use Rattle.starlark_ast.specs.Calls.{lent}
use Rattle.starlark_visit.proofs.GoesOn.{out_err}
use Rattle.starlark_visit.proofs.Taking.{first_taken, next_taken, takes_at}
use Rattle.starlark_visit.proofs.Until.{until_none, until_ok, until_err, until_at}
use Rattle.starlark_ast.specs.Places.{argument_place}
use Rattle.starlark_visit.proofs.visit.arguments.Goals as goal

pub returns-in_err-f : goal.returns-in_err-f
returns-in_err-f g c = c.loop-x.invariant.1 _ _ (until_at lent g.F.FnMut (ap (λ zs. map argument_place zs) c.in-Some.ensures.cases.0) (until_err lent g.F.FnMut c.f.ensures c.in_err-f.was (out_err c.from_residual.result c.from_residual.ensures.1) c.expr.ensures))

pub f-requires : goal.f-requires
f-requires g c = first_taken lent g.F.FnMut (takes_at lent g.F.FnMut (ap (λ zs. map argument_place zs) c.in-Some.ensures.cases.0) c.loop-x.invariant.0) c.expr.ensures

pub loop-x-preserved : goal.loop-x-preserved
loop-x-preserved g c =
    (next_taken lent g.F.FnMut (takes_at lent g.F.FnMut (ap (λ zs. map argument_place zs) c.in-Some.ensures.cases.0) c.loop-x.invariant.0) c.f.ensures c.in_ok-f.was c.expr.ensures, λ r last h. c.loop-x.invariant.1 r last (until_at lent g.F.FnMut (ap (λ zs. map argument_place zs) c.in-Some.ensures.cases.0) (until_ok lent g.F.FnMut c.f.ensures c.in_ok-f.was c.expr.ensures h)))

pub returns : goal.returns
returns g c = c.loop-x.invariant.1 _ _ (until_at lent g.F.FnMut (ap (λ zs. map argument_place zs) (nil_from_length _ c.in_default.ensures.cases)) (until_none lent g.F.FnMut refl))
