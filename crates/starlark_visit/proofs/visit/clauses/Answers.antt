use Rattle.std.proofs.lemmas.List.{nil_from_length}
use Rattle.std.proofs.Common.{refl, ap, flat_map}
use Rattle.starlark_ast.specs.Calls.{lent}
use Rattle.starlark_visit.proofs.GoesOn.{out_err}
use Rattle.starlark_visit.proofs.Taking.{front_taken, rest_taken, takes_at}
use Rattle.starlark_visit.proofs.Until.{until_none, until_at, until_then, until_stop}
use Rattle.starlark_ast.specs.Places.{clause_places}
use Rattle.starlark_visit.proofs.visit.clauses.Goals as goal

pub returns-in_err-lend_exprs : goal.returns-in_err-lend_exprs
returns-in_err-lend_exprs g c = c.loop-x.invariant.1 _ _ (until_at lent g.F.FnMut (ap (λ zs. flat_map clause_places zs) c.in-Some.ensures.cases.0) (until_stop lent g.F.FnMut _ c.lend_exprs.ensures c.in_err-lend_exprs.was (out_err c.from_residual.result c.from_residual.ensures.1)))

pub lend_exprs-requires : goal.lend_exprs-requires
lend_exprs-requires g c = front_taken lent g.F.FnMut (clause_places c.in-Some.x.now) (flat_map clause_places _) (takes_at lent g.F.FnMut (ap (λ zs. flat_map clause_places zs) c.in-Some.ensures.cases.0) c.loop-x.invariant.0)

pub loop-x-preserved : goal.loop-x-preserved
loop-x-preserved g c =
    (rest_taken lent g.F.FnMut (clause_places c.in-Some.x.now) (flat_map clause_places _) (takes_at lent g.F.FnMut (ap (λ zs. flat_map clause_places zs) c.in-Some.ensures.cases.0) c.loop-x.invariant.0) c.lend_exprs.ensures c.in_ok-lend_exprs.was, λ r last h. c.loop-x.invariant.1 r last (until_at lent g.F.FnMut (ap (λ zs. flat_map clause_places zs) c.in-Some.ensures.cases.0) (until_then lent g.F.FnMut c.lend_exprs.ensures c.in_ok-lend_exprs.was h)))

pub returns : goal.returns
returns g c = c.loop-x.invariant.1 _ _ (until_at lent g.F.FnMut (ap (λ zs. flat_map clause_places zs) (nil_from_length _ c.in_default.ensures.cases)) (until_none lent g.F.FnMut refl))
