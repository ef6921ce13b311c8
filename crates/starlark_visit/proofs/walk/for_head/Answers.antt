use Rattle.std.proofs.Common.{[], ◌∷◌}
use Rattle.starlark_ast.specs.Calls.{lent}
use Rattle.starlark_ast.specs.Places.{target_places}
use Rattle.starlark_visit.proofs.GoesOn.{out_err}
use Rattle.starlark_visit.proofs.Taking.{front_taken, rest_taken}
use Rattle.starlark_visit.proofs.Until.{until_then, until_stop}
use Rattle.starlark_visit.proofs.walk.for_head.Goals as goal

pub returns-in_err-target : goal.returns-in_err-target
returns-in_err-target g c =
    until_stop lent g.F.FnMut _ c.target.ensures c.in_err-target.was (out_err c.from_residual.result c.from_residual.ensures.1)

pub returns : goal.returns
returns g c =
    until_then lent g.F.FnMut c.target.ensures c.in_ok-target.was c.one.ensures

pub target-requires : goal.target-requires
target-requires g c = front_taken lent g.F.FnMut (target_places c.args.x.now.var.node) (c.args.x.now.over ∷ []) c.requires

pub one-requires : goal.one-requires
one-requires g c = rest_taken lent g.F.FnMut (target_places c.args.x.now.var.node) (c.args.x.now.over ∷ []) c.requires c.target.ensures c.in_ok-target.was
