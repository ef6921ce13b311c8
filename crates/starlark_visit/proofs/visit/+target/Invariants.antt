use Rattle.std.proofs.Common.{take, drop, flat_map, Ok}
use Rattle.starlark_ast.specs.Calls.{lent, StopsAtErr}
use Rattle.starlark_ast.specs.Places.{target_places}
use Rattle.starlark_visit.specs.Takes.{Takes}
use Rattle.starlark_visit.proofs.Nested.{lists}
use Rattle.starlark_visit.proofs.visit.+target.Given as goal

abbrev pub decreases-target : goal.decreases-target
decreases-target g l = lists l.whole.now

abbrev pub invariant-loop-x : goal.invariant-loop-x
invariant-loop-x g l =
    Takes lent g.F.FnMut l.f (flat_map (λ x. target_places x.node) (drop l.x-index l.x-items))
    × StopsAtErr lent g.F.FnMut l.fn.f (flat_map (λ x. target_places x.node) (take l.x-index l.x-items)) (Ok tt) l.f
