use Rattle.std.proofs.Common.{take, drop, flat_map, Ok}
use Rattle.starlark_ast.specs.Calls.{lent, StopsAtErr}
use Rattle.starlark_ast.proofs.Tops.{count}
use Rattle.starlark_ast.specs.Statements.{outer_exprs}
use Rattle.starlark_visit.specs.Takes.{Takes}
use Rattle.starlark_visit.proofs.walk.+outer.Given as goal

abbrev pub decreases-outer : goal.decreases-outer
decreases-outer g l = count l.whole.now

abbrev pub invariant-loop-x : goal.invariant-loop-x
invariant-loop-x g l =
    Takes lent g.F.FnMut l.f (flat_map (λ x. outer_exprs x.node) (drop l.x-index l.x-items))
    × StopsAtErr lent g.F.FnMut l.initial.f (flat_map (λ x. outer_exprs x.node) (take l.x-index l.x-items)) (Ok tt) l.f
