use Rattle.std.proofs.Common.{take, flat_map}
use denote.Param.Always.{always_mut}
use Rattle.starlark_ast.specs.Calls.{lent, CallsEach}
use Rattle.starlark_ast.specs.Places.{assigned_places}
use Rattle.starlark_visit.proofs.visit.+lvalues.Given as goal

abbrev pub decreases-lvalues : goal.decreases-lvalues
decreases-lvalues g l = goal.size-lvalues g l

abbrev pub invariant-loop-x : goal.invariant-loop-x
invariant-loop-x g l =
    always_mut g.F.FnMut l.f
    × CallsEach lent g.F.FnMut l.fn.f (flat_map (λ x. assigned_places x.node) (take l.x-index l.x-items)) l.f
