use Rattle.std.proofs.Common.{length}
use Rattle.starlark_ast.specs.Calls.{lent, StopsAtErr}
use Rattle.starlark_visit.specs.Takes.{Takes}
use Rattle.starlark_visit.proofs.visit.each.Given as goal

-- the calls at what is left are those that are still to come
abbrev pub invariant-loop-x : goal.invariant-loop-x
invariant-loop-x g l =
    Takes lent g.F.FnMut l.f (l.rest)
    × ((r : _) (last : _) → StopsAtErr lent g.F.FnMut l.f (l.rest) r last → StopsAtErr lent g.F.FnMut l.fn.f (l.fn.xs) r last)

abbrev pub decreases-loop-x : goal.decreases-loop-x
decreases-loop-x g l = length l.rest
