use Rattle.std.proofs.Common.{length, flat_map}
use Rattle.starlark_ast.specs.Calls.{lent, StopsAtErr}
use Rattle.starlark_ast.specs.Places.{clause_places}
use Rattle.starlark_visit.specs.Takes.{Takes}
use Rattle.starlark_visit.proofs.visit.clauses.Given as goal

-- the calls at what is left are those that are still to come
abbrev pub invariant-loop-x : goal.invariant-loop-x
invariant-loop-x g l =
    Takes lent g.F.FnMut l.f (flat_map clause_places l.rest)
    × ((r : _) (last : _) → StopsAtErr lent g.F.FnMut l.f (flat_map clause_places l.rest) r last → StopsAtErr lent g.F.FnMut l.fn.f (flat_map clause_places l.fn.xs) r last)

abbrev pub decreases-loop-x : goal.decreases-loop-x
decreases-loop-x g l = length l.rest
