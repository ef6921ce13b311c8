use Rattle.std.proofs.Common.{◌≡◌, take, drop, flat_map, Ok}
use denote.Param.Always.{always_mut}
use Rattle.starlark_write.specs.Beside.{AtPlace, KeepsTarget}
use Rattle.starlark_ast.specs.Places.{target_places}
use Rattle.starlark_write.specs.Writing.{WritesUntil}
use Rattle.starlark_write.proofs.Loops.{Both}
use Rattle.starlark_write.proofs.targets.+targets.Given as goal

-- what was gone over is written, and the rest as it was
abbrev pub invariant-all_targets-loop-i : goal.invariant-all_targets-loop-i
invariant-all_targets-loop-i g l =
    always_mut g.F.FnMut l.f
    × WritesUntil g.F.FnMut l.fn.f (flat_map (λ x. target_places x.node) (take l.i l.fn.xs)) (Ok tt) l.f (flat_map (λ x. target_places x.node) (take l.i l.xs))
    × Both (AtPlace KeepsTarget) (take l.i l.fn.xs) (take l.i l.xs)
    × (drop l.i l.xs ≡ drop l.i l.fn.xs)
    × goal.unvisited-all_targets-loop-i g l
