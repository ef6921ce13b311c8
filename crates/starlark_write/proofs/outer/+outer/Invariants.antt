use Rattle.std.proofs.Common.{◌≡◌, take, drop, flat_map, Ok, ◌+◌, ◌*◌}
use Rattle.std.specs.List.{sum_by}
use denote.Param.Always.{always_mut}
use Rattle.starlark_ast.specs.Statements.{outer_exprs}
use Rattle.starlark_write.specs.Writing.{WritesUntil}
use Rattle.starlark_write.specs.Beside.{AtPlace}
use Rattle.starlark_ast.proofs.Tops.{count}
use Rattle.starlark_write.specs.BesideStatements.{KeepsOuter, def_body, for_body}
use Rattle.starlark_write.proofs.Loops.{Both}
use Rattle.starlark_write.proofs.outer.+outer.Given as goal

-- what was gone over is written, and the rest as it was
abbrev pub invariant-in_each-loop-i : goal.invariant-in_each-loop-i
invariant-in_each-loop-i g l =
    always_mut g.F.FnMut l.f
    × WritesUntil g.F.FnMut l.fn.f (flat_map (λ s. outer_exprs s.node) (take l.i l.fn.xs)) (Ok tt) l.f (flat_map (λ s. outer_exprs s.node) (take l.i l.xs))
    × Both (AtPlace KeepsOuter) (take l.i l.fn.xs) (take l.i l.xs)
    × (drop l.i l.xs ≡ drop l.i l.fn.xs)
    × goal.unvisited-in_each-loop-i g l

abbrev pub decreases-outer : goal.decreases-outer
decreases-outer g l = 4 * count l.x.now + 1

abbrev pub decreases-inner : goal.decreases-inner
decreases-inner g l = 4 * count l.x.now

abbrev pub decreases-in_list : goal.decreases-in_list
decreases-in_list g l = 4 * sum_by (λ s. count s.node) l.xs.now.items + 3

abbrev pub decreases-in_each : goal.decreases-in_each
decreases-in_each g l = 4 * sum_by (λ s. count s.node) l.xs.now + 2

abbrev pub decreases-in_box : goal.decreases-in_box
decreases-in_box g l = 4 * count l.x.now.value.node + 2

abbrev pub decreases-in_box_beside : goal.decreases-in_box_beside
decreases-in_box_beside g l = 4 * count l.x.now.value.node + 3

abbrev pub decreases-in_pair : goal.decreases-in_pair
decreases-in_pair g l = 4 * (count l.x.now.value.0.node + count l.x.now.value.1.node) + 3

abbrev pub decreases-in_for : goal.decreases-in_for
decreases-in_for g l = 4 * count (for_body l.x.now).node + 3

abbrev pub decreases-in_def : goal.decreases-in_def
decreases-in_def g l = 4 * count (def_body l.x.now).node + 3
