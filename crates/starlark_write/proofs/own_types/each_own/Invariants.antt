use Rattle.std.proofs.Common.{◌≡◌, length, take, drop, flat_map, Ok}
use denote.Param.Always.{always_mut}
use Rattle.starlark_write.specs.Beside.{AtPlace}
use Rattle.starlark_write.specs.BesideTypes.{KeepsOwn}
use Rattle.starlark_write.specs.TypePlaces.{own_type}
use Rattle.starlark_write.specs.Writing.{WritesUntil}
use Rattle.starlark_write.proofs.Loops.{Both}
use Rattle.starlark_write.proofs.own_types.each_own.Given as goal

-- what was gone over is written, and the rest as it was
abbrev pub invariant-loop-i : goal.invariant-loop-i
invariant-loop-i g l =
    always_mut g.F.FnMut l.f
    × WritesUntil g.F.FnMut l.fn.f (flat_map (λ p. own_type p.node) (take l.i l.fn.xs)) (Ok tt) l.f (flat_map (λ p. own_type p.node) (take l.i l.xs))
    × Both (AtPlace KeepsOwn) (take l.i l.fn.xs) (take l.i l.xs)
    × (length l.xs ≡ length l.fn.xs)
    × (drop l.i l.xs ≡ drop l.i l.fn.xs)
