use Rattle.std.proofs.Common.{◌≡◌, length, take, drop}
use denote.Param.Always.{always_mut}
use Rattle.starlark_write.specs.Writing.{WritesEach}
use Rattle.starlark_write.proofs.below.on_each.Given as goal

-- what was gone over is written, and the rest as it was
abbrev pub invariant-loop-i : goal.invariant-loop-i
invariant-loop-i g l =
    always_mut g.F.FnMut l.f
    × WritesEach g.F.FnMut l.fn.f (take l.i l.fn.xs) l.f (take l.i l.xs)
    × (length l.xs ≡ length l.fn.xs)
    × (drop l.i l.xs ≡ drop l.i l.fn.xs)
