use Rattle.std.proofs.Common.{◌≡◌, ◌+◌, ◌*◌, length, take, drop}
use denote.Param.Always.{always_mut}
use Rattle.starlark_ast.proofs.Tops.{count}
use Rattle.starlark_write.specs.Tops.{WritesEachTop}
use Rattle.starlark_write.proofs.WritesTops.{counts}
use Rattle.starlark_write.proofs.tops.+tops.Given as goal

abbrev pub decreases-top_level_stmts_mut : goal.decreases-top_level_stmts_mut
decreases-top_level_stmts_mut g l = 3 * count l.top.now.node

abbrev pub decreases-list : goal.decreases-list
decreases-list g l = 3 * counts l.xs.now.items + 2

abbrev pub decreases-each : goal.decreases-each
decreases-each g l = 3 * counts l.xs.now + 1

-- what was gone over is written, and the rest as it was
abbrev pub invariant-each-loop-i : goal.invariant-each-loop-i
invariant-each-loop-i g l =
    always_mut g.F.FnMut l.f
    × WritesEachTop g.F.FnMut l.fn.f (take l.i l.fn.xs) l.f (take l.i l.xs)
    × (drop l.i l.xs ≡ drop l.i l.fn.xs)
    × (length l.xs ≡ length l.fn.xs)
