use Rattle.std.proofs.Common.{◌≡◌, ◌+◌, ◌*◌, length, take, drop, flat_map, Ok}
use denote.Param.Always.{always_mut}
use Rattle.starlark_ast.proofs.Tops.{count}
use Rattle.starlark_write.specs.Beside.{AtPlace}
use Rattle.starlark_write.specs.BesideTypes.{KeepsStmtTypes}
use Rattle.starlark_write.specs.TypePlaces.{stmt_types}
use Rattle.starlark_write.specs.Writing.{WritesUntil}
use Rattle.starlark_write.proofs.Loops.{Both}
use Rattle.starlark_write.proofs.WritesTops.{counts}
use Rattle.starlark_write.proofs.type_exprs.+stmts.Given as goal

abbrev pub decreases-stmt : goal.decreases-stmt
decreases-stmt g l = 8 * count l.x.now

abbrev pub decreases-stmts : goal.decreases-stmts
decreases-stmts g l = 8 * counts l.xs.now.items + 2

abbrev pub decreases-each_stmt : goal.decreases-each_stmt
decreases-each_stmt g l = 8 * counts l.xs.now + 1

abbrev pub decreases-body : goal.decreases-body
decreases-body g l = 8 * count l.x.now.value.node + 1

abbrev pub decreases-branch : goal.decreases-branch
decreases-branch g l = 8 * count l.x.now.value.node + 2

abbrev pub decreases-branches : goal.decreases-branches
decreases-branches g l = 8 * (count l.x.now.value.0.node + count l.x.now.value.1.node) + 3

abbrev pub decreases-both_stmts : goal.decreases-both_stmts
decreases-both_stmts g l = 8 * (count l.x.now.value.0.node + count l.x.now.value.1.node) + 2

abbrev pub decreases-two_stmts : goal.decreases-two_stmts
decreases-two_stmts g l = 8 * (count l.x.now.node + count l.y.now.node) + 1

abbrev pub decreases-repeat : goal.decreases-repeat
decreases-repeat g l = 8 * count l.x.now.body.value.node + 3

abbrev pub decreases-define : goal.decreases-define
decreases-define g l = 8 * count l.x.now.body.value.node + 3

-- what was gone over is written, and the rest as it was
abbrev pub invariant-each_stmt-loop-i : goal.invariant-each_stmt-loop-i
invariant-each_stmt-loop-i g l =
    always_mut g.F.FnMut l.f
    × WritesUntil g.F.FnMut l.fn.f (flat_map (λ x. stmt_types x.node) (take l.i l.fn.xs)) (Ok tt) l.f (flat_map (λ x. stmt_types x.node) (take l.i l.xs))
    × Both (AtPlace KeepsStmtTypes) (take l.i l.fn.xs) (take l.i l.xs)
    × (length l.xs ≡ length l.fn.xs)
    × (drop l.i l.xs ≡ drop l.i l.fn.xs)
