use Rattle.std.proofs.Common.{◌≡◌, map, flat_map, ◌++◌, take}
use Rattle.starlark_ast.proofs.Tops.{count}
use Rattle.starlark_ast.specs.Access.{top_level}
use Rattle.starlark_ast.proofs.ast.StmtP.+open.Given as goal

abbrev pub decreases-open : goal.decreases-open
decreases-open g l = count l.self.now

-- those of the statements so far are at the end
abbrev pub invariant-loop-x : goal.invariant-loop-x
invariant-loop-x g l =
    map (λ x. x.now) l.all.items ≡ map (λ x. x.now) l.fn.all.items ++ flat_map top_level (take l.x-index l.x-items)
