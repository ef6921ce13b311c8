use Rattle.std.proofs.Common.{◌≡◌, length, take, drop, map, Ok}
use Rattle.starlark_ast.specs.Nodes.{statement}
use Rattle.starlark_write.specs.WritingNodes.{NodesUntil}
use Rattle.starlark_write.proofs.nodes_mut.each.Given as goal

-- what was gone over is written, and the rest as it was
abbrev pub invariant-loop-i : goal.invariant-loop-i
invariant-loop-i g l =
    g.V.NodeVisitorMut.ready l.v
    × NodesUntil g.V.NodeVisitorMut.leaves l.fn.v (map statement (take l.i l.fn.xs)) (Ok tt) l.v (map statement (take l.i l.xs))
    × (length l.xs ≡ length l.fn.xs)
    × (drop l.i l.xs ≡ drop l.i l.fn.xs)
