use Rattle.std.proofs.Common.{rules, arith, ◌≡◌, ◌<◌, refl, ap, ◌∙◌, length, map, [], ◌∷◌}
use Rattle.starlark_ast.specs.Nodes.{statement}
use Rattle.starlark_visit.proofs.GoesOn.{out_err}
use Rattle.starlark_write.proofs.Loops.{front_more, lengths_more, whole}
use Rattle.starlark_write.proofs.NodesWritten.{nodes_at, nodes_more, nodes_none, nodes_one, nodes_stop_here}
use Rattle.starlark_write.proofs.nodes_mut.each.Goals as goal

pub loop-i-init : goal.loop-i-init
loop-i-init g c = (c.requires, nodes_none g.V.NodeVisitorMut.leaves refl, refl, refl)

pub loop-i-preserved : goal.loop-i-preserved
loop-i-preserved g c =
    let old = c.args.xs.now in
    let xs = c.loop-i.xs in
    let i = c.loop-i.i in
    let x = c.index-xs-i.result in
    let y = c.at_stmt.new.x in
    let below : i < length xs = search rules in (
      c.at_stmt.ensures.ready,
      nodes_more g.V.NodeVisitorMut.leaves statement old xs i x y below c.loop-i.invariant.2 c.index-xs-i.is c.loop-i.invariant.3 c.loop-i.invariant.1 (nodes_at g.V.NodeVisitorMut.leaves (ap (map statement) (ap (λ q. q ∷ []) c.index-xs-i.is)) refl (nodes_one g.V.NodeVisitorMut.leaves c.at_stmt.ensures.called)) c.in_ok-at_stmt.was,
      lengths_more old xs i x y below c.loop-i.invariant.2 c.index-xs-i.is c.loop-i.invariant.3,
      front_more old xs i x y below c.loop-i.invariant.2 c.index-xs-i.is c.loop-i.invariant.3,
    )

pub returns-in_err-at_stmt-clause-calls : goal.returns-in_err-at_stmt-clause-calls
returns-in_err-at_stmt-clause-calls g c =
    let old = c.args.xs.now in
    let xs = c.loop-i.xs in
    let i = c.loop-i.i in
    let x = c.index-xs-i.result in
    let y = c.at_stmt.new.x in
    let below : i < length xs = search rules in
    nodes_stop_here g.V.NodeVisitorMut.leaves statement old xs i x y below c.loop-i.invariant.2 c.index-xs-i.is c.loop-i.invariant.3 c.loop-i.invariant.1 (nodes_at g.V.NodeVisitorMut.leaves (ap (map statement) (ap (λ q. q ∷ []) c.index-xs-i.is)) refl (nodes_one g.V.NodeVisitorMut.leaves c.at_stmt.ensures.called)) c.in_err-at_stmt.was (out_err c.from_residual.result c.from_residual.ensures.1)

pub returns-clause-calls : goal.returns-clause-calls
returns-clause-calls g c =
    let done : c.loop-i.i ≡ length c.loop-i.xs = omega (arith, c.loop-i-test.false, c.loop-i.auto.i-end, c.loop-i.invariant.2, c.loop-i.auto.xs) in
    nodes_at g.V.NodeVisitorMut.leaves (ap (map statement) (whole _ _ (done ∙ c.loop-i.invariant.2))) (ap (map statement) (whole _ _ done)) c.loop-i.invariant.1
