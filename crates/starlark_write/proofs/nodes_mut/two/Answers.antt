use Rattle.std.proofs.Common.{[], ◌∷◌}
use Rattle.starlark_ast.specs.Nodes.{statement}
use Rattle.starlark_visit.proofs.GoesOn.{out_err}
use Rattle.starlark_write.proofs.NodesWritten.{nodes_one, nodes_stop, nodes_then}
use Rattle.starlark_write.proofs.nodes_mut.two.Goals as goal

pub returns-in_err-at_stmt-clause-calls : goal.returns-in_err-at_stmt-clause-calls
returns-in_err-at_stmt-clause-calls g c = nodes_stop g.V.NodeVisitorMut.leaves (statement c.args.y.now ∷ []) (nodes_one g.V.NodeVisitorMut.leaves c.at_stmt.ensures.called) c.in_err-at_stmt.was (out_err c.from_residual.result c.from_residual.ensures.1)

pub returns-clause-calls : goal.returns-clause-calls
returns-clause-calls g c = nodes_then g.V.NodeVisitorMut.leaves (nodes_one g.V.NodeVisitorMut.leaves c.at_stmt.ensures.called) c.in_ok-at_stmt.was c.one.ensures.calls
