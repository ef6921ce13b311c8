use Rattle.starlark_write.proofs.NodesWritten.{nodes_one}
use Rattle.starlark_write.proofs.nodes_mut.one.Goals as goal

pub returns-clause-calls : goal.returns-clause-calls
returns-clause-calls g c = nodes_one g.V.NodeVisitorMut.leaves c.at_stmt.ensures.called
