use Rattle.std.proofs.Common.{rules}
use denote.Param.Always.{mut_by}
use Rattle.starlark_ast.specs.Nodes.{expression}
use Rattle.starlark_write.proofs.NodesWritten.{carried, step_at}
use Rattle.starlark_write.proofs.nodes_mut.expr_nodes.Goals as goal

pub exprs_err_mut-requires : goal.exprs_err_mut-requires
exprs_err_mut-requires g c = mut_by _ (λ s. g.V.NodeVisitorMut.ready s.0.now) (λ s a i. i) (λ s a r t i e. e.met.1.1) _ c.requires

pub returns-clause-calls : goal.returns-clause-calls
returns-clause-calls g c =
    (carried g.V.NodeVisitorMut.leaves _ (λ s. s.0.now) (λ s. s.0.ghost_name) expression g.V.NodeVisitorMut.ready (λ p q x y r h. let m = h.called.met in (step_at g.V.NodeVisitorMut.leaves expression h.shows h.leaves m.1.0, m.1.1, m.0)) _ c.requires c.exprs_err_mut.ensures.calls (λ e. search rules)).0

pub returns-clause-ready : goal.returns-clause-ready
returns-clause-ready g c =
    (carried g.V.NodeVisitorMut.leaves _ (λ s. s.0.now) (λ s. s.0.ghost_name) expression g.V.NodeVisitorMut.ready (λ p q x y r h. let m = h.called.met in (step_at g.V.NodeVisitorMut.leaves expression h.shows h.leaves m.1.0, m.1.1, m.0)) _ c.requires c.exprs_err_mut.ensures.calls (λ e. search rules)).1
