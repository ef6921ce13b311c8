use Rattle.std.proofs.Common.{rules}
use denote.Param.Always.{mut_by}
use Rattle.starlark_ast.specs.Nodes.{statement}
use Rattle.starlark_visit.proofs.Steps.{carried, step_at}
use Rattle.starlark_visit.proofs.nodes.stmt_nodes.Goals as goal

pub visit_stmt_result-requires : goal.visit_stmt_result-requires
visit_stmt_result-requires g c = mut_by _ (λ s. g.V.NodeVisitor.ready s.0.now) (λ s a i. i) (λ s a r t i e. e.met.1.1) _ c.requires

pub returns-clause-calls : goal.returns-clause-calls
returns-clause-calls g c =
    (carried g.V.NodeVisitor.leaves _ (λ s. s.0.now) (λ s. s.0.ghost_name) statement g.V.NodeVisitor.ready (λ p q x r h. let m = h.called.met in (step_at g.V.NodeVisitor.leaves statement h.shows m.1.0, m.1.1, m.0)) _ c.requires c.visit_stmt_result.ensures.calls (λ e. search rules)).0

pub returns-clause-ready : goal.returns-clause-ready
returns-clause-ready g c =
    (carried g.V.NodeVisitor.leaves _ (λ s. s.0.now) (λ s. s.0.ghost_name) statement g.V.NodeVisitor.ready (λ p q x r h. let m = h.called.met in (step_at g.V.NodeVisitor.leaves statement h.shows m.1.0, m.1.1, m.0)) _ c.requires c.visit_stmt_result.ensures.calls (λ e. search rules)).1
