use Rattle.std.proofs.Common.{rules, refl, ◌∙◌, [], ◌∷◌}
use denote.Param.Always.{always_mut, mut_by}
use Rattle.starlark_visit.specs.Visited.{visited}
use Rattle.starlark_visit.proofs.Lifted.{all_callable, lifted_on, singles}
use Rattle.starlark_visit.proofs.nodes.lend_nodes.Goals as goal

pub visit_children_err-requires : goal.visit_children_err-requires
visit_children_err-requires g c = mut_by _ (λ s. always_mut g.F.FnMut s.0.now) (λ s a i. i) (λ s a r t i e. e.met.1.1.1.1) _ c.requires

pub returns-clause-calls : goal.returns-clause-calls
returns-clause-calls g c =
    lifted_on c.visit_children_err.ensures.calls visited g.F.FnMut (λ s. s.0.now) (λ s. s.0.ghost_name) (λ x. x ∷ []) (λ p q x r h. let m = h.called.met in (m.1.1.1.0, (q.0.now, record { shown = m.1.1.0.shown; shows = m.1.1.0.shows ∙ h.shows; called = m.1.1.0.called }, refl), m.1.0)) _ (λ e. search rules) (singles _)

pub returns-clause-callable : goal.returns-clause-callable
returns-clause-callable g c =
    all_callable visited g.F.FnMut _ _ _ c.requires (returns-clause-calls g c).told
