use Rattle.std.proofs.Common.{rules, ◌∙◌}
use denote.Param.Always.{always_mut, mut_by}
use Rattle.starlark_write.proofs.LiftedWrites.{lifted, all_callable}
use Rattle.starlark_write.proofs.targets.AssignTargetPVisitLvalueMut.visit_lvalue_mut.Goals as goal

pub lvalue-requires : goal.lvalue-requires
lvalue-requires g c = mut_by _ (λ s. always_mut g.F.FnMut s.0.now) (λ s a i. i) (λ s a r t i e. e.met.1.1.1) _ c.requires

pub returns-clause-calls : goal.returns-clause-calls
returns-clause-calls g c =
    lifted g.F.FnMut _ (λ s. s.0.now) (λ s. s.0.ghost_name) (λ p q x y r h. let m = h.called.met in (m.1.1.0, record { shown = m.1.0.shown; shows = m.1.0.shows ∙ h.shows; left = m.1.0.left; called = m.1.0.called; leaves = m.1.0.leaves ∙ h.leaves }, m.0)) _ c.lvalue.ensures.calls (λ e. search rules)

pub returns-clause-callable : goal.returns-clause-callable
returns-clause-callable g c =
    all_callable g.F.FnMut _ _ _ _ c.requires (returns-clause-calls g c).told
