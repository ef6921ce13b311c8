use Rattle.std.proofs.Common.{rules, of_calls, refl, [], ◌∷◌}
use denote.Param.Always.{always_mut, mut_by}
use Rattle.starlark_ast.specs.Calls.{lent}
use Rattle.starlark_visit.proofs.Lifted.{lifted, all_callable, singles}
use Rattle.starlark_visit.proofs.walk.lend_each.Goals as goal

pub visit_stmt_result-requires : goal.visit_stmt_result-requires
visit_stmt_result-requires g c = mut_by _ (λ s. always_mut g.F.FnMut s.0.now) (λ s a i. i) (λ s a r t i e. search of_calls) _ (search of_calls)

pub returns-clause-calls : goal.returns-clause-calls
returns-clause-calls g c =
    lifted lent g.F.FnMut lent _ (λ s. s.0.now) (λ s. s.0.ghost_name) (λ x. x ∷ []) (λ p q x r h. let m = h.called.met in (search rules, (q.0.now, record { shown = h.shown; shows = h.shows; called = search (rules, of_calls) }, refl), search rules)) _ _ _ c.visit_stmt_result.ensures.calls.told (λ e. search rules) (singles _)

pub returns-clause-callable : goal.returns-clause-callable
returns-clause-callable g c =
    all_callable lent g.F.FnMut _ _ _ c.requires (returns-clause-calls g c).told
