use Rattle.std.proofs.Common.{rules, ◌≡◌, refl, ap, ◌∙◌, ◌++◌}
use Rattle.starlark_ast.specs.View.{expr_at}
use Rattle.starlark_rulebook.specs.Found.{findings}
use Rattle.starlark_rulebook.specs.Late as late
use Rattle.starlark_faults.proofs.Outermost.{stmt_level}
use Rattle.starlark_faults.proofs.Visiting.{adds_on, all_found, ok_on}
use Rattle.starlark_faults.proofs.tree.inner_rules.Goals as goal

pub returns : goal.returns
returns g c =
    let d = c.args.dialect.now in
    adds_on c.args.out.now.items _ c.visit_expr_err.result _ _ (stmt_level d c.args.x.now)
    (all_found c.visit_expr_err.ensures.calls (λ s. s.0.now.items) (λ s. s.0.ghost_name) findings (λ y. late.expr_rules d (expr_at y)) (λ s. s.1.now ≡ d)
    (λ p q y r i h. let m = h.called.met in (ok_on r (λ e. e.all ∙ ap (λ z. findings p.0.now.items ++ late.expr_rules z (expr_at h.shown.now)) i ∙ ap (λ z. findings p.0.now.items ++ late.expr_rules d (expr_at z)) h.shows) m.1, m.0.0, ap (λ z. z.now) m.0.1 ∙ i))
    _ refl (λ e. search rules))
