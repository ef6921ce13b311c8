use Rattle.std.proofs.Common.{rules, arith, ◌≡◌, refl, sym, ap, ◌∙◌, ◌++◌, append_assoc, flat_map, subst, ◌<◌}
use Rattle.starlark_ast.specs.Calls.{lent}
use Rattle.starlark_ast.specs.Places.{children}
use Rattle.starlark_ast.specs.View.{expr_at}
use Rattle.starlark_rulebook.specs.Late as late
use Rattle.starlark_visit.proofs.Taking.{takes_by}
use Rattle.starlark_faults.specs.Levels.{own_rules}
use Rattle.starlark_visit.specs.Sizes.{size}
use Rattle.starlark_faults.proofs.Levels.{expr_level}
use Rattle.starlark_visit.proofs.Smaller.{smaller_children}
use Rattle.starlark_faults.proofs.Visiting.{all_found, all_kept, ok_on}
use Rattle.starlark_faults.proofs.expressions.+every+fn-every-lend_exprs.Goals as goal

pub lend_exprs-requires : goal.lend_exprs-requires
lend_exprs-requires g t c =
    takes_by lent _ (λ s. s.0.now ≡ c.args.x.now) (λ y. size (expr_at y) < size (expr_at c.args.x.now))
    (λ s y i p shown is.
    let low : size (expr_at shown.now) < size (expr_at c.args.x.now) = subst (λ z. size (expr_at z) < size (expr_at c.args.x.now)) (sym is) p in
    (omega (arith, low, c.decreases), (λ _ m. m, (λ _ m. m, (λ _ m. m, (λ _ m. m, (λ _ m. m, (λ _ m. m, (λ _ m. m, subst (λ z. size (expr_at shown.now) < size (expr_at z)) (sym i) low)))))))))
    (λ p q y i e. search rules) refl (smaller_children _)

pub returns-clause-found : goal.returns-clause-found
returns-clause-found g t c =
    let x = c.args.x.now in
    let d = g.F.Finds.dialect c.args.finder.now in
    let n = g.F.Finds.name c.args.finder.now in
    let own = own_rules d (expr_at x) in
    ok_on c.lend_exprs.result (λ e. e ∙ ap (λ q. q ++ flat_map (λ y. late.expr_rules d (expr_at y)) (children x.node)) c.in_ok-find.ensures.found ∙ append_assoc (g.F.Finds.found c.args.finder.now) own _ ∙ ap (λ q. g.F.Finds.found c.args.finder.now ++ q) (expr_level d x))
    (all_found c.lend_exprs.ensures (λ s. s.1.now) (λ s. s.1.ghost_name) g.F.Finds.found (λ y. late.expr_rules d (expr_at y)) (λ s. (g.F.Finds.dialect s.1.now ≡ d) × (g.F.Finds.name s.1.now ≡ n))
    (λ p q y r i h. let m = h.called.met in (ok_on r (λ e. e ∙ ap (λ z. g.F.Finds.found p.1.now ++ late.expr_rules z (expr_at h.shown.now)) i.0 ∙ ap (λ z. g.F.Finds.found p.1.now ++ late.expr_rules d (expr_at z)) h.shows) m.1.0, m.0.1, (m.1.1.0 ∙ i.0, m.1.1.1 ∙ i.1)))
    _ (c.in_ok-find.ensures.dialect, c.in_ok-find.ensures.name) (λ e. search rules))

pub returns-clause-dialect : goal.returns-clause-dialect
returns-clause-dialect g t c =
    let d = g.F.Finds.dialect c.args.finder.now in
    let n = g.F.Finds.name c.args.finder.now in
    all_kept c.lend_exprs.ensures (λ s. s.1.now) (λ s. s.1.ghost_name) g.F.Finds.found (λ y. late.expr_rules d (expr_at y)) (λ s. (g.F.Finds.dialect s.1.now ≡ d) × (g.F.Finds.name s.1.now ≡ n))
    (λ s. g.F.Finds.dialect s ≡ d)
    (λ p q y r i h. let m = h.called.met in (ok_on r (λ e. e ∙ ap (λ z. g.F.Finds.found p.1.now ++ late.expr_rules z (expr_at h.shown.now)) i.0 ∙ ap (λ z. g.F.Finds.found p.1.now ++ late.expr_rules d (expr_at z)) h.shows) m.1.0, m.0.1, (m.1.1.0 ∙ i.0, m.1.1.1 ∙ i.1)))
    (λ s i. i.0) _ (c.in_ok-find.ensures.dialect, c.in_ok-find.ensures.name) (λ e. search rules)

pub returns-clause-name : goal.returns-clause-name
returns-clause-name g t c =
    let d = g.F.Finds.dialect c.args.finder.now in
    let n = g.F.Finds.name c.args.finder.now in
    all_kept c.lend_exprs.ensures (λ s. s.1.now) (λ s. s.1.ghost_name) g.F.Finds.found (λ y. late.expr_rules d (expr_at y)) (λ s. (g.F.Finds.dialect s.1.now ≡ d) × (g.F.Finds.name s.1.now ≡ n))
    (λ s. g.F.Finds.name s ≡ n)
    (λ p q y r i h. let m = h.called.met in (ok_on r (λ e. e ∙ ap (λ z. g.F.Finds.found p.1.now ++ late.expr_rules z (expr_at h.shown.now)) i.0 ∙ ap (λ z. g.F.Finds.found p.1.now ++ late.expr_rules d (expr_at z)) h.shows) m.1.0, m.0.1, (m.1.1.0 ∙ i.0, m.1.1.1 ∙ i.1)))
    (λ s i. i.1) _ (c.in_ok-find.ensures.dialect, c.in_ok-find.ensures.name) (λ e. search rules)
