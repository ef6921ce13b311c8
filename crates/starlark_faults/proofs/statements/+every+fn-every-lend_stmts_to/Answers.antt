use Rattle.std.proofs.Common.{rules, arith, ◌≡◌, refl, sym, ap, ◌∙◌, ◌++◌, subst, ◌<◌}
use Rattle.starlark_ast.specs.Calls.{lent}
use Rattle.starlark_rulebook.specs.Late as late
use Rattle.starlark_faults.specs.Standings.{rules_below, standing_of}
use Rattle.starlark_faults.proofs.StatementLevels.{smaller_each}
use Rattle.starlark_faults.proofs.Visiting.{all_found, all_kept, ok_on}
use Rattle.starlark_faults.proofs.statements.+every+fn-every-lend_stmts_to.Goals as goal
use Rattle.starlark_visit.proofs.Taking.{takes_by}
use Rattle.starlark_visit.specs.Sizes.{statement_size}

pub lend_stmts_to-requires : goal.lend_stmts_to-requires
lend_stmts_to-requires g t c =
    takes_by lent _ (λ s. s.0.now ≡ c.args.x.now) (λ y. statement_size (g.F.Judges.plain y) < statement_size (g.F.Judges.plain c.args.x.now))
    (λ s y i p shown is.
    let low : statement_size (g.F.Judges.plain shown.now) < statement_size (g.F.Judges.plain c.args.x.now) = subst (λ z. statement_size (g.F.Judges.plain z) < statement_size (g.F.Judges.plain c.args.x.now)) (sym is) p in
    (omega (arith, low, c.decreases), (λ _ m. m, (λ _ m. m, subst (λ z. statement_size (g.F.Judges.plain shown.now) < statement_size (g.F.Judges.plain z)) (sym i) low))))
    (λ p q y i e. search rules) refl (smaller_each g.F.Judges.plain _ _ c.in_ok-inner.ensures.smaller)

pub returns-clause-found : goal.returns-clause-found
returns-clause-found g t c =
    let d = g.F.Judges.dialect c.args.finder.now in
    let n = g.F.Judges.name c.args.finder.now in
    ok_on c.lend_stmts_to.result (λ e. e ∙ ap (λ o. g.F.Judges.found c.judge.new.self ++ rules_below d o g.F.Judges.plain (g.N.VisitStmt.stmts c.args.x.now.node)) (sym c.in-Some.is) ∙ c.in_ok-inner.ensures.found)
    (all_found c.lend_stmts_to.ensures (λ s. s.1.now) (λ s. s.1.ghost_name) g.F.Judges.found (λ y. late.statement_rules d (standing_of c.in-Some.inner) (g.F.Judges.plain y)) (λ s. (g.F.Judges.dialect s.1.now ≡ d) × (g.F.Judges.name s.1.now ≡ n) × (s.2.now ≡ c.in-Some.inner))
    (λ p q y r i h. let m = h.called.met in (ok_on r (λ e. e ∙ ap (λ z. g.F.Judges.found p.1.now ++ late.statement_rules z (standing_of p.2.now) (g.F.Judges.plain h.shown.now)) i.0 ∙ ap (λ z. g.F.Judges.found p.1.now ++ late.statement_rules d (standing_of z) (g.F.Judges.plain h.shown.now)) i.2 ∙ ap (λ z. g.F.Judges.found p.1.now ++ late.statement_rules d (standing_of c.in-Some.inner) (g.F.Judges.plain z)) h.shows) m.1.0, m.0.1, (m.1.1.0 ∙ i.0, m.1.1.1 ∙ i.1, ap (λ z. z.now) m.0.2 ∙ i.2)))
    _ (c.in_ok-inner.ensures.dialect, c.in_ok-inner.ensures.name, refl) (λ e. search rules))

pub returns-clause-dialect : goal.returns-clause-dialect
returns-clause-dialect g t c =
    let d = g.F.Judges.dialect c.args.finder.now in
    let n = g.F.Judges.name c.args.finder.now in
    all_kept c.lend_stmts_to.ensures (λ s. s.1.now) (λ s. s.1.ghost_name) g.F.Judges.found (λ y. late.statement_rules d (standing_of c.in-Some.inner) (g.F.Judges.plain y)) (λ s. (g.F.Judges.dialect s.1.now ≡ d) × (g.F.Judges.name s.1.now ≡ n) × (s.2.now ≡ c.in-Some.inner))
    (λ s. g.F.Judges.dialect s ≡ d)
    (λ p q y r i h. let m = h.called.met in (ok_on r (λ e. e ∙ ap (λ z. g.F.Judges.found p.1.now ++ late.statement_rules z (standing_of p.2.now) (g.F.Judges.plain h.shown.now)) i.0 ∙ ap (λ z. g.F.Judges.found p.1.now ++ late.statement_rules d (standing_of z) (g.F.Judges.plain h.shown.now)) i.2 ∙ ap (λ z. g.F.Judges.found p.1.now ++ late.statement_rules d (standing_of c.in-Some.inner) (g.F.Judges.plain z)) h.shows) m.1.0, m.0.1, (m.1.1.0 ∙ i.0, m.1.1.1 ∙ i.1, ap (λ z. z.now) m.0.2 ∙ i.2)))
    (λ s i. i.0) _ (c.in_ok-inner.ensures.dialect, c.in_ok-inner.ensures.name, refl) (λ e. search rules)

pub returns-clause-name : goal.returns-clause-name
returns-clause-name g t c =
    let d = g.F.Judges.dialect c.args.finder.now in
    let n = g.F.Judges.name c.args.finder.now in
    all_kept c.lend_stmts_to.ensures (λ s. s.1.now) (λ s. s.1.ghost_name) g.F.Judges.found (λ y. late.statement_rules d (standing_of c.in-Some.inner) (g.F.Judges.plain y)) (λ s. (g.F.Judges.dialect s.1.now ≡ d) × (g.F.Judges.name s.1.now ≡ n) × (s.2.now ≡ c.in-Some.inner))
    (λ s. g.F.Judges.name s ≡ n)
    (λ p q y r i h. let m = h.called.met in (ok_on r (λ e. e ∙ ap (λ z. g.F.Judges.found p.1.now ++ late.statement_rules z (standing_of p.2.now) (g.F.Judges.plain h.shown.now)) i.0 ∙ ap (λ z. g.F.Judges.found p.1.now ++ late.statement_rules d (standing_of z) (g.F.Judges.plain h.shown.now)) i.2 ∙ ap (λ z. g.F.Judges.found p.1.now ++ late.statement_rules d (standing_of c.in-Some.inner) (g.F.Judges.plain z)) h.shows) m.1.0, m.0.1, (m.1.1.0 ∙ i.0, m.1.1.1 ∙ i.1, ap (λ z. z.now) m.0.2 ∙ i.2)))
    (λ s i. i.1) _ (c.in_ok-inner.ensures.dialect, c.in_ok-inner.ensures.name, refl) (λ e. search rules)
