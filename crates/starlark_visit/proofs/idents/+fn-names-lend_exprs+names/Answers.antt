use Rattle.std.proofs.Common.{rules, arith, ◌≡◌, refl, sym, ap, ◌∙◌, ◌<◌, subst}
use denote.Param.Always.{always_mut}
use Rattle.starlark_ast.specs.Calls.{lent}
use Rattle.starlark_ast.specs.View.{expr_at}
use Rattle.starlark_visit.specs.Idents.{expr_reads}
use Rattle.starlark_visit.specs.Sizes.{size}
use Rattle.starlark_visit.proofs.Lifted.{stops_on, until_callable}
use Rattle.starlark_visit.proofs.Naming.{reads_below, reads_itself}
use Rattle.starlark_visit.proofs.Smaller.{smaller_children}
use Rattle.starlark_visit.proofs.Taking.{takes_by}
use Rattle.starlark_visit.proofs.Until.{until_at, until_last}
use Rattle.starlark_visit.proofs.idents.+fn-names-lend_exprs+names.Goals as goal

pub returns-in-Identifier-clause-calls : goal.returns-in-Identifier-clause-calls
returns-in-Identifier-clause-calls g t c =
    until_at lent g.F.FnMut (ap expr_reads c.in-Identifier.is ∙ reads_itself c.in-Identifier.name) (until_last lent g.F.FnMut c.f.ensures refl)

pub lend_exprs-requires : goal.lend_exprs-requires
lend_exprs-requires g t c =
    takes_by lent _ (λ s. (s.0.now ≡ c.args.x.now) × always_mut g.F.FnMut s.1.now) (λ y. size (expr_at y) < size (expr_at c.args.x.now))
    (λ s y i p shown is.
    let low : size (expr_at shown.now) < size (expr_at c.args.x.now) = subst (λ z. size (expr_at z) < size (expr_at c.args.x.now)) (sym is) p in
    (omega (arith, low, c.decreases), (λ _ m. m, (λ _ m. m, (λ _ m. m, (λ _ m. m, (λ _ m. m, (λ _ m. m, (λ _ m. m, (λ _ m. m, (subst (λ z. size (expr_at shown.now) < size (expr_at z)) (sym i.0) low, i.1)))))))))))
    (λ p q y i e. (search rules, e.called.met.1.1)) (refl, c.requires) (smaller_children _)

pub returns : goal.returns
returns g t c =
    let calls = until_at lent g.F.FnMut (sym (reads_below c.args.x.now.node c.in_default.not-Identifier)) (stops_on c.lend_exprs.ensures lent g.F.FnMut (λ s. s.1.now) (λ s. s.1.ghost_name) (λ y. expr_reads y.node) (λ p q y r h. let m = h.called.met in (until_at lent g.F.FnMut (ap (λ z. expr_reads z.node) (sym h.shows)) m.1.0, m.0.1)) _ (λ e. search rules)) in
    record { calls = calls; callable = until_callable lent g.F.FnMut _ _ _ _ c.requires calls.told }
