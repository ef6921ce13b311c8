use Rattle.std.proofs.Common.{rules, ap, sym}
use denote.Param.Always.{always_mut, mut_by}
use Rattle.starlark_ast.specs.Calls.{lent}
use Rattle.starlark_visit.specs.Idents.{expr_reads}
use Rattle.starlark_visit.proofs.Lifted.{stops_on, until_callable}
use Rattle.starlark_visit.proofs.Taking.{always_takes}
use Rattle.starlark_visit.proofs.Until.{until_at}
use Rattle.starlark_visit.proofs.idents.StmtPVisitIdent.visit_ident.Goals as goal

pub lend_exprs-requires : goal.lend_exprs-requires
lend_exprs-requires g c = always_takes lent _ (mut_by _ (λ s. always_mut g.F.FnMut s.0.now) (λ s a i. i) (λ s a r t i e. e.met.1.1) _ c.requires)

pub returns-clause-calls : goal.returns-clause-calls
returns-clause-calls g c =
    stops_on c.lend_exprs.ensures lent g.F.FnMut (λ s. s.0.now) (λ s. s.0.ghost_name) (λ x. expr_reads x.node) (λ p q x r h. let m = h.called.met in (until_at lent g.F.FnMut (ap (λ y. expr_reads y.node) (sym h.shows)) m.1.0, m.0)) _ (λ e. search rules)

pub returns-clause-callable : goal.returns-clause-callable
returns-clause-callable g c = until_callable lent g.F.FnMut _ _ _ _ c.requires (returns-clause-calls g c).told
