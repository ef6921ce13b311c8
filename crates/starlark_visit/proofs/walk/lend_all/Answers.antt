use Rattle.std.proofs.Common.{rules, subst, sym}
use Rattle.starlark_ast.specs.Calls.{lent}
use Rattle.starlark_visit.proofs.Readied.{ready_taken}
use Rattle.starlark_visit.proofs.Steps.{carried, map_same, step_at, steps_at}
use Rattle.starlark_visit.proofs.walk.lend_all.Goals as goal

pub all-requires : goal.all-requires
all-requires g c =
    ready_taken g.V.StmtVisitor.ready g.V.StmtVisitor.leaves lent _ (λ s. s.0.now) (λ s x can shown is. subst (λ y. g.V.StmtVisitor.ready s.0.now y) (sym is) can) (λ p q x h. step_at g.V.StmtVisitor.leaves (λ y. y) h.shows h.called.met.1) c.requires

pub returns : goal.returns
returns g c =
    steps_at g.V.StmtVisitor.leaves (sym (map_same _)) (carried g.V.StmtVisitor.leaves _ (λ s. s.0.now) (λ s. s.0.ghost_name) (λ y. y) (λ _. Unit {0}) (λ p q x r h. let m = h.called.met in (step_at g.V.StmtVisitor.leaves (λ y. y) h.shows m.1, tt, m.0)) _ tt c.all.ensures (λ e. search rules)).0
