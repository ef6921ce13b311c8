use Rattle.std.proofs.Common.{rules}
use Rattle.starlark_ast.specs.Calls.{lent}
use Rattle.starlark_visit.proofs.Readied.{taken_ready}
use Rattle.starlark_visit.proofs.Steps.{carried_by}
use Rattle.starlark_visit.proofs.walk.lend_until.Goals as goal

pub lend_stmts-requires : goal.lend_stmts-requires
lend_stmts-requires g c = taken_ready _ _ lent g.F.FnMut (λ s. s.f.now) (λ p x can. can) (λ p q x h. h.0) c.requires

pub returns : goal.returns
returns g c = (carried_by _ lent g.F.FnMut (λ s. s.f.now) (λ s. s.f.ghost_name) (λ p q x r h. h) _ c.lend_stmts.ensures (λ e. search rules)).0
