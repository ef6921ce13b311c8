use Rattle.std.proofs.Common.{rules, subst}
use denote.Param.Always.{always_mut}
use Rattle.starlark_ast.specs.Calls.{CalledOn}
use Rattle.starlark_write.specs.WritingNodes.{visited}
use Rattle.starlark_write.proofs.NodesWritten.{carried_by}
use Rattle.starlark_write.proofs.nodes_mut.lend_until.Goals as goal

pub returns-clause-calls : goal.returns-clause-calls
returns-clause-calls g c = (carried_by _ (λ p x r q y. CalledOn visited g.F.FnMut p x r q) (λ s. s.f.now) (λ s. s.f.ghost_name) (λ p q x y r h. h) _ c.lend_children_mut.ensures.calls (λ e. search rules)).0

pub returns-clause-callable : goal.returns-clause-callable
returns-clause-callable g c = subst (always_mut g.F.FnMut) (carried_by _ (λ p x r q y. CalledOn visited g.F.FnMut p x r q) (λ s. s.f.now) (λ s. s.f.ghost_name) (λ p q x y r h. h) _ c.lend_children_mut.ensures.calls (λ e. search rules)).1 c.lend_children_mut.ensures.ready
