use Rattle.std.proofs.Common.{rules, ◌≡◌, refl, sym, ap, ◌∙◌, [], flat_map, length, arith}
use Rattle.starlark_ast.specs.Calls.{lent}
use Rattle.starlark_ast.specs.Places.{assigned_places}
use Rattle.starlark_visit.proofs.Children.{assigned-Tuple, assigned-Index, assigned-Dot, assigned-Identifier}
use Rattle.starlark_visit.proofs.Lifted.{all_at, all_items, all_none, all_one_more, all_then}
use Rattle.starlark_visit.proofs.visit.+lvalues.Goals as goal

pub loop-x-preserved : goal.loop-x-preserved
loop-x-preserved g t c =
    (c.lvalues.ensures.callable, all_one_more lent g.F.FnMut (λ x. assigned_places x.node) [] c.deref-x-items.result.now c.loop-x.x-index c.x-item.result (search rules) c.x-item.is c.loop-x.invariant.1 c.lvalues.ensures.calls)

pub returns-after-loop-x-clause-calls : goal.returns-after-loop-x-clause-calls
returns-after-loop-x-clause-calls g t c =
    let all = c.deref-x-items.result.now in
    let at_end : c.loop-x.x-index ≡ length all = omega (arith, c.loop-x-test.false, c.loop-x.auto.x-index-end) in
    all_at lent g.F.FnMut (ap assigned_places c.in-Tuple.is ∙ assigned-Tuple c.in-Tuple.xs ∙ ap (flat_map (λ x. assigned_places x.node)) (sym c.deref-x-items.ensures.value)) (all_items lent g.F.FnMut (λ x. assigned_places x.node) [] all c.loop-x.x-index at_end c.loop-x.invariant.1)

pub returns-in-Index-clause-calls : goal.returns-in-Index-clause-calls
returns-in-Index-clause-calls g t c =
    all_at lent g.F.FnMut (ap assigned_places c.in-Index.is ∙ assigned-Index c.in-Index.field-0) (all_none lent g.F.FnMut)

pub returns-in-Dot-clause-calls : goal.returns-in-Dot-clause-calls
returns-in-Dot-clause-calls g t c =
    all_at lent g.F.FnMut (ap assigned_places c.in-Dot.is ∙ assigned-Dot c.in-Dot.field-0 c.in-Dot.field-1) (all_none lent g.F.FnMut)

pub returns-in-Identifier-clause-calls : goal.returns-in-Identifier-clause-calls
returns-in-Identifier-clause-calls g t c =
    all_at lent g.F.FnMut (ap assigned_places c.in-Identifier.is ∙ assigned-Identifier c.in-Identifier.x) (all_then lent g.F.FnMut c.f.ensures refl (all_none lent g.F.FnMut))
