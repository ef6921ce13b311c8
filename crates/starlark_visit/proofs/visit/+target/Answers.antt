use Rattle.std.proofs.Common.{rules, ◌≡◌, refl, sym, ap, ◌∙◌, flat_map, take, drop, length, ◌+◌, arith}
use Rattle.std.proofs.Math.Seq.{take-length}
use Rattle.starlark_ast.specs.Calls.{lent}
use Rattle.starlark_visit.proofs.GoesOn.{out_err}
use Rattle.starlark_visit.proofs.Nested.{lists_fall}
use Rattle.starlark_visit.proofs.Taking.{front_taken, more_taken, rest_taken, takes_at}
use Rattle.starlark_visit.proofs.Until.{until_none, until_at, until_more, until_front}
use Rattle.starlark_ast.specs.Places.{target_places}
use Rattle.starlark_visit.proofs.Children.{target_places-Tuple, target_places-Index, target_places-Dot, target_places-Identifier}
use Rattle.starlark_visit.proofs.visit.+target.Goals as goal

pub loop-x-preserved : goal.loop-x-preserved
loop-x-preserved g t c =
    (rest_taken lent g.F.FnMut (target_places c.x-item.result.node) (flat_map (λ x. target_places x.node) (drop (c.loop-x.x-index + 1) c.deref-x-items.result.now)) (more_taken lent g.F.FnMut (λ x. target_places x.node) c.deref-x-items.result.now c.loop-x.x-index c.x-item.result (search rules) c.x-item.is c.loop-x.invariant.0) c.target.ensures c.in_ok-target-in-Tuple.was, until_more lent g.F.FnMut (λ x. target_places x.node) c.deref-x-items.result.now c.loop-x.x-index c.x-item.result (search rules) c.x-item.is c.loop-x.invariant.1 c.target.ensures c.in_ok-target-in-Tuple.was)

pub returns-in_err-target-in-Tuple : goal.returns-in_err-target-in-Tuple
returns-in_err-target-in-Tuple g t c =
    let all = c.deref-x-items.result.now in
    until_at lent g.F.FnMut (ap target_places c.in-Tuple.is ∙ target_places-Tuple c.in-Tuple.xs ∙ ap (flat_map (λ x. target_places x.node)) (sym c.deref-x-items.ensures.value))
    (until_front lent g.F.FnMut (λ x. target_places x.node) all (c.loop-x.x-index + 1) (until_more lent g.F.FnMut (λ x. target_places x.node) all c.loop-x.x-index c.x-item.result (search rules) c.x-item.is c.loop-x.invariant.1 c.target.ensures refl) c.in_err-target-in-Tuple.was (out_err c.from_residual.result c.from_residual.ensures.1))

pub returns-after-loop-x : goal.returns-after-loop-x
returns-after-loop-x g t c =
    let all = c.deref-x-items.result.now in
    let at_end : c.loop-x.x-index ≡ length all = omega (arith, c.loop-x-test.false, c.loop-x.auto.x-index-end) in
    until_at lent g.F.FnMut (ap target_places c.in-Tuple.is ∙ target_places-Tuple c.in-Tuple.xs ∙ ap (flat_map (λ x. target_places x.node)) (sym c.deref-x-items.ensures.value ∙ sym (take-length all) ∙ ap (λ n. take n all) (sym at_end))) c.loop-x.invariant.1

pub returns-in-Index : goal.returns-in-Index
returns-in-Index g t c =
    until_at lent g.F.FnMut (ap target_places c.in-Index.is ∙ target_places-Index c.in-Index.x ∙ search rules) c.two.ensures

pub returns-in-Dot : goal.returns-in-Dot
returns-in-Dot g t c =
    until_at lent g.F.FnMut (ap target_places c.in-Dot.is ∙ target_places-Dot c.in-Dot.x c.in-Dot.field-1 ∙ search rules) c.boxed.ensures

pub returns-in-Identifier : goal.returns-in-Identifier
returns-in-Identifier g t c =
    until_at lent g.F.FnMut (ap target_places c.in-Identifier.is ∙ target_places-Identifier c.in-Identifier.field-0) (until_none lent g.F.FnMut refl)

pub loop-x-init : goal.loop-x-init
loop-x-init g t c = (takes_at lent g.F.FnMut (ap target_places c.in-Tuple.is ∙ target_places-Tuple c.in-Tuple.xs ∙ ap (flat_map (λ x. target_places x.node)) (sym c.deref-x-items.ensures.value)) c.requires, until_none lent g.F.FnMut refl)

pub two-requires : goal.two-requires
two-requires g t c = takes_at lent g.F.FnMut (ap target_places c.in-Index.is ∙ target_places-Index c.in-Index.x ∙ search rules) c.requires

pub boxed-requires : goal.boxed-requires
boxed-requires g t c = takes_at lent g.F.FnMut (ap target_places c.in-Dot.is ∙ target_places-Dot c.in-Dot.x c.in-Dot.field-1 ∙ search rules) c.requires

pub target-requires : goal.target-requires
target-requires g t c κs within =
    (lists_fall c.args.whole.now c.in-Tuple.xs c.deref-x-items.result.now c.loop-x.x-index c.x-item.result t c.in-Tuple.is c.deref-x-items.ensures.value c.loop-x-test.true c.x-item.is c.decreases, (within.0, (within.1.0, (within.1.1.0, (within.1.1.1.0, (within.1.1.1.1.0, (within.1.1.1.1.1.0, (within.1.1.1.1.1.1.0, (within.1.1.1.1.1.1.1, front_taken lent g.F.FnMut (target_places c.x-item.result.node) (flat_map (λ x. target_places x.node) (drop (c.loop-x.x-index + 1) c.deref-x-items.result.now)) (more_taken lent g.F.FnMut (λ x. target_places x.node) c.deref-x-items.result.now c.loop-x.x-index c.x-item.result c.loop-x-test.true c.x-item.is c.loop-x.invariant.0))))))))))
