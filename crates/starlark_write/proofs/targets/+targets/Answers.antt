use Rattle.std.proofs.Common.{rules, of_calls, arith, ◌≡◌, ◌<◌, refl, sym, ap, ◌∙◌, subst, [], ◌∷◌, flat_map, length, get_or, get_or-set_other}
use denote.Param.{param}
use Rattle.std.specs.Vec.{SameBlock}
use Rattle.starlark_visit.proofs.GoesOn.{out_err}
use Rattle.starlark_write.specs.Beside as beside
use Rattle.starlark_write.specs.Beside.{AtPlace, KeepsTarget, KeepsTargets, SameBox}
use Rattle.starlark_ast.specs.Places.{target_places}
use Rattle.starlark_write.specs.Writing.{WritesUntil}
use Rattle.starlark_ast.specs.declared.ast.AssignTargetP.TheVariants as target
use Rattle.starlark_visit.proofs.Children.{target_places-Tuple, target_places-Index, target_places-Dot, target_places-Identifier}
use Rattle.starlark_write.proofs.KeptParts.{targets_rest, with_node}
use Rattle.starlark_write.proofs.Lent.{seen, seen_left, target_lent}
use Rattle.starlark_write.proofs.Loops as loops
use Rattle.starlark_write.proofs.Loops.{both_more, end_in, front_more, lengths_more, stop_in, whole, writes_more, writes_stop_here}
use Rattle.starlark_write.proofs.Writes.{writes_at, writes_none}
use Rattle.starlark_write.proofs.targets.+targets.Goals as goal

pub target-returns-in-Tuple-clause-calls : goal.target-returns-in-Tuple-clause-calls
target-returns-in-Tuple-clause-calls g t c =
    target_lent (param 0 g.row.P) (param 3 g.row.P-LoadPayload) (param 4 g.row.P-IdentPayload) (param 5 g.row.P-IdentAssignPayload) (param 6 g.row.P-DefPayload) (param 7 g.row.P-TypeExprPayload) 0 (λ y v. target.Tuple y) (λ a b. WritesUntil g.F.FnMut c.args.f.now (target_places a) c.targets.result c.targets.new.f (target_places b)) c.targets.new.xs (c.in-Tuple.xs, tt) c.in-Tuple.is
    (writes_at g.F.FnMut (target_places-Tuple c.in-Tuple.xs ∙ ap (λ q. flat_map (λ x. target_places x.node) q.items) (sym c.in-Tuple.xs-is)) (target_places-Tuple c.targets.new.xs) c.targets.ensures.calls)

pub target-returns-in-Tuple-clause-kept : goal.target-returns-in-Tuple-clause-kept
target-returns-in-Tuple-clause-kept g t c =
    target_lent (param 0 g.row.P) (param 3 g.row.P-LoadPayload) (param 4 g.row.P-IdentPayload) (param 5 g.row.P-IdentAssignPayload) (param 6 g.row.P-DefPayload) (param 7 g.row.P-TypeExprPayload) 0 (λ y v. target.Tuple y) KeepsTarget c.targets.new.xs (c.in-Tuple.xs, tt) c.in-Tuple.is
    (beside.target_tuple _ _ (seen_left SameBlock {u = c.targets.new.xs} c.in-Tuple.xs-is c.targets.ensures.block) (seen_left (λ a b. KeepsTargets a.items b) c.in-Tuple.xs-is c.targets.ensures.kept))

pub target-returns-in-Index-clause-calls : goal.target-returns-in-Index-clause-calls
target-returns-in-Index-clause-calls g t c =
    target_lent (param 0 g.row.P) (param 3 g.row.P-LoadPayload) (param 4 g.row.P-IdentPayload) (param 5 g.row.P-IdentAssignPayload) (param 6 g.row.P-DefPayload) (param 7 g.row.P-TypeExprPayload) 1 (λ y v. target.Index y) (λ a b. WritesUntil g.F.FnMut c.args.f.now (target_places a) c.pair.result c.pair.new.f (target_places b)) c.pair.new.x (c.in-Index.x, tt) c.in-Index.is
    (writes_at g.F.FnMut (target_places-Index c.in-Index.x ∙ ap (λ q. q.value.0 ∷ q.value.1 ∷ []) (sym c.in-Index.x-is)) (target_places-Index c.pair.new.x) c.pair.ensures.calls)

pub target-returns-in-Index-clause-kept : goal.target-returns-in-Index-clause-kept
target-returns-in-Index-clause-kept g t c =
    target_lent (param 0 g.row.P) (param 3 g.row.P-LoadPayload) (param 4 g.row.P-IdentPayload) (param 5 g.row.P-IdentAssignPayload) (param 6 g.row.P-DefPayload) (param 7 g.row.P-TypeExprPayload) 1 (λ y v. target.Index y) KeepsTarget c.pair.new.x (c.in-Index.x, tt) c.in-Index.is (beside.target_index _ _ (seen_left SameBox {u = c.pair.new.x} c.in-Index.x-is c.pair.ensures.block))

pub target-returns-in-Dot-clause-calls : goal.target-returns-in-Dot-clause-calls
target-returns-in-Dot-clause-calls g t c =
    writes_at g.F.FnMut (ap target_places c.in-Dot.is ∙ target_places-Dot c.in-Dot.x c.in-Dot.name ∙ ap (λ q. q.value ∷ []) (sym c.in-Dot.x-is)) (target_places-Dot c.beside.new.x c.beside.new.other) c.beside.ensures.calls

pub target-returns-in-Dot-clause-kept : goal.target-returns-in-Dot-clause-kept
target-returns-in-Dot-clause-kept g t c =
    seen KeepsTarget c.in-Dot.is (subst (λ q. KeepsTarget (target.Dot c.in-Dot.x c.in-Dot.name) (target.Dot c.beside.new.x q)) (sym (c.beside.ensures.kept ∙ c.in-Dot.name-is)) (beside.target_dot _ _ _ (seen_left SameBox {u = c.beside.new.x} c.in-Dot.x-is c.beside.ensures.block)))

pub target-returns-in-Identifier-clause-calls : goal.target-returns-in-Identifier-clause-calls
target-returns-in-Identifier-clause-calls g t c =
    let none = ap target_places c.in-Identifier.is ∙ target_places-Identifier c.in-Identifier.field-0 in
    writes_at g.F.FnMut none none (writes_none g.F.FnMut refl)

pub target-returns-in-Identifier-clause-kept : goal.target-returns-in-Identifier-clause-kept
target-returns-in-Identifier-clause-kept g t c =
    subst (λ q. KeepsTarget q q) (sym c.in-Identifier.is) (beside.target_identifier _)

pub all_targets-loop-i-init : goal.all_targets-loop-i-init
all_targets-loop-i-init g t c = (search of_calls, writes_none g.F.FnMut refl, loops.none, refl, (refl, λ k d h. refl))

pub all_targets-loop-i-preserved : goal.all_targets-loop-i-preserved
all_targets-loop-i-preserved g t c =
    let old = c.args.xs.now in
    let xs = c.loop-i.xs in
    let i = c.loop-i.i in
    let x = c.index-xs-i.result in
    let y = with_node (get_or xs i x) c.target.new.x in
    let below : i < length xs = search rules in (
      search of_calls,
      writes_more old xs i x y below c.loop-i.invariant.4.0 c.index-xs-i.is c.loop-i.invariant.3 g.F.FnMut (λ q. target_places q.node) c.loop-i.invariant.1 (writes_at g.F.FnMut (ap (λ q. target_places q.node) c.index-xs-i.is) refl c.target.ensures.calls) c.in_ok-target.was,
      both_more old xs i x y below c.loop-i.invariant.4.0 c.index-xs-i.is c.loop-i.invariant.3 (AtPlace KeepsTarget) c.loop-i.invariant.2 (seen (AtPlace KeepsTarget) c.index-xs-i.is (record { span = refl; node = c.target.ensures.kept })),
      front_more old xs i x y below c.loop-i.invariant.4.0 c.index-xs-i.is c.loop-i.invariant.3,
      (
        lengths_more old xs i x y below c.loop-i.invariant.4.0 c.index-xs-i.is c.loop-i.invariant.3,
        λ k z h. get_or-set_other xs i k y z (λ q. absurd (omega (arith, h, q))) ∙ c.loop-i.invariant.4.1 k z (omega (arith, h)),
      ),
    )

pub all_targets-returns-in_err-target-clause-calls : goal.all_targets-returns-in_err-target-clause-calls
all_targets-returns-in_err-target-clause-calls g t c =
    let old = c.args.xs.now in
    let xs = c.loop-i.xs in
    let i = c.loop-i.i in
    let x = c.index-xs-i.result in
    let y = with_node (get_or xs i x) c.target.new.x in
    let below : i < length xs = search rules in
    writes_stop_here old xs i x y below c.loop-i.invariant.4.0 c.index-xs-i.is c.loop-i.invariant.3 g.F.FnMut (λ q. target_places q.node) c.loop-i.invariant.1 (writes_at g.F.FnMut (ap (λ q. target_places q.node) c.index-xs-i.is) refl c.target.ensures.calls) c.in_err-target.was (out_err c.from_residual.result c.from_residual.ensures.1)

pub all_targets-returns-in_err-target-clause-kept : goal.all_targets-returns-in_err-target-clause-kept
all_targets-returns-in_err-target-clause-kept g t c =
    let old = c.args.xs.now in
    let xs = c.loop-i.xs in
    let i = c.loop-i.i in
    let x = c.index-xs-i.result in
    let y = with_node (get_or xs i x) c.target.new.x in
    let below : i < length xs = search rules in
    stop_in old xs i x y below c.loop-i.invariant.4.0 c.index-xs-i.is c.loop-i.invariant.3 (AtPlace KeepsTarget) KeepsTargets targets_rest c.loop-i.invariant.2 (seen (AtPlace KeepsTarget) c.index-xs-i.is (record { span = refl; node = c.target.ensures.kept }))

pub all_targets-returns-clause-calls : goal.all_targets-returns-clause-calls
all_targets-returns-clause-calls g t c =
    let done : c.loop-i.i ≡ length c.loop-i.xs = omega (arith, c.loop-i-test.false, c.loop-i.auto.i-end, c.loop-i.invariant.4.0, c.loop-i.auto.xs) in
    writes_at g.F.FnMut (ap (flat_map (λ q. target_places q.node)) (whole _ _ (done ∙ c.loop-i.invariant.4.0))) (ap (flat_map (λ q. target_places q.node)) (whole _ _ done)) c.loop-i.invariant.1

pub all_targets-returns-clause-kept : goal.all_targets-returns-clause-kept
all_targets-returns-clause-kept g t c =
    let done : c.loop-i.i ≡ length c.loop-i.xs = omega (arith, c.loop-i-test.false, c.loop-i.auto.i-end, c.loop-i.invariant.4.0, c.loop-i.auto.xs) in
    end_in (AtPlace KeepsTarget) KeepsTargets targets_rest c.args.xs.now c.loop-i.xs c.loop-i.i (done ∙ c.loop-i.invariant.4.0) done c.loop-i.invariant.2
