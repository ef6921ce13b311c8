use Rattle.std.proofs.Common.{rules, of_calls, arith, ◌≡◌, ◌<◌, refl, sym, ap, ◌∙◌, subst, [], ◌∷◌, flat_map, length, get_or, get_or-set_other}
use denote.Param.{param}
use Rattle.std.specs.Vec.{SameBlock}
use Rattle.starlark_visit.proofs.GoesOn.{out_err}
use Rattle.starlark_write.specs.Beside as beside
use Rattle.starlark_write.specs.Beside.{AtPlace, KeepsPlaces, KeepsAllPlaces}
use Rattle.starlark_ast.specs.Places.{assigned_places}
use Rattle.starlark_write.specs.Writing.{WritesUntil}
use Rattle.starlark_ast.specs.declared.ast.AssignTargetP.TheVariants as target
use Rattle.starlark_visit.proofs.Children.{assigned-Tuple, assigned-Index, assigned-Dot, assigned-Identifier}
use Rattle.starlark_write.proofs.KeptParts.{places_rest, with_node}
use Rattle.starlark_write.proofs.Lent.{seen, seen_left, target_lent}
use Rattle.starlark_write.proofs.Loops as loops
use Rattle.starlark_write.proofs.Loops.{both_more, end_in, front_more, lengths_more, stop_in, whole, writes_more, writes_stop_here}
use Rattle.starlark_write.proofs.Writes.{writes_at, writes_none}
use Rattle.starlark_write.proofs.targets.+lvalues.Goals as goal

pub lvalue-returns-in-Tuple-clause-calls : goal.lvalue-returns-in-Tuple-clause-calls
lvalue-returns-in-Tuple-clause-calls g t c =
    target_lent (param 0 g.row.P) (param 3 g.row.P-LoadPayload) (param 4 g.row.P-IdentPayload) (param 5 g.row.P-IdentAssignPayload) (param 6 g.row.P-DefPayload) (param 7 g.row.P-TypeExprPayload) 0 (λ y v. target.Tuple y) (λ a b. WritesUntil g.F.FnMut c.args.f.now (assigned_places a) c.lvalues.result c.lvalues.new.f (assigned_places b)) c.lvalues.new.xs (c.in-Tuple.xs, tt) c.in-Tuple.is
    (writes_at g.F.FnMut (assigned-Tuple c.in-Tuple.xs ∙ ap (λ q. flat_map (λ x. assigned_places x.node) q.items) (sym c.in-Tuple.xs-is)) (assigned-Tuple c.lvalues.new.xs) c.lvalues.ensures.calls)

pub lvalue-returns-in-Tuple-clause-kept : goal.lvalue-returns-in-Tuple-clause-kept
lvalue-returns-in-Tuple-clause-kept g t c =
    target_lent (param 0 g.row.P) (param 3 g.row.P-LoadPayload) (param 4 g.row.P-IdentPayload) (param 5 g.row.P-IdentAssignPayload) (param 6 g.row.P-DefPayload) (param 7 g.row.P-TypeExprPayload) 0 (λ y v. target.Tuple y) KeepsPlaces c.lvalues.new.xs (c.in-Tuple.xs, tt) c.in-Tuple.is
    (beside.places_tuple _ _ (seen_left SameBlock {u = c.lvalues.new.xs} c.in-Tuple.xs-is c.lvalues.ensures.block) (seen_left (λ a b. KeepsAllPlaces a.items b) c.in-Tuple.xs-is c.lvalues.ensures.kept))

pub lvalue-returns-in-Index-clause-calls : goal.lvalue-returns-in-Index-clause-calls
lvalue-returns-in-Index-clause-calls g t c =
    let none = ap assigned_places c.in-Index.is ∙ assigned-Index c.in-Index.field-0 in
    writes_at g.F.FnMut none none (writes_none g.F.FnMut refl)

pub lvalue-returns-in-Index-clause-kept : goal.lvalue-returns-in-Index-clause-kept
lvalue-returns-in-Index-clause-kept g t c =
    subst (λ q. KeepsPlaces q q) (sym c.in-Index.is) (beside.places_index _)

pub lvalue-returns-in-Dot-clause-calls : goal.lvalue-returns-in-Dot-clause-calls
lvalue-returns-in-Dot-clause-calls g t c =
    let none = ap assigned_places c.in-Dot.is ∙ assigned-Dot c.in-Dot.field-0 c.in-Dot.field-1 in
    writes_at g.F.FnMut none none (writes_none g.F.FnMut refl)

pub lvalue-returns-in-Dot-clause-kept : goal.lvalue-returns-in-Dot-clause-kept
lvalue-returns-in-Dot-clause-kept g t c =
    subst (λ q. KeepsPlaces q q) (sym c.in-Dot.is) (beside.places_dot _ _)

pub lvalue-returns-in-Identifier-clause-calls : goal.lvalue-returns-in-Identifier-clause-calls
lvalue-returns-in-Identifier-clause-calls g t c =
    target_lent (param 0 g.row.P) (param 3 g.row.P-LoadPayload) (param 4 g.row.P-IdentPayload) (param 5 g.row.P-IdentAssignPayload) (param 6 g.row.P-DefPayload) (param 7 g.row.P-TypeExprPayload) 3 (λ y v. target.Identifier y) (λ a b. WritesUntil g.F.FnMut c.args.f.now (assigned_places a) c.one.result c.one.new.f (assigned_places b)) c.one.new.x (c.in-Identifier.x, tt) c.in-Identifier.is
    (writes_at g.F.FnMut (assigned-Identifier c.in-Identifier.x ∙ ap (λ q. q ∷ []) (sym c.in-Identifier.x-is)) (assigned-Identifier c.one.new.x) c.one.ensures.calls)

pub lvalue-returns-in-Identifier-clause-kept : goal.lvalue-returns-in-Identifier-clause-kept
lvalue-returns-in-Identifier-clause-kept g t c =
    target_lent (param 0 g.row.P) (param 3 g.row.P-LoadPayload) (param 4 g.row.P-IdentPayload) (param 5 g.row.P-IdentAssignPayload) (param 6 g.row.P-DefPayload) (param 7 g.row.P-TypeExprPayload) 3 (λ y v. target.Identifier y) KeepsPlaces c.one.new.x (c.in-Identifier.x, tt) c.in-Identifier.is (beside.places_identifier _ _)

pub all_lvalues-loop-i-init : goal.all_lvalues-loop-i-init
all_lvalues-loop-i-init g t c = (search of_calls, writes_none g.F.FnMut refl, loops.none, refl, (refl, λ k d h. refl))

pub all_lvalues-loop-i-preserved : goal.all_lvalues-loop-i-preserved
all_lvalues-loop-i-preserved g t c =
    let old = c.args.xs.now in
    let xs = c.loop-i.xs in
    let i = c.loop-i.i in
    let x = c.index-xs-i.result in
    let y = with_node (get_or xs i x) c.lvalue.new.x in
    let below : i < length xs = search rules in (
      search of_calls,
      writes_more old xs i x y below c.loop-i.invariant.4.0 c.index-xs-i.is c.loop-i.invariant.3 g.F.FnMut (λ q. assigned_places q.node) c.loop-i.invariant.1 (writes_at g.F.FnMut (ap (λ q. assigned_places q.node) c.index-xs-i.is) refl c.lvalue.ensures.calls) c.in_ok-lvalue.was,
      both_more old xs i x y below c.loop-i.invariant.4.0 c.index-xs-i.is c.loop-i.invariant.3 (AtPlace KeepsPlaces) c.loop-i.invariant.2 (seen (AtPlace KeepsPlaces) c.index-xs-i.is (record { span = refl; node = c.lvalue.ensures.kept })),
      front_more old xs i x y below c.loop-i.invariant.4.0 c.index-xs-i.is c.loop-i.invariant.3,
      (
        lengths_more old xs i x y below c.loop-i.invariant.4.0 c.index-xs-i.is c.loop-i.invariant.3,
        λ k z h. get_or-set_other xs i k y z (λ q. absurd (omega (arith, h, q))) ∙ c.loop-i.invariant.4.1 k z (omega (arith, h)),
      ),
    )

pub all_lvalues-returns-in_err-lvalue-clause-calls : goal.all_lvalues-returns-in_err-lvalue-clause-calls
all_lvalues-returns-in_err-lvalue-clause-calls g t c =
    let old = c.args.xs.now in
    let xs = c.loop-i.xs in
    let i = c.loop-i.i in
    let x = c.index-xs-i.result in
    let y = with_node (get_or xs i x) c.lvalue.new.x in
    let below : i < length xs = search rules in
    writes_stop_here old xs i x y below c.loop-i.invariant.4.0 c.index-xs-i.is c.loop-i.invariant.3 g.F.FnMut (λ q. assigned_places q.node) c.loop-i.invariant.1 (writes_at g.F.FnMut (ap (λ q. assigned_places q.node) c.index-xs-i.is) refl c.lvalue.ensures.calls) c.in_err-lvalue.was (out_err c.from_residual.result c.from_residual.ensures.1)

pub all_lvalues-returns-in_err-lvalue-clause-kept : goal.all_lvalues-returns-in_err-lvalue-clause-kept
all_lvalues-returns-in_err-lvalue-clause-kept g t c =
    let old = c.args.xs.now in
    let xs = c.loop-i.xs in
    let i = c.loop-i.i in
    let x = c.index-xs-i.result in
    let y = with_node (get_or xs i x) c.lvalue.new.x in
    let below : i < length xs = search rules in
    stop_in old xs i x y below c.loop-i.invariant.4.0 c.index-xs-i.is c.loop-i.invariant.3 (AtPlace KeepsPlaces) KeepsAllPlaces places_rest c.loop-i.invariant.2 (seen (AtPlace KeepsPlaces) c.index-xs-i.is (record { span = refl; node = c.lvalue.ensures.kept }))

pub all_lvalues-returns-clause-calls : goal.all_lvalues-returns-clause-calls
all_lvalues-returns-clause-calls g t c =
    let done : c.loop-i.i ≡ length c.loop-i.xs = omega (arith, c.loop-i-test.false, c.loop-i.auto.i-end, c.loop-i.invariant.4.0, c.loop-i.auto.xs) in
    writes_at g.F.FnMut (ap (flat_map (λ q. assigned_places q.node)) (whole _ _ (done ∙ c.loop-i.invariant.4.0))) (ap (flat_map (λ q. assigned_places q.node)) (whole _ _ done)) c.loop-i.invariant.1

pub all_lvalues-returns-clause-kept : goal.all_lvalues-returns-clause-kept
all_lvalues-returns-clause-kept g t c =
    let done : c.loop-i.i ≡ length c.loop-i.xs = omega (arith, c.loop-i-test.false, c.loop-i.auto.i-end, c.loop-i.invariant.4.0, c.loop-i.auto.xs) in
    end_in (AtPlace KeepsPlaces) KeepsAllPlaces places_rest c.args.xs.now c.loop-i.xs c.loop-i.i (done ∙ c.loop-i.invariant.4.0) done c.loop-i.invariant.2
