use Rattle.std.proofs.Common.{rules, of_calls, arith, ◌≡◌, ◌<◌, refl, ap, ◌∙◌, flat_map, length, get_or}
use Rattle.starlark_visit.proofs.GoesOn.{out_err}
use Rattle.starlark_write.specs.Beside.{AtPlace, Each}
use Rattle.starlark_write.specs.BesideTypes.{KeepsOwn}
use Rattle.starlark_write.specs.TypePlaces.{own_type}
use Rattle.starlark_write.proofs.KeptParts.{with_node}
use Rattle.starlark_write.proofs.Lent.{seen}
use Rattle.starlark_write.proofs.Loops.{both_more, both_rest, end_in, front_more, lengths_more, stop_in, whole, writes_more, writes_stop_here}
use Rattle.starlark_write.proofs.Loops as loops
use Rattle.starlark_write.proofs.Writes.{writes_at, writes_none}
use Rattle.starlark_write.proofs.own_types.each_own.Goals as goal

pub loop-i-init : goal.loop-i-init
loop-i-init g c = (search of_calls, writes_none g.F.FnMut refl, loops.none, refl, refl)

pub loop-i-preserved : goal.loop-i-preserved
loop-i-preserved g c =
    let old = c.args.xs.now in
    let xs = c.loop-i.xs in
    let i = c.loop-i.i in
    let x = c.index-xs-i.result in
    let y = with_node (get_or xs i x) c.own.new.x in
    let below : i < length xs = search rules in (
      search of_calls,
      writes_more old xs i x y below c.loop-i.invariant.3 c.index-xs-i.is c.loop-i.invariant.4 g.F.FnMut (λ p. own_type p.node) c.loop-i.invariant.1 (writes_at g.F.FnMut (ap (λ p. own_type p.node) c.index-xs-i.is) refl c.own.ensures.calls) c.in_ok-own.was,
      both_more old xs i x y below c.loop-i.invariant.3 c.index-xs-i.is c.loop-i.invariant.4 (AtPlace KeepsOwn) c.loop-i.invariant.2 (seen (AtPlace KeepsOwn) c.index-xs-i.is (record { span = refl; node = c.own.ensures.kept })),
      lengths_more old xs i x y below c.loop-i.invariant.3 c.index-xs-i.is c.loop-i.invariant.4,
      front_more old xs i x y below c.loop-i.invariant.3 c.index-xs-i.is c.loop-i.invariant.4,
    )

pub returns-in_err-own-clause-calls : goal.returns-in_err-own-clause-calls
returns-in_err-own-clause-calls g c =
    let old = c.args.xs.now in
    let xs = c.loop-i.xs in
    let i = c.loop-i.i in
    let x = c.index-xs-i.result in
    let y = with_node (get_or xs i x) c.own.new.x in
    let below : i < length xs = search rules in
    writes_stop_here old xs i x y below c.loop-i.invariant.3 c.index-xs-i.is c.loop-i.invariant.4 g.F.FnMut (λ p. own_type p.node) c.loop-i.invariant.1 (writes_at g.F.FnMut (ap (λ p. own_type p.node) c.index-xs-i.is) refl c.own.ensures.calls) c.in_err-own.was (out_err c.from_residual.result c.from_residual.ensures.1)

pub returns-in_err-own-clause-kept : goal.returns-in_err-own-clause-kept
returns-in_err-own-clause-kept g c =
    let old = c.args.xs.now in
    let xs = c.loop-i.xs in
    let i = c.loop-i.i in
    let x = c.index-xs-i.result in
    let y = with_node (get_or xs i x) c.own.new.x in
    let below : i < length xs = search rules in
    stop_in old xs i x y below c.loop-i.invariant.3 c.index-xs-i.is c.loop-i.invariant.4 (AtPlace KeepsOwn) (Each (AtPlace KeepsOwn)) (both_rest (AtPlace KeepsOwn)) c.loop-i.invariant.2 (seen (AtPlace KeepsOwn) c.index-xs-i.is (record { span = refl; node = c.own.ensures.kept }))

pub returns-clause-calls : goal.returns-clause-calls
returns-clause-calls g c =
    let done : c.loop-i.i ≡ length c.loop-i.xs = omega (arith, c.loop-i-test.false, c.loop-i.auto.i-end, c.loop-i.invariant.3, c.loop-i.auto.xs) in
    writes_at g.F.FnMut (ap (flat_map (λ p. own_type p.node)) (whole _ _ (done ∙ c.loop-i.invariant.3))) (ap (flat_map (λ p. own_type p.node)) (whole _ _ done)) c.loop-i.invariant.1

pub returns-clause-kept : goal.returns-clause-kept
returns-clause-kept g c =
    let done : c.loop-i.i ≡ length c.loop-i.xs = omega (arith, c.loop-i-test.false, c.loop-i.auto.i-end, c.loop-i.invariant.3, c.loop-i.auto.xs) in
    end_in (AtPlace KeepsOwn) (Each (AtPlace KeepsOwn)) (both_rest (AtPlace KeepsOwn)) c.args.xs.now c.loop-i.xs c.loop-i.i (done ∙ c.loop-i.invariant.3) done c.loop-i.invariant.2
