use Rattle.std.proofs.Common.{rules, of_calls, arith, ◌≡◌, ◌<◌, refl, sym, ap, ◌∙◌, [], ◌∷◌, flat_map, length}
use Rattle.starlark_visit.proofs.Lifted.{singles}
use Rattle.starlark_visit.proofs.GoesOn.{out_err}
use Rattle.starlark_write.proofs.Loops.{front_more, lengths_more, whole, writes_more, writes_stop_here}
use Rattle.starlark_write.proofs.Writes.{writes_at, writes_last}
use Rattle.starlark_write.proofs.visit_mut.each.Goals as goal

pub loop-i-preserved : goal.loop-i-preserved
loop-i-preserved g c =
    let old = c.args.xs.now in
    let xs = c.loop-i.xs in
    let i = c.loop-i.i in
    let x = c.index-xs-i.result in
    let y = c.f.new.arg2 in
    let below : i < length xs = search rules in (
      search of_calls,
      writes_more old xs i x y below c.loop-i.invariant.2 c.index-xs-i.is c.loop-i.invariant.3 g.F.FnMut (λ x. x ∷ []) c.loop-i.invariant.1 (writes_last g.F.FnMut c.f.ensures (sym c.index-xs-i.is) refl) c.in_ok-f.was,
      lengths_more old xs i x y below c.loop-i.invariant.2 c.index-xs-i.is c.loop-i.invariant.3,
      front_more old xs i x y below c.loop-i.invariant.2 c.index-xs-i.is c.loop-i.invariant.3,
    )

pub returns-in_err-f-clause-calls : goal.returns-in_err-f-clause-calls
returns-in_err-f-clause-calls g c =
    let old = c.args.xs.now in
    let xs = c.loop-i.xs in
    let i = c.loop-i.i in
    let x = c.index-xs-i.result in
    let y = c.f.new.arg2 in
    let below : i < length xs = search rules in
    writes_at g.F.FnMut (sym (singles _)) (sym (singles _))
    (writes_stop_here old xs i x y below c.loop-i.invariant.2 c.index-xs-i.is c.loop-i.invariant.3 g.F.FnMut (λ x. x ∷ []) c.loop-i.invariant.1 (writes_last g.F.FnMut c.f.ensures (sym c.index-xs-i.is) refl) c.in_err-f.was (out_err c.from_residual.result c.from_residual.ensures.1))

pub returns-clause-calls : goal.returns-clause-calls
returns-clause-calls g c =
    let done : c.loop-i.i ≡ length c.loop-i.xs = omega (arith, c.loop-i-test.false, c.loop-i.auto.i-end, c.loop-i.invariant.2, c.loop-i.auto.xs) in
    let done_old : c.loop-i.i ≡ length c.args.xs.now = done ∙ c.loop-i.invariant.2 in
    writes_at g.F.FnMut (sym (singles _) ∙ ap (flat_map (λ x. x ∷ [])) (whole _ _ done_old)) (sym (singles _) ∙ ap (flat_map (λ x. x ∷ [])) (whole _ _ done)) c.loop-i.invariant.1
