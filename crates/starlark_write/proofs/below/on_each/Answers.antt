use Rattle.std.proofs.Common.{rules, of_calls, arith, ◌≡◌, ◌<◌, refl, sym, ◌∙◌, length}
use Rattle.std.proofs.lemmas.List.{take_more_set}
use Rattle.starlark_write.proofs.EachWritten.{each_at, each_call, each_none, each_then}
use Rattle.starlark_write.proofs.Loops.{front_more, lengths_more, old_more, whole}
use Rattle.starlark_write.proofs.below.on_each.Goals as goal

pub loop-i-preserved : goal.loop-i-preserved
loop-i-preserved g c =
    let old = c.args.xs.now in
    let xs = c.loop-i.xs in
    let i = c.loop-i.i in
    let x = c.index-xs-i.result in
    let y = c.f.new.arg2 in
    let below : i < length xs = search rules in (
      search of_calls,
      each_at g.F.FnMut (old_more old xs i x y below c.loop-i.invariant.2 c.index-xs-i.is c.loop-i.invariant.3) (take_more_set xs i y below) (each_then g.F.FnMut c.loop-i.invariant.1 (each_call g.F.FnMut c.f.ensures (sym c.index-xs-i.is) refl (each_none g.F.FnMut))),
      lengths_more old xs i x y below c.loop-i.invariant.2 c.index-xs-i.is c.loop-i.invariant.3,
      front_more old xs i x y below c.loop-i.invariant.2 c.index-xs-i.is c.loop-i.invariant.3,
    )

pub returns-clause-calls : goal.returns-clause-calls
returns-clause-calls g c =
    let done : c.loop-i.i ≡ length c.loop-i.xs = omega (arith, c.loop-i-test.false, c.loop-i.auto.i-end, c.loop-i.invariant.2, c.loop-i.auto.xs) in
    each_at g.F.FnMut (whole _ _ (done ∙ c.loop-i.invariant.2)) (whole _ _ done) c.loop-i.invariant.1
