use Rattle.std.proofs.lemmas.Result.{err_from_is_err_and}
use Rattle.starlark_script.proofs.Taking.{wanting, stops_later}
use Rattle.starlark_script.proofs.reading.take_text.Goals as goal

pub returns-then-whole-clause-ok : goal.returns-then-whole-clause-ok
returns-then-whole-clause-ok g c =
    wanting _ _ _ _ c.loop-i.text.items c.in-Some.b c.loop-i.i c.args.count c.loop-i.invariant.long c.loop-i-test.true c.loop-i.invariant.taken
    ((rw c.in-Some.is at c.in_ok-b.ensures.ok).0) (rw c.if-whole.true at c.in_ok-whole.ensures.ok)

pub returns-in_err-whole-clause-cut : goal.returns-in_err-whole-clause-cut
returns-in_err-whole-clause-cut g c =
    let p = err_from_is_err_and c.from_residual-in_err-whole.result c.from_residual-in_err-whole.ensures.1 in
    rw p.1 (stops_later _ _ _ _ c.loop-i.text.items c.in-Some.b c.loop-i.i c.args.count c.loop-i.invariant.long c.loop-i-test.true c.loop-i.invariant.taken
    ((rw c.in-Some.is at c.in_ok-b.ensures.ok).0) c.in_err-whole.ensures.cut)
