use Rattle.std.proofs.Common.{◌≡◌, ◌<◌, length, take, arith, rules}
use Rattle.std.proofs.lemmas.Grind.{common_steps}
use Rattle.std.proofs.lemmas.List.{length-take, take_more_set}
use Rattle.std.proofs.lemmas.Result.{err_from_is_err_and}
use Rattle.starlark_script.proofs.Lines.{more_set_at}
use Rattle.starlark_script.proofs.Known.{consumes_more}
use Rattle.starlark_script.proofs.Paid.{pays_more}
use Rattle.starlark_script.proofs.Taking.{line_end, line_cut, line_of, line_long, stops_in_line}
use Rattle.starlark_script.proofs.reading.next_line.Goals as goal

pub returns-then-i-eq0-clause-ok : goal.returns-then-i-eq0-clause-ok
returns-then-i-eq0-clause-ok g c = line_end _ _ _ c.loop-i.line (rw c.if-i-eq0.true at c.loop-i.invariant.taken) (rw c.in-None.is at c.in_ok-next.ensures.ok)

pub returns-in-None-clause-ok : goal.returns-in-None-clause-ok
returns-in-None-clause-ok g c =
    line_cut _ _ _ (take c.loop-i.i c.loop-i.line) c.loop-i.line (simp length-take (grind (arith, common_steps))) c.loop-i.invariant.plain c.loop-i.invariant.taken (rw c.in-None.is at c.in_ok-next.ensures.ok)

pub returns-then-b-eq10-clause-ok : goal.returns-then-b-eq10-clause-ok
returns-then-b-eq10-clause-ok g c =
    line_of _ _ _ c.loop-i.i c.in-Some.b c.loop-i.line (simp length-take (grind (arith, common_steps))) c.if-b-eq10.true c.loop-i.invariant.plain c.loop-i.invariant.taken ((rw c.in-Some.is at c.in_ok-next.ensures.ok).0)

pub loop-i-preserved : goal.loop-i-preserved
loop-i-preserved g c =
    let l : c.loop-i.i < length c.loop-i.line = omega arith in
    let some = rw c.in-Some.is at c.in_ok-next.ensures.ok in
    record {
      plain = more_set_at 10 c.loop-i.i c.in-Some.b c.loop-i.line c.loop-i.invariant.plain l c.if-b-eq10.false;
      taken = rw (take_more_set c.loop-i.line c.loop-i.i c.in-Some.b l) (consumes_more _ _ _ _ _ c.loop-i.invariant.taken some.0);
      sound = first_of (search rules, grind (arith, common_steps));
      lighter = first_of (search rules, grind (arith, common_steps));
      count = first_of (search rules, grind (arith, common_steps));
      fewer = first_of (search rules, grind (arith, common_steps));
      paid = pays_more _ _ _ 0 _ _ _ c.loop-i.invariant.paid (rw c.in-Some.is at c.in_ok-next.ensures.even);
      ends = first_of (search rules, grind (arith, common_steps));
    }

pub returns-then-b-eq10-2-clause-ok : goal.returns-then-b-eq10-2-clause-ok
returns-then-b-eq10-2-clause-ok g c =
    let e : c.loop-i.i ≡ 64 = omega arith in
    line_of _ _ _ 64 c.in-Some-2.b c.loop-i.line (simp length-take (grind (arith, common_steps))) c.if-b-eq10-2.true (rw e at c.loop-i.invariant.plain) (rw e at c.loop-i.invariant.taken) ((rw c.in-Some-2.is at c.in_ok-next-2.ensures.ok).0)

pub returns-in-None-2-clause-ok : goal.returns-in-None-2-clause-ok
returns-in-None-2-clause-ok g c =
    line_cut _ _ _ (take c.loop-i.i c.loop-i.line) c.loop-i.line (simp length-take (grind (arith, common_steps))) c.loop-i.invariant.plain c.loop-i.invariant.taken (rw c.in-None-2.is at c.in_ok-next-2.ensures.ok)

pub returns-else-b-eq10-2-clause-ok : goal.returns-else-b-eq10-2-clause-ok
returns-else-b-eq10-2-clause-ok g c =
    line_long _ _ _ (take c.loop-i.i c.loop-i.line) c.loop-i.line c.in-Some-2.b (simp length-take (grind (arith, common_steps))) c.loop-i.invariant.plain c.if-b-eq10-2.false c.loop-i.invariant.taken ((rw c.in-Some-2.is at c.in_ok-next-2.ensures.ok).0)

pub returns-in_err-next-clause-cut : goal.returns-in_err-next-clause-cut
returns-in_err-next-clause-cut g c =
    let p = err_from_is_err_and c.from_residual.result c.from_residual.ensures.1 in
    rw p.1 (stops_in_line _ _ _ (take c.loop-i.i c.loop-i.line) c.loop-i.invariant.plain (simp length-take (grind (arith, common_steps))) c.loop-i.invariant.taken c.in_err-next.ensures.lost)

pub returns-in_err-next-2-clause-cut : goal.returns-in_err-next-2-clause-cut
returns-in_err-next-2-clause-cut g c =
    let p = err_from_is_err_and c.from_residual-in_err-next-2.result c.from_residual-in_err-next-2.ensures.1 in
    rw p.1 (stops_in_line _ _ _ (take c.loop-i.i c.loop-i.line) c.loop-i.invariant.plain (simp length-take (grind (arith, common_steps))) c.loop-i.invariant.taken c.in_err-next-2.ensures.lost)
