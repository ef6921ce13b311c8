use Rattle.std.proofs.Common.{rules, of_calls, arith, ◌≡◌, ◌<◌, refl, sym, ap, ◌∙◌, subst, flat_map, length}
use Rattle.starlark_visit.proofs.GoesOn.{out_err}
use Rattle.starlark_write.specs.Beside.{Each}
use Rattle.starlark_write.proofs.Loops.{both_more, both_rest, end_in, front_more, lengths_more, stop_in, whole, writes_more, writes_stop_here}
use Rattle.starlark_write.proofs.Loops as loops
use Rattle.starlark_write.proofs.Writes.{writes_at, writes_none}
use Rattle.starlark_write.proofs.visit_mut.each_part.Goals as goal

pub loop-i-init : goal.loop-i-init
loop-i-init g c = (search of_calls, writes_none g.F.FnMut refl, loops.none, refl, refl)

pub loop-i-preserved : goal.loop-i-preserved
loop-i-preserved g c =
    let old = c.args.xs.now in
    let xs = c.loop-i.xs in
    let i = c.loop-i.i in
    let x = c.index-xs-i.result in
    let y = c.visit_expr_err_mut.new.self in
    let below : i < length xs = search rules in (
      search of_calls,
      writes_more old xs i x y below c.loop-i.invariant.3 c.index-xs-i.is c.loop-i.invariant.4 g.F.FnMut g.L.VisitExprMut.parts c.loop-i.invariant.1 (writes_at g.F.FnMut (ap g.L.VisitExprMut.parts c.index-xs-i.is) refl c.visit_expr_err_mut.ensures.calls) c.in_ok-visit_expr_err_mut.was,
      both_more old xs i x y below c.loop-i.invariant.3 c.index-xs-i.is c.loop-i.invariant.4 g.L.VisitExprMut.keeps c.loop-i.invariant.2 (subst (λ q. g.L.VisitExprMut.keeps q y) (sym c.index-xs-i.is) c.visit_expr_err_mut.ensures.kept),
      lengths_more old xs i x y below c.loop-i.invariant.3 c.index-xs-i.is c.loop-i.invariant.4,
      front_more old xs i x y below c.loop-i.invariant.3 c.index-xs-i.is c.loop-i.invariant.4,
    )

pub returns-in_err-visit_expr_err_mut-clause-calls : goal.returns-in_err-visit_expr_err_mut-clause-calls
returns-in_err-visit_expr_err_mut-clause-calls g c =
    let old = c.args.xs.now in
    let xs = c.loop-i.xs in
    let i = c.loop-i.i in
    let x = c.index-xs-i.result in
    let y = c.visit_expr_err_mut.new.self in
    let below : i < length xs = search rules in
    writes_stop_here old xs i x y below c.loop-i.invariant.3 c.index-xs-i.is c.loop-i.invariant.4 g.F.FnMut g.L.VisitExprMut.parts c.loop-i.invariant.1 (writes_at g.F.FnMut (ap g.L.VisitExprMut.parts c.index-xs-i.is) refl c.visit_expr_err_mut.ensures.calls) c.in_err-visit_expr_err_mut.was (out_err c.from_residual.result c.from_residual.ensures.1)

pub returns-in_err-visit_expr_err_mut-clause-kept : goal.returns-in_err-visit_expr_err_mut-clause-kept
returns-in_err-visit_expr_err_mut-clause-kept g c =
    let old = c.args.xs.now in
    let xs = c.loop-i.xs in
    let i = c.loop-i.i in
    let x = c.index-xs-i.result in
    let y = c.visit_expr_err_mut.new.self in
    let below : i < length xs = search rules in
    stop_in old xs i x y below c.loop-i.invariant.3 c.index-xs-i.is c.loop-i.invariant.4 g.L.VisitExprMut.keeps (Each g.L.VisitExprMut.keeps) (both_rest g.L.VisitExprMut.keeps) c.loop-i.invariant.2 (subst (λ q. g.L.VisitExprMut.keeps q y) (sym c.index-xs-i.is) c.visit_expr_err_mut.ensures.kept)

pub returns-clause-calls : goal.returns-clause-calls
returns-clause-calls g c =
    let done : c.loop-i.i ≡ length c.loop-i.xs = omega (arith, c.loop-i-test.false, c.loop-i.auto.i-end, c.loop-i.invariant.3, c.loop-i.auto.xs) in
    writes_at g.F.FnMut (ap (flat_map g.L.VisitExprMut.parts) (whole _ _ (done ∙ c.loop-i.invariant.3))) (ap (flat_map g.L.VisitExprMut.parts) (whole _ _ done)) c.loop-i.invariant.1

pub returns-clause-kept : goal.returns-clause-kept
returns-clause-kept g c =
    let done : c.loop-i.i ≡ length c.loop-i.xs = omega (arith, c.loop-i-test.false, c.loop-i.auto.i-end, c.loop-i.invariant.3, c.loop-i.auto.xs) in
    end_in g.L.VisitExprMut.keeps (Each g.L.VisitExprMut.keeps) (both_rest g.L.VisitExprMut.keeps) c.args.xs.now c.loop-i.xs c.loop-i.i (done ∙ c.loop-i.invariant.3) done c.loop-i.invariant.2
