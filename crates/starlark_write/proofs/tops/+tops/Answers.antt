use Rattle.std.proofs.Common.{rules, of_calls, arith, ◌≡◌, ◌<◌, refl, ap, ◌∙◌, length, drop}
use denote.Param.{param}
use Rattle.std.specs.Vec.{SameBlock}
use Rattle.starlark_ast.specs.declared.ast.StmtP.TheVariants as variant
use Rattle.starlark_write.specs.Tops.{WritesEachTop, WritesTops}
use Rattle.starlark_write.proofs.Lent.{seen, seen_left, stmt_lent}
use Rattle.starlark_write.proofs.Loops.{front_more, lengths_more}
use Rattle.starlark_write.proofs.WritesTops.{counts, counts_list, counts_one, tops_back, tops_list, tops_more, tops_none, tops_one, tops_whole}
use Rattle.starlark_write.proofs.tops.+tops.Goals as goal

pub top_level_stmts_mut-returns-in-Statements-clause-written : goal.top_level_stmts_mut-returns-in-Statements-clause-written
top_level_stmts_mut-returns-in-Statements-clause-written g t c =
    let s = c.args.top.now.span in
    stmt_lent (param 0 g.row.P) (param 2 g.row.P-LoadPayload) (param 3 g.row.P-IdentPayload) (param 4 g.row.P-IdentAssignPayload) (param 5 g.row.P-DefPayload) (param 6 g.row.P-TypeExprPayload) 7 (λ y v. variant.Statements y) (λ a b. WritesTops g.F.FnMut c.args.f.now (record { span = s; node = a }) c.list.new.f (record { span = s; node = b })) c.list.new.xs (c.in-Statements.xs, tt) c.in-Statements.is
    (tops_list g.F.FnMut s _ _ (seen_left SameBlock {u = c.list.new.xs} c.in-Statements.xs-is c.list.ensures.block) (seen_left (λ a b. WritesEachTop g.F.FnMut c.args.f.now a.items c.list.new.f b) c.in-Statements.xs-is c.list.ensures.written))

pub top_level_stmts_mut-returns-in_default-clause-written : goal.top_level_stmts_mut-returns-in_default-clause-written
top_level_stmts_mut-returns-in_default-clause-written g t c =
    tops_one g.F.FnMut c.in_default.not-Statements c.f.ensures refl refl

pub each-loop-i-init : goal.each-loop-i-init
each-loop-i-init g t c = (search of_calls, tops_none g.F.FnMut, refl, refl)

pub each-loop-i-preserved : goal.each-loop-i-preserved
each-loop-i-preserved g t c =
    let old = c.args.xs.now in
    let xs = c.loop-i.xs in
    let i = c.loop-i.i in
    let x = c.index-xs-i.result in
    let y = c.top_level_stmts_mut.new.top in
    let below : i < length xs = search rules in (
      search of_calls,
      tops_more g.F.FnMut old xs i x y below c.loop-i.invariant.3 c.index-xs-i.is c.loop-i.invariant.2 c.loop-i.invariant.1 (seen (λ a b. WritesTops g.F.FnMut c.loop-i.f a c.top_level_stmts_mut.new.f b) c.index-xs-i.is c.top_level_stmts_mut.ensures.written),
      front_more old xs i x y below c.loop-i.invariant.3 c.index-xs-i.is c.loop-i.invariant.2,
      lengths_more old xs i x y below c.loop-i.invariant.3 c.index-xs-i.is c.loop-i.invariant.2,
    )

pub each-returns-clause-written : goal.each-returns-clause-written
each-returns-clause-written g t c =
    let old = c.args.xs.now in
    let xs = c.loop-i.xs in
    let done : c.loop-i.i ≡ length xs = omega (arith, c.loop-i-test.false, c.loop-i.auto.i-end, c.loop-i.invariant.3, c.loop-i.auto.xs) in
    tops_whole g.F.FnMut old xs c.loop-i.i (done ∙ c.loop-i.invariant.3) done c.loop-i.invariant.1

pub top_level_stmts_mut-list-requires : goal.top_level_stmts_mut-list-requires
top_level_stmts_mut-list-requires g t c κs within =
    let all = counts_list c.args.top.now.node c.in-Statements.xs c.in-Statements.is in
    let here = ap (λ q. counts q.items) c.in-Statements.xs-is in
    (omega (arith, all, here), (within.0, (within.1.0, (within.1.1.0, (within.1.1.1.0, (within.1.1.1.1.0, (within.1.1.1.1.1.0, (within.1.1.1.1.1.1, c.requires))))))))

pub list-each-requires : goal.list-each-requires
list-each-requires g t c κs within =
    let here = ap counts c.deref_mut.ensures.value in
    (omega (arith, here), (within.0, (within.1.0, (within.1.1.0, (within.1.1.1.0, (within.1.1.1.1.0, (within.1.1.1.1.1.0, (within.1.1.1.1.1.1, c.requires))))))))

pub each-top_level_stmts_mut-requires : goal.each-top_level_stmts_mut-requires
each-top_level_stmts_mut-requires g t c κs within =
    let below : c.loop-i.i < length c.loop-i.xs = search rules in
    let le = counts_one c.args.xs.now c.loop-i.xs c.loop-i.i c.index-xs-i.result below c.loop-i.invariant.3 c.loop-i.invariant.2 in
    (omega (arith, le), (within.0, (within.1.0, (within.1.1.0, (within.1.1.1.0, (within.1.1.1.1.0, (within.1.1.1.1.1.0, (within.1.1.1.1.1.1, c.loop-i.invariant.0))))))))

pub list-returns-clause-written : goal.list-returns-clause-written
list-returns-clause-written g t c =
    let is = c.deref_mut.ensures.value in
    let all : c.args.xs.now.len ≡ length c.each.new.xs = omega (arith, ap length is, c.each.auto.xs, c.deref_mut.ensures.len) in
    seen_left (λ a b. WritesEachTop g.F.FnMut c.args.f.now a c.each.new.f b) is (tops_back g.F.FnMut c.each.new.xs c.args.xs.now.len (drop (length c.each.new.xs) c.args.xs.now.items) all c.each.ensures.written)
