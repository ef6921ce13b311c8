use Rattle.std.proofs.Common.{rules, arith, subst, ◌<◌, ◌≡◌, refl, sym, ap, ◌∙◌, ◌++◌, flat_map, take, drop, length, ◌+◌}
use Rattle.std.proofs.Math.Seq.{take-length}
use Rattle.starlark_ast.specs.Calls.{lent}
use Rattle.starlark_ast.specs.Statements.{exprs_below, inner_exprs, outer_exprs}
use Rattle.starlark_ast.proofs.Tops.{count, count_falls, falls-If, falls-IfElse, falls-For, falls-Def}
use Rattle.starlark_visit.proofs.GoesOn.{out_err}
use Rattle.starlark_visit.proofs.Below.{inner-Statements, inner-If, inner-IfElse, inner-For, inner-Def, inner-none}
use Rattle.starlark_visit.proofs.Taking.{front_taken, more_taken, rest_taken, takes_at}
use Rattle.starlark_visit.proofs.Until.{until_at, until_none, until_then, until_stop, until_more, until_front}
use Rattle.starlark_visit.proofs.walk.+outer.Goals as goal

pub returns-in_err-own : goal.returns-in_err-own
returns-in_err-own g t c =
    until_stop lent g.F.FnMut _ c.own.ensures c.in_err-own.was (out_err c.from_residual.result c.from_residual.ensures.1)

pub loop-x-preserved : goal.loop-x-preserved
loop-x-preserved g t c =
    (rest_taken lent g.F.FnMut (outer_exprs c.x-item.result.node) (flat_map (λ x. outer_exprs x.node) (drop (c.loop-x.x-index + 1) c.deref-x-items.result.now)) (more_taken lent g.F.FnMut (λ x. outer_exprs x.node) c.deref-x-items.result.now c.loop-x.x-index c.x-item.result (search rules) c.x-item.is c.loop-x.invariant.0) c.outer.ensures c.in_ok-outer-in-Statements.was, until_more lent g.F.FnMut (λ x. outer_exprs x.node) c.deref-x-items.result.now c.loop-x.x-index c.x-item.result (search rules) c.x-item.is c.loop-x.invariant.1 c.outer.ensures c.in_ok-outer-in-Statements.was)

pub returns-in_err-outer-in-Statements : goal.returns-in_err-outer-in-Statements
returns-in_err-outer-in-Statements g t c =
    until_then lent g.F.FnMut c.own.ensures c.in_ok-own.was (until_at lent g.F.FnMut (ap inner_exprs c.in-Statements.is ∙ inner-Statements c.in-Statements.xs ∙ ap (flat_map (λ x. outer_exprs x.node)) (sym c.deref-x-items.ensures.value)) (until_front lent g.F.FnMut (λ x. outer_exprs x.node) c.deref-x-items.result.now (c.loop-x.x-index + 1) (until_more lent g.F.FnMut (λ x. outer_exprs x.node) c.deref-x-items.result.now c.loop-x.x-index c.x-item.result (search rules) c.x-item.is c.loop-x.invariant.1 c.outer.ensures refl) c.in_err-outer-in-Statements.was (out_err c.from_residual-in_err-outer-in-Statements.result c.from_residual-in_err-outer-in-Statements.ensures.1)))

pub returns-after-loop-x : goal.returns-after-loop-x
returns-after-loop-x g t c =
    let all = c.deref-x-items.result.now in
    let at_end : c.loop-x.x-index ≡ length all = omega (arith, c.loop-x-test.false, c.loop-x.auto.x-index-end) in
    until_then lent g.F.FnMut c.own.ensures c.in_ok-own.was (until_at lent g.F.FnMut (ap inner_exprs c.in-Statements.is ∙ inner-Statements c.in-Statements.xs ∙ ap (flat_map (λ x. outer_exprs x.node)) (sym c.deref-x-items.ensures.value ∙ sym (take-length all) ∙ ap (λ n. take n all) (sym at_end))) c.loop-x.invariant.1)

pub returns-in-If : goal.returns-in-If
returns-in-If g t c =
    until_then lent g.F.FnMut c.own.ensures c.in_ok-own.was (until_at lent g.F.FnMut (ap inner_exprs c.in-If.is ∙ inner-If c.in-If.field-0 c.in-If.x ∙ ap (λ y. outer_exprs y.node) (sym c.deref.ensures)) c.outer-in-If.ensures)

pub returns-in_err-outer-in-IfElse : goal.returns-in_err-outer-in-IfElse
returns-in_err-outer-in-IfElse g t c =
    until_then lent g.F.FnMut c.own.ensures c.in_ok-own.was (until_at lent g.F.FnMut (ap inner_exprs c.in-IfElse.is ∙ inner-IfElse c.in-IfElse.field-0 c.in-IfElse.x ∙ ap (λ y. outer_exprs y.0.node ++ outer_exprs y.1.node) (sym c.deref-in-IfElse.ensures)) (until_stop lent g.F.FnMut (outer_exprs c.deref-in-IfElse.result.now.1.node) c.outer-in-IfElse.ensures c.in_err-outer-in-IfElse.was (out_err c.from_residual-in_err-outer-in-IfElse.result c.from_residual-in_err-outer-in-IfElse.ensures.1)))

pub returns-in_ok-outer-in-IfElse : goal.returns-in_ok-outer-in-IfElse
returns-in_ok-outer-in-IfElse g t c =
    until_then lent g.F.FnMut c.own.ensures c.in_ok-own.was (until_at lent g.F.FnMut (ap inner_exprs c.in-IfElse.is ∙ inner-IfElse c.in-IfElse.field-0 c.in-IfElse.x ∙ (cc)) (until_then lent g.F.FnMut c.outer-in-IfElse.ensures c.in_ok-outer-in-IfElse.was c.outer-in-IfElse-2.ensures))

pub returns-in-For : goal.returns-in-For
returns-in-For g t c =
    until_then lent g.F.FnMut c.own.ensures c.in_ok-own.was (until_at lent g.F.FnMut (ap inner_exprs c.in-For.is ∙ inner-For c.in-For.x ∙ ap (λ y. outer_exprs y.node) (sym c.deref-in-For.ensures)) c.outer-in-For.ensures)

pub returns-in-Def : goal.returns-in-Def
returns-in-Def g t c =
    until_then lent g.F.FnMut c.own.ensures c.in_ok-own.was (until_at lent g.F.FnMut (ap inner_exprs c.in-Def.is ∙ inner-Def c.in-Def.x ∙ ap (λ y. outer_exprs y.node) (sym c.deref-in-Def.ensures)) c.outer-in-Def.ensures)

pub returns-in_default-whole : goal.returns-in_default-whole
returns-in_default-whole g t c =
    until_then lent g.F.FnMut c.own.ensures c.in_ok-own.was (until_at lent g.F.FnMut (inner-none c.args.whole.now (record { statements = c.in_default.not-Statements; when = c.in_default.not-If; either = c.in_default.not-IfElse; repeat = c.in_default.not-For; define = c.in_default.not-Def })) (until_none lent g.F.FnMut refl))

pub outer-requires : goal.outer-requires
outer-requires g t c κs within =
    (count_falls c.args.whole.now c.in-Statements.xs c.deref-x-items.result.now c.loop-x.x-index c.x-item.result t c.in-Statements.is c.deref-x-items.ensures.value c.loop-x-test.true c.x-item.is c.decreases, (within.0, (within.1.0, (within.1.1.0, (within.1.1.1.0, (within.1.1.1.1.0, (within.1.1.1.1.1.0, (within.1.1.1.1.1.1.0, (within.1.1.1.1.1.1.1, front_taken lent g.F.FnMut (outer_exprs c.x-item.result.node) (flat_map (λ x. outer_exprs x.node) (drop (c.loop-x.x-index + 1) c.deref-x-items.result.now)) (more_taken lent g.F.FnMut (λ x. outer_exprs x.node) c.deref-x-items.result.now c.loop-x.x-index c.x-item.result (search rules) c.x-item.is c.loop-x.invariant.0))))))))))

pub own-requires : goal.own-requires
own-requires g t c = front_taken lent g.F.FnMut (exprs_below c.args.whole.now) (inner_exprs c.args.whole.now) c.requires

pub loop-x-init : goal.loop-x-init
loop-x-init g t c = (takes_at lent g.F.FnMut (ap inner_exprs c.in-Statements.is ∙ inner-Statements c.in-Statements.xs ∙ ap (flat_map (λ x. outer_exprs x.node)) (sym c.deref-x-items.ensures.value)) (rest_taken lent g.F.FnMut (exprs_below c.args.whole.now) (inner_exprs c.args.whole.now) c.requires c.own.ensures c.in_ok-own.was), until_none lent g.F.FnMut refl)

pub outer-requires-in-If : goal.outer-requires-in-If
outer-requires-in-If g t c κs within =
    (subst (λ y. count y.node < t) (sym c.deref.ensures) (falls-If c.args.whole.now c.in-If.field-0 c.in-If.x t c.in-If.is c.decreases), (within.0, (within.1.0, (within.1.1.0, (within.1.1.1.0, (within.1.1.1.1.0, (within.1.1.1.1.1.0, (within.1.1.1.1.1.1.0, (within.1.1.1.1.1.1.1, takes_at lent g.F.FnMut (ap inner_exprs c.in-If.is ∙ inner-If c.in-If.field-0 c.in-If.x ∙ ap (λ y. outer_exprs y.node) (sym c.deref.ensures)) (rest_taken lent g.F.FnMut (exprs_below c.args.whole.now) (inner_exprs c.args.whole.now) c.requires c.own.ensures c.in_ok-own.was))))))))))

pub outer-requires-in-IfElse : goal.outer-requires-in-IfElse
outer-requires-in-IfElse g t c κs within =
    (subst (λ y. count y.0.node < t) (sym c.deref-in-IfElse.ensures) (falls-IfElse c.args.whole.now c.in-IfElse.field-0 c.in-IfElse.x t c.in-IfElse.is c.decreases).0, (within.0, (within.1.0, (within.1.1.0, (within.1.1.1.0, (within.1.1.1.1.0, (within.1.1.1.1.1.0, (within.1.1.1.1.1.1.0, (within.1.1.1.1.1.1.1, front_taken lent g.F.FnMut (outer_exprs c.deref-in-IfElse.result.now.0.node) (outer_exprs c.deref-in-IfElse.result.now.1.node) (takes_at lent g.F.FnMut (ap inner_exprs c.in-IfElse.is ∙ inner-IfElse c.in-IfElse.field-0 c.in-IfElse.x ∙ ap (λ y. outer_exprs y.0.node ++ outer_exprs y.1.node) (sym c.deref-in-IfElse.ensures)) (rest_taken lent g.F.FnMut (exprs_below c.args.whole.now) (inner_exprs c.args.whole.now) c.requires c.own.ensures c.in_ok-own.was)))))))))))

pub outer-requires-in-IfElse-2 : goal.outer-requires-in-IfElse-2
outer-requires-in-IfElse-2 g t c κs within =
    (subst (λ y. count y.1.node < t) (sym c.deref-in-IfElse-2.ensures) (falls-IfElse c.args.whole.now c.in-IfElse.field-0 c.in-IfElse.x t c.in-IfElse.is c.decreases).1, (within.0, (within.1.0, (within.1.1.0, (within.1.1.1.0, (within.1.1.1.1.0, (within.1.1.1.1.1.0, (within.1.1.1.1.1.1.0, (within.1.1.1.1.1.1.1, takes_at lent g.F.FnMut (cc) (rest_taken lent g.F.FnMut (outer_exprs c.deref-in-IfElse.result.now.0.node) (outer_exprs c.deref-in-IfElse.result.now.1.node) (takes_at lent g.F.FnMut (ap inner_exprs c.in-IfElse.is ∙ inner-IfElse c.in-IfElse.field-0 c.in-IfElse.x ∙ ap (λ y. outer_exprs y.0.node ++ outer_exprs y.1.node) (sym c.deref-in-IfElse.ensures)) (rest_taken lent g.F.FnMut (exprs_below c.args.whole.now) (inner_exprs c.args.whole.now) c.requires c.own.ensures c.in_ok-own.was)) c.outer-in-IfElse.ensures c.in_ok-outer-in-IfElse.was))))))))))

pub outer-requires-in-For : goal.outer-requires-in-For
outer-requires-in-For g t c κs within =
    (subst (λ y. count y.node < t) (sym c.deref-in-For.ensures) (falls-For c.args.whole.now c.in-For.x t c.in-For.is c.decreases), (within.0, (within.1.0, (within.1.1.0, (within.1.1.1.0, (within.1.1.1.1.0, (within.1.1.1.1.1.0, (within.1.1.1.1.1.1.0, (within.1.1.1.1.1.1.1, takes_at lent g.F.FnMut (ap inner_exprs c.in-For.is ∙ inner-For c.in-For.x ∙ ap (λ y. outer_exprs y.node) (sym c.deref-in-For.ensures)) (rest_taken lent g.F.FnMut (exprs_below c.args.whole.now) (inner_exprs c.args.whole.now) c.requires c.own.ensures c.in_ok-own.was))))))))))

pub outer-requires-in-Def : goal.outer-requires-in-Def
outer-requires-in-Def g t c κs within =
    (subst (λ y. count y.node < t) (sym c.deref-in-Def.ensures) (falls-Def c.args.whole.now c.in-Def.x t c.in-Def.is c.decreases), (within.0, (within.1.0, (within.1.1.0, (within.1.1.1.0, (within.1.1.1.1.0, (within.1.1.1.1.1.0, (within.1.1.1.1.1.1.0, (within.1.1.1.1.1.1.1, takes_at lent g.F.FnMut (ap inner_exprs c.in-Def.is ∙ inner-Def c.in-Def.x ∙ ap (λ y. outer_exprs y.node) (sym c.deref-in-Def.ensures)) (rest_taken lent g.F.FnMut (exprs_below c.args.whole.now) (inner_exprs c.args.whole.now) c.requires c.own.ensures c.in_ok-own.was))))))))))
