use Rattle.std.proofs.Common.{rules, of_calls, arith, ◌≡◌, ◌<◌, refl, sym, ap, ◌∙◌, subst, [], ◌∷◌, ◌++◌, append-nil, flat_map, length, get_or, get_or-set_other, ◌+◌, ◌*◌, ◌≤◌, ap₂}
use Rattle.std.proofs.lemmas.List.Sums.{get_or-le-sum_by}
use Rattle.std.specs.List.{sum_by}
use Rattle.starlark_ast.proofs.Tops.{count}
use denote.Param.{param}
use Rattle.std.specs.Vec.{SameBlock}
use Rattle.starlark_ast.specs.Statements.{exprs_below, inner_exprs, outer_exprs, stmts_below, stmts_layer}
use Rattle.starlark_ast.specs.declared.ast.StmtP.TheVariants as stmt
use Rattle.starlark_visit.proofs.GoesOn.{out_err}
use Rattle.starlark_write.specs.Beside.{AtPlace}
use Rattle.starlark_write.specs.Beside.{SameBox}
use Rattle.starlark_write.specs.BesideStatements as beside
use Rattle.starlark_write.specs.BesideStatements.{KeepsDefHead, KeepsForHead, KeepsHead, KeepsOuter, KeepsOuters, def_body, for_body}
use Rattle.starlark_write.specs.Writing.{WritesUntil}
use Rattle.starlark_write.proofs.KeptParts.{with_node}
use Rattle.starlark_write.proofs.KeptStatements.{count-Statements, count_kept, inner_below, inner_kept, exprs_kept, stmts_kept, outers_at, outers_length, outers_rest}
use Rattle.starlark_write.proofs.Lent.{seen, seen_left, stmt_fields, stmt_lent}
use Rattle.starlark_write.proofs.Loops as loops
use Rattle.starlark_write.proofs.Loops.{both_more, end_in, front_more, lengths_more, stop_in, take_back, whole, writes_more, writes_stop_here}
use Rattle.starlark_write.proofs.Writes.{writes_at, writes_none, writes_stop, writes_then}
use Rattle.starlark_write.proofs.outer.+outer.Goals as goal

pub outer-returns-in_err-exprs_err_mut-clause-calls : goal.outer-returns-in_err-exprs_err_mut-clause-calls
outer-returns-in_err-exprs_err_mut-clause-calls g t c =
    let y = c.exprs_err_mut.new.x in
    writes_at g.F.FnMut refl (ap (λ q. exprs_below y ++ q) (inner_kept c.exprs_err_mut.ensures.kept)) (writes_stop g.F.FnMut (inner_exprs c.args.x.now) c.exprs_err_mut.ensures.calls c.in_err-exprs_err_mut.was (out_err c.from_residual.result c.from_residual.ensures.1))

pub outer-returns-in_err-exprs_err_mut-clause-kept : goal.outer-returns-in_err-exprs_err_mut-clause-kept
outer-returns-in_err-exprs_err_mut-clause-kept g t c = beside.outer c.exprs_err_mut.ensures.kept (beside.head_same _) (beside.outers_rest _)

pub outer-returns-clause-calls : goal.outer-returns-clause-calls
outer-returns-clause-calls g t c =
    let x = c.args.x.now in
    let y = c.exprs_err_mut.new.x in
    let z = c.inner.new.x in
    writes_at g.F.FnMut (ap (λ q. exprs_below x ++ q) (inner_below x ∙ ap (flat_map (λ s. outer_exprs s.node)) (sym (stmts_kept c.exprs_err_mut.ensures.kept)))) (ap₂ (λ p q. p ++ q) (exprs_kept c.inner.ensures.kept) (inner_below z)) (writes_then g.F.FnMut c.exprs_err_mut.ensures.calls c.in_ok-exprs_err_mut.was c.inner.ensures.calls)

pub outer-returns-clause-kept : goal.outer-returns-clause-kept
outer-returns-clause-kept g t c = beside.outer c.exprs_err_mut.ensures.kept c.inner.ensures.kept c.inner.ensures.below

pub inner-returns-in-Statements-clause-calls : goal.inner-returns-in-Statements-clause-calls
inner-returns-in-Statements-clause-calls g t c =
    stmt_lent (param 0 g.row.P) (param 3 g.row.P-LoadPayload) (param 4 g.row.P-IdentPayload) (param 5 g.row.P-IdentAssignPayload) (param 6 g.row.P-DefPayload) (param 7 g.row.P-TypeExprPayload) 7 (λ y v. stmt.Statements y) (λ a b. WritesUntil g.F.FnMut c.args.f.now (flat_map (λ s. outer_exprs s.node) (stmts_below a)) c.in_list.result c.in_list.new.f (flat_map (λ s. outer_exprs s.node) (stmts_below b))) c.in_list.new.xs (c.in-Statements.xs, tt) c.in-Statements.is
    (writes_at g.F.FnMut (ap (flat_map (λ s. outer_exprs s.node)) (ap stmts_layer (stmt.outs-Statements c.in-Statements.xs) ∙ ap (λ q. q.items) (sym c.in-Statements.xs-is))) (ap (flat_map (λ s. outer_exprs s.node)) (ap stmts_layer (stmt.outs-Statements c.in_list.new.xs))) c.in_list.ensures.calls)

pub inner-returns-in-Statements-clause-kept : goal.inner-returns-in-Statements-clause-kept
inner-returns-in-Statements-clause-kept g t c =
    stmt_lent (param 0 g.row.P) (param 3 g.row.P-LoadPayload) (param 4 g.row.P-IdentPayload) (param 5 g.row.P-IdentAssignPayload) (param 6 g.row.P-DefPayload) (param 7 g.row.P-TypeExprPayload) 7 (λ y v. stmt.Statements y) KeepsHead c.in_list.new.xs (c.in-Statements.xs, tt) c.in-Statements.is (beside.head_statements _ _ (seen_left SameBlock {u = c.in_list.new.xs} c.in-Statements.xs-is c.in_list.ensures.block) (outers_length c.in_list.ensures.kept ∙ ap (λ q. length q.items) c.in-Statements.xs-is))

pub inner-returns-in-Statements-clause-below : goal.inner-returns-in-Statements-clause-below
inner-returns-in-Statements-clause-below g t c =
    stmt_lent (param 0 g.row.P) (param 3 g.row.P-LoadPayload) (param 4 g.row.P-IdentPayload) (param 5 g.row.P-IdentAssignPayload) (param 6 g.row.P-DefPayload) (param 7 g.row.P-TypeExprPayload) 7 (λ y v. stmt.Statements y) (λ a b. KeepsOuters (stmts_below a) (stmts_below b)) c.in_list.new.xs (c.in-Statements.xs, tt) c.in-Statements.is
    (outers_at (ap stmts_layer (stmt.outs-Statements c.in-Statements.xs) ∙ ap (λ q. q.items) (sym c.in-Statements.xs-is)) (ap stmts_layer (stmt.outs-Statements c.in_list.new.xs)) c.in_list.ensures.kept)

pub inner-returns-in-For-clause-calls : goal.inner-returns-in-For-clause-calls
inner-returns-in-For-clause-calls g t c =
    stmt_lent (param 0 g.row.P) (param 3 g.row.P-LoadPayload) (param 4 g.row.P-IdentPayload) (param 5 g.row.P-IdentAssignPayload) (param 6 g.row.P-DefPayload) (param 7 g.row.P-TypeExprPayload) 10 (λ y v. stmt.For y) (λ a b. WritesUntil g.F.FnMut c.args.f.now (flat_map (λ s. outer_exprs s.node) (stmts_below a)) c.in_for.result c.in_for.new.f (flat_map (λ s. outer_exprs s.node) (stmts_below b))) c.in_for.new.x (c.in-For.x, tt) c.in-For.is
    (writes_at g.F.FnMut (ap (flat_map (λ s. outer_exprs s.node)) (ap stmts_layer (stmt.outs-For c.in-For.x) ∙ ap (λ q. for_body q ∷ []) (sym c.in-For.x-is))) (ap (flat_map (λ s. outer_exprs s.node)) (ap stmts_layer (stmt.outs-For c.in_for.new.x))) c.in_for.ensures.calls)

pub inner-returns-in-For-clause-kept : goal.inner-returns-in-For-clause-kept
inner-returns-in-For-clause-kept g t c =
    stmt_lent (param 0 g.row.P) (param 3 g.row.P-LoadPayload) (param 4 g.row.P-IdentPayload) (param 5 g.row.P-IdentAssignPayload) (param 6 g.row.P-DefPayload) (param 7 g.row.P-TypeExprPayload) 10 (λ y v. stmt.For y) KeepsHead c.in_for.new.x (c.in-For.x, tt) c.in-For.is (beside.head_repeat _ _ (seen_left KeepsForHead c.in-For.x-is c.in_for.ensures.head))

pub inner-returns-in-For-clause-below : goal.inner-returns-in-For-clause-below
inner-returns-in-For-clause-below g t c =
    stmt_lent (param 0 g.row.P) (param 3 g.row.P-LoadPayload) (param 4 g.row.P-IdentPayload) (param 5 g.row.P-IdentAssignPayload) (param 6 g.row.P-DefPayload) (param 7 g.row.P-TypeExprPayload) 10 (λ y v. stmt.For y) (λ a b. KeepsOuters (stmts_below a) (stmts_below b)) c.in_for.new.x (c.in-For.x, tt) c.in-For.is
    (outers_at (ap stmts_layer (stmt.outs-For c.in-For.x) ∙ ap (λ q. for_body q ∷ []) (sym c.in-For.x-is)) (ap stmts_layer (stmt.outs-For c.in_for.new.x)) c.in_for.ensures.kept)

pub inner-returns-in-Def-clause-calls : goal.inner-returns-in-Def-clause-calls
inner-returns-in-Def-clause-calls g t c =
    stmt_lent (param 0 g.row.P) (param 3 g.row.P-LoadPayload) (param 4 g.row.P-IdentPayload) (param 5 g.row.P-IdentAssignPayload) (param 6 g.row.P-DefPayload) (param 7 g.row.P-TypeExprPayload) 11 (λ y v. stmt.Def y) (λ a b. WritesUntil g.F.FnMut c.args.f.now (flat_map (λ s. outer_exprs s.node) (stmts_below a)) c.in_def.result c.in_def.new.f (flat_map (λ s. outer_exprs s.node) (stmts_below b))) c.in_def.new.x (c.in-Def.x, tt) c.in-Def.is
    (writes_at g.F.FnMut (ap (flat_map (λ s. outer_exprs s.node)) (ap stmts_layer (stmt.outs-Def c.in-Def.x) ∙ ap (λ q. def_body q ∷ []) (sym c.in-Def.x-is))) (ap (flat_map (λ s. outer_exprs s.node)) (ap stmts_layer (stmt.outs-Def c.in_def.new.x))) c.in_def.ensures.calls)

pub inner-returns-in-Def-clause-kept : goal.inner-returns-in-Def-clause-kept
inner-returns-in-Def-clause-kept g t c =
    stmt_lent (param 0 g.row.P) (param 3 g.row.P-LoadPayload) (param 4 g.row.P-IdentPayload) (param 5 g.row.P-IdentAssignPayload) (param 6 g.row.P-DefPayload) (param 7 g.row.P-TypeExprPayload) 11 (λ y v. stmt.Def y) KeepsHead c.in_def.new.x (c.in-Def.x, tt) c.in-Def.is (beside.head_define _ _ (seen_left KeepsDefHead c.in-Def.x-is c.in_def.ensures.head))

pub inner-returns-in-Def-clause-below : goal.inner-returns-in-Def-clause-below
inner-returns-in-Def-clause-below g t c =
    stmt_lent (param 0 g.row.P) (param 3 g.row.P-LoadPayload) (param 4 g.row.P-IdentPayload) (param 5 g.row.P-IdentAssignPayload) (param 6 g.row.P-DefPayload) (param 7 g.row.P-TypeExprPayload) 11 (λ y v. stmt.Def y) (λ a b. KeepsOuters (stmts_below a) (stmts_below b)) c.in_def.new.x (c.in-Def.x, tt) c.in-Def.is
    (outers_at (ap stmts_layer (stmt.outs-Def c.in-Def.x) ∙ ap (λ q. def_body q ∷ []) (sym c.in-Def.x-is)) (ap stmts_layer (stmt.outs-Def c.in_def.new.x)) c.in_def.ensures.kept)

pub inner-returns-in-If-clause-calls : goal.inner-returns-in-If-clause-calls
inner-returns-in-If-clause-calls g t c =
    writes_at g.F.FnMut (ap (flat_map (λ s. outer_exprs s.node)) (ap stmts_below c.in-If.is ∙ ap stmts_layer (stmt.outs-If c.in-If.c c.in-If.x) ∙ ap (λ q. q.value ∷ []) (sym c.in-If.x-is))) (ap (flat_map (λ s. outer_exprs s.node)) (ap stmts_layer (stmt.outs-If c.in_box_beside.new.other c.in_box_beside.new.x))) c.in_box_beside.ensures.calls

pub inner-returns-in-If-clause-kept : goal.inner-returns-in-If-clause-kept
inner-returns-in-If-clause-kept g t c =
    seen KeepsHead c.in-If.is (subst (λ q. KeepsHead (stmt.If c.in-If.c c.in-If.x) (stmt.If q c.in_box_beside.new.x)) (sym (c.in_box_beside.ensures.other ∙ c.in-If.c-is)) (beside.head_condition _ _ _ (seen_left SameBox {u = c.in_box_beside.new.x} c.in-If.x-is c.in_box_beside.ensures.block)))

pub inner-returns-in-If-clause-below : goal.inner-returns-in-If-clause-below
inner-returns-in-If-clause-below g t c =
    outers_at (ap stmts_below c.in-If.is ∙ ap stmts_layer (stmt.outs-If c.in-If.c c.in-If.x) ∙ ap (λ q. q.value ∷ []) (sym c.in-If.x-is)) (ap stmts_layer (stmt.outs-If c.in_box_beside.new.other c.in_box_beside.new.x)) c.in_box_beside.ensures.kept

pub inner-returns-in-IfElse-clause-calls : goal.inner-returns-in-IfElse-clause-calls
inner-returns-in-IfElse-clause-calls g t c =
    writes_at g.F.FnMut (ap (flat_map (λ s. outer_exprs s.node)) (ap stmts_below c.in-IfElse.is ∙ ap stmts_layer (stmt.outs-IfElse c.in-IfElse.c c.in-IfElse.x) ∙ ap (λ q. q.value.0 ∷ q.value.1 ∷ []) (sym c.in-IfElse.x-is))) (ap (flat_map (λ s. outer_exprs s.node)) (ap stmts_layer (stmt.outs-IfElse c.in_pair.new.other c.in_pair.new.x))) c.in_pair.ensures.calls

pub inner-returns-in-IfElse-clause-kept : goal.inner-returns-in-IfElse-clause-kept
inner-returns-in-IfElse-clause-kept g t c =
    seen KeepsHead c.in-IfElse.is (subst (λ q. KeepsHead (stmt.IfElse c.in-IfElse.c c.in-IfElse.x) (stmt.IfElse q c.in_pair.new.x)) (sym (c.in_pair.ensures.other ∙ c.in-IfElse.c-is)) (beside.head_choice _ _ _ (seen_left SameBox {u = c.in_pair.new.x} c.in-IfElse.x-is c.in_pair.ensures.block)))

pub inner-returns-in-IfElse-clause-below : goal.inner-returns-in-IfElse-clause-below
inner-returns-in-IfElse-clause-below g t c =
    outers_at (ap stmts_below c.in-IfElse.is ∙ ap stmts_layer (stmt.outs-IfElse c.in-IfElse.c c.in-IfElse.x) ∙ ap (λ q. q.value.0 ∷ q.value.1 ∷ []) (sym c.in-IfElse.x-is)) (ap stmts_layer (stmt.outs-IfElse c.in_pair.new.other c.in_pair.new.x)) c.in_pair.ensures.kept

pub inner-returns-in-Break-clause-kept : goal.inner-returns-in-Break-clause-kept
inner-returns-in-Break-clause-kept g t c = beside.head_same _

pub inner-returns-in-Break-clause-below : goal.inner-returns-in-Break-clause-below
inner-returns-in-Break-clause-below g t c = beside.outers_rest _

pub inner-returns-in-Continue-clause-kept : goal.inner-returns-in-Continue-clause-kept
inner-returns-in-Continue-clause-kept g t c = beside.head_same _

pub inner-returns-in-Continue-clause-below : goal.inner-returns-in-Continue-clause-below
inner-returns-in-Continue-clause-below g t c = beside.outers_rest _

pub inner-returns-in-Pass-clause-kept : goal.inner-returns-in-Pass-clause-kept
inner-returns-in-Pass-clause-kept g t c = beside.head_same _

pub inner-returns-in-Pass-clause-below : goal.inner-returns-in-Pass-clause-below
inner-returns-in-Pass-clause-below g t c = beside.outers_rest _

pub inner-returns-in-Return-clause-calls : goal.inner-returns-in-Return-clause-calls
inner-returns-in-Return-clause-calls g t c =
    let none = ap (flat_map (λ s. outer_exprs s.node)) (ap stmts_below c.in-Return.is ∙ ap stmts_layer (stmt.outs-Return c.in-Return.field-0)) in
    writes_at g.F.FnMut none none (writes_none g.F.FnMut refl)

pub inner-returns-in-Return-clause-kept : goal.inner-returns-in-Return-clause-kept
inner-returns-in-Return-clause-kept g t c = beside.head_same _

pub inner-returns-in-Return-clause-below : goal.inner-returns-in-Return-clause-below
inner-returns-in-Return-clause-below g t c = beside.outers_rest _

pub inner-returns-in-Expression-clause-calls : goal.inner-returns-in-Expression-clause-calls
inner-returns-in-Expression-clause-calls g t c =
    let none = ap (flat_map (λ s. outer_exprs s.node)) (ap stmts_below c.in-Expression.is ∙ ap stmts_layer (stmt.outs-Expression c.in-Expression.field-0)) in
    writes_at g.F.FnMut none none (writes_none g.F.FnMut refl)

pub inner-returns-in-Expression-clause-kept : goal.inner-returns-in-Expression-clause-kept
inner-returns-in-Expression-clause-kept g t c = beside.head_same _

pub inner-returns-in-Expression-clause-below : goal.inner-returns-in-Expression-clause-below
inner-returns-in-Expression-clause-below g t c = beside.outers_rest _

pub inner-returns-in-Assign-clause-calls : goal.inner-returns-in-Assign-clause-calls
inner-returns-in-Assign-clause-calls g t c =
    let none = ap (flat_map (λ s. outer_exprs s.node)) (ap stmts_below c.in-Assign.is ∙ ap stmts_layer (stmt.outs-Assign c.in-Assign.field-0)) in
    writes_at g.F.FnMut none none (writes_none g.F.FnMut refl)

pub inner-returns-in-Assign-clause-kept : goal.inner-returns-in-Assign-clause-kept
inner-returns-in-Assign-clause-kept g t c = beside.head_same _

pub inner-returns-in-Assign-clause-below : goal.inner-returns-in-Assign-clause-below
inner-returns-in-Assign-clause-below g t c = beside.outers_rest _

pub inner-returns-in-AssignModify-clause-calls : goal.inner-returns-in-AssignModify-clause-calls
inner-returns-in-AssignModify-clause-calls g t c =
    let none = ap (flat_map (λ s. outer_exprs s.node)) (ap stmts_below c.in-AssignModify.is ∙ ap stmts_layer (stmt.outs-AssignModify c.in-AssignModify.field-0 c.in-AssignModify.field-1 c.in-AssignModify.field-2)) in
    writes_at g.F.FnMut none none (writes_none g.F.FnMut refl)

pub inner-returns-in-AssignModify-clause-kept : goal.inner-returns-in-AssignModify-clause-kept
inner-returns-in-AssignModify-clause-kept g t c = beside.head_same _

pub inner-returns-in-AssignModify-clause-below : goal.inner-returns-in-AssignModify-clause-below
inner-returns-in-AssignModify-clause-below g t c = beside.outers_rest _

pub inner-returns-in-Load-clause-calls : goal.inner-returns-in-Load-clause-calls
inner-returns-in-Load-clause-calls g t c =
    let none = ap (flat_map (λ s. outer_exprs s.node)) (ap stmts_below c.in-Load.is ∙ ap stmts_layer (stmt.outs-Load c.in-Load.field-0)) in
    writes_at g.F.FnMut none none (writes_none g.F.FnMut refl)

pub inner-returns-in-Load-clause-kept : goal.inner-returns-in-Load-clause-kept
inner-returns-in-Load-clause-kept g t c = beside.head_same _

pub inner-returns-in-Load-clause-below : goal.inner-returns-in-Load-clause-below
inner-returns-in-Load-clause-below g t c = beside.outers_rest _

pub in_each-loop-i-init : goal.in_each-loop-i-init
in_each-loop-i-init g t c = (search of_calls, writes_none g.F.FnMut refl, loops.none, refl, (refl, λ k d h. refl))

pub in_each-loop-i-preserved : goal.in_each-loop-i-preserved
in_each-loop-i-preserved g t c =
    let old = c.args.xs.now in
    let xs = c.loop-i.xs in
    let i = c.loop-i.i in
    let x = c.index-xs-i.result in
    let y = with_node (get_or xs i x) c.outer.new.x in
    let below : i < length xs = search rules in (
      search of_calls,
      writes_more old xs i x y below c.loop-i.invariant.4.0 c.index-xs-i.is c.loop-i.invariant.3 g.F.FnMut (λ s. outer_exprs s.node) c.loop-i.invariant.1 (writes_at g.F.FnMut (ap (λ s. outer_exprs s.node) c.index-xs-i.is) refl c.outer.ensures.calls) c.in_ok-outer.was,
      both_more old xs i x y below c.loop-i.invariant.4.0 c.index-xs-i.is c.loop-i.invariant.3 (AtPlace KeepsOuter) c.loop-i.invariant.2 (seen (AtPlace KeepsOuter) c.index-xs-i.is (record { span = refl; node = c.outer.ensures.kept })),
      front_more old xs i x y below c.loop-i.invariant.4.0 c.index-xs-i.is c.loop-i.invariant.3,
      (
        lengths_more old xs i x y below c.loop-i.invariant.4.0 c.index-xs-i.is c.loop-i.invariant.3,
        λ k z h. get_or-set_other xs i k y z (λ q. absurd (omega (arith, h, q))) ∙ c.loop-i.invariant.4.1 k z (omega (arith, h)),
      ),
    )

pub in_each-returns-in_err-outer-clause-calls : goal.in_each-returns-in_err-outer-clause-calls
in_each-returns-in_err-outer-clause-calls g t c =
    let old = c.args.xs.now in
    let xs = c.loop-i.xs in
    let i = c.loop-i.i in
    let x = c.index-xs-i.result in
    let y = with_node (get_or xs i x) c.outer.new.x in
    let below : i < length xs = search rules in
    writes_stop_here old xs i x y below c.loop-i.invariant.4.0 c.index-xs-i.is c.loop-i.invariant.3 g.F.FnMut (λ s. outer_exprs s.node) c.loop-i.invariant.1 (writes_at g.F.FnMut (ap (λ s. outer_exprs s.node) c.index-xs-i.is) refl c.outer.ensures.calls) c.in_err-outer.was (out_err c.from_residual.result c.from_residual.ensures.1)

pub in_each-returns-in_err-outer-clause-kept : goal.in_each-returns-in_err-outer-clause-kept
in_each-returns-in_err-outer-clause-kept g t c =
    let old = c.args.xs.now in
    let xs = c.loop-i.xs in
    let i = c.loop-i.i in
    let x = c.index-xs-i.result in
    let y = with_node (get_or xs i x) c.outer.new.x in
    let below : i < length xs = search rules in
    stop_in old xs i x y below c.loop-i.invariant.4.0 c.index-xs-i.is c.loop-i.invariant.3 (AtPlace KeepsOuter) KeepsOuters outers_rest c.loop-i.invariant.2 (seen (AtPlace KeepsOuter) c.index-xs-i.is (record { span = refl; node = c.outer.ensures.kept }))

pub in_each-returns-clause-calls : goal.in_each-returns-clause-calls
in_each-returns-clause-calls g t c =
    let done : c.loop-i.i ≡ length c.loop-i.xs = omega (arith, c.loop-i-test.false, c.loop-i.auto.i-end, c.loop-i.invariant.4.0, c.loop-i.auto.xs) in
    writes_at g.F.FnMut (ap (flat_map (λ s. outer_exprs s.node)) (whole _ _ (done ∙ c.loop-i.invariant.4.0))) (ap (flat_map (λ s. outer_exprs s.node)) (whole _ _ done)) c.loop-i.invariant.1

pub in_each-returns-clause-kept : goal.in_each-returns-clause-kept
in_each-returns-clause-kept g t c =
    let done : c.loop-i.i ≡ length c.loop-i.xs = omega (arith, c.loop-i-test.false, c.loop-i.auto.i-end, c.loop-i.invariant.4.0, c.loop-i.auto.xs) in
    end_in (AtPlace KeepsOuter) KeepsOuters outers_rest c.args.xs.now c.loop-i.xs c.loop-i.i (done ∙ c.loop-i.invariant.4.0) done c.loop-i.invariant.2

pub in_box-returns-clause-calls : goal.in_box-returns-clause-calls
in_box-returns-clause-calls g t c =
    writes_at g.F.FnMut (append-nil _ ∙ ap (λ s. outer_exprs s.node) (sym c.deref_mut.ensures.value)) (append-nil _) c.outer.ensures.calls

pub in_box-returns-clause-kept : goal.in_box-returns-clause-kept
in_box-returns-clause-kept g t c =
    beside.outers_more (ap (λ q. q.span) c.deref_mut.ensures.value) (seen_left (λ p q. KeepsOuter p.node q) c.deref_mut.ensures.value c.outer.ensures.kept) (beside.outers_rest _)

pub in_list-returns-clause-calls : goal.in_list-returns-clause-calls
in_list-returns-clause-calls g t c =
    writes_at g.F.FnMut (ap (flat_map (λ s. outer_exprs s.node)) (sym c.deref_mut.ensures.value)) (ap (flat_map (λ s. outer_exprs s.node)) (take_back _ _ _ (omega (arith, outers_length c.in_each.ensures.kept, c.deref_mut.ensures.len)))) c.in_each.ensures.calls

pub in_list-returns-clause-kept : goal.in_list-returns-clause-kept
in_list-returns-clause-kept g t c =
    outers_at (sym c.deref_mut.ensures.value) (take_back _ _ _ (omega (arith, outers_length c.in_each.ensures.kept, c.deref_mut.ensures.len))) c.in_each.ensures.kept

pub in_pair-returns-in_err-outer-clause-calls : goal.in_pair-returns-in_err-outer-clause-calls
in_pair-returns-in_err-outer-clause-calls g t c =
    writes_at g.F.FnMut (ap (λ q. outer_exprs q.0.node ++ (outer_exprs q.1.node ++ [])) (sym c.deref_mut-parts.ensures.value)) refl (writes_stop g.F.FnMut (outer_exprs c.deref_mut-parts.result.now.1.node ++ []) c.outer.ensures.calls c.in_err-outer.was (out_err c.from_residual.result c.from_residual.ensures.1))

pub in_pair-returns-in_err-outer-clause-kept : goal.in_pair-returns-in_err-outer-clause-kept
in_pair-returns-in_err-outer-clause-kept g t c =
    outers_at (ap (λ q. q.0 ∷ q.1 ∷ []) (sym c.deref_mut-parts.ensures.value)) refl (beside.outers_more refl c.outer.ensures.kept (beside.outers_rest _))

pub in_pair-returns-clause-calls : goal.in_pair-returns-clause-calls
in_pair-returns-clause-calls g t c =
    writes_at g.F.FnMut (ap (λ q. outer_exprs q.0.node ++ (outer_exprs q.1.node ++ [])) (sym c.deref_mut-parts.ensures.value)) refl (writes_then g.F.FnMut c.outer.ensures.calls c.in_ok-outer.was (writes_at g.F.FnMut (append-nil _) (append-nil _) c.outer-2.ensures.calls))

pub in_pair-returns-clause-kept : goal.in_pair-returns-clause-kept
in_pair-returns-clause-kept g t c =
    outers_at (ap (λ q. q.0 ∷ q.1 ∷ []) (sym c.deref_mut-parts.ensures.value)) refl (beside.outers_more refl c.outer.ensures.kept (beside.outers_more refl c.outer-2.ensures.kept (beside.outers_rest _)))

pub outer-inner-requires : goal.outer-inner-requires
outer-inner-requires g t c κs within =
    let same : count c.exprs_err_mut.new.x ≡ count c.args.x.now = count_kept c.exprs_err_mut.ensures.kept in
    let here : 4 * count c.args.x.now + 1 ≡ t = c.decreases in
    let falls : 4 * count c.exprs_err_mut.new.x < t = omega (arith, same, here) in
    (falls, (within.0, (within.1.0, (within.1.1.0, (within.1.1.1.0, (within.1.1.1.1.0, (within.1.1.1.1.1.0, (within.1.1.1.1.1.1.0, (within.1.1.1.1.1.1.1, c.exprs_err_mut.ensures.callable)))))))))

pub inner-in_list-requires : goal.inner-in_list-requires
inner-in_list-requires g t c κs within =
    let xs = (stmt_fields (param 0 g.row.P) (param 3 g.row.P-LoadPayload) (param 4 g.row.P-IdentPayload) (param 5 g.row.P-IdentAssignPayload) (param 6 g.row.P-DefPayload) (param 7 g.row.P-TypeExprPayload) 7 (c.in-Statements.xs, tt) c.args.x.now).0 in
    let whole : count c.args.x.now ≡ sum_by (λ s. count s.node) xs.items + 1 = ap count c.in-Statements.is ∙ count-Statements c.in-Statements.xs ∙ ap (λ q. sum_by (λ s. count s.node) q.items + 1) (sym c.in-Statements.xs-is) in
    let here : 4 * count c.args.x.now ≡ t = c.decreases in
    let falls : 4 * sum_by (λ s. count s.node) xs.items + 3 < t = omega (arith, whole, here) in
    (falls, (within.0, (within.1.0, (within.1.1.0, (within.1.1.1.0, (within.1.1.1.1.0, (within.1.1.1.1.1.0, (within.1.1.1.1.1.1.0, (within.1.1.1.1.1.1.1, c.requires)))))))))

pub in_list-in_each-requires : goal.in_list-in_each-requires
in_list-in_each-requires g t c κs within =
    let same : sum_by (λ s. count s.node) c.deref_mut.result.now ≡ sum_by (λ s. count s.node) c.args.xs.now.items = ap (sum_by (λ s. count s.node)) c.deref_mut.ensures.value in
    let here : 4 * sum_by (λ s. count s.node) c.args.xs.now.items + 3 ≡ t = c.decreases in
    let falls : 4 * sum_by (λ s. count s.node) c.deref_mut.result.now + 2 < t = omega (arith, same, here) in
    (falls, (within.0, (within.1.0, (within.1.1.0, (within.1.1.1.0, (within.1.1.1.1.0, (within.1.1.1.1.1.0, (within.1.1.1.1.1.1.0, (within.1.1.1.1.1.1.1, c.requires)))))))))

pub in_each-outer-requires : goal.in_each-outer-requires
in_each-outer-requires g t c κs within =
    let old = c.args.xs.now in
    let i = c.loop-i.i in
    let x = c.index-xs-i.result in
    let le : count (get_or old i x).node ≤ sum_by (λ s. count s.node) old = get_or-le-sum_by (λ s. count s.node) old i x c.loop-i-test.true in
    let same : count (get_or c.loop-i.xs i x).node ≡ count (get_or old i x).node = ap (λ q. count q.node) (c.loop-i.invariant.4.1 i x (omega arith)) in
    let here : 4 * sum_by (λ s. count s.node) old + 2 ≡ t = c.decreases in
    let falls : 4 * count (get_or c.loop-i.xs i x).node + 1 < t = omega (arith, le, same, here) in
    (falls, (within.0, (within.1.0, (within.1.1.0, (within.1.1.1.0, (within.1.1.1.1.0, (within.1.1.1.1.1.0, (within.1.1.1.1.1.1.0, (within.1.1.1.1.1.1.1, c.loop-i.invariant.0)))))))))
