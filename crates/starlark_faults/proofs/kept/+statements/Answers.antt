use Rattle.std.proofs.Common.{◌∙◌, ◌≡◌, ◌++◌, sym, ap, suc, take, length, arith}
use Rattle.std.proofs.Math.Seq.{take-length}
use Rattle.std.proofs.lemmas.List.{append-nil}
use Rattle.starlark_ast.specs.StatementViews.{statements_of, stmt_view-AssignModify, stmt_view-If, stmt_view-IfElse, stmt_view-For, stmt_view-Def, stmt_view-Statements, view-def, view-for}
use Rattle.starlark_ast.specs.View.{stmt_at, stmt_view, members, parameter_at, expr_at, target_at}
use Rattle.starlark_rulebook.specs.Kept as kept
use Rattle.starlark_rulebook.specs.Rules.{first_finding}
use Rattle.starlark_rulebook.specs.View.{finding_of}
use Rattle.starlark_faults.proofs.Firsts.{at_statement, first_in, given, past_statement}
use Rattle.starlark_visit.specs.Sizes.{statement_size, sequence_size}
use Rattle.starlark_visit.proofs.SmallerStatements.{one_of_statements}
use Rattle.starlark_faults.proofs.kept.+statements.Goals as goal

-- ---- several statements

pub statements_fault-statement_fault-requires : goal.statements_fault-statement_fault-requires
statements_fault-statement_fault-requires g n c κs within =
    let one = one_of_statements c.args.xs.now c.loop-x.x-index c.x-item.result c.loop-x-test.true c.x-item.is in
    (omega (arith, one), within)

pub statements_fault-returns-in-Some : goal.statements_fault-returns-in-Some
statements_fault-returns-in-Some g n c =
    at_statement c.args.dialect.now stmt_at c.args.xs.now c.loop-x.x-index c.x-item.result (finding_of c.in-Some.found) c.loop-x-test.true c.x-item.is c.loop-x.invariant (given _ _ _ c.in-Some.is c.statement_fault.ensures)

pub statements_fault-loop-x-preserved : goal.statements_fault-loop-x-preserved
statements_fault-loop-x-preserved g n c =
    past_statement c.args.dialect.now stmt_at c.args.xs.now c.loop-x.x-index c.x-item.result c.loop-x-test.true c.x-item.is c.loop-x.invariant (given _ _ _ c.in_default.is c.statement_fault.ensures)

pub statements_fault-returns : goal.statements_fault-returns
statements_fault-returns g n c =
    let d = c.args.dialect.now in
    let all = c.args.xs.now in
    let at_end : c.loop-x.x-index ≡ length all = omega (arith, c.loop-x-test.false, c.loop-x.auto.x-index-end) in
    c.loop-x.invariant ∙ ap (λ k. first_finding (kept.kept_sequence d (statements_of (take k all)))) at_end ∙ ap (λ ys. first_finding (kept.kept_sequence d (statements_of ys))) (take-length all)

-- ---- a few parts, one behind the other

pub if_fault-returns : goal.if_fault-returns
if_fault-returns g n c = first_in _ _ _ _ _ c.expression_fault.ensures c.statement_fault.ensures c.first_of.ensures

pub if_else_fault-returns : goal.if_else_fault-returns
if_else_fault-returns g n c = first_in _ _ _ _ _ c.if_fault.ensures c.statement_fault.ensures c.first_of.ensures

pub for_fault-returns : goal.for_fault-returns
for_fault-returns g n c =
    let d = c.args.dialect.now in
    first_in _ _ _ _ _ (first_in _ _ _ _ _ c.target_fault.ensures c.expression_fault.ensures c.first_of.ensures)
    (c.statement_fault.ensures ∙ ap (λ y. first_finding (kept.kept_rules d (stmt_at y))) c.deref.ensures)
    c.first_of-2.ensures

pub def_fault-returns : goal.def_fault-returns
def_fault-returns g n c =
    let d = c.args.dialect.now in
    first_in _ _ _ _ _
    (first_in _ _ _ _ _ (c.parameters_fault.ensures ∙ ap (λ q. first_finding (kept.kept_members d (members parameter_at q))) c.deref.ensures.value) c.type_fault.ensures c.first_of.ensures)
    (c.statement_fault.ensures ∙ ap (λ y. first_finding (kept.kept_rules d (stmt_at y))) c.deref-2.ensures)
    c.first_of-2.ensures

-- ---- a statement

pub statement_fault-statements_fault-requires : goal.statement_fault-statements_fault-requires
statement_fault-statements_fault-requires g n c κs within =
    let s = c.args.x.now.span in
    let up : statement_size (stmt_at c.args.x.now) ≡ suc (sequence_size (statements_of c.in-Statements.xs.items)) = ap (λ y. statement_size (stmt_view y s)) c.in-Statements.is ∙ ap statement_size (stmt_view-Statements c.in-Statements.xs s) in
    let here = ap (λ q. sequence_size (statements_of q)) c.deref-in-Statements.ensures.value in
    (omega (arith, up, here), within)

pub statement_fault-returns-in-AssignModify : goal.statement_fault-returns-in-AssignModify
statement_fault-returns-in-AssignModify g n c =
    let d = c.args.dialect.now in
    let s = c.args.x.now.span in
    let arm = c.in-AssignModify in
    let target = kept.kept_expr d (target_at arm.target) in
    c.modify_fault.ensures ∙ ap first_finding
    (ap (λ y. target ++ kept.kept_expr d (expr_at y)) c.deref.ensures
    ∙ ap (λ q. q ++ kept.kept_expr d (expr_at arm.value.value)) (sym (append-nil target))
    ∙ sym (ap (λ y. kept.kept_rules d (stmt_view y s)) arm.is ∙ ap (kept.kept_rules d) (stmt_view-AssignModify arm.target arm.field-1 arm.value s)))

pub statement_fault-returns-in-Statements : goal.statement_fault-returns-in-Statements
statement_fault-returns-in-Statements g n c =
    let d = c.args.dialect.now in
    let s = c.args.x.now.span in
    c.statements_fault.ensures ∙ ap first_finding
    (ap (λ q. kept.kept_sequence d (statements_of q)) c.deref-in-Statements.ensures.value
    ∙ sym (ap (λ y. kept.kept_rules d (stmt_view y s)) c.in-Statements.is ∙ ap (kept.kept_rules d) (stmt_view-Statements c.in-Statements.xs s)))

pub statement_fault-returns-in-If : goal.statement_fault-returns-in-If
statement_fault-returns-in-If g n c =
    let d = c.args.dialect.now in
    let s = c.args.x.now.span in
    let arm = c.in-If in
    c.if_fault.ensures ∙ ap first_finding
    (ap (λ y. kept.kept_expr d (expr_at arm.condition) ++ kept.kept_rules d (stmt_at y)) c.deref-in-If.ensures
    ∙ sym (ap (λ y. kept.kept_rules d (stmt_view y s)) arm.is ∙ ap (kept.kept_rules d) (stmt_view-If arm.condition arm.body s)))

pub statement_fault-returns-in-IfElse : goal.statement_fault-returns-in-IfElse
statement_fault-returns-in-IfElse g n c =
    let d = c.args.dialect.now in
    let s = c.args.x.now.span in
    let arm = c.in-IfElse in
    let condition = kept.kept_expr d (expr_at arm.condition) in
    c.if_else_fault.ensures ∙ ap first_finding
    (ap (λ y. condition ++ kept.kept_rules d (stmt_at y.0) ++ kept.kept_rules d (stmt_at c.deref-in-IfElse-2.result.now.1)) c.deref-in-IfElse.ensures
    ∙ ap (λ y. condition ++ kept.kept_rules d (stmt_at arm.bodies.value.0) ++ kept.kept_rules d (stmt_at y.1)) c.deref-in-IfElse-2.ensures
    ∙ sym (ap (λ y. kept.kept_rules d (stmt_view y s)) arm.is ∙ ap (kept.kept_rules d) (stmt_view-IfElse arm.condition arm.bodies s)))

pub statement_fault-returns-in-For : goal.statement_fault-returns-in-For
statement_fault-returns-in-For g n c =
    let d = c.args.dialect.now in
    let s = c.args.x.now.span in
    let inner = c.in-For.inner in
    c.for_fault.ensures ∙ sym (ap first_finding (ap (λ y. kept.kept_rules d (stmt_view y s)) c.in-For.is ∙ ap (kept.kept_rules d) (stmt_view-For inner s ∙ view-for inner s)))

pub statement_fault-returns-in-Def : goal.statement_fault-returns-in-Def
statement_fault-returns-in-Def g n c =
    let d = c.args.dialect.now in
    let s = c.args.x.now.span in
    let inner = c.in-Def.inner in
    c.def_fault.ensures ∙ sym (ap first_finding (ap (λ y. kept.kept_rules d (stmt_view y s)) c.in-Def.is ∙ ap (kept.kept_rules d) (stmt_view-Def inner s ∙ view-def inner s)))
