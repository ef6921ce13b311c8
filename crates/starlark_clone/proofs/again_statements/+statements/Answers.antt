use Rattle.std.proofs.Common.{◌∙◌, sym, ap, arith, Some, None, ap₂}
use Rattle.starlark_ast.proofs.Blocks.{sequence_size, statement_as_large, statement_is_less, statement_size}
use Rattle.starlark_clone.proofs.MadeStatements.{as_four, statement_again}
use Rattle.starlark_clone.proofs.Made.{as_three}
use Rattle.starlark_clone.specs.Copies.{seen}
use Rattle.starlark_clone.specs.Replacing.{replaced, replaced_sequence, replaced_statement}
use Rattle.starlark_ast.specs.Shown.{nowhere}
use Rattle.starlark_ast.specs.StatementViews.{statements_of, stmt_view-Assign, stmt_view-AssignModify, stmt_view-Break, stmt_view-Continue, stmt_view-Def, stmt_view-Expression, stmt_view-For, stmt_view-If, stmt_view-IfElse, stmt_view-Load, stmt_view-Pass, stmt_view-Return, stmt_view-Statements, view-def, view-for}
use Rattle.starlark_ast.specs.Tree as tree
use Rattle.starlark_ast.specs.View.{expr_at, stmt_at, stmt_view}
use Rattle.starlark_clone.proofs.again_statements.+statements.Goals as goal

-- ---- less in the parts

pub statement-several-requires : goal.statement-several-requires
statement-several-requires g n c κs within =
    let arm = c.in-Statements in
    let up = ap (λ y. statement_size (stmt_view y nowhere)) arm.is ∙ ap statement_size (stmt_view-Statements arm.xs nowhere) in
    let here = ap (λ q. sequence_size (statements_of q)) c.deref-in-Statements.ensures.value in
    (omega (arith, up, here), within)

pub several-statement-requires : goal.several-statement-requires
several-statement-requires g n c κs within =
    let x = c.x-item.result in
    let less = statement_is_less c.args.xs.now c.loop-x.x-index x c.loop-x-test.true c.x-item.is in
    let same = statement_as_large x.node x.span nowhere in
    (omega (arith, less, same), within)

pub body-statement-requires : goal.body-statement-requires
body-statement-requires g n c κs within =
    let same = statement_as_large c.args.x.now.node c.args.x.now.span nowhere in
    (omega (arith, same), within)

pub bodies-statement-requires : goal.bodies-statement-requires
bodies-statement-requires g n c κs within =
    let x = c.args.x.now.0 in
    let same = statement_as_large x.node x.span nowhere in
    (omega (arith, same), within)

-- ---- a statement of its parts

pub several-loop-x-preserved : goal.several-loop-x-preserved
several-loop-x-preserved g n c =
    let r = g.R.Rename.renames c.args.by.now in
    let x = c.x-item.result in
    statement_again r (λ y. seen g.M.MakeStatements.says y) c.loop-x.all.items _ _ c.args.xs.now c.loop-x.x-index x c.in_ok-push.ensures.items c.loop-x-test.true c.x-item.is c.loop-x.invariant (c.in_ok-node.ensures x.span)

pub statement-returns-in-Break : goal.statement-returns-in-Break
statement-returns-in-Break g n c s =
    let r = g.R.Rename.renames c.args.by.now in
    let arm = c.in-Break in
    c.break_statement.ensures s
    ∙ sym (ap (replaced_statement r) (ap (λ y. stmt_view y s) arm.is ∙ stmt_view-Break _ _ _ _ _ _ s))

pub statement-returns-in-Continue : goal.statement-returns-in-Continue
statement-returns-in-Continue g n c s =
    let r = g.R.Rename.renames c.args.by.now in
    let arm = c.in-Continue in
    c.continue_statement.ensures s
    ∙ sym (ap (replaced_statement r) (ap (λ y. stmt_view y s) arm.is ∙ stmt_view-Continue _ _ _ _ _ _ s))

pub statement-returns-in-Pass : goal.statement-returns-in-Pass
statement-returns-in-Pass g n c s =
    let r = g.R.Rename.renames c.args.by.now in
    let arm = c.in-Pass in
    c.pass_statement.ensures s
    ∙ sym (ap (replaced_statement r) (ap (λ y. stmt_view y s) arm.is ∙ stmt_view-Pass _ _ _ _ _ _ s))

pub statement-returns-in_ok-value-in-Return : goal.statement-returns-in_ok-value-in-Return
statement-returns-in_ok-value-in-Return g n c s =
    let r = g.R.Rename.renames c.args.by.now in
    let arm = c.in-Return in
    c.return_statement.ensures s
    ∙ ap (λ q. tree.return q s) c.in_ok-value-in-Return.ensures
    ∙ sym (ap (replaced_statement r) (ap (λ y. stmt_view y s) arm.is ∙ stmt_view-Return arm.inner s))

pub statement-returns-in_ok-spanned-in-Expression : goal.statement-returns-in_ok-spanned-in-Expression
statement-returns-in_ok-spanned-in-Expression g n c s =
    let r = g.R.Rename.renames c.args.by.now in
    let arm = c.in-Expression in
    c.expression_statement.ensures s
    ∙ ap (λ q. tree.expression q s) c.in_ok-spanned-in-Expression.ensures
    ∙ sym (ap (replaced_statement r) (ap (λ y. stmt_view y s) arm.is ∙ stmt_view-Expression arm.inner s))

pub statement-returns-in_ok-lhs-in-Assign : goal.statement-returns-in_ok-lhs-in-Assign
statement-returns-in_ok-lhs-in-Assign g n c s =
    let r = g.R.Rename.renames c.args.by.now in
    let arm = c.in-Assign in
    c.assign.ensures s
    ∙ as_three (λ x a y. tree.assign x a None y s) c.in_ok-lhs-in-Assign.ensures.lhs c.in_ok-lhs-in-Assign.ensures.ty c.in_ok-lhs-in-Assign.ensures.rhs
    ∙ sym (ap (replaced_statement r) (ap (λ y. stmt_view y s) arm.is ∙ stmt_view-Assign arm.inner s))

pub statement-returns-in_ok-boxed-in-AssignModify : goal.statement-returns-in_ok-boxed-in-AssignModify
statement-returns-in_ok-boxed-in-AssignModify g n c s =
    let r = g.R.Rename.renames c.args.by.now in
    let arm = c.in-AssignModify in
    c.modify.ensures s
    ∙ ap₂ (λ x y. tree.assign x tree.untyped (Some arm.op) y s) c.in_ok-lhs-in-AssignModify.ensures (c.in_ok-boxed-in-AssignModify.ensures ∙ ap (λ y. replaced r (expr_at y)) c.deref.ensures)
    ∙ sym (ap (replaced_statement r) (ap (λ y. stmt_view y s) arm.is ∙ stmt_view-AssignModify arm.lhs arm.op arm.rhs s))

pub statement-returns-in_ok-several-in-Statements : goal.statement-returns-in_ok-several-in-Statements
statement-returns-in_ok-several-in-Statements g n c s =
    let r = g.R.Rename.renames c.args.by.now in
    let arm = c.in-Statements in
    c.block.ensures s
    ∙ ap (λ q. tree.block q s) (c.in_ok-several-in-Statements.ensures ∙ ap (λ q. replaced_sequence r (statements_of q)) c.deref-in-Statements.ensures.value)
    ∙ sym (ap (replaced_statement r) (ap (λ y. stmt_view y s) arm.is ∙ stmt_view-Statements arm.xs s))

pub statement-returns-in_ok-body-in-If : goal.statement-returns-in_ok-body-in-If
statement-returns-in_ok-body-in-If g n c s =
    let r = g.R.Rename.renames c.args.by.now in
    let arm = c.in-If in
    c.if_statement.ensures s
    ∙ ap₂ (λ x a. tree.when x a s) c.in_ok-condition-in-If.ensures (c.in_ok-body-in-If.ensures ∙ ap (λ y. replaced_statement r (stmt_at y)) c.deref-in-If.ensures)
    ∙ sym (ap (replaced_statement r) (ap (λ y. stmt_view y s) arm.is ∙ stmt_view-If arm.condition arm.suite s))

pub statement-returns-in_ok-bodies-in-IfElse : goal.statement-returns-in_ok-bodies-in-IfElse
statement-returns-in_ok-bodies-in-IfElse g n c s =
    let r = g.R.Rename.renames c.args.by.now in
    let arm = c.in-IfElse in
    c.if_else.ensures s
    ∙ as_three (λ x a b. tree.either x a b s) c.in_ok-condition-in-IfElse.ensures
    (c.in_ok-bodies-in-IfElse.ensures.first ∙ ap (λ y. replaced_statement r (stmt_at y.0)) c.deref-in-IfElse.ensures)
    (c.in_ok-bodies-in-IfElse.ensures.second ∙ ap (λ y. replaced_statement r (stmt_at y.1)) c.deref-in-IfElse.ensures)
    ∙ sym (ap (replaced_statement r) (ap (λ y. stmt_view y s) arm.is ∙ stmt_view-IfElse arm.condition arm.suites s))

pub statement-returns-in_ok-var-in-For : goal.statement-returns-in_ok-var-in-For
statement-returns-in_ok-var-in-For g n c s =
    let r = g.R.Rename.renames c.args.by.now in
    let arm = c.in-For in
    c.for_statement.ensures s
    ∙ as_three (λ x y a. tree.repeat x y a s) c.in_ok-var-in-For.ensures.var c.in_ok-var-in-For.ensures.over c.in_ok-var-in-For.ensures.body
    ∙ sym (ap (replaced_statement r) (ap (λ y. stmt_view y s) arm.is ∙ stmt_view-For arm.inner s ∙ view-for arm.inner s))

pub statement-returns-in_ok-name-in-Def : goal.statement-returns-in_ok-name-in-Def
statement-returns-in_ok-name-in-Def g n c s =
    let r = g.R.Rename.renames c.args.by.now in
    let arm = c.in-Def in
    let parts = c.in_ok-name-in-Def.ensures in
    c.def_statement.ensures s
    ∙ as_four (λ m ms a b. tree.define m ms a b s) parts.name parts.params parts.ty parts.body
    ∙ sym (ap (replaced_statement r) (ap (λ y. stmt_view y s) arm.is ∙ stmt_view-Def arm.inner s ∙ view-def arm.inner s))

pub statement-returns-in_ok-clone-in-Load : goal.statement-returns-in_ok-clone-in-Load
statement-returns-in_ok-clone-in-Load g n c s =
    let r = g.R.Rename.renames c.args.by.now in
    c.load.ensures s ∙ c.in_ok-clone-in-Load.ensures s ∙ sym (ap (replaced_statement r) (ap (λ y. stmt_view y s) c.in-Load.is ∙ stmt_view-Load c.in-Load.inner s))
