use Rattle.std.proofs.Common.{◌≡◌, ◌++◌, ◌∙◌, refl, sym, ap, suc, length, codes, arith}
use Rattle.starlark_ast.proofs.Blocks.{sequence_size, statement_anywhere, statement_as_large, statement_is_less, statement_more, statement_size}
use Rattle.starlark_ast.proofs.Written.{all_taken, last_writes, nothing, reads_as, then_writes}
use Rattle.std.specs.Prelude.{string_bytes}
use Rattle.starlark_ast.specs.Printing.{blanks, expr_text, members_text, result_text, sequence_text, statement_text}
use Rattle.starlark_ast.specs.Shown.{nowhere}
use Rattle.starlark_ast.specs.StatementViews.{statements_of, stmt_view-Statements, view-def, view-for}
use Rattle.starlark_ast.specs.View.{boxed_type, expr_at, members, parameter_at, stmt_at, stmt_view, target_at}
use Rattle.starlark_ast.proofs.lines.+lines.Goals as goal

-- ---- less in the parts

pub write_statement-write_statements-requires : goal.write_statement-write_statements-requires
write_statement-write_statements-requires g n c κs within =
    let arm = c.in-Statements in
    let up = ap (λ y. statement_size (stmt_view y nowhere)) arm.is ∙ ap statement_size (stmt_view-Statements arm.xs nowhere) in
    let here = ap (λ q. sequence_size (statements_of q)) c.deref-in-Statements.ensures.value in
    (omega (arith, up, here), within)

pub write_statements-write_statement-requires : goal.write_statements-write_statement-requires
write_statements-write_statement-requires g n c κs within =
    let x = c.x-item.result in
    let less = statement_is_less c.args.xs.now c.loop-x.x-index x c.loop-x-test.true c.x-item.is in
    let same = statement_as_large x.node x.span nowhere in
    (omega (arith, less, same), within)

-- ---- what is written

pub write_statements-loop-x-init : goal.write_statements-loop-x-init
write_statements-loop-x-init g n c = nothing

pub write_statements-loop-x-preserved : goal.write_statements-loop-x-preserved
write_statements-loop-x-preserved g n c = λ plain.
    let x = c.x-item.result in
    reads_as (statement_more c.args.depth c.args.xs.now c.loop-x.x-index x c.loop-x-test.true c.x-item.is) (then_writes (c.loop-x.invariant plain) (λ p o. reads_as (statement_anywhere x.node _ _ c.args.depth) (c.in_ok-write_statement.ensures p o)))

pub write_statements-returns : goal.write_statements-returns
write_statements-returns g n c = λ plain ok.
    let xs = c.args.xs.now in
    let at_end : c.loop-x.x-index ≡ length xs = omega (arith, c.loop-x-test.false, c.loop-x.auto.x-index-end) in
    reads_as (ap (λ ys. sequence_text c.args.depth (statements_of ys)) (all_taken xs c.loop-x.x-index at_end)) (c.loop-x.invariant plain)

pub write_statement-returns-in-Statements : goal.write_statement-returns-in-Statements
write_statement-returns-in-Statements g n c = λ plain ok.
    let arm = c.in-Statements in
    let depth = c.args.depth in
    reads_as (ap (λ q. sequence_text depth (statements_of q)) c.deref-in-Statements.ensures.value ∙ sym (ap (λ y. statement_text depth (stmt_view y nowhere)) arm.is ∙ ap (statement_text depth) (stmt_view-Statements arm.xs nowhere))) (c.write_statements.ensures plain ok)

pub write_body-returns-in-Some : goal.write_body-returns-in-Some
write_body-returns-in-Some g n c = λ plain ok.
    let body = c.args.body.now in
    let deeper : c.in-Some.deeper ≡ suc c.args.depth = omega (arith, c.in-Some.ensures) in
    reads_as (ap (λ d. statement_text d (stmt_view body.node nowhere)) deeper ∙ statement_anywhere body.node nowhere body.span (suc c.args.depth)) (c.write_statement.ensures plain ok)

pub write_for-returns : goal.write_for-returns
write_for-returns g n c = λ plain ok.
    let x = c.args.x.now in
    let depth = c.args.depth in
    let line = blanks depth ++ codes "for " ++ expr_text (target_at x.var) ++ codes " in " ++ expr_text (expr_at x.over) ++ codes ":\n" in
    reads_as
    (ap (λ y. line ++ statement_text (suc depth) (stmt_at y)) c.deref.ensures ∙ sym (ap (statement_text depth) (view-for x nowhere)))
    (last_writes (c.in_ok-write_for_line.ensures plain refl) c.write_body.ensures ok)

pub write_def-returns : goal.write_def-returns
write_def-returns g n c = λ plain ok.
    let x = c.args.x.now in
    let depth = c.args.depth in
    let line = blanks depth ++ codes "def " ++ string_bytes x.name.node.ident ++ codes "(" ++ members_text (members parameter_at x.params.items) ++ codes ")" ++ result_text (boxed_type x.return_type) ++ codes ":\n" in
    reads_as
    (ap (λ y. line ++ statement_text (suc depth) (stmt_at y)) c.deref.ensures ∙ sym (ap (statement_text depth) (view-def x nowhere)))
    (last_writes (c.in_ok-write_def_line.ensures plain refl) c.write_body.ensures ok)
