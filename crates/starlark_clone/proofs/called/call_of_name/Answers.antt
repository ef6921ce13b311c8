use Rattle.std.proofs.Common.{◌∙◌, ap, ap₂}
use Rattle.starlark_ast.specs.Tree as tree
use Rattle.starlark_ast.specs.View.{argument_at, expr_at, members}
use Rattle.starlark_ast.specs.Views.{argument_view-Positional, expr_view-Call, expr_view-Identifier, view-args}
use Rattle.starlark_clone.proofs.called.call_of_name.Goals as goal

pub returns : goal.returns
returns c =
    let s = c.args.span in
    let made = c.in_ok-called in
    let first = c.into_inner-x in
    let second = c.into_inner-y in
    expr_view-Call made.called _ s
    ∙ ap (λ q. tree.call (expr_at made.called.value) q s) (view-args _)
    ∙ ap₂ (λ x ms. tree.call x ms s)
    (ap (λ y. expr_at y) made.ensures.one ∙ expr_view-Identifier _ s ∙ ap (λ n. tree.leaf (tree.name n) s s) c.in_ok-ident.ensures.bytes)
    (ap (λ q. members argument_at q) made.ensures.two
    ∙ ap₂ (λ p q. tree.more (tree.more tree.none p) q)
    (argument_view-Positional first.result first.result.span ∙ ap (λ x. tree.positional (expr_at x) x.span) (first.ensures ∙ ap (λ b. b.value) c.in_ok-ident.ensures.first))
    (argument_view-Positional second.result second.result.span ∙ ap (λ x. tree.positional (expr_at x) x.span) (second.ensures ∙ ap (λ b. b.value) c.in_ok-ident.ensures.second)))
