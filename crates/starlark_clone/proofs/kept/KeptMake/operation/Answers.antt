use Rattle.std.proofs.Common.{ap, ◌∙◌, sym, ap₂}
use Rattle.std.specs.Option.{option_copied}
use Rattle.starlark_clone.proofs.Moved.{stands}
use Rattle.starlark_clone.specs.Replacing.{operated}
use Rattle.starlark_ast.specs.Tree as tree
use Rattle.starlark_ast.specs.View.{expr_at}
use Rattle.starlark_ast.specs.Views.{expr_view-Op}
use Rattle.starlark_clone.proofs.kept.KeptMake.operation.Goals as goal

pub returns-in-None : goal.returns-in-None
returns-in-None c =
    let x = c.args.x.value in
    let y = c.args.y.value in
    expr_view-Op c.args.x c.args.op c.args.y c.args.span
    ∙ sym (ap (λ q. operated (option_copied q) (expr_at x) c.args.op (expr_at y) c.args.span) c.in-None.is)

pub returns-in_ok-call_of_name-in-Some : goal.returns-in_ok-call_of_name-in-Some
returns-in_ok-call_of_name-in-Some c =
    let s = c.args.span in
    let x = c.args.x.value in
    let y = c.args.y.value in
    let n = c.in-Some.name.now in
    c.in_ok-call_of_name-in-Some.ensures
    ∙ ap₂ (λ u v. tree.call (tree.leaf (tree.name n) s s) (tree.more (tree.more tree.none (tree.positional (expr_at x) u)) (tree.positional (expr_at y) v)) s) (sym (stands x.node x.span)) (sym (stands y.node y.span))
    ∙ sym (ap (λ q. operated (option_copied q) (expr_at x) c.args.op (expr_at y) s) c.in-Some.is)
