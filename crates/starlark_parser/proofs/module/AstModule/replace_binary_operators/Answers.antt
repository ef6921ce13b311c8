use Rattle.std.proofs.Common.{◌∙◌, sym, ap, subst}
use Rattle.std.proofs.Math.Logic.{∥∥₁_map}
use Rattle.std.specs.Str.{IsCharBoundary}
use Rattle.starlark_clone.specs.Replacing.{renaming}
use Rattle.starlark_ast.specs.View.{stmt_at, stmt_view}
use Rattle.starlark_grammar.specs.Ends.{StatementAt}
use Rattle.starlark_parser.proofs.EndsOfReplaced.{replaced_at}
use Rattle.starlark_parser.proofs.module.AstModule.replace_binary_operators.Goals as goal

pub invariant_of-self : goal.invariant_of-self
invariant_of-self c =
    let it = c.args.self.now in
    let Between = IsCharBoundary it.codemap.source in
    let made = ap (λ n. stmt_view n it.statement.span) c.replace-node.ensures.after ∙ c.in_ok-node.ensures it.statement.span in
    record {
      held = subst (λ t. ∥ StatementAt Between t ∥₁) (sym made) (∥∥₁_map it.held (replaced_at Between (renaming c.args.replace.now) (stmt_at it.statement)));
      comments_held = it.comments_held;
    }

pub returns-clause-tree : goal.returns-clause-tree
returns-clause-tree c =
    let span = c.args.self.now.statement.span in
    ap (λ n. stmt_view n span) c.replace-node.ensures.after ∙ c.in_ok-node.ensures span
