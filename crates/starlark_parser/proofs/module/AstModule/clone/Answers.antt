use Rattle.std.proofs.Common.{sym, subst}
use Rattle.std.specs.Str.{IsCharBoundary}
use Rattle.starlark_ast.specs.View.{stmt_at}
use Rattle.starlark_grammar.specs.Comments.{AreHeld}
use Rattle.starlark_grammar.specs.Ends.{StatementAt}
use Rattle.starlark_parser.proofs.module.AstModule.clone.Goals as goal

pub invariant_of-result : goal.invariant_of-result
invariant_of-result c =
    let it = c.args.self.now in
    let text = c.in_ok-codemap.codemap.source in
    let same = c.in_ok-codemap.ensures in
    record {
      held = subst (λ t. ∥ StatementAt (IsCharBoundary text) t ∥₁) (sym (c.in_ok-node.ensures it.statement.span)) (subst (λ m. ∥ StatementAt (IsCharBoundary m.source) (stmt_at it.statement) ∥₁) (sym same) it.held);
      comments_held = subst (λ j. AreHeld text c.in_ok-comments.comments.places.items j) (sym c.in_ok-comments.ensures.joined) (subst (λ p. AreHeld text p it.comments.joined.items) (sym c.in_ok-comments.ensures.places) (subst (λ m. AreHeld m.source it.comments.places.items it.comments.joined.items) (sym same) it.comments_held));
    }
