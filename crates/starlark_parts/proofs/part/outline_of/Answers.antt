use Rattle.std.proofs.Common.{◌≡◌, ◌∙◌, List, ℕ, ap, subst, sym}
use Rattle.starlark_place.specs.Resolved.{resolved}
use Rattle.starlark_ast.specs.Tree.{statement_place}
use Rattle.starlark_ast.specs.View.{stmt_at}
use Rattle.starlark_parts.specs.Walk.{left}
use Rattle.starlark_parts.proofs.Places.{at_start}
use Rattle.starlark_parts.proofs.Reading.{SoFar, at_first, has_word, one_more, same_place}
use Rattle.starlark_parts.proofs.Walks.{place_is}
use Rattle.starlark_parts.proofs.part.outline_of.Goals as goal

pub loop-statement-init : goal.loop-statement-init
loop-statement-init c = record {
  at = at_start c.args.text.now;
  far = subst (λ xs. SoFar c.args.text.now (stmt_at c.args.tree.now) xs (left c.of-walk.result)) (sym c.new-items.ensures.items) (at_first c.args.text.now c.args.tree.now (left c.of-walk.result) c.requires.flat c.of-walk.ensures);
}

pub unreachable-requires : goal.unreachable-requires
unreachable-requires c =
    has_word c.args.text.now (stmt_at c.args.tree.now) c.loop-statement.items.items (left c.loop-statement.walk) (left c.next.new.self) c.in-Some.statement.now c.requires.worded c.loop-statement.invariant.far c.in-Some.ensures.steps (sym c.of.ensures ∙ c.in_default-of.is)

pub loop-statement-preserved : goal.loop-statement-preserved
loop-statement-preserved c =
    let text : List ℕ = c.args.text.now in
    let s = c.in-Some.statement.now in
    let at : c.get.result ≡ (statement_place (stmt_at s)).begin = c.get.ensures ∙ c.begin.ensures.is ∙ ap (λ e. e.begin) (sym (place_is s)) in
    record {
      at = c.reach-cursor.ensures.at;
      far = subst (λ xs. SoFar text (stmt_at c.args.tree.now) xs (left c.next.new.self)) (sym c.in_ok-push.ensures.items)
          (one_more text (stmt_at c.args.tree.now) c.loop-statement.items.items (left c.loop-statement.walk) (left c.next.new.self) s (record { word = c.in-Some-of.word; begin = c.position.result }) c.loop-statement.invariant.far c.in-Some.ensures.steps (sym c.of.ensures ∙ c.in-Some-of.is)
          (same_place c.position.result (resolved text (statement_place (stmt_at s)).begin) (c.position.ensures.0 ∙ c.reach-cursor.ensures.line ∙ ap (λ n. (resolved text n).line) at) (c.position.ensures.1 ∙ c.reach-cursor.ensures.column ∙ ap (λ n. (resolved text n).column) at)));
    }
