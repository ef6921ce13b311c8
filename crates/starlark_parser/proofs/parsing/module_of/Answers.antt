use Rattle.std.proofs.Common.{rules, ap, subst, ◌∙◌}
use Rattle.std.specs.Str.{IsCharBoundary}
use Rattle.starlark_ast.specs.View.{stmt_at}
use Rattle.starlark_grammar.specs.Comments.{AreHeld}
use Rattle.starlark_grammar.specs.Ends.{StatementAt}
use Rattle.starlark_read.specs.Refused.{fault_of}
use Rattle.starlark_parser.proofs.Costing.{capped_at, refused_cost, whole_cost}
use Rattle.starlark_parser.proofs.Faulting.{fault_told, fault_held}
use Rattle.starlark_parser.proofs.parsing.module_of.Goals as goal

pub refusal-requires : goal.refusal-requires
refusal-requires c = fault_held c.args.dialect.now c.source.result.now _ (fault_of c.in-Err.refused) c.source.ensures.is (λ f w. c.in-Err.ensures.reason c.source.result.now c.in-Err.refused f c.new-lexer.ensures.left (search rules) w) (λ f w. c.held_places.ensures.refusal c.args.dialect.now c.source.result.now f c.source.utf8 w)

pub returns-in-Err-clause-fault : goal.returns-in-Err-clause-fault
returns-in-Err-clause-fault c = fault_told c.args.dialect.now _ c.in-Ok.codemap c.source.result.now (fault_of c.in-Err.refused) c.refusal.result (search rules) c.source.ensures.is c.refusal.ensures (λ f w. c.refused_goes_on.ensures c.args.dialect.now c.source.result.now f (c.in-Err.ensures.reason c.source.result.now c.in-Err.refused f c.new-lexer.ensures.left (search rules) w))

pub returns-in-Err-clause-cost : goal.returns-in-Err-clause-cost
returns-in-Err-clause-cost c = refused_cost _ _ (capped_at (search rules) c.at_most.ensures.reads c.at_most.ensures.asks) (fault_of c.in-Err.refused) _ c.refusal.result c.refusal.ensures (c.source.ensures.is ∙ ap (λ m. m.source) c.in-Ok.ensures.made) c.new-lexer.ensures.left (search rules) c.in_order.ensures.few c.new-lexer.ensures.size c.in-Err.ensures.spent (λ h. record { asked = c.in-Err.ensures.asked h; reached = c.in-Err.ensures.reached h })

pub returns-in-Ok-answer-clause-cost : goal.returns-in-Ok-answer-clause-cost
returns-in-Ok-answer-clause-cost c = whole_cost (capped_at (search rules) c.at_most.ensures.reads c.at_most.ensures.asks) (c.source.ensures.is ∙ ap (λ m. m.source) c.in-Ok.ensures.made) c.new-lexer.ensures.left c.in-Ok-answer.ensures.whole.0 (search rules) c.in_order.ensures.few c.in-Ok-answer.ensures.asks c.in-Ok-answer.ensures.reads c.new-lexer.ensures.size c.in-Ok-answer.ensures.bounded

pub invariant_of-result : goal.invariant_of-result
invariant_of-result c = record {
  held = ∣ subst (λ t. StatementAt (IsCharBoundary t) (stmt_at c.in-Ok-answer.statement)) c.source.ensures.is (c.held_places.ensures.tree c.args.dialect.now c.source.result.now (stmt_at c.in-Ok-answer.statement) c.source.utf8 (c.in-Ok-answer.ensures.language c.source.result.now c.new-lexer.ensures.left)) ∣₁;
  comments_held = subst (λ t. AreHeld t c.read_tree-answer.new.told.comments.places.items c.read_tree-answer.new.told.comments.joined.items) c.source.ensures.is (c.held_places.ensures.comments c.source.result.now _ _ c.source.utf8 (record { lexed = c.new-lexer.result.left; lexes = c.new-lexer.ensures.left; stand = c.in-Ok-answer.ensures.comments; follow = c.in-Ok-answer.ensures.joined }));
}
