use Rattle.std.proofs.Common.{refl, ap, sym, ◌∙◌, arith}
use Rattle.std.proofs.lemmas.Result.{IfErr-at_err, IfOk-at_ok}
use Rattle.starlark_grammar.specs.Language.{uncommented}
use Rattle.starlark_read.proofs.Answering.{opened, refused_text, whole_texts}
use Rattle.starlark_read.specs.Reads.{behind_token}
use Rattle.starlark_read.proofs.Asking.{asked_at}
use Rattle.starlark_read.proofs.read.read.Goals as goal

pub returns-in-Ok-answer-clause-whole : goal.returns-in-Ok-answer-clause-whole
returns-in-Ok-answer-clause-whole g c = IfOk-at_ok _ c.in-Ok-answer.is (c.program-answer.ensures.whole _ _ _ (opened c.new-tokens.ensures c.in-Ok.ensures.tokens (sym (ap (λ z. uncommented z.left) c.new-feed.ensures.lexer)) (c.in-Ok.ensures.unasked ∙ ap (λ z. behind_token z.left.items) c.new-feed.ensures.lexer) c.in-Ok.ensures.aside))

pub returns-in-Ok-answer-clause-language : goal.returns-in-Ok-answer-clause-language
returns-in-Ok-answer-clause-language g c text h = IfOk-at_ok _ c.in-Ok-answer.is (whole_texts _ _ _ h (c.program-answer.ensures.whole _ _ _ (opened c.new-tokens.ensures c.in-Ok.ensures.tokens (sym (ap (λ z. uncommented z.left) c.new-feed.ensures.lexer)) (c.in-Ok.ensures.unasked ∙ ap (λ z. behind_token z.left.items) c.new-feed.ensures.lexer) c.in-Ok.ensures.aside)))

pub returns-in-Err-clause-refused : goal.returns-in-Err-clause-refused
returns-in-Err-clause-refused g c e f q w =
    c.program-answer.ensures.refused _ _ _ (opened c.new-tokens.ensures c.in-Ok.ensures.tokens (sym (ap (λ z. uncommented z.left) c.new-feed.ensures.lexer)) (c.in-Ok.ensures.unasked ∙ ap (λ z. behind_token z.left.items) c.new-feed.ensures.lexer) c.in-Ok.ensures.aside) e f (c.in-Err.is ∙ q) w

pub returns-in-Err-clause-reason : goal.returns-in-Err-clause-reason
returns-in-Err-clause-reason g c text e f h q w =
    refused_text h (c.program-answer.ensures.refused _ _ _ (opened c.new-tokens.ensures c.in-Ok.ensures.tokens (sym (ap (λ z. uncommented z.left) c.new-feed.ensures.lexer)) (c.in-Ok.ensures.unasked ∙ ap (λ z. behind_token z.left.items) c.new-feed.ensures.lexer) c.in-Ok.ensures.aside) e f (c.in-Err.is ∙ q) w)

pub returns-in-Err-clause-asked : goal.returns-in-Err-clause-asked
returns-in-Err-clause-asked g c h k =
    let w = (opened c.new-tokens.ensures c.in-Ok.ensures.tokens (sym (ap (λ z. uncommented z.left) c.new-feed.ensures.lexer)) (c.in-Ok.ensures.unasked ∙ ap (λ z. behind_token z.left.items) c.new-feed.ensures.lexer) (c.in-Ok.ensures.aside ∙ c.new-feed.ensures.aside)) in
    asked_at c.args.lexer.left c.cost-told-2.result.asks w (IfErr-at_err _ c.in-Err.is c.program-answer.ensures.behind h) (IfErr-at_err _ c.in-Err.is (c.program-answer.ensures.left _ _ _ w) h) refl c.cost-told-2.ensures.asks k

pub returns-in-Err-clause-reached : goal.returns-in-Err-clause-reached
returns-in-Err-clause-reached g c h =
    let w = (opened c.new-tokens.ensures c.in-Ok.ensures.tokens (sym (ap (λ z. uncommented z.left) c.new-feed.ensures.lexer)) (c.in-Ok.ensures.unasked ∙ ap (λ z. behind_token z.left.items) c.new-feed.ensures.lexer) (c.in-Ok.ensures.aside ∙ c.new-feed.ensures.aside)) in
    let there = IfErr-at_err _ c.in-Err.is (c.program-answer.ensures.reached _ _ _ w) h in
    omega (arith, there, c.cost-told-2.ensures.ahead)
