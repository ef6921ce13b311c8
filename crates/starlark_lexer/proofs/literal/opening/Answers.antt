use Rattle.std.proofs.Common.{◌+◌, ap, sym, ◌∙◌, Some}
use Rattle.starlark_lexer.specs.Fronts.{front_of}
use Rattle.starlark_lexer.proofs.Openings.{at_front, no_prefix, unopened}
use Rattle.starlark_lexer.proofs.literal.opening.Goals as goal

pub returns-then-not-may_open-clause-value : goal.returns-then-not-may_open-clause-value
returns-then-not-may_open-clause-value c = sym (unopened c.args.bytes.now (sym c.may_open.ensures ∙ c.if-not-may_open.true))

pub returns-in_err-sort-clause-value : goal.returns-in_err-sort-clause-value
returns-in_err-sort-clause-value c =
    c.from_residual.ensures ∙ sym (no_prefix c.args.bytes.now c.front.result.now c.letters-len.result c.prefix.result c.front.ensures.value c.letters-len.ensures.value c.prefix.ensures c.in_err-sort.was)

pub returns-in_err-quote-clause-value : goal.returns-in_err-quote-clause-value
returns-in_err-quote-clause-value c =
    let n = c.letters-len.result in
    let found = at_front c.args.bytes.now c.front.result.now n c.prefix.result c.quote_front.result c.front.ensures.value c.letters-len.ensures.value c.prefix.ensures c.quote_front.ensures.value in
    c.from_residual-in_err-quote.ensures ∙ sym (found ∙ (λ j. front_of (c.in_ok-sort.was j) (c.in_err-quote.was j) n))

pub returns-clause-value : goal.returns-clause-value
returns-clause-value c =
    let n = c.letters-len.result in
    let found = at_front c.args.bytes.now c.front.result.now n c.prefix.result c.quote_front.result c.front.ensures.value c.letters-len.ensures.value c.prefix.ensures c.quote_front.ensures.value in
    ap (λ m. Some (record { sort = c.in_ok-sort.sort; raw = c.in_ok-sort.raw; quote = c.in_ok-quote.quote }, n + m)) c.quotes.ensures ∙ sym (found ∙ (λ j. front_of (c.in_ok-sort.was j) (c.in_ok-quote.was j) n))
