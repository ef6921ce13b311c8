use Rattle.std.proofs.Common.{◌+◌, ◌∙◌}
use Rattle.starlark_lexer.specs.Literals.{escaped}
use Rattle.starlark_lexer.proofs.Digits.{found_len, found_value}
use Rattle.starlark_lexer.proofs.escape.octal_escape.Goals as goal

pub returns-clause-value : goal.returns-clause-value
returns-clause-value c =
    let n = found_len 8 3 c.args.rest.now c.front.result.now c.digits-value.result.1 c.front.ensures.value c.digits-value.ensures.len in
    let v = found_value 8 3 c.args.rest.now c.front.result.now c.digits-value.result.1 c.digits-value.result.0 c.front.ensures.value c.digits-value.ensures.len c.digits-value.ensures.value in
    c.escaped.ensures.value ∙ (λ j. escaped c.args.sort (v j) (1 + n j) c.args.rest.now)
