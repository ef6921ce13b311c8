use Rattle.std.proofs.Common.{sym, ◌∙◌, ap}
use Rattle.starlark_lexer.specs.Number.{is_small, value}
use Rattle.starlark_lexer.proofs.Numbers.{small_number, big_number}
use Rattle.starlark_lexer.proofs.token.TokenInt.of_digits.Goals as goal

pub returns-in-Some : goal.returns-in-Some
returns-in-Some c =
    let same = c.in-Some.ensures.0 ∙ ap (value c.args.negative c.args.base) c.as_bytes.ensures.value in
    small_number c.args.negative c.args.base c.args.digits.now c.in-Some.value same c.in-Some.ensures.1

pub returns : goal.returns
returns c =
    let large = ap (λ ds. is_small (value c.args.negative c.args.base ds)) (sym c.as_bytes.ensures.value) ∙ c.in_default.ensures in
    big_number c.args.negative c.args.base c.args.digits.now _ c.in_ok-shortest.ensures large
