use Rattle.std.proofs.Common.{◌≡◌, ◌+◌, ◌*◌, take, arith, get_or, sym, ◌∙◌}
use Rattle.std.specs.Char.{digit_value}
use Rattle.std.specs.Str.Parse.{digits_value}
use Rattle.std.proofs.lemmas.Int.Digits.{digits_value_more}
use Rattle.std.proofs.lemmas.Str.Parse.{digits_value-take-le}
use Rattle.starlark_lexer.proofs.number.magnitude.Goals as goal

pub returns-then-value-gt2147483648 : goal.returns-then-value-gt2147483648
returns-then-value-gt2147483648 c =
    let base = c.args.base in
    let ds = c.args.digits.now in
    let i = c.loop-digit.digit-index in
    let more : digits_value base (take (i + 1) ds) ≡ digits_value base (take i ds) * base + digit_value (get_or ds i 0) = digits_value_more base ds i (omega arith) in
    let step : c.loop-digit.value * c.from.result + c.from-in-loop-digit.result ≡ digits_value base (take (i + 1) ds) =
    (λ j. c.loop-digit.invariant.0 j * c.from.ensures j + (c.from-in-loop-digit.ensures ∙ c.digit_value.ensures.value) j) ∙ sym more in
    omega (arith, step, digits_value-take-le base ds (i + 1) (omega arith))

pub loop-digit-preserved : goal.loop-digit-preserved
loop-digit-preserved c =
    let base = c.args.base in
    let ds = c.args.digits.now in
    let i = c.loop-digit.digit-index in
    let more : digits_value base (take (i + 1) ds) ≡ digits_value base (take i ds) * base + digit_value (get_or ds i 0) = digits_value_more base ds i (omega arith) in
    let step : c.loop-digit.value * c.from.result + c.from-in-loop-digit.result ≡ digits_value base (take (i + 1) ds) =
    (λ j. c.loop-digit.invariant.0 j * c.from.ensures j + (c.from-in-loop-digit.ensures ∙ c.digit_value.ensures.value) j) ∙ sym more in
    (step, omega arith)
