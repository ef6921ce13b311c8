use Rattle.std.proofs.Common.{◌≤◌, sym, ◌∙◌, arith}
use Rattle.starlark_lexer.proofs.Tables.{row_short}
use Rattle.starlark_lexer.proofs.scan.operator.Goals as goal

pub returns-in-Some-operator_in-clause-looked : goal.returns-in-Some-operator_in-clause-looked
returns-in-Some-operator_in-clause-looked c =
    let row = c.in-Some-operator_in in
    let short : row.len ≤ 3 = row_short c.args.bytes.now _ _ (sym row.is ∙ c.operator_in.ensures) in
    record { up = omega arith; least = omega arith }
