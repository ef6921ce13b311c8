use Rattle.std.proofs.Common.{arith, sym, ◌∙◌}
use Rattle.starlark_lexer.specs.Classes.{begins}
use Rattle.starlark_lexer.proofs.Openings.{opening_some}
use Rattle.starlark_lexer.proofs.Paid.{two_at_most}
use Rattle.starlark_lexer.proofs.scan.scan.Goals as goal

pub returns-in-Some-clause-paid : goal.returns-in-Some-clause-paid
returns-in-Some-clause-paid c =
    let found = opening_some c.args.bytes.now c.in-Some.form c.in-Some.len (sym c.opening.ensures.value ∙ c.in-Some.is) in
    omega (arith, c.in-Some.ensures.paid, found.nonempty, two_at_most (begins 92 c.args.bytes.now))
