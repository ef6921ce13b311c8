use Rattle.std.proofs.Common.{◌≡◌, ◌-◌, length, arith, subst}
use Rattle.starlark_lexer.specs.Format.{Pieces}
use Rattle.starlark_lexer.specs.FormatScan.{parsed}
use Rattle.starlark_lexer.proofs.Reading.{sound}
use Rattle.starlark_lexer.proofs.format.FormatParser.new.Goals as goal

pub returns-clause-left : goal.returns-clause-left
returns-clause-left c =
    let text = c.args.s.now in
    let none : 0 ≡ length text - length text = omega arith in
    subst (λ i. Pieces 0 text (parsed i 0 text)) none (sound text)
