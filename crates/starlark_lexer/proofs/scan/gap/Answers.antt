use Rattle.std.proofs.Common.{◌≡◌, arith, sym, ◌∙◌, ap, drop}
use Rattle.std.proofs.lemmas.List.{take_rest}
use Rattle.starlark_lexer.specs.Scan.{pass}
use Rattle.starlark_lexer.proofs.Gaps.{gap_on, gap_stop}
use Rattle.starlark_lexer.proofs.scan.gap.Goals as goal

pub returns-then-len-eq0-clause-value : goal.returns-then-len-eq0-clause-value
returns-then-len-eq0-clause-value c =
    let is : c.pass-len.result ≡ pass c.args.joined (drop c.loop-reads.end c.args.bytes.now) = c.pass-len.ensures.value ∙ ap (pass c.args.joined) (take_rest c.args.bytes.now c.loop-reads.end) in
    omega (arith, gap_stop c.args.joined (drop c.loop-reads.end c.args.bytes.now) (sym is ∙ c.if-len-eq0.true))

pub loop-reads-preserved : goal.loop-reads-preserved
loop-reads-preserved c =
    let is : c.pass-len.result ≡ pass c.args.joined (drop c.loop-reads.end c.args.bytes.now) = c.pass-len.ensures.value ∙ ap (pass c.args.joined) (take_rest c.args.bytes.now c.loop-reads.end) in
    (gap_on c.args.joined c.args.bytes.now c.loop-reads.end c.pass-len.result is (omega arith) ∙ c.loop-reads.invariant.0, (omega arith, (omega (arith, c.pass-len.ensures.on (omega arith)), omega arith)))
