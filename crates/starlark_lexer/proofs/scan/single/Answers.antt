use Rattle.std.proofs.Common.{sym, ◌∙◌, arith}
use Rattle.starlark_lexer.proofs.Singles.{single_of, ends_one, ends_more}
use Rattle.starlark_lexer.proofs.scan.single.Goals as goal

pub returns-in-len1 : goal.returns-in-len1
returns-in-len1 c = single_of c.args.bytes.now c.alone.result (omega (arith, c.in-len1.len_at_least)) (ends_one c.args.bytes.now (omega (arith, c.in-len1.len_at_least, c.in-len1.len_below))) c.alone.ensures

pub returns-in-len2-up : goal.returns-in-len2-up
returns-in-len2-up c = single_of c.args.bytes.now c.alone-in-len2-up.result (omega (arith, c.in-len2-up.len_at_least)) (ends_more c.args.bytes.now (omega (arith, c.in-len2-up.len_at_least)) (sym c.is_second.ensures ∙ c.if-not-is_second.true)) c.alone-in-len2-up.ensures
