use Rattle.std.proofs.Common.{◌+◌, ◌*◌, arith}
use Rattle.starlark_lexer.proofs.Digits.{More, one_more}
use Rattle.starlark_lexer.proofs.escape.digits.Goals as goal

pub overflow_mul-value : goal.overflow_mul-value
overflow_mul-value c =
    let kept = c.loop-end.invariant in
    let more : More c.args.base c.args.bytes.now c.loop-end.end (c.loop-end.value * c.args.base + c.in-Some.digit) =
    one_more c.args.base c.args.bytes.now c.loop-end.end c.loop-end.value c.in-Some.digit c.requires.lower_bound c.requires.upper_bound c.requires.short c.loop-end-test.true kept.digits kept.value c.in-Some.ensures.value.0 c.in-Some.ensures.value.1 in
    omega (arith, more.small)

pub overflow_add-value : goal.overflow_add-value
overflow_add-value c =
    let kept = c.loop-end.invariant in
    let more : More c.args.base c.args.bytes.now c.loop-end.end (c.loop-end.value * c.args.base + c.in-Some.digit) =
    one_more c.args.base c.args.bytes.now c.loop-end.end c.loop-end.value c.in-Some.digit c.requires.lower_bound c.requires.upper_bound c.requires.short c.loop-end-test.true kept.digits kept.value c.in-Some.ensures.value.0 c.in-Some.ensures.value.1 in
    omega (arith, more.small)

pub loop-end-preserved : goal.loop-end-preserved
loop-end-preserved c =
    let kept = c.loop-end.invariant in
    let more : More c.args.base c.args.bytes.now c.loop-end.end (c.loop-end.value * c.args.base + c.in-Some.digit) =
    one_more c.args.base c.args.bytes.now c.loop-end.end c.loop-end.value c.in-Some.digit c.requires.lower_bound c.requires.upper_bound c.requires.short c.loop-end-test.true kept.digits kept.value c.in-Some.ensures.value.0 c.in-Some.ensures.value.1 in
    record { len = omega (arith, more.len, kept.len); value = more.value; digits = more.digits; within = omega arith; paid = omega (arith, kept.paid); looked = record { up = omega (arith, kept.looked); least = omega (arith, kept.looked) } }
