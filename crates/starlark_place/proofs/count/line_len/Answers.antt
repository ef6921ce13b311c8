use Rattle.std.proofs.Common.{◌≡◌, not, arith, sym, ◌∙◌}
use Rattle.std.proofs.lemmas.Simd.{length-chunk}
use Rattle.starlark_place.specs.Place.{is_feed}
use Rattle.starlark_place.proofs.Blocks.{run_through, run_stops}
use Rattle.starlark_place.proofs.count.line_len.Goals as goal

pub block_line_len-len-requires : goal.block_line_len-len-requires
block_line_len-len-requires c = length-chunk c.loop-at.at 32 c.args.text.now (omega arith)

pub returns-then-len-lt-LANES-clause-value : goal.returns-then-len-lt-LANES-clause-value
returns-then-len-lt-LANES-clause-value c =
    let len = c.block_line_len-len in
    omega (arith, run_stops (λ b. not (is_feed b)) c.args.text.now c.loop-at.at 32 (omega arith) (omega (arith, len.ensures.value)), len.ensures.value, c.loop-at.invariant.0)

pub loop-at-preserved : goal.loop-at-preserved
loop-at-preserved c =
    let len = c.block_line_len-len in
    let whole : len.result ≡ 32 = omega (arith, len.ensures.within) in
    rw whole (omega (arith, run_through (λ b. not (is_feed b)) c.args.text.now c.loop-at.at 32 (omega arith) (sym len.ensures.value ∙ whole), c.loop-at.invariant.0), omega arith)
