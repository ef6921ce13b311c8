use Rattle.std.proofs.Common.{◌≡◌, arith, sym, ◌∙◌}
use Rattle.std.proofs.lemmas.Simd.{length-chunk}
use Rattle.starlark_lexer.specs.Classes.{is_word_byte}
use Rattle.starlark_place.proofs.Blocks.{run_through, run_stops}
use Rattle.starlark_lexer.proofs.blocks.word_len.Goals as goal

pub block_word_len-len-requires : goal.block_word_len-len-requires
block_word_len-len-requires c = length-chunk c.loop-at.at 16 c.args.bytes.now (omega arith)

pub returns-then-len-lt-LANES-clause-value : goal.returns-then-len-lt-LANES-clause-value
returns-then-len-lt-LANES-clause-value c =
    let len = c.block_word_len-len in
    omega (arith, run_stops is_word_byte c.args.bytes.now c.loop-at.at 16 (omega arith) (omega (arith, len.ensures.value)), len.ensures.value, c.loop-at.invariant.0)

pub loop-at-preserved : goal.loop-at-preserved
loop-at-preserved c =
    let len = c.block_word_len-len in
    let whole : len.result ≡ 16 = omega (arith, len.ensures.within) in
    rw whole (omega (arith, run_through is_word_byte c.args.bytes.now c.loop-at.at 16 (omega arith) (sym len.ensures.value ∙ whole), c.loop-at.invariant.0), omega arith)
