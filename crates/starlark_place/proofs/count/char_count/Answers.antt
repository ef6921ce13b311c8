use Rattle.std.proofs.Common.{not, arith}
use Rattle.std.proofs.lemmas.Simd.{length-chunk}
use Rattle.starlark_place.specs.Place.{is_continuation}
use Rattle.starlark_place.proofs.Counts.{count_by-chunk, count_by-rest}
use Rattle.starlark_place.proofs.count.char_count.Goals as goal

pub block_chars-requires : goal.block_chars-requires
block_chars-requires c = length-chunk c.loop-at.at 32 c.args.text.now (omega arith)

pub loop-at-preserved : goal.loop-at-preserved
loop-at-preserved c =
    let more = count_by-chunk (λ b. not (is_continuation b)) c.args.text.now c.loop-at.at 32 in
    (omega arith, omega (arith, c.block_chars.ensures))

pub returns : goal.returns
returns c =
    let rest = count_by-rest (λ b. not (is_continuation b)) c.args.text.now c.loop-at.at in
    omega (arith, c.rest_chars.ensures)
