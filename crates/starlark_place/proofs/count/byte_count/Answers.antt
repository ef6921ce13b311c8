use Rattle.std.proofs.Common.{◌≡◌, ◌-◌, length, take, drop, eqb, arith}
use Rattle.std.specs.List.{count_by}
use Rattle.std.proofs.lemmas.Simd.{length-chunk}
use Rattle.starlark_place.proofs.Counts.{count_by-chunk, count_by-rest}
use Rattle.starlark_place.proofs.count.byte_count.Goals as goal

pub block_bytes-requires : goal.block_bytes-requires
block_bytes-requires c = length-chunk c.loop-at.at 32 c.args.text.now (omega arith)

pub loop-at-preserved : goal.loop-at-preserved
loop-at-preserved c =
    let more = count_by-chunk (λ b. eqb b c.args.byte) c.args.text.now c.loop-at.at 32 in
    (omega arith, omega (arith, c.block_bytes.ensures))

pub returns : goal.returns
returns c =
    let rest = count_by-rest (λ b. eqb b c.args.byte) c.args.text.now c.loop-at.at in
    let e : c.rest_bytes.result ≡ count_by (λ b. eqb b c.args.byte) (take (length c.args.text.now - c.loop-at.at) (drop c.loop-at.at c.args.text.now)) = c.rest_bytes.ensures in
    omega arith
