use Rattle.std.proofs.Common.{eqb, ap, ◌∙◌, arith, w8}
use lib.Count.{ones}
use Rattle.std.proofs.lemmas.Simd.{bitmask_splat, ones-mask_l}
use Rattle.starlark_place.proofs.count.block_bytes.Goals as goal

pub returns : goal.returns
returns c =
    ap ones (bitmask_splat w8 eqb c.args.block 32 c.args.byte c.requires (omega arith)) ∙ ones-mask_l (λ x. eqb x c.args.byte) c.args.block
