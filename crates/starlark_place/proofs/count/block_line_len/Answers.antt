use Rattle.std.proofs.Common.{not, eqb, sym, ap, ◌∙◌, arith, w8}
use lib.Count.{count_trailing_zeros}
use Rattle.std.proofs.lemmas.List.Sums.{prefix_len-le-length}
use Rattle.std.proofs.lemmas.Simd.{bitmask_splat, leading_from_mask_l, trailing_mask_l}
use Rattle.starlark_place.proofs.count.block_line_len.Goals as goal

pub returns-then-feeds-eq0-clause-value : goal.returns-then-feeds-eq0-clause-value
returns-then-feeds-eq0-clause-value c =
    let mask = bitmask_splat w8 eqb c.args.block 32 10 c.requires (omega arith) in
    omega (arith, leading_from_mask_l (λ x. eqb x 10) c.args.block (sym mask ∙ c.if-feeds-eq0.true), c.requires)

pub returns-else-feeds-eq0-clause-value : goal.returns-else-feeds-eq0-clause-value
returns-else-feeds-eq0-clause-value c =
    let mask = bitmask_splat w8 eqb c.args.block 32 10 c.requires (omega arith) in
    ap (count_trailing_zeros 64) mask ∙ trailing_mask_l (λ x. eqb x 10) 64 c.args.block (omega (arith, c.requires)) (omega (arith, mask, c.if-feeds-eq0.false))

pub returns-else-feeds-eq0-clause-within : goal.returns-else-feeds-eq0-clause-within
returns-else-feeds-eq0-clause-within c =
    omega (arith, returns-else-feeds-eq0-clause-value c, prefix_len-le-length (λ x. not (eqb x 10)) c.args.block, c.requires)
