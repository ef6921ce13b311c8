use Rattle.std.proofs.Common.{arith, refl}
use Rattle.std.proofs.lemmas.List.Sums.{prefix_len-le-length}
use Rattle.std.proofs.lemmas.Simd.{zip2_splat, zip2_of_maps}
use Rattle.starlark_lexer.specs.Fronts.{is_plain}
use Rattle.starlark_lexer.proofs.Lanes.{first_failing}
use Rattle.starlark_lexer.proofs.blocks.block_plain_len.Goals as goal

pub returns-clause-value : goal.returns-clause-value
returns-clause-value c =
    let v = c.args.block in
    let long = c.requires in
    first_failing is_plain _ v _ c.first_set.result long c.fits-block.1 c.first_set.ensures
    (zip2_of_maps _ _ _ v
    (zip2_of_maps _ _ _ v
    (zip2_of_maps _ _ _ v (zip2_of_maps _ _ _ v (zip2_splat _ v 16 10 long) (zip2_splat _ v 16 13 long)) (zip2_of_maps _ _ _ v (zip2_splat _ v 16 34 long) (zip2_splat _ v 16 39 long)))
    (zip2_of_maps _ _ _ v (zip2_splat _ v 16 123 long) (zip2_splat _ v 16 125 long)))
    (zip2_splat _ v 16 92 long)) refl

pub returns-clause-within : goal.returns-clause-within
returns-clause-within c = omega (arith, returns-clause-value c, prefix_len-le-length is_plain c.args.block, c.requires)
