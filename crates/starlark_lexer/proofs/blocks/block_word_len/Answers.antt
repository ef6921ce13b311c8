use Rattle.std.proofs.Common.{ℕ, leb, cond, bit_and, arith, refl}
use Rattle.std.proofs.lemmas.List.Sums.{prefix_len-le-length}
use Rattle.std.proofs.lemmas.Simd.{zip2_splat, zip2_of_maps, splat_is_map}
use Rattle.starlark_lexer.specs.Classes.{is_word_byte}
use Rattle.starlark_lexer.proofs.Lanes.{first_failing}
use Rattle.starlark_lexer.proofs.blocks.block_word_len.Goals as goal

pub returns-clause-value : goal.returns-clause-value
returns-clause-value c =
    let v = c.args.block in
    let long = c.requires in
    first_failing is_word_byte _ v _ c.first_set.result long c.fits-block.1 c.first_set.ensures
    (zip2_of_maps bit_and _ _ v
    (zip2_of_maps bit_and _ _ v
    (zip2_of_maps (λ a b. cond (leb a b) 255 0) _ _ v (splat_is_map v 16 26 long) (zip2_of_maps _ _ _ v (zip2_splat {Y = ℕ} _ v 16 32 long) (splat_is_map v 16 97 long)))
    (zip2_of_maps (λ a b. cond (leb a b) 255 0) _ _ v (splat_is_map v 16 10 long) (zip2_splat {Y = ℕ} _ v 16 48 long)))
    (zip2_splat {Y = ℕ} _ v 16 95 long)) refl

pub returns-clause-within : goal.returns-clause-within
returns-clause-within c = omega (arith, returns-clause-value c, prefix_len-le-length is_word_byte c.args.block, c.requires)
