use Rattle.std.proofs.Common.{◌≡◌, ◌+◌, ◌%◌, ℕ, List, length, replicate, ltb, ap, ◌∙◌, arith, w8}
use lib.Count.{ones}
use lib.Lanes.{zip2}
use Rattle.std.specs.List.{count_by}
use Rattle.std.proofs.lemmas.List.{length-map}
use Rattle.std.proofs.lemmas.Simd.{bitmask_splat, ones-mask_l, below_from_Fits}
use Rattle.starlark_place.proofs.Counts.{turned_lanes, characters-turned}
use Rattle.starlark_place.proofs.count.block_chars.Goals as goal

abbrev turned : List ℕ → List ℕ
turned block = zip2 (λ a b. (a + b) % 256) block (replicate 32 64)

long : (block : List ℕ) → length block ≡ 32 → length (turned block) ≡ 32
long block h = ap length (turned_lanes block h) ∙ (length-map block (λ x. (x + 64) % 256) ∙ h)

pub returns : goal.returns
returns c =
    ap ones (bitmask_splat w8 ltb (turned c.args.block) 32 192 (long c.args.block c.requires) (omega arith))
    ∙ (ones-mask_l (λ x. ltb x 192) (turned c.args.block)
    ∙ (ap (count_by (λ x. ltb x 192)) (turned_lanes c.args.block c.requires) ∙ characters-turned c.args.block (below_from_Fits w8 c.args.block c.fits-block.1)))
