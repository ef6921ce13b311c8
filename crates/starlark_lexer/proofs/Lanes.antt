-- The lanes of a block of bytes.
use Rattle.std.proofs.Common.{◌≡◌, ℕ, ◌%◌, ◌^◌, Bool, true, false, not, cond, eqb, List, [], ◌∷◌, map, length, refl, ap, ap₂, ◌∙◌, arith, w8, Fits}
use Rattle.std.specs.List.{prefix_len}
use Rattle.std.proofs.lemmas.Bool.{agree_below, agree_below_at}
use Rattle.std.proofs.lemmas.List.{length-map}
use Rattle.std.proofs.lemmas.Simd.{mask_l-mod, first_set_mask_l}
use lib.Count.{count_trailing_zeros}
use lib.Lanes.{mask_l, top, Each1}

-- The first of a block's lanes that fails p, in a mask that was computed lane by lane.
pub first_failing : (p : ℕ → Bool) (f : ℕ → ℕ) (v z : List ℕ) (r : ℕ) → length v ≡ 16 → Each1 (Fits w8) v → r ≡ cond (eqb (mask_l (map (top 7) z) % 2 ^ 64) 0) 16 (count_trailing_zeros 64 (mask_l (map (top 7) z) % 2 ^ 64)) → z ≡ map f v
    → agree_below (λ x. top 7 (f x)) (λ x. not (p x)) 256 ≡ true → r ≡ prefix_len p v
first_failing p f v z r long fits e lanes all =
    e ∙ ap (λ m. cond (eqb m 0) 16 (count_trailing_zeros 64 m)) mask ∙ first_set_mask_l (λ x. not (p x)) v 16 long (omega arith) ∙ (λ i. prefix_len (λ x. twice (p x) i) v)
  where
    each : (v : List ℕ) → Each1 (Fits w8) v → map (top 7) (map f v) ≡ map (λ x. not (p x)) v
    each [] h = refl
    each (x ∷ xs) h = ap₂ (λ a b. a ∷ b) (agree_below_at (λ y. top 7 (f y)) (λ y. not (p y)) 256 x all h.0.fits) (each xs h.1)

    mask : mask_l (map (top 7) z) % 2 ^ 64 ≡ mask_l (map (λ x. not (p x)) v)
    mask = ap (λ l. mask_l l % 2 ^ 64) (ap (map (top 7)) lanes ∙ each v fits) ∙ mask_l-mod (map (λ x. not (p x)) v) 64 (omega (arith, length-map v (λ x. not (p x))))

    twice : (b : Bool) → not (not b) ≡ b
    twice true = refl
    twice false = refl
