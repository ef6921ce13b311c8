-- A run of bytes that pass a test, a block at a time.
use Rattle.std.proofs.Common.{◌≡◌, ◌<◌, ◌≤◌, ℕ, ◌+◌, Bool, cond, eqb, List, length, drop, ap, ◌∙◌, arith}
use Rattle.std.specs.List.{prefix_len}
use Rattle.std.proofs.lemmas.Bool.{eq-eqb, ne_eqb}
use Rattle.std.proofs.lemmas.List.Folds.{prefix_len-append}
use Rattle.std.proofs.lemmas.Simd.{chunk-drop, length-chunk}
use lib.Lanes.{chunk}

module _ (p : ℕ → Bool) (text : List ℕ) (at n : ℕ) (room : at + n ≤ length text) where
  split : prefix_len p (drop at text) ≡ cond (eqb (prefix_len p (chunk at n text)) (length (chunk at n text))) (length (chunk at n text) + prefix_len p (drop (at + n) text)) (prefix_len p (chunk at n text))
  split = ap (prefix_len p) (chunk-drop at n text) ∙ prefix_len-append p (chunk at n text) (drop (at + n) text)

  -- a run that goes on behind the block
  pub run_through : prefix_len p (chunk at n text) ≡ n → prefix_len p (drop at text) ≡ n + prefix_len p (drop (at + n) text)
  run_through e =
      let c = chunk at n text in
      let long = length-chunk at n text room in
      split ∙ ap (λ b. cond b (length c + prefix_len p (drop (at + n) text)) (prefix_len p c)) (eq-eqb _ _ (omega arith)) ∙ ap (λ k. k + prefix_len p (drop (at + n) text)) long

  -- and one that ends in it
  pub run_stops : prefix_len p (chunk at n text) < n → prefix_len p (drop at text) ≡ prefix_len p (chunk at n text)
  run_stops h =
      let c = chunk at n text in
      let long = length-chunk at n text room in
      split ∙ ap (λ b. cond b (length c + prefix_len p (drop (at + n) text)) (prefix_len p c)) (ne_eqb _ _ (λ (e : prefix_len p c ≡ length c). omega arith))
