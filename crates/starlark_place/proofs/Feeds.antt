-- From one line feed to the next.
use Rattle.std.proofs.Common.{◌≡◌, ◌<◌, ℕ, ◌+◌, not, List, [], ◌∷◌, length, drop, refl, ap, ◌∙◌, arith, zero, suc, inl, inr, eqb}
use Rattle.std.specs.List.{prefix_len}
use Rattle.std.proofs.lemmas.Bool.{cases_Bool}
use Rattle.std.proofs.lemmas.List.{drop-drop, length-drop}
use Rattle.starlark_place.specs.Place.{is_feed}
use Rattle.starlark_place.specs.Lines.{behind_feeds}

feeds_run : (i n : ℕ) (xs : List ℕ) → n ≡ prefix_len (λ b. not (is_feed b)) xs → n < length xs → behind_feeds i xs ≡ (i + suc n) ∷ behind_feeds (i + suc n) (drop (suc n) xs)
feeds_run i n [] = λ e h. absurd (omega arith)
feeds_run i zero (b ∷ bs) =
    elim (cases_Bool (eqb b 10)) [ inl f ↦ rw f (λ e h. refl) | inr f ↦ rw f (λ e h. absurd (omega arith)) ]
feeds_run i (suc n) (b ∷ bs) =
    elim (cases_Bool (eqb b 10)) [
      | inl f ↦ rw f (λ e h. absurd (omega arith))
      | inr f ↦ rw f (λ e h. feeds_run (i + 1) n bs (omega arith) (omega arith) ∙ ap (λ k. k ∷ behind_feeds k (drop (suc n) bs)) (omega arith))
    ]

feeds_none : (i : ℕ) (xs : List ℕ) → prefix_len (λ b. not (is_feed b)) xs ≡ length xs → behind_feeds i xs ≡ []
feeds_none i [] = λ e. refl
feeds_none i (b ∷ bs) =
    elim (cases_Bool (eqb b 10)) [ inl f ↦ rw f (λ e. absurd (omega arith)) | inr f ↦ rw f (λ e. feeds_none (i + 1) bs (omega arith)) ]

-- the next line begins behind the next feed
pub feeds_on : (text : List ℕ) (at n : ℕ) → n ≡ prefix_len (λ b. not (is_feed b)) (drop at text) → at + n < length text → behind_feeds at (drop at text) ≡ (at + n + 1) ∷ behind_feeds (at + n + 1) (drop (at + n + 1) text)
feeds_on text at n e h =
    feeds_run at n (drop at text) e (omega (arith, length-drop at text))
    ∙ ap (λ rest. (at + suc n) ∷ behind_feeds (at + suc n) rest) (drop-drop (suc n) at text)
    ∙ ap (λ k. k ∷ behind_feeds k (drop k text)) (omega arith)

pub feeds_end : (text : List ℕ) (at n : ℕ) → n ≡ prefix_len (λ b. not (is_feed b)) (drop at text) → at + n ≡ length text → behind_feeds at (drop at text) ≡ []
feeds_end text at n e h = feeds_none at (drop at text) (omega (arith, length-drop at text))
