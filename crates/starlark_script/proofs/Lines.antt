-- Lines, words and numbers.
use Rattle.std.proofs.Common.{◌≡◌, ℕ, ◌+◌, ◌-◌, ◌*◌, ◌<◌, ◌≤◌, length, get_or, set, false, None, Some, List, [], ◌∷◌, ◌++◌, take, drop, refl, sym, ◌∙◌, ap, take_all, arith, nat_eq, drop-cons, add-one}
use Rattle.std.proofs.lemmas.List.{take-append-drop, take_more, take_more_set}
use Rattle.std.proofs.lemmas.Bool.Decides.{nat_tests}
use Rattle.std.proofs.lemmas.Bool.{cases_Bool}
use Rattle.std.proofs.Common.{inl, inr}
use Rattle.starlark_script.specs.Script.{value_from, number_of, spells, command_of, words, onto_first, first_line, behind}

-- x does not stand there
abbrev pub No : ℕ → List ℕ → Type 0
No x [] = Unit {0}
No x (b ∷ bs) = (b ≡ x → ⊥) × No x bs

pub no_more : (x : ℕ) (bs : List ℕ) (b : ℕ) → No x bs → (b ≡ x → ⊥) → No x (bs ++ b ∷ [])
no_more x [] b h n = (n, tt)
no_more x (c ∷ bs) b h n = (h.0, no_more x bs b h.1 n)

pub other : (a b : ℕ) → (a ≡ b → ⊥) → nat_eq a b ≡ false
other a b h = grind (arith, nat_tests)

pub words_split : (w rest : List ℕ) → No 32 w → words (w ++ 32 ∷ rest) ≡ w ∷ words rest
words_split [] rest h = refl
words_split (b ∷ w) rest h = rw (other b 32 h.0) (ap (onto_first b) (words_split w rest h.1))

pub words_one : (w : List ℕ) → No 32 w → words w ≡ w ∷ []
words_one [] h = refl
words_one (b ∷ w) h = rw (other b 32 h.0) (ap (onto_first b) (words_one w h.1))

pub line_found : (w rest : List ℕ) → No 10 w → first_line (w ++ 10 ∷ rest) ≡ Some (w, rest)
line_found [] rest h = refl
line_found (b ∷ w) rest h = rw (other b 10 h.0) (ap (behind b) (line_found w rest h.1))

pub line_none : (w : List ℕ) → No 10 w → first_line w ≡ None
line_none [] h = refl
line_none (b ∷ w) h = rw (other b 10 h.0) (ap (behind b) (line_none w h.1))

-- Numbers.
pub grows : (n : ℕ) (bs : List ℕ) → n ≤ value_from n bs
grows n [] = omega arith
grows n (b ∷ bs) = let h = grows (n * 10 + (b - 48)) bs in omega (arith, h)

not_spelled : (ds : List ℕ) → spells ds ≡ false → number_of ds ≡ None
not_spelled ds h = rw h refl

pub too_great : (v i : ℕ) (ds : List ℕ) → 4294967295 < v → value_from v (drop i ds) ≡ value_from 0 ds → number_of ds ≡ None
too_great v i ds l h =
    let g : 4294967295 < value_from 0 ds = omega (arith, grows v (drop i ds), h) in
    not_spelled ds (grind (arith, nat_tests))

pub some_word : (bs : List ℕ) → (w : List ℕ) × (ws : List (List ℕ)) × (words bs ≡ w ∷ ws)
some_word [] = ([], [], refl)
some_word (b ∷ bs) = elim (cases_Bool (nat_eq b 32)) [ inl e ↦ ([], words bs, rw e refl) | inr e ↦ (let s = some_word bs in (b ∷ s.0, s.1, rw (e, s.2) refl)) ]

pub four_words : (line word rest index count w more : List ℕ) → words line ≡ word ∷ words rest → words rest ≡ index ∷ words count → words count ≡ w ∷ words more → command_of line ≡ None
four_words line word rest index count w more e f g = let s = some_word more in rw (e, f, g, s.2) refl

pub more_at : (x i : ℕ) (bs : List ℕ) → No x (take i bs) → i < length bs → (get_or bs i 0 ≡ x → ⊥) → No x (take (i + 1) bs)
more_at x i bs h l n = rw (take_more bs i 0 l) (no_more x (take i bs) (get_or bs i 0) h n)

pub split_at : (i : ℕ) (bs : List ℕ) → No 32 (take i bs) → i < length bs → get_or bs i 0 ≡ 32 → words bs ≡ take i bs ∷ words (drop (i + 1) bs)
split_at i bs h l e =
    let whole : bs ≡ take i bs ++ 32 ∷ drop (i + 1) bs = sym (take-append-drop i bs) ∙ ap (λ z. take i bs ++ z) (drop-cons bs i 0 l ∙ rw (e, add-one) refl) in
    ap words whole ∙ words_split (take i bs) (drop (i + 1) bs) h

pub whole_at : (i : ℕ) (bs : List ℕ) → No 32 (take i bs) → length bs ≤ i → words bs ≡ bs ∷ []
whole_at i bs h l = words_one bs (rw (take_all i bs l) at h)

pub more_set_at : (x i b : ℕ) (bs : List ℕ) → No x (take i bs) → i < length bs → (b ≡ x → ⊥) → No x (take (i + 1) (set bs i b))
more_set_at x i b bs h l n = rw (take_more_set bs i b l) (no_more x (take i bs) b h n)
