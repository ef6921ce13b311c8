-- Lines and columns of two texts, one behind the other, of which the first ends in a line feed.
use Rattle.std.proofs.Common.{◌≡◌, ◌≤◌, ◌⊎◌, ℕ, ◌+◌, false, cond, List, [], ◌∷◌, ◌++◌, length, take, refl, ap, sym, ◌∙◌, arith, append_assoc, eqb, zero, suc, inl, inr}
use Rattle.std.proofs.lemmas.Bool.{cases_Bool}
use Rattle.std.proofs.lemmas.Bool.Decides.{nat_tests}
use Rattle.std.proofs.lemmas.List.{take-append-le}
use Rattle.std.proofs.lemmas.List.Sums.{sum_by-append, sum_by-cons}
use Rattle.starlark_place.specs.Place.{characters, column_at, is_feed, last_line, line_at, line_feeds}
use Rattle.starlark_place.specs.Resolved.{resolved}
use Rattle.starlark_lexer.specs.Joining.{IsClosed}

-- how much a byte counts
abbrev weight : ℕ → ℕ
weight b = cond (is_feed b) 1 0

pub feeds_append : (a b : List ℕ) → line_feeds (a ++ b) ≡ line_feeds a + line_feeds b
feeds_append a b = sum_by-append weight a b

feeds_cons : (b : ℕ) (bs : List ℕ) → line_feeds (b ∷ bs) ≡ weight b + line_feeds bs
feeds_cons b bs = sum_by-cons weight b bs

no_feed : (bs : List ℕ) → line_feeds bs ≡ 0 → last_line bs ≡ bs
no_feed [] h = refl
no_feed (b ∷ bs) h = elim (cases_Bool (is_feed b)) [
  | inl e ↦ absurd (let w : weight b ≡ 1 = rw e refl in omega (arith, feeds_cons b bs, w, h))
  | inr e ↦ let z : line_feeds bs ≡ 0 = omega (arith, feeds_cons b bs, h) in rw (z, e) refl
]

some_feeds : (n : ℕ) → 1 ≤ n → eqb n 0 ≡ false
some_feeds n h = grind (arith, nat_tests)

none_or_some : (n : ℕ) → (n ≡ 0) ⊎ (1 ≤ n)
none_or_some zero = inl refl
none_or_some (suc n) = inr (omega arith)

-- what stands behind a line feed has its own last line
feed_first : (bs : List ℕ) → last_line (10 ∷ bs) ≡ last_line bs
feed_first bs = elim (none_or_some (line_feeds bs)) [
  | inl z ↦ rw z (sym (no_feed bs z))
  | inr l ↦ rw (some_feeds (line_feeds bs) l) refl
]

last_behind : (front bs : List ℕ) → last_line (front ++ 10 ∷ bs) ≡ last_line bs
last_behind [] bs = feed_first bs
last_behind (c ∷ front) bs =
    let some : 1 ≤ line_feeds (front ++ 10 ∷ bs) = omega (arith, feeds_append front (10 ∷ bs), feeds_cons 10 bs) in
    rw (some_feeds (line_feeds (front ++ 10 ∷ bs)) some) (last_behind front bs)

-- a place of the first text
pub resolved_before : (a b : List ℕ) (p : ℕ) → p ≤ length a → resolved (a ++ b) p ≡ resolved a p
resolved_before a b p l = ap (λ t. record { line = line_feeds t; column = characters (last_line t) }) (take-append-le p a b l)

take_behind : (a b : List ℕ) (q : ℕ) → take (length a + q) (a ++ b) ≡ a ++ take q b
take_behind [] b q = let e : 0 + q ≡ q = omega arith in ap (λ k. take k b) e
take_behind (x ∷ a) b q =
    let e : length (x ∷ a) + q ≡ suc (length a + q) = omega arith in
    ap (λ k. take k (x ∷ (a ++ b))) e ∙ ap (λ t. x ∷ t) (take_behind a b q)

-- a place of the second
pub line_behind : (a b : List ℕ) (q : ℕ) → line_at (a ++ b) (length a + q) ≡ line_feeds a + line_at b q
line_behind a b q = ap line_feeds (take_behind a b q) ∙ feeds_append a (take q b)

pub column_behind : (a b : List ℕ) (q : ℕ) → IsClosed a → column_at (a ++ b) (length a + q) ≡ column_at b q
column_behind a b q h =
    let bs : List ℕ = take q b in
    ap (λ t. characters (last_line t)) (take_behind a b q ∙ ap (λ t. t ++ bs) h.line_feed ∙ append_assoc h.front (10 ∷ []) bs)
    ∙ ap characters (last_behind h.front bs)
