-- Of two places of a text, at the first of which a character begins, the earlier has the smaller line and column.
use Rattle.std.proofs.Common.{◌≡◌, ◌<◌, ◌≤◌, ℕ, ◌+◌, false, not, cond, List, [], ◌∷◌, length, take, get_or, arith, zero, suc, inl, inr, eqb}
use Rattle.std.specs.List.{count_by}
use Rattle.std.proofs.lemmas.Bool.{cases_Bool, cases_lt}
use Rattle.std.proofs.lemmas.List.Sums.{sum_by-cons}
use Rattle.starlark_place.specs.Place.{is_feed, is_continuation, characters, last_line, line_at}
use Rattle.starlark_place.specs.Resolved.{resolved, IsBefore}
use Rattle.starlark_place.proofs.Lines.{feeds-more, no_feed, same_feeds}

characters-cons : (b : ℕ) (bs : List ℕ) → characters (b ∷ bs) ≡ cond (not (is_continuation b)) 1 0 + characters bs
characters-cons b bs = sum_by-cons (λ x. cond (not (is_continuation x)) 1 0) b bs

-- a character begins there
one_more : (b : ℕ) (bs : List ℕ) → is_continuation b ≡ false → 0 < characters (b ∷ bs)
one_more b bs h = rw (characters-cons b bs, h) (omega arith)

characters-less : (text : List ℕ) (i j : ℕ) → i < j → j ≤ length text → is_continuation (get_or text i 0) ≡ false → characters (take i text) < characters (take j text)
characters-less [] i j h k a = absurd (omega (arith, h, k))
characters-less (b ∷ bs) i zero h k a = absurd (omega (arith, h))
characters-less (b ∷ bs) zero (suc j) h k a = one_more b (take j bs) a
characters-less (b ∷ bs) (suc i) (suc j) h k a =
    let m = characters-less bs i j (omega arith) (omega arith) a in
    rw (characters-cons b (take i bs), characters-cons b (take j bs)) (omega arith)

columns-step : (b : ℕ) (xs ys : List ℕ) → characters xs < characters ys → count_by is_feed xs ≡ count_by is_feed ys → (count_by is_feed xs ≡ count_by is_feed ys → characters (last_line xs) < characters (last_line ys)) → characters (last_line (b ∷ xs)) < characters (last_line (b ∷ ys))
columns-step b xs ys more same later =
    elim (cases_Bool (eqb (count_by is_feed ys) 0)) [
      | inl z ↦ rw (same, z) (elim (cases_Bool (eqb b 10)) [
        | inl e ↦ rw e more
        | inr e ↦ rw e (rw (characters-cons b xs, characters-cons b ys) (omega arith))
      ])
      | inr z ↦ rw (same, z) (later same)
    ]

columns-less : (text : List ℕ) (i j : ℕ) → i < j → j ≤ length text → is_continuation (get_or text i 0) ≡ false → count_by is_feed (take i text) ≡ count_by is_feed (take j text) → characters (last_line (take i text)) < characters (last_line (take j text))
columns-less [] i j h k a = λ e. absurd (omega (arith, h, k))
columns-less (b ∷ bs) i zero h k a = λ e. absurd (omega (arith, h))
columns-less (b ∷ bs) zero (suc j) h k a = λ e.
    let z : count_by is_feed (b ∷ take j bs) ≡ 0 = omega (arith, e) in
    rw (no_feed (b ∷ take j bs) z) (one_more b (take j bs) a)
columns-less (b ∷ bs) (suc i) (suc j) h k a = λ e.
    columns-step b (take i bs) (take j bs) (characters-less bs i j (omega arith) (omega arith) a) (same_feeds b (take i bs) (take j bs) e) (columns-less bs i j (omega arith) (omega arith) a)

pub before : (text : List ℕ) (i j : ℕ) → i < j → j ≤ length text → is_continuation (get_or text i 0) ≡ false → IsBefore (resolved text i) (resolved text j)
before text i j h k a =
    let m = feeds-more text i j (omega arith) in
    elim (cases_lt (line_at text i) (line_at text j)) [
      | inl less ↦ inl less
      | inr same ↦ (let e : line_at text i ≡ line_at text j = omega arith in inr (e, columns-less text i j h k a e))
    ]
