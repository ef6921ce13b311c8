-- The beginnings of lines: how many there are up to a place, and what stands behind the last of them.
use Rattle.std.proofs.Common.{◌≡◌, ◌<◌, ◌≤◌, ℕ, ◌+◌, ◌-◌, Bool, true, false, not, cond, List, [], ◌∷◌, length, take, drop, get_or, refl, ap, sym, ◌∙◌, arith, zero, suc, add-one, inl, inr, eqb, leb, subst}
use Rattle.std.specs.List.{count_by}
use Rattle.std.proofs.lemmas.Bool.{cases_Bool, false≢true, cases_lt}
use Rattle.std.proofs.lemmas.Bool.Decides.{nat_tests}
use Rattle.std.proofs.lemmas.List.{get_or_default, length-take-le, drop-take}
use Rattle.std.specs.List.Sorted.{IsPartitionedBy, IsPartitionPoint}
use Rattle.std.proofs.lemmas.List.Sums.{sum_by-cons}
use Rattle.std.specs.Prelude.{◌⊎◌}
use Rattle.std.specs.Str.{IsUtf8, IsCharBoundary}
use Rattle.std.proofs.lemmas.Str.{IsCharBoundary-start, IsCharBoundary-end, IsCharBoundary-after_ascii}
use Rattle.starlark_place.specs.Place.{is_feed, is_continuation, characters, last_line, line_begin}
use Rattle.starlark_place.specs.Lines.{behind_feeds, line_begins}

add_cond : (t : Bool) (n : ℕ) → cond t 1 0 + n ≡ cond t (suc n) n
add_cond true n = omega arith
add_cond false n = omega arith

pub feeds-cons : (b : ℕ) (bs : List ℕ) → count_by is_feed (b ∷ bs) ≡ cond (eqb b 10) (suc (count_by is_feed bs)) (count_by is_feed bs)
feeds-cons b bs = sum_by-cons (λ x. cond (is_feed x) 1 0) b bs ∙ add_cond (eqb b 10) (count_by is_feed bs)

at_front : (x : ℕ) (xs : List ℕ) → ((j : ℕ) → j < length xs → x < get_or xs j 0) → (k : ℕ) → k < length (x ∷ xs) → x ≤ get_or (x ∷ xs) k 0
at_front x xs above zero h = omega arith
at_front x xs above (suc k) h = let a = above k (omega arith) in omega arith

above : (text : List ℕ) (i k : ℕ) → k < length (behind_feeds i text) → i < get_or (behind_feeds i text) k 0
above [] i k = λ h. absurd (omega arith)
above (b ∷ bs) i k =
    elim (cases_Bool (eqb b 10)) [
      | inl e ↦ rw e (λ h. let a = at_front (i + 1) (behind_feeds (i + 1) bs) (above bs (i + 1)) k h in omega arith)
      | inr e ↦ rw e (λ h. let a = above bs (i + 1) k h in omega arith)
    ]

-- a line that begins at or before a place has at most as many line feeds before it
pub begun : (text : List ℕ) (i p k : ℕ) → k < length (i ∷ behind_feeds i text) → p ≤ length text → get_or (i ∷ behind_feeds i text) k 0 ≤ i + p → k ≤ count_by is_feed (take p text)
begun text i p zero = λ within fits h. omega arith
begun [] i p (suc k) = λ within fits h. absurd (omega arith)
begun (b ∷ bs) i zero (suc k) = λ within fits h. absurd (let a = above (b ∷ bs) i k (omega arith) in omega arith)
begun (b ∷ bs) i (suc p) (suc k) =
    elim (cases_Bool (eqb b 10)) [
      | inl e ↦ rw (feeds-cons b (take p bs), e) (λ within fits h. let a = begun bs (i + 1) p k (omega arith) (omega arith) (omega arith) in omega arith)
      | inr e ↦ rw (feeds-cons b (take p bs), e) (λ within fits h. let a = begun bs (i + 1) p (suc k) (omega arith) (omega arith) (omega arith) in omega arith)
    ]

-- and the other way round
pub begins_by : (text : List ℕ) (i p k : ℕ) → k < length (i ∷ behind_feeds i text) → p ≤ length text → k ≤ count_by is_feed (take p text) → get_or (i ∷ behind_feeds i text) k 0 ≤ i + p
begins_by text i p zero = λ within fits h. omega arith
begins_by [] i p (suc k) = λ within fits h. absurd (omega arith)
begins_by (b ∷ bs) i zero (suc k) = λ within fits h. absurd (omega arith)
begins_by (b ∷ bs) i (suc p) (suc k) =
    elim (cases_Bool (eqb b 10)) [
      | inl e ↦ rw (feeds-cons b (take p bs), e) (λ within fits h. let a = begins_by bs (i + 1) p k (omega arith) (omega arith) (omega arith) in omega arith)
      | inr e ↦ rw (feeds-cons b (take p bs), e) (λ within fits h. let a = begins_by bs (i + 1) p (suc k) (omega arith) (omega arith) (omega arith) in omega arith)
    ]

-- the line of a place is among them
pub line_within : (text : List ℕ) (i p : ℕ) → count_by is_feed (take p text) ≤ length (behind_feeds i text)
line_within text i zero = omega arith
line_within [] i (suc p) = omega arith
line_within (b ∷ bs) i (suc p) =
    elim (cases_Bool (eqb b 10)) [
      | inl e ↦ rw (feeds-cons b (take p bs), e) (let a = line_within bs (i + 1) p in omega arith)
      | inr e ↦ rw (feeds-cons b (take p bs), e) (let a = line_within bs (i + 1) p in omega arith)
    ]

-- without a line feed all is on the last line
pub no_feed : (xs : List ℕ) → count_by is_feed xs ≡ 0 → last_line xs ≡ xs
no_feed [] = λ h. refl
no_feed (b ∷ bs) =
    elim (cases_Bool (eqb b 10)) [
      | inl e ↦ rw (feeds-cons b bs, e) (λ h. absurd (omega arith))
      | inr e ↦ rw (feeds-cons b bs, e) (λ h. let z : count_by is_feed bs ≡ 0 = omega arith in rw z refl)
    ]

pub last_line-le : (xs : List ℕ) → length (last_line xs) ≤ length xs
last_line-le [] = omega arith
last_line-le (b ∷ bs) =
    elim (cases_Bool (eqb (count_by is_feed bs) 0)) [
      | inl z ↦ rw z (elim (cases_Bool (eqb b 10)) [ inl e ↦ rw e (omega arith) | inr e ↦ rw e (omega arith) ])
      | inr z ↦ rw z (let a = last_line-le bs in omega arith)
    ]

whole : (xs : List ℕ) → 0 + length (last_line xs) ≡ length xs → last_line xs ≡ xs
whole [] = λ h. refl
whole (b ∷ bs) =
    elim (cases_Bool (eqb (count_by is_feed bs) 0)) [
      | inl z ↦ rw z (elim (cases_Bool (eqb b 10)) [ inl e ↦ rw e (λ h. absurd (omega arith)) | inr e ↦ rw e (λ h. refl) ])
      | inr z ↦ rw z (λ h. absurd (omega (arith, last_line-le bs)))
    ]

-- the last line is a rest of the text
pub last_line-drop : (xs : List ℕ) (n : ℕ) → n + length (last_line xs) ≡ length xs → last_line xs ≡ drop n xs
last_line-drop xs zero = whole xs
last_line-drop [] (suc n) = λ h. refl
last_line-drop (b ∷ bs) (suc n) =
    elim (cases_Bool (eqb (count_by is_feed bs) 0)) [
      | inl z ↦ rw z (elim (cases_Bool (eqb b 10)) [ inl e ↦ rw e (λ h. let n0 : n ≡ 0 = omega arith in rw n0 refl) | inr e ↦ rw e (λ h. absurd (omega arith)) ])
      | inr z ↦ rw z (λ h. last_line-drop bs n (omega arith))
    ]

above_zero : (n : ℕ) → eqb n 0 ≡ false → (k : ℕ) × (n ≡ suc k)
above_zero zero h = absurd (false≢true (sym h))
above_zero (suc k) h = (k, refl)

last_line-step : (b : ℕ) (bs : List ℕ) (i p : ℕ) → p ≤ length bs → get_or ((i + 1) ∷ behind_feeds (i + 1) bs) (count_by is_feed (take p bs)) 0 + length (last_line (take p bs)) ≡ (i + 1) + p → get_or (i ∷ behind_feeds i (b ∷ bs)) (count_by is_feed (b ∷ take p bs)) 0 + length (last_line (b ∷ take p bs)) ≡ i + suc p
last_line-step b bs i p fits =
    elim (cases_Bool (eqb (count_by is_feed (take p bs)) 0)) [
      | inl z ↦ (
          let none : count_by is_feed (take p bs) ≡ 0 = grind (arith, nat_tests) in
          rw (feeds-cons b (take p bs), z, none)
          (elim (cases_Bool (eqb b 10)) [
            | inl e ↦ rw (e, no_feed (take p bs) none) (λ h. omega arith)
            | inr e ↦ rw (e, length-take-le p bs fits) (λ h. omega arith)
          ]))
      | inr z ↦ (
          let some : (k : ℕ) × (count_by is_feed (take p bs) ≡ suc k) = above_zero (count_by is_feed (take p bs)) z in
          rw (feeds-cons b (take p bs), z, some.1)
          (elim (cases_Bool (eqb b 10)) [ inl e ↦ rw e (λ h. omega arith) | inr e ↦ rw e (λ h. omega arith) ]))
    ]

-- where it begins
pub last_line-at : (text : List ℕ) (i p : ℕ) → p ≤ length text → get_or (i ∷ behind_feeds i text) (count_by is_feed (take p text)) 0 + length (last_line (take p text)) ≡ i + p
last_line-at text i zero = λ fits. refl
last_line-at [] i (suc p) = λ fits. absurd (omega arith)
last_line-at (b ∷ bs) i (suc p) = λ fits. last_line-step b bs i p (omega arith) (last_line-at bs (i + 1) p (omega arith))

pub partitioned : (text : List ℕ) (p : ℕ) → p ≤ length text → IsPartitionedBy (λ y. leb y p) (line_begins text)
partitioned text p fits i j d le within h =
    let here = get_or_default (line_begins text) i d 0 (omega arith) in
    let there = get_or_default (line_begins text) j d 0 within in
    let low : get_or (line_begins text) j 0 ≤ 0 + p = grind (arith, nat_tests) in
    let more = begun text 0 p j within fits low in
    let g = begins_by text 0 p i (omega arith) fits (omega arith) in
    grind (arith, nat_tests)

-- a search for the last line that begins at or before a place finds the line of the place
pub found : (text : List ℕ) (p n : ℕ) → p ≤ length text → n ≤ length (line_begins text) → IsPartitionPoint (λ y. leb y p ≡ true) (λ y. leb y p ≡ false) (line_begins text) n → n ≡ count_by is_feed (take p text) + 1
found text p n fits within point =
    let line = count_by is_feed (take p text) in
    let inside = line_within text 0 p in
    elim (cases_lt line n) [
      | inl less ↦ elim (cases_lt (line + 1) n) [
        | inl more ↦ (
            let passes = point.0 (line + 1) 0 (omega arith) more in
            let low : get_or (line_begins text) (line + 1) 0 ≤ 0 + p = grind (arith, nat_tests) in
            absurd (let b = begun text 0 p (line + 1) (omega arith) fits low in omega arith))
        | inr most ↦ omega arith
      ]
      | inr few ↦ (
          let fails = point.1 line 0 few (omega arith) in
          let low = begins_by text 0 p line (omega arith) fits (omega arith) in
          absurd (let e : leb (get_or (line_begins text) line 0) p ≡ true = grind (arith, nat_tests) in false≢true (sym fails ∙ e)))
    ]

pub found_in : (text lines : List ℕ) (p n : ℕ) → lines ≡ line_begins text → p ≤ length text → n ≤ length lines → (IsPartitionedBy (λ y. leb y p) lines → IsPartitionPoint (λ y. leb y p ≡ true) (λ y. leb y p ≡ false) lines n) → n ≡ count_by is_feed (take p text) + 1
found_in text lines p n e fits =
    subst (λ (ls : List ℕ). n ≤ length ls → (IsPartitionedBy (λ y. leb y p) ls → IsPartitionPoint (λ y. leb y p ≡ true) (λ y. leb y p ≡ false) ls n) → n ≡ count_by is_feed (take p text) + 1) (sym e)
    (λ within point. found text p n fits within (point (partitioned text p fits)))

-- where the line of a place begins, and what stands between
pub record IsLineStart (text : List ℕ) (p begin : ℕ) : Type 0 where
  pub before : begin ≤ p
  pub last : last_line (take p text) ≡ take (p - begin) (drop begin text)

pub line_start : (text lines : List ℕ) (p begin : ℕ) → lines ≡ line_begins text → begin ≡ get_or lines (count_by is_feed (take p text)) 0 → p ≤ length text → IsLineStart text p begin
line_start text lines p begin e b fits =
    let at : begin + length (last_line (take p text)) ≡ 0 + p = rw (b, e) (last_line-at text 0 p fits) in
    let long = length-take-le p text fits in
    let split : p ≡ begin + (p - begin) = omega arith in
    record {
      before = omega arith;
      last = last_line-drop (take p text) begin (omega arith) ∙ (ap (λ n. drop begin (take n text)) split ∙ drop-take begin (p - begin) text);
    }

pub lines_enough : (text lines : List ℕ) (p : ℕ) → lines ≡ line_begins text → count_by is_feed (take p text) < length lines
lines_enough text lines p e = rw e (let h = line_within text 0 p in omega arith)

-- as many lines begin as there are line feeds, and one more
pub begins-length : (text : List ℕ) (i : ℕ) → length (behind_feeds i text) ≡ count_by is_feed text
begins-length [] i = refl
begins-length (b ∷ bs) i =
    rw (feeds-cons b bs) (elim (cases_Bool (eqb b 10)) [
      | inl e ↦ rw e (let h = begins-length bs (i + 1) in omega arith)
      | inr e ↦ rw e (begins-length bs (i + 1))
    ])

-- each begins behind as many line feeds
pub begins-at : (text : List ℕ) (i n : ℕ) → n ≤ count_by is_feed text → get_or (i ∷ behind_feeds i text) n 0 ≡ i + line_begin n text
begins-at text i zero = λ h. omega arith
begins-at [] i (suc n) = λ h. absurd (omega arith)
begins-at (b ∷ bs) i (suc n) =
    rw (feeds-cons b bs) (elim (cases_Bool (eqb b 10)) [
      | inl e ↦ rw e (λ h. let a = begins-at bs (i + 1) n (omega arith) in omega arith)
      | inr e ↦ rw e (λ h. let a = begins-at bs (i + 1) (suc n) h in omega arith)
    ])

-- behind the last line the text ends
pub line_begin-past : (text : List ℕ) (n : ℕ) → count_by is_feed text < n → line_begin n text ≡ length text
line_begin-past text zero = λ h. absurd (omega arith)
line_begin-past [] (suc n) = λ h. refl
line_begin-past (b ∷ bs) (suc n) =
    rw (feeds-cons b bs) (elim (cases_Bool (eqb b 10)) [
      | inl e ↦ rw e (λ h. ap suc (line_begin-past bs n (omega arith)))
      | inr e ↦ rw e (λ h. ap suc (line_begin-past bs (suc n) h))
    ])

-- a line begins before the next
pub line_begin-more : (text : List ℕ) (n : ℕ) → line_begin n text ≤ line_begin (suc n) text
line_begin-more text zero = omega arith
line_begin-more [] (suc n) = omega arith
line_begin-more (b ∷ bs) (suc n) =
    elim (cases_Bool (eqb b 10)) [
      | inl e ↦ rw e (let h = line_begin-more bs n in omega arith)
      | inr e ↦ rw e (let h = line_begin-more bs (suc n) in omega arith)
    ]

pub line_begin-le : (text : List ℕ) (n : ℕ) → line_begin n text ≤ length text
line_begin-le text zero = omega arith
line_begin-le [] (suc n) = omega arith
line_begin-le (b ∷ bs) (suc n) =
    elim (cases_Bool (eqb b 10)) [
      | inl e ↦ rw e (let h = line_begin-le bs n in omega arith)
      | inr e ↦ rw e (let h = line_begin-le bs (suc n) in omega arith)
    ]

line_begin-empty : (text : List ℕ) (n : ℕ) → line_begin (suc n) text ≡ 0 → length text ≡ 0
line_begin-empty [] n = λ h. refl
line_begin-empty (b ∷ bs) n =
    elim (cases_Bool (eqb b 10)) [ inl e ↦ rw e (λ h. absurd (omega arith)) | inr e ↦ rw e (λ h. absurd (omega arith)) ]

-- a line begins at the beginning, at the end, or behind a line feed
pub line_begin-behind : (text : List ℕ) (n j : ℕ) → line_begin n text ≡ suc j → (line_begin n text ≡ length text) ⊎ (get_or text j 0 ≡ 10)
line_begin-behind text zero j = λ h. absurd (omega arith)
line_begin-behind [] (suc n) j = λ h. inl refl
line_begin-behind (b ∷ bs) (suc n) zero =
    elim (cases_Bool (eqb b 10)) [
      | inl e ↦ rw e (λ h. inr (grind (arith, nat_tests)))
      | inr e ↦ rw e (λ h. inl (let z = line_begin-empty bs n (omega arith) in omega arith))
    ]
line_begin-behind (b ∷ bs) (suc n) (suc j) =
    elim (cases_Bool (eqb b 10)) [
      | inl e ↦ rw e (λ h. elim (line_begin-behind bs n j (omega arith)) [ inl l ↦ inl (ap suc l) | inr f ↦ inr f ])
      | inr e ↦ rw e (λ h. elim (line_begin-behind bs (suc n) j (omega arith)) [ inl l ↦ inl (ap suc l) | inr f ↦ inr f ])
    ]

boundary_at : (text : List ℕ) (k : ℕ) → IsUtf8 text → k ≤ length text → ((j : ℕ) → k ≡ suc j → (k ≡ length text) ⊎ (get_or text j 0 ≡ 10)) → IsCharBoundary text k
boundary_at text zero u fits h = IsCharBoundary-start text u
boundary_at text (suc j) u fits h =
    elim (h j refl) [
      | inl e ↦ rw e (IsCharBoundary-end text)
      | inr f ↦ rw add-one at (IsCharBoundary-after_ascii text j u (omega arith) (omega arith))
    ]

-- no character is cut there
pub line_begin-boundary : (text : List ℕ) (n : ℕ) → IsUtf8 text → IsCharBoundary text (line_begin n text)
line_begin-boundary text n u = boundary_at text (line_begin n text) u (line_begin-le text n) (line_begin-behind text n)

-- line feeds never get fewer
pub feeds-more : (text : List ℕ) (i j : ℕ) → i ≤ j → count_by is_feed (take i text) ≤ count_by is_feed (take j text)
feeds-more text zero j h = omega arith
feeds-more text (suc i) zero h = absurd (omega arith)
feeds-more [] (suc i) (suc j) h = omega arith
feeds-more (b ∷ bs) (suc i) (suc j) h =
    let m = feeds-more bs i j (omega arith) in
    rw (feeds-cons b (take i bs), feeds-cons b (take j bs)) (elim (cases_Bool (eqb b 10)) [ inl e ↦ rw e (omega arith) | inr e ↦ rw e (omega arith) ])

characters-more : (text : List ℕ) (i j : ℕ) → i ≤ j → characters (take i text) ≤ characters (take j text)
characters-more text zero j h = omega arith
characters-more text (suc i) zero h = absurd (omega arith)
characters-more [] (suc i) (suc j) h = omega arith
characters-more (b ∷ bs) (suc i) (suc j) h =
    let m = characters-more bs i j (omega arith) in
    rw (sum_by-cons (λ x. cond (not (is_continuation x)) 1 0) b (take i bs), sum_by-cons (λ x. cond (not (is_continuation x)) 1 0) b (take j bs)) (omega arith)

pub same_feeds : (b : ℕ) (xs ys : List ℕ) → count_by is_feed (b ∷ xs) ≡ count_by is_feed (b ∷ ys) → count_by is_feed xs ≡ count_by is_feed ys
same_feeds b xs ys =
    rw (feeds-cons b xs, feeds-cons b ys) (elim (cases_Bool (eqb b 10)) [ inl e ↦ rw e (λ h. omega arith) | inr e ↦ rw e (λ h. h) ])

columns-step : (b : ℕ) (xs ys : List ℕ) → characters xs ≤ characters ys → count_by is_feed xs ≡ count_by is_feed ys → (count_by is_feed xs ≡ count_by is_feed ys → characters (last_line xs) ≤ characters (last_line ys)) → characters (last_line (b ∷ xs)) ≤ characters (last_line (b ∷ ys))
columns-step b xs ys more same later =
    elim (cases_Bool (eqb (count_by is_feed ys) 0)) [
      | inl z ↦ rw (same, z) (elim (cases_Bool (eqb b 10)) [
        | inl e ↦ rw e more
        | inr e ↦ rw e (rw (sum_by-cons (λ x. cond (not (is_continuation x)) 1 0) b xs, sum_by-cons (λ x. cond (not (is_continuation x)) 1 0) b ys) (omega arith))
      ])
      | inr z ↦ rw (same, z) (later same)
    ]

-- nor columns within a line
pub columns-more : (text : List ℕ) (i j : ℕ) → i ≤ j → count_by is_feed (take i text) ≡ count_by is_feed (take j text) → characters (last_line (take i text)) ≤ characters (last_line (take j text))
columns-more text zero j h = λ e. omega arith
columns-more text (suc i) zero h = absurd (omega arith)
columns-more [] (suc i) (suc j) h = λ e. omega arith
columns-more (b ∷ bs) (suc i) (suc j) h = λ e. columns-step b (take i bs) (take j bs) (characters-more bs i j (omega arith)) (same_feeds b (take i bs) (take j bs) e) (columns-more bs i j (omega arith))

-- where a line begins, as many line feeds were seen
pub line_of_begin : (text : List ℕ) (n : ℕ) → n ≤ count_by is_feed text → count_by is_feed (take (line_begin n text) text) ≡ n
line_of_begin text zero = λ h. refl
line_of_begin [] (suc n) = λ h. absurd (omega arith)
line_of_begin (b ∷ bs) (suc n) =
    rw (feeds-cons b bs) (elim (cases_Bool (eqb b 10)) [
      | inl e ↦ rw e (λ h. feeds-cons b (take (line_begin n bs) bs) ∙ rw e (ap suc (line_of_begin bs n (omega arith))))
      | inr e ↦ rw e (λ h. feeds-cons b (take (line_begin (suc n) bs) bs) ∙ rw e (line_of_begin bs (suc n) h))
    ])
