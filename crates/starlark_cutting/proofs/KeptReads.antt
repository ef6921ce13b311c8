-- A body that ends within what is kept of a text ends there whatever stands behind; and where it ends, it ends at once.
use Rattle.std.proofs.Common.{◌≡◌, ◌<◌, ◌≤◌, ℕ, ◌+◌, ◌-◌, Bool, true, false, cond, ◌&&◌, ◌||◌, List, [], ◌∷◌, ◌++◌, length, drop, refl, ap, sym, ◌∙◌, arith, zero, suc, inl, inr, eqb, subst}
use Rattle.std.proofs.lemmas.Bool.{cases_Bool, and_right, eqb-true}
use Rattle.starlark_lexer.specs.declared.literal.Ending.{Ending}
use Rattle.starlark_lexer.specs.declared.literal.Ending.TheVariants as ending
use Rattle.starlark_lexer.specs.declared.literal.Form.{Form}
use Rattle.starlark_lexer.specs.declared.literal.Piece.{Piece}
use Rattle.starlark_lexer.specs.declared.literal.Piece.TheVariants.{Closing, Field, Stop, Wrong, Nothing, Char, Byte, Same}
use Rattle.starlark_lexer.specs.declared.token.FStringQuote.{FStringQuote}
use Rattle.starlark_lexer.specs.declared.token.FStringQuote.TheVariants.{Single, Double, TripleSingle, TripleDouble}
use Rattle.starlark_lexer.specs.Literals.{quotes, mark, is_triple, is_format, begins, escape, raw_escape, goes_on, brace, piece, later, by_piece, read, body}
use Rattle.starlark_lexer.proofs.JoinedBodies.{Final, final_later}
use Rattle.starlark_lexer.proofs.Openings.{quotes_some}
use Rattle.starlark_cutting.proofs.KeptBodies.{Within, Some_bytes, pick, escape_some, raw_some, escape_same, raw_same, brace_same}

-- A body that n bytes of are passed over ends within the bytes: with its quotes, or before a brace and another byte.
abbrev pub Fits : Form → ℕ → List ℕ → Ending → Type 0
Fits f n xs (ending.Closed k) = n + k + quotes f.quote ≤ length xs
Fits f n xs (ending.Field k) = n + k + 1 < length xs
Fits f n xs (ending.Unfinished k) = ⊥
Fits f n xs (ending.Escape k m) = ⊥

fits_nil : (f : Form) (n : ℕ) (e : Ending) → Fits f n [] e → ⊥
fits_nil f n (ending.Closed k) h = omega (arith, h, quotes_some f.quote)
fits_nil f n (ending.Field k) h = omega (arith, h)
fits_nil f n (ending.Unfinished k) h = h
fits_nil f n (ending.Escape k m) h = h

fits_suc : (f : Form) (n b : ℕ) (bs : List ℕ) (e : Ending) → Fits f (suc n) (b ∷ bs) e → Fits f n bs e
fits_suc f n b bs (ending.Closed k) h = omega (arith, h)
fits_suc f n b bs (ending.Field k) h = omega (arith, h)
fits_suc f n b bs (ending.Unfinished k) h = h
fits_suc f n b bs (ending.Escape k m) h = h

fits_later : (f : Form) (n b : ℕ) (bs : List ℕ) (e : Ending) → 0 < n → Fits f 0 (b ∷ bs) (later n e) → (Fits f (n - 1) bs e) × (n ≤ length bs)
fits_later f n b bs (ending.Closed k) some h = (omega (arith, h, some), omega (arith, h, some, quotes_some f.quote))
fits_later f n b bs (ending.Field k) some h = (omega (arith, h, some), omega (arith, h, some))
fits_later f n b bs (ending.Unfinished k) some h = absurd h
fits_later f n b bs (ending.Escape k m) some h = absurd h

-- ---- pieces

-- the mark of the quotes is no other byte that a body has a rule for
mark_none : (q : FStringQuote) → (eqb (mark q) 13 ≡ false) × (eqb (mark q) 10 ≡ false) × (eqb (mark q) 92 ≡ false) × ((eqb (mark q) 123 || eqb (mark q) 125) ≡ false)
mark_none Single = (refl, refl, refl, refl)
mark_none Double = (refl, refl, refl, refl)
mark_none TripleSingle = (refl, refl, refl, refl)
mark_none TripleDouble = (refl, refl, refl, refl)

mark_self : (q : FStringQuote) → eqb (mark q) (mark q) ≡ true
mark_self Single = refl
mark_self Double = refl
mark_self TripleSingle = refl
mark_self TripleDouble = refl

pub mark_piece : (f : Form) (bs : List ℕ) → piece f (mark f.quote ∷ bs) ≡ cond (goes_on f.quote bs) Closing (Same 1)
unfolding piece
mark_piece f bs =
    let n = mark_none f.quote in
    let z = mark_self f.quote in
    let y : (is_format f.sort && (eqb (mark f.quote) 123 || eqb (mark f.quote) 125)) ≡ false = and_right (is_format f.sort) (eqb (mark f.quote) 123 || eqb (mark f.quote) 125) n.3 in
    (λ i. cond (z i && goes_on f.quote bs) Closing
    (cond (n.0 i) (Nothing 1)
    (cond (n.1 i) (cond (is_triple f.quote) (Same 1) Stop)
    (cond (n.2 i) (cond f.raw (raw_escape f.sort bs) (escape f.sort bs))
    (cond (y i) (brace (mark f.quote) bs) (Same 1))))))

-- a byte that is no mark
abbrev pub inner : Form → ℕ → List ℕ → Piece
inner f b bs =
    cond (eqb b 13) (Nothing 1)
    (cond (eqb b 10) (cond (is_triple f.quote) (Same 1) Stop)
    (cond (eqb b 92) (cond f.raw (raw_escape f.sort bs) (escape f.sort bs))
    (cond (is_format f.sort && (eqb b 123 || eqb b 125)) (brace b bs) (Same 1))))

pub inner_piece : (f : Form) (b : ℕ) (bs : List ℕ) → eqb b (mark f.quote) ≡ false → piece f (b ∷ bs) ≡ inner f b bs
unfolding piece
inner_piece f b bs e = λ i. cond (e i && goes_on f.quote bs) Closing (inner f b bs)

pub choose : (S : Piece → Type 0) (t : Bool) (p q u w : Piece) → (S p → u ≡ p) → (S q → w ≡ q) → S (cond t p q) → cond t u w ≡ cond t p q
choose S true p q u w h k = h
choose S false p q u w h k = k

pub inner_same : (f : Form) (b : ℕ) (xs v o : List ℕ) → Within (length xs) (inner f b (xs ++ v)) → inner f b (xs ++ o) ≡ inner f b (xs ++ v)
inner_same f b xs v o =
    let S = Within (length xs) in
    choose S (eqb b 13) _ _ _ _ (λ _. refl)
    (choose S (eqb b 10) _ _ _ _ (λ _. refl)
    (choose S (eqb b 92) _ _ _ _ (choose S f.raw _ _ _ _ (raw_same f.sort xs v o) (escape_same f.sort xs v o))
    (choose S (is_format f.sort && (eqb b 123 || eqb b 125)) _ _ _ _ (brace_same b xs v o) (λ _. refl))))

pub inner_some : (f : Form) (b : ℕ) (bs : List ℕ) → Some_bytes (inner f b bs)
inner_some f b bs =
    pick Some_bytes (eqb b 13) _ _ (omega arith)
    (pick Some_bytes (eqb b 10) _ _ (pick Some_bytes (is_triple f.quote) _ _ (omega arith) tt)
    (pick Some_bytes (eqb b 92) _ _ (pick Some_bytes f.raw _ _ (raw_some f.sort bs) (escape_some f.sort bs))
    (pick Some_bytes (is_format f.sort && (eqb b 123 || eqb b 125)) _ _ (pick Some_bytes (begins b bs) _ _ (omega arith) (pick Some_bytes (eqb b 123) _ _ tt (omega arith))) (omega arith))))

marks_same : (q : FStringQuote) (xs v o : List ℕ) → quotes q ≤ 1 + length xs → goes_on q (xs ++ o) ≡ goes_on q (xs ++ v)
marks_same Single xs v o h = refl
marks_same Double xs v o h = refl
marks_same TripleSingle [] v o h = absurd (omega (arith, h))
marks_same TripleDouble [] v o h = absurd (omega (arith, h))
marks_same TripleSingle (b ∷ []) v o h = absurd (omega (arith, h))
marks_same TripleDouble (b ∷ []) v o h = absurd (omega (arith, h))
marks_same TripleSingle (b ∷ c ∷ xs) v o h = refl
marks_same TripleDouble (b ∷ c ∷ xs) v o h = refl

-- ---- bodies

-- quotes, or what has some bytes
abbrev Positive : Piece → Type 0
Positive Closing = Unit {0}
Positive p = Some_bytes p

positive : (p : Piece) → Some_bytes p → Positive p
positive Closing h = tt
positive Field h = h
positive Stop h = h
positive (Wrong n) h = h
positive (Nothing n) h = h
positive (Char c n) h = h
positive (Byte c n) h = h
positive (Same n) h = h

positive_mark : (t : Bool) → Positive (cond t Closing (Same 1))
positive_mark true = tt
positive_mark false = omega arith

piece_positive : (f : Form) (b : ℕ) (bs : List ℕ) → Positive (piece f (b ∷ bs))
piece_positive f b bs = elim (cases_Bool (eqb b (mark f.quote))) [
  | inl t ↦ subst Positive (sym (ap (λ c. piece f (c ∷ bs)) (eqb-true b (mark f.quote) t) ∙ mark_piece f bs)) (positive_mark (goes_on f.quote bs))
  | inr t ↦ subst Positive (sym (inner_piece f b bs t)) (positive (inner f b bs) (inner_some f b bs))
]

quotes_most : (q : FStringQuote) → quotes q ≤ 3
quotes_most Single = omega arith
quotes_most Double = omega arith
quotes_most TripleSingle = omega arith
quotes_most TripleDouble = omega arith

-- how the body ends by its first piece
abbrev by_first : Form → Piece → ℕ → List ℕ → Ending
by_first f p b bs = (by_piece p (b ∷ bs) (λ k. read f (k - 1) bs)).ending

module _ (f : Form) (b : ℕ) (bs v o : List ℕ) (go : (n : ℕ) → Fits f n bs (read f n (bs ++ v)).ending → (read f n (bs ++ o)).ending ≡ (read f n (bs ++ v)).ending) where
  item_same : (n : ℕ) → 0 < n → Fits f 0 (b ∷ bs) (later n (read f (n - 1) (bs ++ v)).ending) → later n (read f (n - 1) (bs ++ o)).ending ≡ later n (read f (n - 1) (bs ++ v)).ending
  item_same n some h = ap (later n) (go (n - 1) (fits_later f n b bs _ some h).0)

  behind_same : (p : Piece) → Positive p → Fits f 0 (b ∷ bs) (by_first f p b (bs ++ v)) → by_first f p b (bs ++ o) ≡ by_first f p b (bs ++ v)
  behind_same Closing i h = refl
  behind_same Field i h = refl
  behind_same Stop i h = refl
  behind_same (Wrong n) i h = refl
  behind_same (Nothing n) i h = item_same n i h
  behind_same (Char c n) i h = item_same n i h
  behind_same (Byte c n) i h = item_same n i h
  behind_same (Same n) i h = item_same n i h

  item_room : (n : ℕ) → 0 < n → Fits f 0 (b ∷ bs) (later n (read f (n - 1) (bs ++ v)).ending) → n ≤ length bs
  item_room n some h = (fits_later f n b bs _ some h).1

  inner_room : (p : Piece) → Some_bytes p → Fits f 0 (b ∷ bs) (by_first f p b (bs ++ v)) → Within (length bs) p
  inner_room Closing i h = absurd i
  inner_room Field i h = omega (arith, h)
  inner_room Stop i h = h
  inner_room (Wrong n) i h = h
  inner_room (Nothing n) i h = item_room n i h
  inner_room (Char c n) i h = item_room n i h
  inner_room (Byte c n) i h = item_room n i h
  inner_room (Same n) i h = item_room n i h

  later_room : (e : Ending) → Fits f 0 (b ∷ bs) (later 1 e) → quotes f.quote ≤ 1 + length bs
  later_room (ending.Closed k) h = omega (arith, h)
  later_room (ending.Field k) h = omega (arith, h, quotes_most f.quote)
  later_room (ending.Unfinished k) h = absurd h
  later_room (ending.Escape k m) h = absurd h

  mark_room : (t : Bool) → Fits f 0 (b ∷ bs) (by_first f (cond t Closing (Same 1)) b (bs ++ v)) → quotes f.quote ≤ 1 + length bs
  mark_room true h = omega (arith, h)
  mark_room false h = later_room (read f 0 (bs ++ v)).ending h

  piece_same : Fits f 0 (b ∷ bs) (by_first f (piece f (b ∷ bs ++ v)) b (bs ++ v)) → piece f (b ∷ bs ++ o) ≡ piece f (b ∷ bs ++ v)
  piece_same h = elim (cases_Bool (eqb b (mark f.quote))) [
    | inl t ↦
        let at : (w : List ℕ) → piece f (b ∷ w) ≡ cond (goes_on f.quote w) Closing (Same 1) = λ w. ap (λ c. piece f (c ∷ w)) (eqb-true b (mark f.quote) t) ∙ mark_piece f w in
        let room = mark_room (goes_on f.quote (bs ++ v)) (subst (λ p. Fits f 0 (b ∷ bs) (by_first f p b (bs ++ v))) (at (bs ++ v)) h) in
        at (bs ++ o) ∙ ap (λ t. cond t Closing (Same 1)) (marks_same f.quote bs v o room) ∙ sym (at (bs ++ v))
    | inr t ↦
        let at = inner_piece f b (bs ++ v) t in
        let room = inner_room (inner f b (bs ++ v)) (inner_some f b (bs ++ v)) (subst (λ p. Fits f 0 (b ∷ bs) (by_first f p b (bs ++ v))) at h) in
        inner_piece f b (bs ++ o) t ∙ inner_same f b bs v o room ∙ sym at
  ]

read_same : (f : Form) (n : ℕ) (xs v o : List ℕ) → Fits f n xs (read f n (xs ++ v)).ending → (read f n (xs ++ o)).ending ≡ (read f n (xs ++ v)).ending
unfolding read
read_same f n [] v o h = absurd (fits_nil f n _ h)
read_same f (suc n) (b ∷ bs) v o h = read_same f n bs v o (fits_suc f n b bs _ h)
read_same f zero (b ∷ bs) v o h =
    let go : (n : ℕ) → Fits f n bs (read f n (bs ++ v)).ending → (read f n (bs ++ o)).ending ≡ (read f n (bs ++ v)).ending = λ n. read_same f n bs v o in
    ap (λ p. by_first f p b (bs ++ o)) (piece_same f b bs v o go h) ∙ behind_same f b bs v o go (piece f (b ∷ bs ++ v)) (piece_positive f b (bs ++ v)) h

pub body_same : (f : Form) (xs v o : List ℕ) (e : Ending) → Fits f 0 xs e → body f 0 (xs ++ v) ≡ e → body f 0 (xs ++ o) ≡ e
body_same f xs v o e h is = read_same f 0 xs v o (subst (Fits f 0 xs) (sym is) h) ∙ is

-- ---- where it ends, it ends at once

abbrev pub extent : Ending → ℕ
extent (ending.Closed k) = k
extent (ending.Field k) = k
extent (ending.Unfinished k) = k
extent (ending.Escape k m) = k

abbrev pub at_once : Ending → Ending
at_once (ending.Closed k) = ending.Closed 0
at_once (ending.Field k) = ending.Field 0
at_once (ending.Unfinished k) = ending.Unfinished k
at_once (ending.Escape k m) = ending.Escape k m

pub extent_later : (n : ℕ) (e : Ending) → extent (later n e) ≡ n + extent e
extent_later n (ending.Closed k) = refl
extent_later n (ending.Field k) = refl
extent_later n (ending.Unfinished k) = refl
extent_later n (ending.Escape k m) = refl

once_later : (n : ℕ) (e : Ending) → Final e → at_once e ≡ at_once (later n e)
once_later n (ending.Closed k) h = refl
once_later n (ending.Field k) h = refl
once_later n (ending.Unfinished k) h = absurd h
once_later n (ending.Escape k m) h = absurd h

module _ (f : Form) (b : ℕ) (bs : List ℕ) (go : (n : ℕ) → Final (read f n bs).ending → (read f 0 (drop (n + extent (read f n bs).ending) bs)).ending ≡ at_once (read f n bs).ending) where
  item_once : (n : ℕ) → 0 < n → Final (later n (read f (n - 1) bs).ending)
      → (read f 0 (drop (extent (later n (read f (n - 1) bs).ending)) (b ∷ bs))).ending ≡ at_once (later n (read f (n - 1) bs).ending)
  item_once n some h =
      let e = (read f (n - 1) bs).ending in
      let len : extent (later n e) ≡ suc (n - 1 + extent e) = omega (arith, extent_later n e, some) in
      let fin = final_later n e h in
      ap (λ k. (read f 0 (drop k (b ∷ bs))).ending) len ∙ go (n - 1) fin ∙ once_later n e fin

  first_once : (p : Piece) → Positive p → by_first f p b bs ≡ (read f 0 (b ∷ bs)).ending → Final (by_first f p b bs)
      → (read f 0 (drop (extent (by_first f p b bs)) (b ∷ bs))).ending ≡ at_once (by_first f p b bs)
  first_once Closing i e h = sym e
  first_once Field i e h = sym e
  first_once Stop i e h = absurd h
  first_once (Wrong n) i e h = absurd h
  first_once (Nothing n) i e h = item_once n i h
  first_once (Char c n) i e h = item_once n i h
  first_once (Byte c n) i e h = item_once n i h
  first_once (Same n) i e h = item_once n i h

read_once : (f : Form) (n : ℕ) (xs : List ℕ) → Final (read f n xs).ending → (read f 0 (drop (n + extent (read f n xs).ending) xs)).ending ≡ at_once (read f n xs).ending
unfolding read
read_once f zero [] h = absurd h
read_once f (suc n) [] h = absurd h
read_once f (suc n) (b ∷ bs) h =
    let e : suc n + extent (read f n bs).ending ≡ suc (n + extent (read f n bs).ending) = omega arith in
    ap (λ k. (read f 0 (drop k (b ∷ bs))).ending) e ∙ read_once f n bs h
read_once f zero (b ∷ bs) h =
    let e : 0 + extent (read f 0 (b ∷ bs)).ending ≡ extent (read f 0 (b ∷ bs)).ending = omega arith in
    ap (λ k. (read f 0 (drop k (b ∷ bs))).ending) e ∙ first_once f b bs (λ n. read_once f n bs) (piece f (b ∷ bs)) (piece_positive f b bs) refl h

pub body_once : (f : Form) (xs : List ℕ) (e : Ending) → Final e → body f 0 xs ≡ e → body f 0 (drop (extent e) xs) ≡ at_once e
body_once f xs e h is =
    let k : 0 + extent (read f 0 xs).ending ≡ extent e = omega (arith, ap extent is) in
    ap (λ k. body f 0 (drop k xs)) (sym k) ∙ read_once f 0 xs (subst Final (sym is) h) ∙ ap at_once is
