-- A body up to where it ends is read the same where another end stands there.
use Rattle.std.proofs.Common.{◌≡◌, ◌<◌, ◌≤◌, ℕ, ◌+◌, Bool, true, false, cond, List, [], ◌∷◌, ◌++◌, length, take, drop, refl, ap, sym, ◌∙◌, arith, zero, suc, inl, inr, eqb, subst, append_assoc, length-append, length-drop}
use Rattle.std.proofs.Math.Seq.{drop-append_seam}
use Rattle.std.proofs.lemmas.Bool.{cases_Bool, false≢true, and_parts, eqb-true}
use Rattle.std.proofs.lemmas.Bool.Decides.{nat_tests}
use Rattle.std.proofs.lemmas.List.{drop-append-le, take-append-drop, length-take-le}
use Rattle.starlark_lexer.specs.declared.literal.Ending.{Ending}
use Rattle.starlark_lexer.specs.declared.literal.Ending.TheVariants as ending
use Rattle.starlark_lexer.specs.declared.literal.Form.{Form}
use Rattle.starlark_lexer.specs.declared.literal.Sort.{Sort}
use Rattle.starlark_lexer.specs.declared.literal.Piece.{Piece}
use Rattle.starlark_lexer.specs.declared.literal.Piece.TheVariants.{Closing, Field, Stop, Wrong, Nothing, Char, Byte, Same}
use Rattle.starlark_lexer.specs.declared.token.FStringQuote.{FStringQuote}
use Rattle.starlark_lexer.specs.declared.token.FStringQuote.TheVariants.{Single, Double, TripleSingle, TripleDouble}
use Rattle.starlark_lexer.specs.Literals.{mark, is_format, begins, goes_on, piece, later, by_piece, read, body}
use Rattle.starlark_lexer.proofs.JoinedBodies.{Final, final_later}
use Rattle.starlark_lexer.proofs.Bodies.{at_start, at_piece, later_more}
use Rattle.starlark_lexer.proofs.Pieces.{cut_of}
use Rattle.starlark_cutting.proofs.KeptBodies.{Within, Some_bytes}
use Rattle.starlark_cutting.proofs.KeptReads.{extent, body_once, mark_piece, inner, inner_piece, inner_same, inner_some, extent_later}
use Rattle.starlark_lexer.proofs.Clean.{clean}
use Rattle.starlark_cutting.proofs.KeptLines.{Stops}
use Rattle.starlark_cutting.proofs.KeptMarks.{marks_of}

-- ---- a tail

-- an item of at most so many bytes
abbrev pub Item_within : ℕ → Piece → Type 0
Item_within m Field = ⊥
Item_within m p = Within m p

-- the body ends right before w; items before that are the same before o
module _ (f : Form) (w o : List ℕ) (same : (b : ℕ) (bs : List ℕ) → Item_within (suc (length bs)) (piece f (b ∷ bs ++ w)) → piece f (b ∷ bs ++ o) ≡ piece f (b ∷ bs ++ w)) where
  EndsAt : List ℕ → Ending → Type 0
  EndsAt xs e = Final e × (extent e ≡ length xs)

  Tail : List ℕ → Type 0
  Tail xs = body f 0 (xs ++ o) ≡ later (length xs) (body f 0 o)

  module _ (b : ℕ) (bs : List ℕ) (go : (n : ℕ) → 0 < n → n ≤ suc (length bs) → EndsAt (drop n (b ∷ bs)) (body f 0 (drop n (b ∷ bs) ++ w)) → Tail (drop n (b ∷ bs))) where
    item_tail : (n : ℕ) → 0 < n → EndsAt (b ∷ bs) (later n (body f 0 (drop n (b ∷ bs ++ w)))) → (n ≤ suc (length bs)) × (later n (body f 0 (drop n (b ∷ bs ++ o))) ≡ later (length (b ∷ bs)) (body f 0 o))
    unfolding EndsAt Tail
    item_tail n some h =
        let le : n ≤ suc (length bs) = omega (arith, h.1, extent_later n (body f 0 (drop n (b ∷ bs ++ w)))) in
        let cut : drop n (b ∷ bs ++ w) ≡ drop n (b ∷ bs) ++ w = drop-append-le n (b ∷ bs) w (omega (arith, le)) in
        let cut2 : drop n (b ∷ bs ++ o) ≡ drop n (b ∷ bs) ++ o = drop-append-le n (b ∷ bs) o (omega (arith, le)) in
        let e = body f 0 (drop n (b ∷ bs) ++ w) in
        let k : EndsAt (b ∷ bs) (later n e) = subst (λ x. EndsAt (b ∷ bs) (later n (body f 0 x))) cut h in
        let t = go n some le (final_later n e k.0, omega (arith, k.1, extent_later n e, le, length-drop n (b ∷ bs))) in
        let all : n + length (drop n (b ∷ bs)) ≡ length (b ∷ bs) = omega (arith, le, length-drop n (b ∷ bs)) in
        (le, ap (λ x. later n (body f 0 x)) cut2 ∙ ap (later n) t ∙ later_more n (length (drop n (b ∷ bs))) (body f 0 o) ∙ ap (λ m. later m (body f 0 o)) all)

    by_tail : (p : Piece) → piece f (b ∷ bs ++ w) ≡ p → EndsAt (b ∷ bs) (by_piece p (b ∷ bs ++ w) (λ k. read f 0 (drop k (b ∷ bs ++ w)))).ending → Tail (b ∷ bs)
    unfolding EndsAt Tail
    by_tail Closing e h = absurd (omega (arith, h.1))
    by_tail Field e h = absurd (omega (arith, h.1))
    by_tail Stop e h = absurd h.0
    by_tail (Wrong n) e h = absurd h.0
    by_tail (Nothing n) e h =
        let c = cut_of f (Nothing n) (b ∷ bs ++ w) e in
        let t = item_tail n c.moves h in
        ap (λ r. r.ending) (at_piece f (b ∷ bs ++ o) (Nothing n) (same b bs (subst (Item_within (suc (length bs))) (sym e) t.0) ∙ e)) ∙ t.1
    by_tail (Char d n) e h =
        let c = cut_of f (Char d n) (b ∷ bs ++ w) e in
        let t = item_tail n c.cut.moves h in
        ap (λ r. r.ending) (at_piece f (b ∷ bs ++ o) (Char d n) (same b bs (subst (Item_within (suc (length bs))) (sym e) t.0) ∙ e)) ∙ t.1
    by_tail (Byte d n) e h =
        let c = cut_of f (Byte d n) (b ∷ bs ++ w) e in
        let t = item_tail n c.cut.moves h in
        ap (λ r. r.ending) (at_piece f (b ∷ bs ++ o) (Byte d n) (same b bs (subst (Item_within (suc (length bs))) (sym e) t.0) ∙ e)) ∙ t.1
    by_tail (Same n) e h =
        let c = cut_of f (Same n) (b ∷ bs ++ w) e in
        let t = item_tail n c.moves h in
        ap (λ r. r.ending) (at_piece f (b ∷ bs ++ o) (Same n) (same b bs (subst (Item_within (suc (length bs))) (sym e) t.0) ∙ e)) ∙ t.1

  tail_by : (fuel : ℕ) (xs : List ℕ) → length xs ≤ fuel → EndsAt xs (body f 0 (xs ++ w)) → Tail xs
  unfolding EndsAt Tail
  tail_by fuel [] le h = sym (at_start f o)
  tail_by zero (b ∷ bs) le h = absurd (omega (arith, le))
  tail_by (suc fuel) (b ∷ bs) le h =
      let p = piece f (b ∷ bs ++ w) in
      by_tail b bs (λ n some fits. tail_by fuel (drop n (b ∷ bs)) (omega (arith, le, some, fits, length-drop n (b ∷ bs)))) p refl
      (subst (λ r. EndsAt (b ∷ bs) r.ending) (at_piece f (b ∷ bs ++ w) p refl) h)

  pub tail : (xs : List ℕ) → Final (body f 0 (xs ++ w)) → extent (body f 0 (xs ++ w)) ≡ length xs → body f 0 (xs ++ o) ≡ later (length xs) (body f 0 o)
  unfolding EndsAt Tail
  tail xs h k = tail_by (length xs) xs (omega arith) (h, k)

-- ---- what a body ends at

front_closing : (f : Form) (xs : List ℕ) (p : Piece) → piece f xs ≡ p → (by_piece p xs (λ k. read f 0 (drop k xs))).ending ≡ ending.Closed 0 → p ≡ Closing
front_closing f xs Closing e h = refl
front_closing f xs Field e h = absurd (cc)
front_closing f xs Stop e h = absurd (cc)
front_closing f xs (Wrong n) e h = absurd (cc)
front_closing f xs (Nothing n) e h = let c = cut_of f (Nothing n) xs e in absurd (omega (arith, c.moves, ap extent h, extent_later n (body f 0 (drop n xs))))
front_closing f xs (Char d n) e h = let c = cut_of f (Char d n) xs e in absurd (omega (arith, c.cut.moves, ap extent h, extent_later n (body f 0 (drop n xs))))
front_closing f xs (Byte d n) e h = let c = cut_of f (Byte d n) xs e in absurd (omega (arith, c.cut.moves, ap extent h, extent_later n (body f 0 (drop n xs))))
front_closing f xs (Same n) e h = let c = cut_of f (Same n) xs e in absurd (omega (arith, c.moves, ap extent h, extent_later n (body f 0 (drop n xs))))

front_field : (f : Form) (xs : List ℕ) (p : Piece) → piece f xs ≡ p → (by_piece p xs (λ k. read f 0 (drop k xs))).ending ≡ ending.Field 0 → p ≡ Field
front_field f xs Closing e h = absurd (cc)
front_field f xs Field e h = refl
front_field f xs Stop e h = absurd (cc)
front_field f xs (Wrong n) e h = absurd (cc)
front_field f xs (Nothing n) e h = let c = cut_of f (Nothing n) xs e in absurd (omega (arith, c.moves, ap extent h, extent_later n (body f 0 (drop n xs))))
front_field f xs (Char d n) e h = let c = cut_of f (Char d n) xs e in absurd (omega (arith, c.cut.moves, ap extent h, extent_later n (body f 0 (drop n xs))))
front_field f xs (Byte d n) e h = let c = cut_of f (Byte d n) xs e in absurd (omega (arith, c.cut.moves, ap extent h, extent_later n (body f 0 (drop n xs))))
front_field f xs (Same n) e h = let c = cut_of f (Same n) xs e in absurd (omega (arith, c.moves, ap extent h, extent_later n (body f 0 (drop n xs))))

abbrev No_closing : Piece → Type 0
No_closing Closing = ⊥
No_closing _ = Unit {0}

not_closing : (t : Bool) → cond t Closing (Same 1) ≡ Closing → t ≡ true
not_closing true h = refl
not_closing false h = absurd (subst No_closing h tt)

-- the quotes stand there
pub record IsClosed (f : Form) (a : ℕ) (w : List ℕ) : Type 0 where
  pub first : a ≡ mark f.quote
  pub more : goes_on f.quote w ≡ true

pub closed_front : (f : Form) (a : ℕ) (w : List ℕ) → body f 0 (a ∷ w) ≡ ending.Closed 0 → IsClosed f a w
closed_front f a w h =
    let p = piece f (a ∷ w) in
    let e : p ≡ Closing = front_closing f (a ∷ w) p refl (ap (λ r. r.ending) (sym (at_piece f (a ∷ w) p refl)) ∙ h) in
    elim (cases_Bool (eqb a (mark f.quote))) [
      | inl t ↦
          let m : a ≡ mark f.quote = eqb-true a (mark f.quote) t in
          record { first = m; more = not_closing (goes_on f.quote w) (sym (ap (λ b. piece f (b ∷ w)) m ∙ mark_piece f w) ∙ e) }
      | inr t ↦ absurd (subst Some_bytes (sym (inner_piece f a w t) ∙ e) (inner_some f a w))
    ]

-- a brace stands there
pub field_front : (f : Form) (a : ℕ) (w : List ℕ) → body f 0 (a ∷ w) ≡ ending.Field 0 → a ≡ 123
field_front f a w h =
    let p = piece f (a ∷ w) in
    let e : p ≡ Field = front_field f (a ∷ w) p refl (ap (λ r. r.ending) (sym (at_piece f (a ∷ w) p refl)) ∙ h) in
    (cut_of f Field (a ∷ w) e).brace

-- ---- quotes and a brace that are put there

closed_by : (s : Sort) (r : Bool) (q : FStringQuote) (o : List ℕ) → body (record { sort = s; raw = r; quote = q }) 0 (marks_of q ++ o) ≡ ending.Closed 0
unfolding read piece
closed_by s r Single o = refl
closed_by s r Double o = refl
closed_by s r TripleSingle o = refl
closed_by s r TripleDouble o = refl

pub closed_marks : (f : Form) (o : List ℕ) → body f 0 (marks_of f.quote ++ o) ≡ ending.Closed 0
closed_marks f o = closed_by f.sort f.raw f.quote o

brace_mark : (q : FStringQuote) → eqb 123 (mark q) ≡ false
brace_mark Single = refl
brace_mark Double = refl
brace_mark TripleSingle = refl
brace_mark TripleDouble = refl

brace_piece : (f : Form) (o : List ℕ) → is_format f.sort ≡ true → begins 123 o ≡ false → piece f (123 ∷ o) ≡ Field
unfolding piece
brace_piece f o h k = let m = brace_mark f.quote in rw (m, h, k) refl

pub field_brace : (f : Form) (o : List ℕ) → is_format f.sort ≡ true → begins 123 o ≡ false → body f 0 (123 ∷ o) ≡ ending.Field 0
field_brace f o h k = ap (λ r. r.ending) (at_piece f (123 ∷ o) Field (brace_piece f o h k))

pub stops_brace : (o : List ℕ) → Stops o → begins 123 o ≡ false
stops_brace [] h = absurd h
stops_brace (b ∷ o) h = elim (cases_Bool (eqb b 123)) [
  | inr e ↦ e
  | inl e ↦ let s : b ≡ 123 = grind (arith, nat_tests) in absurd (false≢true (sym h ∙ ap clean s))
]

-- ---- a text before such an end

closed_alike : (q : FStringQuote) (w : List ℕ) → goes_on q w ≡ true → goes_on q (mark q ∷ w) ≡ true
closed_alike Single w h = refl
closed_alike Double w h = refl
closed_alike TripleSingle w h = (and_parts (begins 39 w) (begins 39 (drop 1 w)) h).0
closed_alike TripleDouble w h = (and_parts (begins 34 w) (begins 34 (drop 1 w)) h).0

brace_alike : (q : FStringQuote) (w o : List ℕ) → goes_on q (123 ∷ w) ≡ false → goes_on q (123 ∷ o) ≡ false
brace_alike Single w o h = h
brace_alike Double w o h = h
brace_alike TripleSingle w o h = refl
brace_alike TripleDouble w o h = refl

marks_alike : (q : FStringQuote) (a : ℕ) (w o : List ℕ) → (goes_on q (a ∷ w) ≡ false → goes_on q (a ∷ o) ≡ false) → (bs : List ℕ) → goes_on q (bs ++ a ∷ w) ≡ false → goes_on q (bs ++ a ∷ o) ≡ false
marks_alike q a w o h [] e = h e
marks_alike q a w o h (x ∷ []) e = e
marks_alike q a w o h (x ∷ y ∷ bs) e = e

pub no_marks : (m : ℕ) (t : Bool) → Within m (cond t Closing (Same 1)) → t ≡ false
no_marks m true h = absurd h
no_marks m false h = refl

same_front : (f : Form) (a : ℕ) (w o : List ℕ) → (goes_on f.quote (a ∷ w) ≡ false → goes_on f.quote (a ∷ o) ≡ false)
    → (b : ℕ) (bs : List ℕ) → Within (suc (length bs)) (piece f (b ∷ bs ++ a ∷ w)) → piece f (b ∷ bs ++ a ∷ o) ≡ piece f (b ∷ bs ++ a ∷ w)
same_front f a w o alike b bs h = elim (cases_Bool (eqb b (mark f.quote))) [
  | inl t ↦
      let at : (y : List ℕ) → piece f (b ∷ y) ≡ cond (goes_on f.quote y) Closing (Same 1) = λ y. ap (λ c. piece f (c ∷ y)) (eqb-true b (mark f.quote) t) ∙ mark_piece f y in
      let n = no_marks (suc (length bs)) (goes_on f.quote (bs ++ a ∷ w)) (subst (Within (suc (length bs))) (at (bs ++ a ∷ w)) h) in
      (at (bs ++ a ∷ o) ∙ ap (λ x. cond x Closing (Same 1)) (marks_alike f.quote a w o alike bs n)) ∙ sym (at (bs ++ a ∷ w) ∙ ap (λ x. cond x Closing (Same 1)) n)
  | inr t ↦
      let xs = bs ++ a ∷ [] in
      let e : (y : List ℕ) → xs ++ y ≡ bs ++ a ∷ y = λ y. append_assoc bs (a ∷ []) y in
      let len : suc (length bs) ≡ length xs = omega (arith, length-append bs (a ∷ [])) in
      let room : Within (length xs) (inner f b (xs ++ w)) = subst (λ n. Within n (inner f b (xs ++ w))) len (subst (λ y. Within (suc (length bs)) (inner f b y)) (sym (e w)) (subst (Within (suc (length bs))) (inner_piece f b (bs ++ a ∷ w) t) h)) in
      inner_piece f b (bs ++ a ∷ o) t ∙ ap (inner f b) (sym (e o)) ∙ inner_same f b xs w o room ∙ ap (inner f b) (e w) ∙ sym (inner_piece f b (bs ++ a ∷ w) t)
]

pub item_fits : (m : ℕ) (p : Piece) → Item_within m p → Within m p
item_fits m Closing h = h
item_fits m Field h = absurd h
item_fits m Stop h = h
item_fits m (Wrong n) h = h
item_fits m (Nothing n) h = h
item_fits m (Char c n) h = h
item_fits m (Byte c n) h = h
item_fits m (Same n) h = h

item_front : (f : Form) (a : ℕ) (w o : List ℕ) → (goes_on f.quote (a ∷ w) ≡ false → goes_on f.quote (a ∷ o) ≡ false)
    → (b : ℕ) (bs : List ℕ) → Item_within (suc (length bs)) (piece f (b ∷ bs ++ a ∷ w)) → piece f (b ∷ bs ++ a ∷ o) ≡ piece f (b ∷ bs ++ a ∷ w)
item_front f a w o alike b bs h = same_front f a w o alike b bs (item_fits (suc (length bs)) (piece f (b ∷ bs ++ a ∷ w)) h)

-- where it ends at the byte a, and before o likewise
tail_closed : (f : Form) (xs : List ℕ) (a : ℕ) (w o : List ℕ) → body f 0 (xs ++ a ∷ w) ≡ ending.Closed (length xs) → body f 0 (a ∷ o) ≡ ending.Closed 0 → body f 0 (xs ++ a ∷ o) ≡ ending.Closed (length xs)
tail_closed f xs a w o h k =
    let here : body f 0 (a ∷ w) ≡ ending.Closed 0 = ap (body f 0) (sym (drop-append_seam xs (a ∷ w))) ∙ body_once f (xs ++ a ∷ w) (ending.Closed (length xs)) tt h in
    let c = closed_front f a w here in
    let d = closed_front f a o k in
    let m : goes_on f.quote (a ∷ w) ≡ true = ap (λ b. goes_on f.quote (b ∷ w)) c.first ∙ closed_alike f.quote w c.more in
    let n : length xs + 0 ≡ length xs = omega arith in
    tail f (a ∷ w) (a ∷ o) (item_front f a w o (λ e. absurd (false≢true (sym e ∙ m)))) xs (subst Final (sym h) tt) (ap extent h) ∙ ap (later (length xs)) k ∙ ap ending.Closed n

pub tail_field : (f : Form) (xs : List ℕ) (a : ℕ) (w o : List ℕ) → body f 0 (xs ++ a ∷ w) ≡ ending.Field (length xs) → body f 0 (a ∷ o) ≡ ending.Field 0 → body f 0 (xs ++ a ∷ o) ≡ ending.Field (length xs)
tail_field f xs a w o h k =
    let b = field_front f a o k in
    let n : length xs + 0 ≡ length xs = omega arith in
    tail f (a ∷ w) (a ∷ o) (item_front f a w o (subst (λ c. goes_on f.quote (c ∷ w) ≡ false → goes_on f.quote (c ∷ o) ≡ false) (sym b) (brace_alike f.quote w o))) xs (subst Final (sym h) tt) (ap extent h) ∙ ap (later (length xs)) k ∙ ap ending.Field n

-- a text at its k-th byte
record IsSplit (k : ℕ) (u : List ℕ) : Type 0 where
  xs : List ℕ
  a : ℕ
  r : List ℕ
  is : u ≡ xs ++ a ∷ r
  len : length xs ≡ k
  rest : drop k u ≡ a ∷ r

split_by : (k : ℕ) (u y : List ℕ) → k < length u → drop k u ≡ y → IsSplit k u
split_by k u [] lt e = absurd (omega (arith, lt, length-drop k u, ap length e))
split_by k u (a ∷ r) lt e = record { xs = take k u; a = a; r = r; is = sym (take-append-drop k u) ∙ ap (λ y. take k u ++ y) e; len = length-take-le k u (omega (arith, lt)); rest = e }

-- a text of k bytes in what is kept of a text, before its end
pub text_closed : (f : Form) (k : ℕ) (u v o : List ℕ) → k < length u → body f 0 (u ++ v) ≡ ending.Closed k → body f 0 (drop k u ++ o) ≡ body f 0 (drop k u ++ v) → body f 0 (u ++ o) ≡ ending.Closed k
text_closed f k u v o lt h s =
    let c = split_by k u (drop k u) lt refl in
    let at : (y : List ℕ) → u ++ y ≡ c.xs ++ c.a ∷ (c.r ++ y) = λ y. ap (λ x. x ++ y) c.is ∙ append_assoc c.xs (c.a ∷ c.r) y in
    let here : body f 0 (c.xs ++ c.a ∷ (c.r ++ v)) ≡ ending.Closed (length c.xs) = ap (body f 0) (sym (at v)) ∙ h ∙ ap ending.Closed (sym c.len) in
    let once : body f 0 (c.a ∷ (c.r ++ v)) ≡ ending.Closed 0 = ap (body f 0) (sym (drop-append_seam c.xs (c.a ∷ (c.r ++ v)))) ∙ body_once f (c.xs ++ c.a ∷ (c.r ++ v)) (ending.Closed (length c.xs)) tt here in
    let there : body f 0 (c.a ∷ (c.r ++ o)) ≡ ending.Closed 0 = ap (λ x. body f 0 (x ++ o)) (sym c.rest) ∙ s ∙ ap (λ x. body f 0 (x ++ v)) c.rest ∙ once in
    ap (body f 0) (at o) ∙ tail_closed f c.xs c.a (c.r ++ v) (c.r ++ o) here there ∙ ap ending.Closed c.len

pub text_field : (f : Form) (k : ℕ) (u v o : List ℕ) → k < length u → body f 0 (u ++ v) ≡ ending.Field k → body f 0 (drop k u ++ o) ≡ body f 0 (drop k u ++ v) → body f 0 (u ++ o) ≡ ending.Field k
text_field f k u v o lt h s =
    let c = split_by k u (drop k u) lt refl in
    let at : (y : List ℕ) → u ++ y ≡ c.xs ++ c.a ∷ (c.r ++ y) = λ y. ap (λ x. x ++ y) c.is ∙ append_assoc c.xs (c.a ∷ c.r) y in
    let here : body f 0 (c.xs ++ c.a ∷ (c.r ++ v)) ≡ ending.Field (length c.xs) = ap (body f 0) (sym (at v)) ∙ h ∙ ap ending.Field (sym c.len) in
    let once : body f 0 (c.a ∷ (c.r ++ v)) ≡ ending.Field 0 = ap (body f 0) (sym (drop-append_seam c.xs (c.a ∷ (c.r ++ v)))) ∙ body_once f (c.xs ++ c.a ∷ (c.r ++ v)) (ending.Field (length c.xs)) tt here in
    let there : body f 0 (c.a ∷ (c.r ++ o)) ≡ ending.Field 0 = ap (λ x. body f 0 (x ++ o)) (sym c.rest) ∙ s ∙ ap (λ x. body f 0 (x ++ v)) c.rest ∙ once in
    ap (body f 0) (at o) ∙ tail_field f c.xs c.a (c.r ++ v) (c.r ++ o) here there ∙ ap ending.Field c.len
