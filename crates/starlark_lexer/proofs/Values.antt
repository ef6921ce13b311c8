-- The value of a body is built from whole plain runs and the pieces between them.
use Rattle.std.proofs.Common.{◌≡◌, ◌<◌, ℕ, ◌+◌, true, false, cond, ◌||◌, List, [], ◌∷◌, ◌++◌, ◌&&◌, Option, Some, None, length, take, drop, get_or, refl, ap, sym, ◌∙◌, arith, inl, inr, eqb, subst, one-add, append_assoc, add-zero, IsUtf8}
use Rattle.std.proofs.lemmas.Bool.{cases_Bool, false≢true, and_right, cond-false}
use Rattle.std.proofs.lemmas.Bool.Decides.{nat_tests}
use Rattle.std.proofs.lemmas.List.{append-nil, get_or-drop, length-drop, drop-drop}
use Rattle.std.proofs.lemmas.List.Sums.{prefix_len_stops, prefix_len-le-length}
use Rattle.std.specs.Str.{IsCharBoundary}
use Rattle.std.specs.List.{prefix_len}
use Rattle.starlark_lexer.specs.declared.literal.Ending.{Ending}
use Rattle.starlark_lexer.specs.declared.literal.Form.{Form}
use Rattle.starlark_lexer.specs.declared.literal.Piece.{Piece}
use Rattle.starlark_lexer.specs.declared.literal.Piece.TheVariants.{Closing, Field, Stop, Wrong, Nothing, Char, Byte, Same}
use Rattle.starlark_lexer.specs.declared.token.FStringQuote.{FStringQuote}
use Rattle.starlark_lexer.specs.declared.token.FStringQuote.TheVariants.{Single, Double, TripleSingle, TripleDouble}
use Rattle.std.specs.Option.{is_some}
use Rattle.starlark_lexer.specs.Fronts.{is_plain, ending_at, width, denoted, IsText, IsBytes}
use Rattle.starlark_lexer.specs.Literals.{mark, goes_on, is_format, is_bytes, piece, Read, by_piece, read, body, later, value}
use Rattle.starlark_lexer.proofs.Pieces.{IsCut, Cuts, cut_of}
use Rattle.starlark_lexer.proofs.Bodies.{at_piece, at_start, later_more, width_of}

-- ---- plain runs

low_unless_plain : (b : ℕ) → is_plain b ≡ false → b < 128
low_unless_plain b h = grind (arith, nat_tests)

pub run_boundary : (xs : List ℕ) → IsCharBoundary xs (prefix_len is_plain xs)
run_boundary xs =
    (prefix_len-le-length is_plain xs, λ lt high. absurd (omega (arith, low_unless_plain (get_or xs (prefix_len is_plain xs) 0) (prefix_len_stops is_plain xs 0 lt))))

no_mark : (q : FStringQuote) (b : ℕ) → is_plain b ≡ true → eqb b (mark q) ≡ false
no_mark Single b h = grind (arith, nat_tests)
no_mark Double b h = grind (arith, nat_tests)
no_mark TripleSingle b h = grind (arith, nat_tests)
no_mark TripleDouble b h = grind (arith, nat_tests)

plain_piece : (f : Form) (b : ℕ) (bs : List ℕ) → is_plain b ≡ true → piece f (b ∷ bs) ≡ Same 1
unfolding piece
plain_piece f b bs h =
    let e0 : eqb b (mark f.quote) ≡ false = no_mark f.quote b h in
    let e1 : eqb b 13 ≡ false = grind (arith, nat_tests) in
    let e2 : eqb b 10 ≡ false = grind (arith, nat_tests) in
    let e3 : eqb b 92 ≡ false = grind (arith, nat_tests) in
    let e4 : (eqb b 123 || eqb b 125) ≡ false = grind (arith, nat_tests) in
    cond-false _ _ _ (ap (λ t. t && goes_on f.quote bs) e0) ∙ cond-false _ _ _ e1 ∙ cond-false _ _ _ e2 ∙ cond-false _ _ _ e3 ∙ cond-false _ _ _ (ap (λ t. is_format f.sort && t) e4 ∙ and_right (is_format f.sort) false refl)

-- the value behind a plain run
pub run : (f : Form) (xs : List ℕ) → value f xs ≡ take (prefix_len is_plain xs) xs ++ value f (drop (prefix_len is_plain xs) xs)
run f [] = refl
run f (b ∷ bs) =
    elim (cases_Bool (is_plain b)) [
      | inl h ↦
          let n = prefix_len is_plain bs in
          let left : value f (b ∷ bs) ≡ b ∷ (take n bs ++ value f (drop n bs)) =
          ap (λ r. r.value) (at_piece f (b ∷ bs) (Same 1) (plain_piece f b bs h)) ∙ ap (λ v. b ∷ v) (run f bs) in
          let right : take (1 + n) (b ∷ bs) ++ value f (drop (1 + n) (b ∷ bs)) ≡ b ∷ (take n bs ++ value f (drop n bs)) =
          ap (λ m. take m (b ∷ bs) ++ value f (drop m (b ∷ bs))) (one-add n) in
          left ∙ sym right ∙ ap (λ c. take (cond c (1 + n) 0) (b ∷ bs) ++ value f (drop (cond c (1 + n) 0) (b ∷ bs))) (sym h)
      | inr h ↦ ap (λ c. take (cond c (1 + prefix_len is_plain bs) 0) (b ∷ bs) ++ value f (drop (cond c (1 + prefix_len is_plain bs) 0) (b ∷ bs))) (sym h)
    ]

-- the ending behind a plain run
pub body_run : (f : Form) (xs : List ℕ) → body f 0 xs ≡ later (prefix_len is_plain xs) (body f 0 (drop (prefix_len is_plain xs) xs))
body_run f [] = sym (at_start f [])
body_run f (b ∷ bs) =
    elim (cases_Bool (is_plain b)) [
      | inl h ↦
          let n = prefix_len is_plain bs in
          let left : body f 0 (b ∷ bs) ≡ later 1 (later n (body f 0 (drop n bs))) =
          ap (λ r. r.ending) (at_piece f (b ∷ bs) (Same 1) (plain_piece f b bs h)) ∙ ap (later 1) (body_run f bs) in
          let right : later (1 + n) (body f 0 (drop (1 + n) (b ∷ bs))) ≡ later (1 + n) (body f 0 (drop n bs)) =
          ap (λ m. later (1 + n) (body f 0 (drop m (b ∷ bs)))) (one-add n) in
          left ∙ later_more 1 n (body f 0 (drop n bs)) ∙ sym right ∙ ap (λ c. later (cond c (1 + n) 0) (body f 0 (drop (cond c (1 + n) 0) (b ∷ bs)))) (sym h)
      | inr h ↦ sym (at_start f (b ∷ bs)) ∙ ap (λ c. later (cond c (1 + prefix_len is_plain bs) 0) (body f 0 (drop (cond c (1 + prefix_len is_plain bs) 0) (b ∷ bs)))) (sym h)
    ]

-- a body that is read up to i is read up to the end of the plain run that stands there
pub past_run : (f : Form) (i n : ℕ) (xs : List ℕ) (all : Ending) → later i (body f 0 (drop i xs)) ≡ all → n ≡ prefix_len is_plain (drop i xs) → later (i + n) (body f 0 (drop (i + n) xs)) ≡ all
past_run f i n xs all is e =
    let m = prefix_len is_plain (drop i xs) in
    ap (λ k. later (i + k) (body f 0 (drop (i + k) xs))) e
    ∙ ap (λ ys. later (i + m) (body f 0 ys)) (sym (drop-drop m i xs))
    ∙ sym (later_more i m (body f 0 (drop m (drop i xs))))
    ∙ ap (later i) (sym (body_run f (drop i xs))) ∙ is

-- ---- one piece

value_from : (f : Form) (xs : List ℕ) (p : Piece) (go : ℕ → Read) → ending_at 0 p ≡ None → (by_piece p xs go).value ≡ denoted p xs ++ (go (width p)).value
value_from f xs Closing go h = cc
value_from f xs Field go h = cc
value_from f xs Stop go h = cc
value_from f xs (Wrong m) go h = cc
value_from f xs (Nothing n) go h = refl
value_from f xs (Char c n) go h = refl
value_from f xs (Byte c n) go h = refl
value_from f xs (Same n) go h = refl

no_value : (f : Form) (xs : List ℕ) (p : Piece) (go : ℕ → Read) → is_some (ending_at 0 p) ≡ true → (by_piece p xs go).value ≡ []
no_value f xs Closing go h = refl
no_value f xs Field go h = refl
no_value f xs Stop go h = refl
no_value f xs (Wrong m) go h = refl
no_value f xs (Nothing n) go h = absurd (false≢true h)
no_value f xs (Char c n) go h = absurd (false≢true h)
no_value f xs (Byte c n) go h = absurd (false≢true h)
no_value f xs (Same n) go h = absurd (false≢true h)

-- one turn of the loop: v is built, the rest is a plain run and then the piece p
module _ (f : Form) (v w front xs ys all : List ℕ) (p : Piece) (is : v ++ value f xs ≡ all) (fr : front ≡ take (prefix_len is_plain xs) xs) (re : ys ≡ drop (prefix_len is_plain xs) xs) (vs : w ≡ v ++ front) (at : piece f ys ≡ p) where
  here : w ++ value f ys ≡ all
  here = (λ j. (vs ∙ ap (λ z. v ++ z) fr) j ++ value f (re j)) ∙ append_assoc v _ _ ∙ ap (λ z. v ++ z) (sym (run f xs)) ∙ is

  pub turn_ends : is_some (ending_at 0 p) ≡ true → w ≡ all
  turn_ends h = sym (append-nil w) ∙ ap (λ z. w ++ z) (sym (no_value f ys p (λ k. read f 0 (drop k ys)) h)) ∙ ap (λ r. w ++ r.value) (sym (at_piece f ys p at)) ∙ here

  pub turn_goes : ending_at 0 p ≡ None → (u zs : List ℕ) → u ≡ w ++ denoted p ys → zs ≡ drop (width p) ys → u ++ value f zs ≡ all
  turn_goes h u zs e z =
      (λ j. e j ++ value f (z j)) ∙ append_assoc w (denoted p ys) (value f (drop (width p) ys))
      ∙ ap (λ x. w ++ x) (sym (value_from f ys p (λ k. read f 0 (drop k ys)) h)) ∙ ap (λ r. w ++ r.value) (sym (at_piece f ys p at)) ∙ here

  pub turn_cut : ending_at 0 p ≡ None → IsCut ys (width p)
  turn_cut h = width_of f 0 ys p at h

  pub turn_low : ending_at 0 p ≡ None → get_or ys 0 0 < 128
  turn_low h =
      let n = prefix_len is_plain xs in
      let cut : IsCut ys (width p) = turn_cut h in
      let lt : n < length xs = omega (arith, cut.moves, cut.within, ap length re, length-drop n xs) in
      let same : get_or ys 0 0 ≡ get_or xs n 0 = ap (λ zs. get_or zs 0 0) re ∙ get_or-drop n xs 0 0 ∙ ap (λ k. get_or xs k 0) (add-zero n) in
      subst (λ b. b < 128) (sym same) (low_unless_plain (get_or xs n 0) (prefix_len_stops is_plain xs 0 lt))

  pub turn_boundary : ending_at 0 p ≡ None → IsUtf8 ys → IsCharBoundary ys (width p)
  turn_boundary h utf8 = (turn_cut h).ends (turn_low h) utf8

  pub turn_less : ending_at 0 p ≡ None → (zs : List ℕ) → zs ≡ drop (width p) ys → length zs < length xs
  turn_less h zs z =
      let cut : IsCut ys (width p) = turn_cut h in
      omega (arith, cut.moves, cut.within, ap length z, length-drop (width p) ys, ap length re, length-drop (prefix_len is_plain xs) xs)

suits_text : (f : Form) (p : Piece) (ys : List ℕ) → is_bytes f.sort ≡ false → Cuts f p ys → IsCharBoundary ys (width p) → IsText p ys
suits_text f Closing ys b c h = tt
suits_text f Field ys b c h = tt
suits_text f Stop ys b c h = tt
suits_text f (Wrong m) ys b c h = tt
suits_text f (Nothing n) ys b c h = tt
suits_text f (Char d n) ys b c h = tt
suits_text f (Byte d n) ys b c h = absurd (false≢true (sym b ∙ c.suits))
suits_text f (Same n) ys b c h = h

pub is_text : (f : Form) (p : Piece) (ys : List ℕ) → is_bytes f.sort ≡ false → piece f ys ≡ p → IsCharBoundary ys (width p) → IsText p ys
is_text f p ys b at h = suits_text f p ys b (cut_of f p ys at) h

suits_bytes : (f : Form) (p : Piece) (ys : List ℕ) → is_bytes f.sort ≡ true → Cuts f p ys → IsBytes p ys
suits_bytes f Closing ys b c = tt
suits_bytes f Field ys b c = tt
suits_bytes f Stop ys b c = tt
suits_bytes f (Wrong m) ys b c = tt
suits_bytes f (Nothing n) ys b c = tt
suits_bytes f (Char d n) ys b c = absurd (false≢true (sym c.suits ∙ b))
suits_bytes f (Byte d n) ys b c = tt
suits_bytes f (Same n) ys b c = c.within

pub is_bytes_of : (f : Form) (p : Piece) (ys : List ℕ) → is_bytes f.sort ≡ true → piece f ys ≡ p → IsBytes p ys
is_bytes_of f p ys b at = suits_bytes f p ys b (cut_of f p ys at)

none_of : {T : Type 0} (o : Option T) → is_some o ≡ false → o ≡ None
none_of None h = refl
none_of (Some x) h = absurd (false≢true (sym h))

pub goes : (p : Piece) → false ≡ is_some (ending_at 0 p) → ending_at 0 p ≡ None
goes p h = none_of (ending_at 0 p) (sym h)

pub at_end_of : (f : Form) (v xs all : List ℕ) → v ++ value f xs ≡ all → length xs ≡ 0 → v ≡ all
unfolding read
at_end_of f v [] all is e = sym (append-nil v) ∙ is
at_end_of f v (x ∷ xs) all is e = absurd (omega (arith, e))

pub front_is : (xs front : List ℕ) (n : ℕ) → front ≡ take n xs → n ≡ prefix_len is_plain xs → front ≡ take (prefix_len is_plain xs) xs
front_is xs front n f e = f ∙ ap (λ k. take k xs) e

pub back_is : (xs back : List ℕ) (n : ℕ) → back ≡ drop n xs → n ≡ prefix_len is_plain xs → back ≡ drop (prefix_len is_plain xs) xs
back_is xs back n f e = f ∙ ap (λ k. drop k xs) e
