-- A body is read piece by piece.
use Rattle.std.proofs.Common.{◌≡◌, ◌<◌, ◌≤◌, ℕ, ◌+◌, ◌-◌, true, List, [], ◌∷◌, length, take, drop, get_or, refl, ap, sym, ◌∙◌, arith, zero, suc, inl, inr, subst, add-zero, IsUtf8, Some, None}
use Rattle.std.proofs.lemmas.Str.{IsCharBoundary-before_ascii, IsCharBoundary-end, IsCharBoundary-from_rest, IsUtf8-drop}
use Rattle.std.proofs.lemmas.Bool.{cases_lt}
use Rattle.std.proofs.lemmas.List.{get_or-drop, length-drop, drop-drop, take_rest}
use Rattle.std.specs.Char.{encode_utf8}
use Rattle.std.specs.Str.{IsCharBoundary}
use Rattle.starlark_lexer.specs.declared.literal.Ending.{Ending}
use Rattle.starlark_lexer.specs.declared.literal.Ending.TheVariants as ending
use Rattle.starlark_lexer.specs.declared.literal.Form.{Form}
use Rattle.starlark_lexer.specs.declared.literal.Piece.{Piece}
use Rattle.starlark_lexer.specs.declared.literal.Piece.TheVariants.{Closing, Field, Stop, Wrong, Nothing, Char, Byte, Same}
use Rattle.starlark_lexer.specs.Fronts.{ending_at, width}
use Rattle.starlark_lexer.specs.Literals.{quotes, is_format, piece, Read, later, behind, by_piece, read, body}
use Rattle.starlark_lexer.proofs.Pieces.{IsCut, IsEnd, IsField, Cuts, cut_of, any_cut}

-- ---- endings that stand further on

later_none : (e : Ending) → later 0 e ≡ e
later_none (ending.Closed n) = ap ending.Closed (omega arith)
later_none (ending.Field n) = ap ending.Field (omega arith)
later_none (ending.Unfinished n) = ap ending.Unfinished (omega arith)
later_none (ending.Escape n m) = ap (λ k. ending.Escape k m) (omega arith)

pub later_more : (i k : ℕ) (e : Ending) → later i (later k e) ≡ later (i + k) e
later_more i k (ending.Closed n) = ap ending.Closed (omega arith)
later_more i k (ending.Field n) = ap ending.Field (omega arith)
later_more i k (ending.Unfinished n) = ap ending.Unfinished (omega arith)
later_more i k (ending.Escape n m) = ap (λ j. ending.Escape j m) (omega arith)

-- ---- one piece

skip : (f : Form) (n : ℕ) (xs : List ℕ) → read f n xs ≡ read f 0 (drop n xs)
unfolding read
skip f zero [] = refl
skip f (suc n) [] = refl
skip f zero (b ∷ bs) = refl
skip f (suc n) (b ∷ bs) = skip f n bs

go_on : (f : Form) (n b : ℕ) (bs : List ℕ) → 0 < n → read f (n - 1) bs ≡ read f 0 (drop n (b ∷ bs))
go_on f zero b bs h = absurd (omega (arith, h))
go_on f (suc n) b bs h = let e : suc n - 1 ≡ n = omega arith in ap (λ k. read f k bs) e ∙ skip f n bs

by_same : (f : Form) (b : ℕ) (bs : List ℕ) (p : Piece) → Cuts f p (b ∷ bs) → by_piece p (b ∷ bs) (λ k. read f (k - 1) bs) ≡ by_piece p (b ∷ bs) (λ k. read f 0 (drop k (b ∷ bs)))
by_same f b bs Closing h = refl
by_same f b bs Field h = refl
by_same f b bs Stop h = refl
by_same f b bs (Wrong n) h = refl
by_same f b bs (Nothing n) h = ap (behind [] n) (go_on f n b bs h.moves)
by_same f b bs (Char c n) h = ap (behind (encode_utf8 c) n) (go_on f n b bs h.cut.moves)
by_same f b bs (Byte c n) h = ap (behind (c ∷ []) n) (go_on f n b bs h.cut.moves)
by_same f b bs (Same n) h = ap (behind (take n (b ∷ bs)) n) (go_on f n b bs h.moves)

pub at_piece : (f : Form) (xs : List ℕ) (p : Piece) → piece f xs ≡ p → read f 0 xs ≡ by_piece p xs (λ k. read f 0 (drop k xs))
unfolding read piece
at_piece f [] p e = ap (λ q. by_piece q [] (λ k. read f 0 (drop k []))) e
at_piece f (b ∷ bs) p e = ap (λ q. by_piece q (b ∷ bs) (λ k. read f (k - 1) bs)) e ∙ by_same f b bs p (cut_of f p (b ∷ bs) e)

-- ---- the ending

ending_from : (f : Form) (i : ℕ) (xs : List ℕ) (p : Piece) (e : Ending) (go : ℕ → Read) → ending_at i p ≡ Some e → later i (by_piece p xs go).ending ≡ e
ending_from f i xs Closing e go h = ap ending.Closed (add-zero i) ∙ cc
ending_from f i xs Field e go h = ap ending.Field (add-zero i) ∙ cc
ending_from f i xs Stop e go h = ap ending.Unfinished (add-zero i) ∙ cc
ending_from f i xs (Wrong m) e go h = ap (λ k. ending.Escape k m) (add-zero i) ∙ cc
ending_from f i xs (Nothing n) e go h = cc
ending_from f i xs (Char c n) e go h = cc
ending_from f i xs (Byte c n) e go h = cc
ending_from f i xs (Same n) e go h = cc

pub at_end : (f : Form) (i : ℕ) (xs : List ℕ) (p : Piece) (e all : Ending) → later i (body f 0 xs) ≡ all → piece f xs ≡ p → ending_at i p ≡ Some e → e ≡ all
at_end f i xs p e all is h w = sym (ending_from f i xs p e (λ k. read f 0 (drop k xs)) w) ∙ ap (λ r. later i r.ending) (sym (at_piece f xs p h)) ∙ is

goes_from : (f : Form) (i : ℕ) (xs : List ℕ) (p : Piece) (go : ℕ → Read) → ending_at i p ≡ None → later i (by_piece p xs go).ending ≡ later (i + width p) (go (width p)).ending
goes_from f i xs Closing go h = cc
goes_from f i xs Field go h = cc
goes_from f i xs Stop go h = cc
goes_from f i xs (Wrong m) go h = cc
goes_from f i xs (Nothing n) go h = later_more i n (go n).ending
goes_from f i xs (Char c n) go h = later_more i n (go n).ending
goes_from f i xs (Byte c n) go h = later_more i n (go n).ending
goes_from f i xs (Same n) go h = later_more i n (go n).ending

pub past_piece : (f : Form) (i : ℕ) (xs ys : List ℕ) (p : Piece) (all : Ending) → later i (body f 0 xs) ≡ all → piece f xs ≡ p → ending_at i p ≡ None → ys ≡ drop (width p) xs → later (i + width p) (body f 0 ys) ≡ all
past_piece f i xs ys p all is h w e =
    ap (λ zs. later (i + width p) (body f 0 zs)) e ∙ sym (goes_from f i xs p (λ k. read f 0 (drop k xs)) w) ∙ ap (λ r. later i r.ending) (sym (at_piece f xs p h)) ∙ is

width_cut : (f : Form) (i : ℕ) (xs : List ℕ) (p : Piece) → ending_at i p ≡ None → Cuts f p xs → IsCut xs (width p)
width_cut f i xs Closing h c = cc
width_cut f i xs Field h c = cc
width_cut f i xs Stop h c = cc
width_cut f i xs (Wrong m) h c = cc
width_cut f i xs (Nothing n) h c = c
width_cut f i xs (Char d n) h c = c.cut
width_cut f i xs (Byte d n) h c = c.cut
width_cut f i xs (Same n) h c = c

pub width_of : (f : Form) (i : ℕ) (xs : List ℕ) (p : Piece) → piece f xs ≡ p → ending_at i p ≡ None → IsCut xs (width p)
width_of f i xs p e h = width_cut f i xs p h (cut_of f p xs e)

pub piece_is : (f : Form) (i : ℕ) (xs : List ℕ) (p : Piece) → p ≡ piece f (take (length xs - i) (drop i xs)) → piece f (drop i xs) ≡ p
piece_is f i xs p e = ap (piece f) (sym (take_rest xs i)) ∙ sym e

pub at_start : (f : Form) (xs : List ℕ) → later 0 (body f 0 xs) ≡ body f 0 xs
at_start f xs = later_none (body f 0 xs)

pub at_text_end : (f : Form) (i : ℕ) (xs : List ℕ) (all : Ending) → later i (body f 0 xs) ≡ all → length xs ≡ 0 → ending.Unfinished i ≡ all
unfolding read
at_text_end f i [] all is e = ap ending.Unfinished (sym (add-zero i)) ∙ is
at_text_end f i (x ∷ xs) all is e = absurd (omega (arith, e))

-- ---- where a body may end

-- a line end, or the end of the text
record IsStop (xs : List ℕ) (n : ℕ) : Type 0 where
  within : n ≤ length xs
  low : 0 < length (drop n xs) → get_or (drop n xs) 0 0 < 128

-- an end, by what stands there
abbrev Stands : Form → List ℕ → Ending → Type 0
Stands f xs (ending.Closed n) = IsEnd (drop n xs) (quotes f.quote)
Stands f xs (ending.Field n) = IsField f (drop n xs)
Stands f xs (ending.Unfinished n) = IsStop xs n
Stands f xs (ending.Escape n m) = IsEnd (drop n xs) m

stands_later : (f : Form) (k : ℕ) (xs : List ℕ) (e : Ending) → k ≤ length xs → Stands f (drop k xs) e → Stands f xs (later k e)
stands_later f k xs (ending.Closed n) le h = subst (λ ys. IsEnd ys (quotes f.quote)) (drop-drop n k xs) h
stands_later f k xs (ending.Field n) le h = subst (IsField f) (drop-drop n k xs) h
stands_later f k xs (ending.Unfinished n) le h =
    record { within = omega (arith, h.within, length-drop k xs, le); low = subst (λ ys. 0 < length ys → get_or ys 0 0 < 128) (drop-drop n k xs) h.low }
stands_later f k xs (ending.Escape n m) le h = subst (λ ys. IsEnd ys m) (drop-drop n k xs) h

stands_piece : (f : Form) (xs : List ℕ) (p : Piece) (go : ℕ → Read) → Cuts f p xs → ((k : ℕ) → 0 < k → k ≤ length xs → Stands f (drop k xs) (go k).ending) → Stands f xs (by_piece p xs go).ending
stands_piece f xs Closing go c h = c
stands_piece f xs Field go c h = c
stands_piece f xs Stop go c h = record { within = omega arith; low = c }
stands_piece f xs (Wrong m) go c h = c
stands_piece f xs (Nothing n) go c h = stands_later f n xs (go n).ending c.within (h n c.moves c.within)
stands_piece f xs (Char d n) go c h = stands_later f n xs (go n).ending c.cut.within (h n c.cut.moves c.cut.within)
stands_piece f xs (Byte d n) go c h = stands_later f n xs (go n).ending c.cut.within (h n c.cut.moves c.cut.within)
stands_piece f xs (Same n) go c h = stands_later f n xs (go n).ending c.within (h n c.moves c.within)

stands_by : (f : Form) (fuel : ℕ) (xs : List ℕ) → length xs ≤ fuel → Stands f xs (body f 0 xs)
stands_by f zero xs le =
    let e = at_piece f xs (piece f xs) refl in
    subst (λ r. Stands f xs r.ending) (sym e) (stands_piece f xs (piece f xs) (λ k. read f 0 (drop k xs)) (cut_of f (piece f xs) xs refl) (λ k some within. absurd (omega (arith, some, within, le))))
stands_by f (suc fuel) xs le =
    let e = at_piece f xs (piece f xs) refl in
    subst (λ r. Stands f xs r.ending) (sym e) (stands_piece f xs (piece f xs) (λ k. read f 0 (drop k xs)) (cut_of f (piece f xs) xs refl)
    (λ k some within. stands_by f fuel (drop k xs) (omega (arith, some, within, le, length-drop k xs))))

stands : (f : Form) (xs : List ℕ) → Stands f xs (body f 0 xs)
stands f xs = stands_by f (length xs) xs (omega arith)

-- ---- the same in the words of places

abbrev pub IsInside : Form → List ℕ → Ending → Type 0
IsInside f rest (ending.Closed n) = n + quotes f.quote ≤ length rest
IsInside f rest (ending.Field n) = n + 1 ≤ length rest
IsInside f rest (ending.Unfinished n) = n ≤ length rest
IsInside f rest (ending.Escape n m) = n + m ≤ length rest

abbrev pub IsBounded : Form → List ℕ → Ending → Type 0
IsBounded f rest (ending.Closed n) = IsCharBoundary rest n × IsCharBoundary rest (n + quotes f.quote)
IsBounded f rest (ending.Field n) = IsCharBoundary rest n × IsCharBoundary rest (n + 1)
IsBounded f rest (ending.Unfinished n) = IsCharBoundary rest n
IsBounded f rest (ending.Escape n m) = IsCharBoundary rest n × IsCharBoundary rest (n + m)

inside_from : (f : Form) (rest : List ℕ) (e : Ending) → Stands f rest e → IsInside f rest e
inside_from f rest (ending.Closed n) h = omega (arith, h.cut.moves, h.cut.within, length-drop n rest)
inside_from f rest (ending.Field n) h = omega (arith, h.some, length-drop n rest)
inside_from f rest (ending.Unfinished n) h = h.within
inside_from f rest (ending.Escape n m) h = omega (arith, h.cut.moves, h.cut.within, length-drop n rest)

pub body_within : (f : Form) (rest : List ℕ) → IsInside f rest (body f 0 rest)
body_within f rest = inside_from f rest (body f 0 rest) (stands f rest)

-- before an ASCII byte
low_boundary : (rest : List ℕ) (n : ℕ) → n < length rest → get_or (drop n rest) 0 0 < 128 → IsCharBoundary rest n
low_boundary rest n lt low =
    let same : get_or (drop n rest) 0 0 ≡ get_or rest n 0 = get_or-drop n rest 0 0 ∙ ap (λ k. get_or rest k 0) (add-zero n) in
    IsCharBoundary-before_ascii rest n lt (subst (λ b. b < 128) same low)

end_boundary : (rest : List ℕ) (n m : ℕ) → IsUtf8 rest → IsEnd (drop n rest) m → IsCharBoundary rest n × IsCharBoundary rest (n + m)
end_boundary rest n m utf8 h =
    let lt : n < length rest = omega (arith, h.cut.moves, h.cut.within, length-drop n rest) in
    let here : IsCharBoundary rest n = low_boundary rest n lt h.low in
    (here, IsCharBoundary-from_rest rest n m (omega (arith, lt)) (h.cut.ends h.low (IsUtf8-drop rest n utf8 here)))

stop_boundary : (rest : List ℕ) (n : ℕ) → IsStop rest n → IsCharBoundary rest n
stop_boundary rest n h =
    elim (cases_lt n (length rest)) [
      | inl lt ↦ low_boundary rest n lt (h.low (omega (arith, lt, length-drop n rest)))
      | inr ge ↦ let e : length rest ≡ n = omega (arith, ge, h.within) in subst (IsCharBoundary rest) e (IsCharBoundary-end rest)
    ]

field_end : (f : Form) (xs : List ℕ) → IsField f xs → IsEnd xs 1
field_end f [] h = absurd (omega (arith, h.some))
field_end f (b ∷ bs) h = record { cut = any_cut b bs; low = omega (arith, h.brace) }

bounded_from : (f : Form) (rest : List ℕ) (e : Ending) → IsUtf8 rest → Stands f rest e → IsBounded f rest e
bounded_from f rest (ending.Closed n) u h = end_boundary rest n (quotes f.quote) u h
bounded_from f rest (ending.Field n) u h = end_boundary rest n 1 u (field_end f (drop n rest) h)
bounded_from f rest (ending.Unfinished n) u h = stop_boundary rest n h
bounded_from f rest (ending.Escape n m) u h = end_boundary rest n m u h

pub body_bounds : (f : Form) (rest : List ℕ) → IsUtf8 rest → IsBounded f rest (body f 0 rest)
body_bounds f rest u = bounded_from f rest (body f 0 rest) u (stands f rest)

field_of : (f : Form) (rest : List ℕ) (e : Ending) (n : ℕ) → e ≡ ending.Field n → Stands f rest e → IsField f (drop n rest)
field_of f rest e n h s = subst (Stands f rest) h s

pub field_format : (f : Form) (rest : List ℕ) (n : ℕ) → body f 0 rest ≡ ending.Field n → is_format f.sort ≡ true
field_format f rest n e = (field_of f rest (body f 0 rest) n e (stands f rest)).format
