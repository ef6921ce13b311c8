-- Items and the fault cut no character of the text.
use Rattle.std.proofs.Common.{◌≡◌, ◌<◌, ℕ, ◌+◌, Bool, true, false, ◌&&◌, List, [], ◌∷◌, ◌++◌, length, take, drop, refl, ap, sym, ◌∙◌, arith, zero, suc, inl, inr, eqb, ltb, subst, IsUtf8}
use Rattle.std.specs.Prelude.{Option, None}
use Rattle.std.specs.Str.{IsCharBoundary}
use Rattle.std.proofs.lemmas.Bool.{cases_Bool, or_parts}
use Rattle.std.proofs.lemmas.Bool.Decides.{nat_tests}
use Rattle.std.proofs.lemmas.List.{drop-drop}
use Rattle.std.proofs.lemmas.Str.{IsUtf8-drop, IsCharBoundary-from_rest, IsCharBoundary-start, IsCharBoundary-end}
use Rattle.starlark_place.specs.Place.{Holds, extent}
use Rattle.starlark_lexer.specs.declared.literal.Form.{Form}
use Rattle.starlark_lexer.specs.declared.literal.Ending.{Ending}
use Rattle.starlark_lexer.specs.declared.literal.Ending.TheVariants as ending
use Rattle.starlark_lexer.specs.declared.scan.Found.{Found}
use Rattle.starlark_lexer.specs.declared.scan.Found.TheVariants as found
use Rattle.starlark_lexer.specs.declared.scan.Kind.TheVariants as kind
use Rattle.starlark_lexer.specs.Items.{Lexeme, Item, item, Stop, Lexed, newline, comment, indent, fstring_start, fstring_text, fstring_expr_start, fstring_expr_end, fstring_bang, fstring_end, is_newline, dedents, newline_span}
use Rattle.starlark_lexer.specs.Literals.{body, quotes, value}
use Rattle.starlark_lexer.specs.Classes.{Meaning, is_blank, leading, width, line_end, line_len, escaped, IsLexeme}
use Rattle.starlark_lexer.specs.Lex.{Mode, Past, Move, Step, Lex, on, over, start, recorded, mode_behind, below, moved, gives, deepened, fitted, turns, goes_on, is_over}
use Rattle.starlark_lexer.specs.Lex as rules
use Rattle.starlark_lexer.specs.Order.{HoldsEach}
use Rattle.starlark_lexer.specs.Scan.{scan}
use Rattle.starlark_lexer.proofs.Bodies.{IsBounded, body_bounds}
use Rattle.starlark_lexer.proofs.Bounds.{Ends, scan_ends, one_boundary, past, leading_boundary, line_boundary, line_end_boundary, newline_bounds, remark_bounds}
use Rattle.starlark_lexer.proofs.Scanned.{scan_lexeme}
use Rattle.starlark_lexer.proofs.Rules.{one_length, stands}

-- ---- a lexeme

ends_found : (xs : List ℕ) (x : Found × ℕ) → Ends xs x → IsCharBoundary xs x.1
ends_found xs (found.Kind k, n) h = h.0
ends_found xs (found.Fault e, n) h = h
ends_found xs (found.Opens g, n) h = h

lexeme_boundary : (rest : List ℕ) (n : ℕ) (m : Meaning) → IsLexeme rest n m → IsUtf8 rest → IsCharBoundary rest n
lexeme_boundary [] n m h u = absurd (omega (arith, h.nonempty, h.within))
lexeme_boundary (b ∷ bs) n m h u =
    let s = stands b bs n m h in
    let k = or_parts (is_blank b) _ s in
    let l = or_parts (eqb b 10) (eqb b 35) k.1 in
    let e : (scan (b ∷ bs)).1 ≡ n = one_length (b ∷ bs) (scan (b ∷ bs)).1 n _ m (scan_lexeme b bs k.0 l.0 l.1) h in
    subst (IsCharBoundary (b ∷ bs)) e (ends_found (b ∷ bs) (scan (b ∷ bs)) (scan_ends b bs u))

escaped_boundary : (xs : List ℕ) → IsUtf8 xs → IsCharBoundary xs (escaped xs)
unfolding escaped
escaped_boundary [] u = IsCharBoundary-start [] u
escaped_boundary (b ∷ bs) u = elim (cases_Bool (eqb b 92 && ltb 0 (line_end bs))) [
  | inr f ↦ rw f (IsCharBoundary-start (b ∷ bs) u)
  | inl t ↦ rw t (
      let ascii : b < 128 = grind (arith, nat_tests) in
      let same : 1 + line_end bs ≡ line_end bs + 1 = omega arith in
      subst (IsCharBoundary (b ∷ bs)) same (past b bs (line_end bs) u ascii (line_end_boundary bs)))
]

-- ---- what stands before

-- an f-string begins between characters
abbrev Begun : List ℕ → Mode → Type 0
Begun text rules.code = Unit {0}
Begun text (rules.inside b g) = IsCharBoundary text b
Begun text (rules.field b g bs) = IsCharBoundary text b

abbrev AllBegun : List ℕ → List Mode → Type 0
AllBegun text [] = Unit {0}
AllBegun text (m ∷ ms) = Begun text m × AllBegun text ms

begun_behind : (text : List ℕ) (m : Mode) (x : Lexeme) → Begun text m → Begun text (mode_behind m x)
begun_behind text rules.code x h = h
begun_behind text (rules.inside b g) x h = h
begun_behind text (rules.field b g bs) x h = h

begun_below : (text : List ℕ) (os : List Mode) → AllBegun text os → Begun text (below os) × AllBegun text (drop 1 os)
begun_below text [] h = (tt, tt)
begun_below text (m ∷ ms) h = h

-- the last line end
abbrev SpanHeld : List ℕ → List Item → Type 0
SpanHeld text xs = Holds text (extent (newline_span xs).0 (newline_span xs).1)

span_cons : (text : List ℕ) (x : Item) (xs : List Item) → Holds text (extent x.begin x.end) → SpanHeld text xs → SpanHeld text (x ∷ xs)
span_cons text x xs h k = elim (cases_Bool (is_newline x.lexeme)) [ inl t ↦ rw t h | inr f ↦ rw f k ]

span_recorded : (text : List ℕ) (m : Mode) (x : Item) (xs : List Item) → Holds text (extent x.begin x.end) → SpanHeld text xs → SpanHeld text (recorded m x xs)
span_recorded text rules.code x xs h k = span_cons text x xs h k
span_recorded text (rules.inside b g) x xs h k = k
span_recorded text (rules.field b g bs) x xs h k = k

span_dedents : (text : List ℕ) (i n : ℕ) (xs : List Item) → SpanHeld text xs → SpanHeld text (dedents i n ++ xs)
span_dedents text i zero xs h = h
span_dedents text i (suc n) xs h = span_dedents text i n xs h

-- what is left at a place between characters
record Stands (text : List ℕ) (p : Past) (rest : List ℕ) : Type 0 where
  behind : drop p.place text ≡ rest
  here : IsCharBoundary text p.place
  line : SpanHeld text p.items
  mode : Begun text p.mode
  outer : AllBegun text p.outer

-- ---- a step

each_append : (text : List ℕ) (xs ys : List Item) (f : Option Stop) → HoldsEach text xs None → HoldsEach text ys f → HoldsEach text (xs ++ ys) f
each_append text [] ys f h k = k
each_append text (x ∷ xs) ys f h k = (h.0, each_append text xs ys f h.1 k)

each_dedents : (text : List ℕ) (i n : ℕ) → IsCharBoundary text i → HoldsEach text (dedents i n) None
each_dedents text i zero h = tt
each_dedents text i (suc n) h = (record { begin = h; end = h }, each_dedents text i n h)

-- what a step gives, and what stands behind it
abbrev Steps : List ℕ → Move → Type 0
Steps text (on xs q more) = HoldsEach text xs None × Stands text q more
Steps text (over l) = HoldsEach text l.items l.fault

module _ (text : List ℕ) (utf8 : IsUtf8 text) (p : Past) (rest : List ℕ) (at : Stands text p rest) where
  rest_utf8 : IsUtf8 rest
  rest_utf8 = subst IsUtf8 at.behind (IsUtf8-drop text p.place utf8 at.here)

  there : (n : ℕ) → IsCharBoundary rest n → IsCharBoundary text (p.place + n)
  there n h = IsCharBoundary-from_rest text p.place n at.here.0 (subst (λ xs. IsCharBoundary xs n) (sym at.behind) h)

  left : (n : ℕ) → drop (p.place + n) text ≡ drop n rest
  left n = sym (drop-drop n p.place text) ∙ ap (drop n) at.behind

  -- n bytes, s bytes on
  held : (s n : ℕ) → IsCharBoundary rest s → IsCharBoundary rest (s + n) → Holds text (extent (p.place + s) (p.place + s + n))
  held s n h k =
      let e : p.place + (s + n) ≡ p.place + s + n = omega arith in
      record { begin = there s h; end = subst (IsCharBoundary text) e (there (s + n) k) }

  here_held : (n : ℕ) → IsCharBoundary rest n → Holds text (extent p.place (p.place + n))
  here_held n h = record { begin = at.here; end = there n h }

  gives_held : (s : ℕ) (x : Lexeme) (n k : ℕ) (f : Bool) → IsCharBoundary rest s → IsCharBoundary rest (s + n) → IsCharBoundary rest k → Steps text (gives p s x n k f rest)
  gives_held s x n k f a b c =
      let h = held s n a b in
      ((h, tt), record { behind = left k; here = there k c; line = span_recorded text p.mode (item (p.place + s) x (p.place + s + n)) p.items h at.line; mode = begun_behind text p.mode x at.mode; outer = at.outer })

  -- a lexeme that stands here, and is passed
  whole_held : (x : Lexeme) (n : ℕ) → IsCharBoundary rest n → Steps text (gives p 0 x n n false rest)
  whole_held x n h = let e : n ≡ 0 + n = omega arith in gives_held 0 x n n false (IsCharBoundary-start rest rest_utf8) (subst (IsCharBoundary rest) e h) h

  -- a fault of the first n bytes
  front_held : (n : ℕ) → IsCharBoundary rest n → Holds text (extent (p.place + 0) (p.place + 0 + n))
  front_held n h = let e : n ≡ 0 + n = omega arith in held 0 n (IsCharBoundary-start rest rest_utf8) (subst (IsCharBoundary rest) e h)

  turns_held : (x : Lexeme) (n : ℕ) (m : Mode) (os : List Mode) → IsCharBoundary rest n → Begun text m → AllBegun text os → Steps text (turns p x n m os rest)
  turns_held x n m os h mode outer = ((here_held n h, tt), record { behind = left n; here = there n h; line = at.line; mode = mode; outer = outer })

  passes_held : (n : ℕ) → IsCharBoundary rest n → Steps text (on [] (moved p n) (drop n rest))
  passes_held n h = (tt, record { behind = left n; here = there n h; line = at.line; mode = at.mode; outer = at.outer })

  deepened_held : (w n : ℕ) → IsCharBoundary rest n → Steps text (deepened p w n rest)
  deepened_held w n h =
      ((here_held n h, tt), record { behind = left n; here = there n h; line = span_cons text (item p.place indent (p.place + n)) p.items (here_held n h) at.line; mode = at.mode; outer = at.outer })

  fitted_held : (w n k : ℕ) → IsCharBoundary rest k → Steps text (fitted p w n k rest)
  fitted_held w n k h =
      (each_dedents text p.place n at.here, record { behind = left k; here = there k h; line = span_dedents text p.place n p.items at.line; mode = at.mode; outer = at.outer })

  ends_held : (i n : ℕ) → IsCharBoundary text i → Steps text (rules.ends i n)
  ends_held i n h = (record { begin = h; end = h }, each_append text (dedents i n) [] None (each_dedents text i n h) tt)

  body_held : (g : Form) (n : ℕ) (e : Ending) → IsCharBoundary rest n → body g 0 (drop n rest) ≡ e → IsBounded g (drop n rest) e
  body_held g n e h is = subst (IsBounded g (drop n rest)) is (body_bounds g (drop n rest) (IsUtf8-drop rest n rest_utf8 h))

  text_held : (g : Form) (e : Ending) → body g 0 rest ≡ e → IsBounded g rest e
  text_held g e is = subst (IsBounded g rest) is (body_bounds g rest rest_utf8)

-- ---- rule by rule

steps : (text : List ℕ) (utf8 : IsUtf8 text) {p : Past} {rest : List ℕ} {m : Move} → Step p rest m → Stands text p rest → Steps text m
steps text utf8 (rules.blank_line p rest more f e) at =
    let u = rest_utf8 text utf8 p rest at in
    let h = leading_boundary rest u in
    let b = newline_bounds rest (leading rest) 10 more kind.Newline true u h.0 e (omega arith) tt in
    gives_held text utf8 p rest at (leading rest) newline 1 (leading rest + 1) true b.0 b.1 b.2
steps text utf8 (rules.remark_line p rest more f e) at =
    let u = rest_utf8 text utf8 p rest at in
    let h = leading_boundary rest u in
    let v : IsUtf8 (35 ∷ more) = subst IsUtf8 e (IsUtf8-drop rest (leading rest) u h) in
    let w : IsUtf8 more = IsUtf8-drop (35 ∷ more) 1 v (one_boundary 35 more v (omega arith)) in
    let n = line_len more in
    let k = line_end (drop n more) in
    let b = remark_bounds rest (leading rest) 35 more k true u h e (omega arith) (line_end_boundary (drop n more) (IsUtf8-drop more n w (line_boundary more))) in
    gives_held text utf8 p rest at (leading rest) (comment (take n more)) (1 + n) (leading rest + (1 + n) + k) true b.0 b.1 b.2
steps text utf8 (rules.last_line p rest closed f e c) at =
    ends_held text utf8 p rest at (p.place + length rest) (length closed) (there text utf8 p rest at (length rest) (IsCharBoundary-end rest))
steps text utf8 (rules.tabbed p rest m t) at = at.line
steps text utf8 (rules.deepens p rest m t d) at = deepened_held text utf8 p rest at (width rest) (leading rest) (leading_boundary rest (rest_utf8 text utf8 p rest at))
steps text utf8 (rules.fits p rest closed m t o c) at = fitted_held text utf8 p rest at (width rest) (length closed) (leading rest) (leading_boundary rest (rest_utf8 text utf8 p rest at))
steps text utf8 (rules.misfits p rest m t d o) at =
    let u = rest_utf8 text utf8 p rest at in
    front_held text utf8 p rest at (leading rest) (leading_boundary rest u)
steps text utf8 (rules.passes p b rest f o c) at =
    let a : b < 128 = grind (arith, nat_tests) in
    passes_held text utf8 p (b ∷ rest) at 1 (one_boundary b rest (rest_utf8 text utf8 p (b ∷ rest) at) a)
steps text utf8 (rules.escapes p rest f o c) at = passes_held text utf8 p rest at (escaped rest) (escaped_boundary rest (rest_utf8 text utf8 p rest at))
steps text utf8 (rules.joins p rest f d) at = passes_held text utf8 p (10 ∷ rest) at 1 (one_boundary 10 rest (rest_utf8 text utf8 p (10 ∷ rest) at) (omega arith))
steps text utf8 (rules.ends_line p rest f c d) at =
    let u = rest_utf8 text utf8 p (10 ∷ rest) at in
    let one = one_boundary 10 rest u (omega arith) in
    gives_held text utf8 p (10 ∷ rest) at 0 newline 1 1 true (IsCharBoundary-start (10 ∷ rest) u) one one
steps text utf8 (rules.remark p rest f c) at =
    let u = rest_utf8 text utf8 p (35 ∷ rest) at in
    whole_held text utf8 p (35 ∷ rest) at (comment (take (line_len rest) rest)) (1 + line_len rest) (past 35 rest (line_len rest) u (omega arith) (λ _. line_boundary rest))
steps text utf8 (rules.lexeme p rest n x f d) at = whole_held text utf8 p rest at x n (lexeme_boundary rest n _ d (rest_utf8 text utf8 p rest at))
steps text utf8 (rules.faults p rest n e f d) at =
    let u = rest_utf8 text utf8 p rest at in
    front_held text utf8 p rest at n (lexeme_boundary rest n _ d u)
steps text utf8 (rules.ends_text p closed f o c) at = ends_held text utf8 p [] at p.place (length closed) at.here
steps text utf8 (rules.literal p rest n g k f d s e) at =
    let h = lexeme_boundary rest n _ d (rest_utf8 text utf8 p rest at) in
    let b = body_held text utf8 p rest at g n (ending.Closed k) h e in
    let same : n + (k + quotes g.quote) ≡ n + k + quotes g.quote = omega arith in
    whole_held text utf8 p rest at (rules.literal_lexeme g.sort (value g (take k (drop n rest)))) (n + k + quotes g.quote) (subst (IsCharBoundary rest) same (IsCharBoundary-from_rest rest n (k + quotes g.quote) h.0 b.1))
steps text utf8 (rules.unclosed p rest n g k f d s e) at =
    let u = rest_utf8 text utf8 p rest at in
    let h = lexeme_boundary rest n _ d u in
    front_held text utf8 p rest at (n + k) (IsCharBoundary-from_rest rest n k h.0 (body_held text utf8 p rest at g n (ending.Unfinished k) h e))
steps text utf8 (rules.misspelt p rest n g k m f d s e) at =
    let h = lexeme_boundary rest n _ d (rest_utf8 text utf8 p rest at) in
    let b = body_held text utf8 p rest at g n (ending.Escape k m) h e in
    let same : n + (k + m) ≡ n + k + m = omega arith in
    held text utf8 p rest at (n + k) m (IsCharBoundary-from_rest rest n k h.0 b.0) (subst (IsCharBoundary rest) same (IsCharBoundary-from_rest rest n (k + m) h.0 b.1))
steps text utf8 (rules.enters p rest n g f d s) at =
    turns_held text utf8 p rest at (fstring_start g.quote) n (rules.inside p.place g) (p.mode ∷ p.outer) (lexeme_boundary rest n _ d (rest_utf8 text utf8 p rest at)) at.here (at.mode, at.outer)
steps text utf8 (rules.texts p b g rest k f c some (inl e)) at = whole_held text utf8 p rest at (fstring_text (value g (take k rest))) k (text_held text utf8 p rest at g (ending.Closed k) e).0
steps text utf8 (rules.texts p b g rest k f c some (inr e)) at = whole_held text utf8 p rest at (fstring_text (value g (take k rest))) k (text_held text utf8 p rest at g (ending.Field k) e).0
steps text utf8 (rules.leaves p b g rest f c e) at =
    let o = begun_below text p.outer at.outer in
    let same : 0 + quotes g.quote ≡ quotes g.quote = omega arith in
    turns_held text utf8 p rest at fstring_end (quotes g.quote) (below p.outer) (drop 1 p.outer) (subst (IsCharBoundary rest) same (text_held text utf8 p rest at g (ending.Closed 0) e).1) o.0 o.1
steps text utf8 (rules.opens_field p b g rest f c e) at =
    let begun : IsCharBoundary text b = rw c at at.mode in
    turns_held text utf8 p rest at fstring_expr_start 1 (rules.field b g []) p.outer (text_held text utf8 p rest at g (ending.Field 0) e).1 begun at.outer
steps text utf8 (rules.unfinished p b g rest k f c e) at =
    let begun : IsCharBoundary text b = rw c at at.mode in
    record { begin = begun; end = there text utf8 p rest at k (text_held text utf8 p rest at g (ending.Unfinished k) e) }
steps text utf8 (rules.misspells p b g rest k m f c e) at =
    let h = text_held text utf8 p rest at g (ending.Escape k m) e in
    held text utf8 p rest at k m h.0 h.1
steps text utf8 (rules.shuts p b g bs rest f c d) at =
    let begun : IsCharBoundary text b = rw c at at.mode in
    turns_held text utf8 p (125 ∷ rest) at fstring_expr_end 1 (rules.inside b g) p.outer (one_boundary 125 rest (rest_utf8 text utf8 p (125 ∷ rest) at) (omega arith)) begun at.outer
steps text utf8 (rules.bangs p b g bs rest f c d e) at = whole_held text utf8 p (33 ∷ rest) at fstring_bang 1 (one_boundary 33 rest (rest_utf8 text utf8 p (33 ∷ rest) at) (omega arith))

-- ---- all steps

each : (text : List ℕ) (utf8 : IsUtf8 text) {p : Past} {rest : List ℕ} {l : Lexed} → Lex p rest l → Stands text p rest → HoldsEach text l.items l.fault
each text utf8 (goes_on p rest xs q more l step d) at = let s = steps text utf8 step at in each_append text xs l.items l.fault s.0 (each text utf8 d s.1)
each text utf8 (is_over p rest l step) at = steps text utf8 step at

pub whole_characters : (text : List ℕ) (l : Lexed) → IsUtf8 text → Lex start text l → HoldsEach text l.items l.fault
whole_characters text l utf8 d =
    let here = IsCharBoundary-start text utf8 in
    each text utf8 d (record { behind = refl; here = here; line = record { begin = here; end = here }; mode = tt; outer = tt })
