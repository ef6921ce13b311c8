-- The state behind a turn fits the text.
use Rattle.std.proofs.Common.{◌≡◌, ◌<◌, ◌≤◌, ℕ, ◌+◌, ◌-◌, Bool, true, false, List, [], ◌∷◌, ◌++◌, length, take, drop, refl, ap, sym, ◌∙◌, arith, zero, suc, subst}
use Rattle.std.specs.Str.{IsCharBoundary}
use Rattle.std.proofs.lemmas.Str.{IsCharBoundary-from_rest, IsCharBoundary-end}
use Rattle.starlark_lexer.specs.declared.literal.Form.{Form}
use Rattle.starlark_lexer.specs.declared.scan.State.{State}
use Rattle.starlark_lexer.specs.declared.scan.Kind.{Kind}
use Rattle.starlark_lexer.specs.declared.scan.Kind.TheVariants as kind
use Rattle.starlark_lexer.specs.declared.scan.Mode.{Mode}
use Rattle.starlark_lexer.specs.declared.scan.Mode.TheVariants as mode
use Rattle.starlark_lexer.specs.declared.scan.Turn.TheVariants as turns
use Rattle.starlark_lexer.specs.Items.{is_opening, operator_lexeme}
use Rattle.starlark_lexer.specs.Literals.{is_format}
use Rattle.starlark_lexer.specs.Scan.{after, turned, opens, closes, bit, is_newline, more_in, last_in, mode_after, field_of, body_of, last_mode, begin_of}
use Rattle.starlark_lexer.specs.Turns.{IsWithin, Bounds}
use Rattle.starlark_lexer.specs.Parts.{IsStretch, IsMode, AreModes, IsSound}

stretch_more : (text : List ℕ) (b n m : ℕ) → IsStretch text b n → n ≤ m → IsCharBoundary text m → IsStretch text b m
stretch_more text b n m h le c = record { ordered = omega (arith, h.ordered); begins = h.begins; ends = c }

pub mode_more : (text : List ℕ) (n m : ℕ) → n ≤ m → IsCharBoundary text m → (x : Mode) → IsMode text n x → IsMode text m x
mode_more text n m le c mode.Code h = tt
mode_more text n m le c (mode.Inside b f) h = (stretch_more text b n m h.0 le c, h.1)
mode_more text n m le c (mode.Field b f d) h = (stretch_more text b n m h.0 le c, h.1, omega (arith, h.2))

pub modes_more : (text : List ℕ) (n m : ℕ) → n ≤ m → IsCharBoundary text m → (xs : List Mode) → AreModes text n xs → AreModes text m xs
modes_more text n m le c [] h = tt
modes_more text n m le c (x ∷ xs) h = (mode_more text n m le c x h.0, modes_more text n m le c xs h.1)

pub modes_push : (text : List ℕ) (n : ℕ) (xs : List Mode) (x : Mode) → AreModes text n xs → IsMode text n x → AreModes text n (xs ++ x ∷ [])
modes_push text n [] x h k = (k, tt)
modes_push text n (y ∷ ys) x h k = (h.0, modes_push text n ys x h.1 k)

pub modes_last : (text : List ℕ) (n : ℕ) (xs : List Mode) → AreModes text n xs → IsMode text n (last_mode xs)
modes_last text n [] h = tt
modes_last text n (x ∷ []) h = h.0
modes_last text n (x ∷ y ∷ xs) h = modes_last text n (y ∷ xs) h.1

pub modes_take : (text : List ℕ) (n k : ℕ) (xs : List Mode) → AreModes text n xs → AreModes text n (take k xs)
modes_take text n zero xs h = tt
modes_take text n (suc k) [] h = tt
modes_take text n (suc k) (x ∷ xs) h = (h.0, modes_take text n k xs h.1)

pub field_mode : (text : List ℕ) (n : ℕ) (x : Mode) → IsMode text n x → IsMode text n (field_of x)
field_mode text n mode.Code h = tt
field_mode text n (mode.Inside b f) h = (h.0, h.1, omega arith)
field_mode text n (mode.Field b f d) h = h

pub body_mode : (text : List ℕ) (n : ℕ) (x : Mode) → IsMode text n x → IsMode text n (body_of x)
body_mode text n mode.Code h = tt
body_mode text n (mode.Inside b f) h = h
body_mode text n (mode.Field b f d) h = (h.0, h.1)

bit_most : (t : Bool) → bit t ≤ 1
bit_most true = omega arith
bit_most false = omega arith

pub opens_most : (k : Kind) → opens k ≤ 1
opens_most (kind.Operator o) = bit_most (is_opening (operator_lexeme o))
opens_most kind.Newline = omega arith
opens_most kind.Comment = omega arith
opens_most kind.Word = omega arith
opens_most (kind.Keyword q) = omega arith
opens_most (kind.Int n r) = omega arith
opens_most kind.Float = omega arith
opens_most (kind.Literal f n k) = omega arith
opens_most (kind.Text f) = omega arith
opens_most kind.Bang = omega arith

pub closes_most : (k : Kind) → closes k ≤ 1
closes_most (kind.Operator o) = bit_most _
closes_most kind.Newline = omega arith
closes_most kind.Comment = omega arith
closes_most kind.Word = omega arith
closes_most (kind.Keyword q) = omega arith
closes_most (kind.Int n r) = omega arith
closes_most kind.Float = omega arith
closes_most (kind.Literal f n k) = omega arith
closes_most (kind.Text f) = omega arith
closes_most kind.Bang = omega arith

-- ---- places behind the place

module _ (text : List ℕ) (p : ℕ) (place : IsCharBoundary text p) where
  pub on : (n : ℕ) → IsCharBoundary (drop p text) n → IsCharBoundary text (p + n)
  on n c = IsCharBoundary-from_rest text p n place.0 c

  pub stretch_on : (i n : ℕ) → IsCharBoundary (drop p text) i → IsCharBoundary (drop p text) (i + n) → IsStretch text (p + i) (p + i + n)
  stretch_on i n b e =
      let same : p + (i + n) ≡ p + i + n = omega arith in
      record { ordered = omega arith; begins = on i b; ends = subst (IsCharBoundary text) same (on (i + n) e) }

  pub stretch_from : (n : ℕ) → IsCharBoundary (drop p text) n → IsStretch text p (p + n)
  stretch_from n e = record { ordered = omega arith; begins = place; ends = on n e }

-- ---- behind a lexeme

more_most : (m : Mode) (n k p next : ℕ) → n ≤ p → k ≤ 1 → 0 < next → more_in m n k ≤ p + next
more_most mode.Code n k p next le one pos = omega (arith, le, one, pos)
more_most (mode.Inside b f) n k p next le one pos = omega (arith, le)
more_most (mode.Field b f d) n k p next le one pos = omega (arith, le)

line_after : (text : List ℕ) (m : Mode) (t : Bool) (i j b e : ℕ) → IsStretch text i j → IsStretch text b e → IsStretch text (last_in m t i b) (last_in m t j e)
line_after text mode.Code true i j b e x y = x
line_after text mode.Code false i j b e x y = y
line_after text (mode.Inside c f) t i j b e x y = y
line_after text (mode.Field c f d) t i j b e x y = y

mode_on : (text : List ℕ) (m : Mode) (k : Kind) (p next : ℕ) → 0 < next → IsCharBoundary text (p + next) → IsMode text p m → IsMode text (p + next) (mode_after m k)
mode_on text mode.Code k p next pos c h = tt
mode_on text (mode.Inside b f) k p next pos c h = mode_more text p (p + next) (omega arith) c (mode.Inside b f) h
mode_on text (mode.Field b f d) k p next pos c h = (stretch_more text b p (p + next) h.0 (omega arith) c, h.1, omega (arith, h.2, opens_most k, pos))

pub after_sound : (text : List ℕ) (s : State) (outer : List Mode) (margin i : ℕ) (k : Kind) (n next : ℕ) (f : Bool) → IsSound text s outer margin
    → IsWithin (drop s.place text) i n next → Bounds (drop s.place text) (turns.Gives i k n next f) → IsSound text (after s i k n next f) outer margin
after_sound text s outer margin i k n next f h w c =
    let pos : 0 < next = omega (arith, w.some, w.fits) in
    let there = on text s.place h.boundary next c.2 in
    record {
      opened = more_most s.mode s.opened (opens k) s.place next h.opened (opens_most k) pos;
      closed = more_most s.mode s.closed (closes k) s.place next h.closed (closes_most k) pos;
      boundary = there;
      line = line_after text s.mode (is_newline k) (s.place + i) (s.place + i + n) s.line_begin s.line_end (stretch_on text s.place h.boundary i n c.0 c.1) h.line;
      mode = mode_on text s.mode k s.place next pos there h.mode;
      around = modes_more text s.place (s.place + next) (omega arith) there outer h.around;
      dedents = h.dedents;
      behind = omega (arith, h.behind);
      starts = h.starts;
      fits = h.fits;
    }

-- ---- behind a turn

pub turned_sound : (text : List ℕ) (s : State) (outer os : List Mode) (margin n : ℕ) (m : Mode) → IsSound text s outer margin → IsCharBoundary (drop s.place text) n
    → (IsCharBoundary text (s.place + n) → IsMode text (s.place + n) m) → (IsCharBoundary text (s.place + n) → AreModes text (s.place + n) os) → IsSound text (turned s n m) os margin
turned_sound text s outer os margin n m h c mode others =
    let there = on text s.place h.boundary n c in
    record {
      opened = omega (arith, h.opened);
      closed = omega (arith, h.closed);
      boundary = there;
      line = h.line;
      mode = mode there;
      around = others there;
      dedents = h.dedents;
      behind = omega (arith, h.behind);
      starts = h.starts;
      fits = h.fits;
    }

-- at the end of the text
pub ended_sound : (text bytes : List ℕ) (s : State) (outer : List Mode) (margin : ℕ) → bytes ≡ text → IsSound text s outer margin
    → (let e : State = record { place = length bytes; opened = s.opened; closed = s.closed; line_begin = s.line_begin; line_end = s.line_end; fresh = s.fresh; mode = s.mode } in IsSound text e outer (length bytes))
ended_sound text bytes s outer margin same h =
    let there : IsCharBoundary text (length bytes) = subst (λ xs. IsCharBoundary text (length xs)) (sym same) (IsCharBoundary-end text) in
    let le : s.place ≤ length bytes = omega (arith, h.boundary.0, ap length same) in
    record {
      opened = omega (arith, h.opened, le);
      closed = omega (arith, h.closed, le);
      boundary = there;
      line = h.line;
      mode = mode_more text s.place (length bytes) le there s.mode h.mode;
      around = modes_more text s.place (length bytes) le there outer h.around;
      dedents = there;
      behind = omega arith;
      starts = h.starts;
      fits = h.fits;
    }

module _ (text : List ℕ) (s : State) (outer : List Mode) (margin : ℕ) (h : IsSound text s outer margin) where
  as_turned : (n : ℕ) (m : Mode) (os : List Mode) → IsSound text (turned s n m) os margin → (t : State) (us : List Mode) → t ≡ turned s n m → us ≡ os → IsSound text t us margin
  as_turned n m os k t us e f = subst (λ t. IsSound text t us margin) (sym e) (subst (λ us. IsSound text (turned s n m) us margin) (sym f) k)

  pub enter_sound : (n : ℕ) (f : Form) → IsCharBoundary (drop s.place text) n → is_format f.sort ≡ true → (t : State) (us : List Mode) → t ≡ turned s n (mode.Inside s.place f) → us ≡ outer ++ s.mode ∷ [] → IsSound text t us margin
  enter_sound n f c format =
      as_turned n (mode.Inside s.place f) (outer ++ s.mode ∷ []) (turned_sound text s outer (outer ++ s.mode ∷ []) margin n (mode.Inside s.place f) h c
      (λ there. (stretch_from text s.place h.boundary n c, format))
      (λ there. modes_push text (s.place + n) outer s.mode (modes_more text s.place (s.place + n) (omega arith) there outer h.around) (mode_more text s.place (s.place + n) (omega arith) there s.mode h.mode)))

  pub leave_sound : (n : ℕ) → IsCharBoundary (drop s.place text) n → (t : State) (us : List Mode) (m : Mode) → m ≡ last_mode outer → t ≡ turned s n m → us ≡ take (length outer - 1) outer → IsSound text t us margin
  leave_sound n c t us m is e f =
      as_turned n (last_mode outer) (take (length outer - 1) outer) (turned_sound text s outer (take (length outer - 1) outer) margin n (last_mode outer) h c
      (λ there. mode_more text s.place (s.place + n) (omega arith) there (last_mode outer) (modes_last text s.place outer h.around))
      (λ there. modes_more text s.place (s.place + n) (omega arith) there (take (length outer - 1) outer) (modes_take text s.place (length outer - 1) outer h.around)))
      t us (e ∙ ap (turned s n) is) f

  pub mode_sound : (n : ℕ) (m k : Mode) → IsCharBoundary (drop s.place text) n → IsMode text s.place k → m ≡ k → (t : State) → t ≡ turned s n m → IsSound text t outer margin
  mode_sound n m k c ok is t e =
      as_turned n k outer (turned_sound text s outer outer margin n k h c
      (λ there. mode_more text s.place (s.place + n) (omega arith) there k ok)
      (λ there. modes_more text s.place (s.place + n) (omega arith) there outer h.around))
      t outer (e ∙ ap (turned s n) is) refl

  pub unfinished_stretch : (n : ℕ) (m : Mode) → IsMode text s.place m → (b : ℕ) → b ≡ begin_of m → IsCharBoundary (drop s.place text) n → IsStretch text b (s.place + n)
  unfinished_stretch n mode.Code ok b is c = subst (λ b. IsStretch text b (s.place + n)) (sym is) (record { ordered = omega arith; begins = h.starts; ends = on text s.place h.boundary n c })
  unfinished_stretch n (mode.Inside k f) ok b is c = subst (λ b. IsStretch text b (s.place + n)) (sym is) (stretch_more text k s.place (s.place + n) ok.0 (omega arith) (on text s.place h.boundary n c))
  unfinished_stretch n (mode.Field k f d) ok b is c = subst (λ b. IsStretch text b (s.place + n)) (sym is) (stretch_more text k s.place (s.place + n) ok.0 (omega arith) (on text s.place h.boundary n c))

-- dedents stand at another place
pub with_margin : (text : List ℕ) (s : State) (outer : List Mode) (margin n : ℕ) → IsCharBoundary text n → n ≤ s.place → IsSound text s outer margin → IsSound text s outer n
with_margin text s outer margin n c le h = record { fits = h.fits; opened = h.opened; closed = h.closed; boundary = h.boundary; line = h.line; mode = h.mode; around = h.around; dedents = c; behind = le; starts = h.starts }
