-- A text that is cut off behind a line end, with a line of the innermost open width behind it, and one that is cut off behind a Dedent.
use Rattle.std.proofs.Common.{◌≡◌, ◌<◌, ◌≤◌, ℕ, zero, suc, ◌+◌, Bool, true, false, cond, ◌||◌, List, [], ◌∷◌, ◌++◌, length, refl, ap, sym, ◌∙◌, arith, inl, inr, eqb, ltb, subst, append_assoc, length-append}
use Rattle.std.proofs.Math.Seq.{drop-append_seam}
use Rattle.std.proofs.lemmas.Bool.{cases_Bool, false≢true}
use Rattle.std.proofs.lemmas.Bool.Decides.{nat_tests}
use Rattle.std.proofs.lemmas.List.{append-nil}
use Rattle.starlark_lexer.specs.Items.{Item, newline, dedent, dedents, with_items}
use Rattle.starlark_lexer.specs.Widths.{IsOpen, Closes, has}
use Rattle.starlark_lexer.specs.Classes.{leading, width, has_tab, spaces}
use Rattle.starlark_lexer.specs.Lex.{Past, Step, Lex, on, goes_on, fitted, start, IsBalanced}
use Rattle.starlark_lexer.specs.Lex as rules
use Rattle.starlark_cutting.specs.Cutting.{IsCutAt, IsFilled, IsFilledBehind, blanks_of, filled_line}
use Rattle.starlark_lexer.proofs.Widths.{IsStack, no_lines}
use Rattle.starlark_lexer.proofs.Widths as widths
use Rattle.starlark_lexer.proofs.Dedents.{dedents_opened, dedents_closed}
use Rattle.starlark_cutting.proofs.KeptTracks.{tracks}
use Rattle.starlark_cutting.proofs.KeptCut.{joint_items, both_tracks}
use Rattle.starlark_cutting.proofs.KeptPuts.{Among}
use Rattle.starlark_cutting.proofs.KeptReach.{find, far_reach}
use Rattle.starlark_cutting.proofs.KeptFresh.{Begun, begun}
use Rattle.starlark_cutting.proofs.KeptGiven.{given}
use Rattle.starlark_cutting.proofs.KeptLayouts.{line_begun, measured_some, dedent_given}
use Rattle.starlark_cutting.proofs.KeptFeeds.{lead_before}
use Rattle.starlark_cutting.proofs.KeptDeeper.{measured, same_blanks, pass_bytes, pass_line}
use Rattle.starlark_cutting.proofs.KeptIndents.{all_blank, no_tab, wide}

-- ---- the widest of the widths

abbrev widest : List ℕ → ℕ
widest [] = 0
widest (x ∷ xs) = cond (ltb x (widest xs)) (widest xs) x

under_widest : (ws : List ℕ) (x : ℕ) → has ws x ≡ true → x ≤ widest ws
under_widest [] x h = absurd (false≢true h)
under_widest (w ∷ ws) x h = elim (cases_Bool (ltb w (widest ws))) [
  | inl l ↦ elim (cases_Bool (eqb w x)) [
    | inl t ↦ rw l (grind (arith, nat_tests))
    | inr f ↦ let k : has ws x ≡ true = rw f at h in rw l (under_widest ws x k)
  ]
  | inr g ↦ elim (cases_Bool (eqb w x)) [
    | inl t ↦ rw g (grind (arith, nat_tests))
    | inr f ↦
        let k : has ws x ≡ true = rw f at h in
        let u : x ≤ widest ws = under_widest ws x k in
        let e : widest ws ≤ w = grind (arith, nat_tests) in
        rw g (omega (arith, u, e))
  ]
]

or_more : (a b c : Bool) → (a || b) ≡ true → (a || (c || b)) ≡ true
or_more true b c h = refl
or_more false true true h = refl
or_more false true false h = refl
or_more false false c h = absurd (false≢true h)

or_this : (a b c : Bool) → b ≡ true → (a || (b || c)) ≡ true
or_this true b c h = refl
or_this false true c h = refl
or_this false false c h = absurd (false≢true h)

is_widest : (ws : List ℕ) → (eqb (widest ws) 0 || has ws (widest ws)) ≡ true
is_widest [] = refl
is_widest (w ∷ ws) = elim (cases_Bool (ltb w (widest ws))) [
  | inl l ↦ let e : widest (w ∷ ws) ≡ widest ws = rw l refl in subst Stands (sym e) (or_more (eqb (widest ws) 0) (has ws (widest ws)) (eqb w (widest ws)) (is_widest ws))
  | inr g ↦ let e : widest (w ∷ ws) ≡ w = rw g refl in subst Stands (sym e) (or_this (eqb w 0) (eqb w w) (has ws w) (grind (arith, nat_tests)))
]
  where
    Stands : ℕ → Type 0
    Stands m = (eqb m 0 || has (w ∷ ws) m) ≡ true

-- it is open, and none above it is
none_closed : (lines ws : List ℕ) → IsStack lines ws → IsOpen lines (widest ws) × Closes lines (widest ws) []
none_closed lines ws s = (
  widths.open_test lines ws s (widest ws) (is_widest ws),
  record {
    once = λ k h. absurd (omega (arith, h));
    each = λ x. ((λ h. absurd (false≢true h)), (λ o. absurd (omega (arith, o.1, under_widest ws x ((s.each x).1 (o.0, omega (arith, o.1)))))));
  },
)

-- ---- the line

-- a line of a width that is open, which closes those above it
module _ (u : List ℕ) (xs : List Item) (q : Past) (b : Begun u xs q) (n : ℕ) (closed : List ℕ) (stays : IsOpen q.lines n) (shuts : Closes q.lines n closed) where
  abbrev bs : List ℕ
  bs = blanks_of n

  abbrev c : ℕ
  c = length closed

  abbrev them : List Item
  them = dedents q.place c

  abbrev even_past : Past
  even_past = record { place = q.place + length bs; items = them ++ q.items; lines = n ∷ q.lines; fresh = false; mode = q.mode; outer = q.outer }

  even_step : (r : List ℕ) → Step q (bs ++ 112 ∷ r) (on them even_past (112 ∷ r))
  even_step r =
      let rest = bs ++ 112 ∷ r in
      let blank = all_blank n in
      let w : n ≡ width rest = sym (ap spaces (same_blanks bs r blank) ∙ wide n) in
      let s = rules.fits q rest closed (measured q b.begins.fresh bs r blank) (ap has_tab (same_blanks bs r blank) ∙ no_tab n) (subst (IsOpen q.lines) w stays) (subst (λ k. Closes q.lines k closed) w shuts) in
      let t : Step q rest (fitted q n c (leading rest) rest) = subst (λ k. Step q rest (fitted q k c (leading rest) rest)) (sym w) s in
      let v : Step q rest (fitted q n c (length bs) rest) = subst (λ k. Step q rest (fitted q n c k rest)) (lead_before bs 112 r refl blank) t in
      subst (λ k. Step q rest (on them even_past k)) (drop-append_seam bs (112 ∷ r)) v

  pub filled_text : IsFilled u (xs ++ them)
  filled_text =
      let p = even_past in
      let step = even_step (97 ∷ 115 ∷ 115 ∷ 10 ∷ []) in
      let t = both_tracks start xs q them p b.tracks (tracks step b.tracks.nest b.tracks.fresh) in
      let w = t.widths [] no_lines in
      let even : IsBalanced p = omega (arith, b.begins.even, dedents_opened q.place c q.items, dedents_closed q.place c q.items) in
      let shut : Closes p.lines 0 w.still = record { once = w.stack.once; each = λ x. w.stack.each x } in
      let among : Among p = record { fresh = refl; mode = b.begins.mode } in
      let line = filled_line p.place (length w.still) in
      let more = bs ++ (pass_bytes ++ 10 ∷ []) in
      record {
        spaces = n;
        place = p.place;
        count = length w.still;
        layout = omega (arith, w.count);
        lex = subst (λ l. Lex start (u ++ more) l) (joint_items xs them line) (b.lex more (with_items them line) (goes_on q more them p (pass_bytes ++ 10 ∷ []) line step (pass_line p w.still among even shut)));
      }

pub line_filled : (u v : List ℕ) (before : List Item) (z : Item) (behind : List Item) → IsCutAt u v before z behind → z.lexeme ≡ newline → z.end ≡ z.begin + 1 → IsFilled u (before ++ z ∷ [])
line_filled u v before z behind c is one =
    let b = line_begun u v before z behind c is one in
    let s = b.begun.tracks.widths [] no_lines in
    let o = none_closed b.past.lines s.still s.stack in
    subst (IsFilled u) (append-nil (before ++ z ∷ [])) (filled_text u (before ++ z ∷ []) b.past b.begun (widest s.still) [] o.0 o.1)

-- ---- behind a Dedent a line of the same width

length_dedents : (i n : ℕ) → length (dedents i n) ≡ n
length_dedents i zero = refl
length_dedents i (suc n) = omega (arith, length_dedents i n)

last_dedents : (i n : ℕ) (first : List Item) (z : Item) (ws : List Item) → dedents i n ≡ first ++ z ∷ ws → ws ≡ dedents i (length ws)
last_dedents i zero first z ws e = absurd (omega (arith, ap length e, length-append first (z ∷ ws)))
last_dedents i (suc n) [] z ws e =
    let s : dedents i n ≡ ws = cc in
    sym s ∙ ap (dedents i) (sym (length_dedents i n) ∙ ap length s)
last_dedents i (suc n) (y ∷ first) z ws e = let s : dedents i n ≡ first ++ z ∷ ws = cc in last_dedents i n first z ws s

pub dedent_filled : (u v : List ℕ) (before : List Item) (z : Item) (behind : List Item) → IsCutAt u v before z behind → z.lexeme ≡ dedent → 0 < length v → IsFilledBehind u (before ++ z ∷ [])
dedent_filled u v before z behind c is some =
    let f = find c.lex before z behind refl in
    let far = far_reach f.reach (λ _. refl) tt in
    elim f.given [
      | inr (l, (step, e)) ↦ absurd (omega (arith, (given step f.first z behind e.0).0, far.1.0, c.length_is, some, length-append u v))
      | inl (xs, q, w, ws, (step, e)) ↦
          let g = dedent_given f.first z step (given step f.first z ws e) is in
          let p = f.past in
          let at : p.place ≡ length u = sym (ap (λ x. x.end) g.is) ∙ sym c.length_is in
          let b = begun f.reach g.measured.fresh (measured_some p f.left g.measured) u v refl at in
          let n = length g.falls.closed in
          let d : dedents p.place n ≡ f.first ++ z ∷ ws = sym g.falls.is ∙ e in
          let rest : ws ≡ dedents (length u) (length ws) = last_dedents p.place n f.first z ws d ∙ ap (λ i. dedents i (length ws)) at in
          let all : f.front ++ dedents p.place n ≡ (before ++ z ∷ []) ++ dedents (length u) (length ws) =
          ap (λ ys. f.front ++ ys) d ∙ sym (append_assoc f.front f.first (z ∷ ws)) ∙ ap (λ ys. ys ++ z ∷ ws) (sym f.is) ∙ sym (append_assoc before (z ∷ []) ws) ∙ ap (λ ys. (before ++ z ∷ []) ++ ys) rest in
          record { more = length ws; filled = subst (IsFilled u) all (filled_text u f.front p b (width f.left) g.falls.closed g.falls.stays g.falls.shuts) }
    ]
