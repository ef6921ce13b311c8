-- What stands at a text's end: a line end of no width, and the Dedents behind it.
use Rattle.std.proofs.Common.{◌≡◌, ◌⊎◌, ℕ, ◌+◌, cond, List, [], ◌∷◌, ◌++◌, length, refl, ap, sym, ◌∙◌, arith, zero, suc, inl, inr, append_assoc, length-append}
use Rattle.std.specs.Prelude.{count_by}
use Rattle.std.proofs.lemmas.List.{append-nil, nil_from_length}
use Rattle.std.proofs.lemmas.List.Sums.{sum_by-append}
use Rattle.starlark_lexer.specs.Items.{Item, item, Lexed, nothing, newline, dedent, dedents, with_items}
use Rattle.starlark_lexer.specs.Widths.{Closes}
use Rattle.starlark_lexer.specs.Lex.{Past, Step, over, start}
use Rattle.starlark_lexer.specs.Lex as rules
use Rattle.starlark_lexer.specs.Joining.{dedent_item}
use Rattle.starlark_cutting.specs.Cutting.{IsCutAt, IsEnded, indent_item}
use Rattle.starlark_lexer.proofs.Widths.{IsStack, no_lines}
use Rattle.starlark_lexer.proofs.Stacks.{same_closes}
use Rattle.starlark_lexer.proofs.Joined.{Nest}
use Rattle.starlark_lexer.proofs.JoinedOn.{count_cons}
use Rattle.starlark_cutting.proofs.KeptMoves.{Fresh}
use Rattle.starlark_cutting.proofs.KeptTracks.{Stacked, tracks, dedents_indents, dedents_count}
use Rattle.starlark_cutting.proofs.KeptReach.{Reach, stays, more, Found, find, far_reach}
use Rattle.starlark_cutting.proofs.KeptGiven.{given}
use Rattle.starlark_cutting.proofs.KeptLayouts.{line_given, dedent_given, measured_some}

-- ---- the items of a text's end

-- some of the Dedents at a place, and the others
record Apart (i n : ℕ) (xs ys : List Item) : Type 0 where
  some : ℕ
  others : ℕ
  some_are : xs ≡ dedents i some
  others_are : ys ≡ dedents i others
  all : some + others ≡ n

apart : (i n : ℕ) (xs ys : List Item) → dedents i n ≡ xs ++ ys → Apart i n xs ys
apart i n [] ys e = record { some = 0; others = n; some_are = refl; others_are = sym e; all = omega arith }
apart i zero (x ∷ xs) ys e = absurd (omega (arith, ap length e))
apart i (suc n) (x ∷ xs) ys e =
    let s : x ≡ item i dedent i = cc in
    let a = apart i n xs ys cc in
    record { some = suc a.some; others = a.others; some_are = λ j. s j ∷ a.some_are j; others_are = a.others_are; all = omega (arith, a.all) }

-- the items up to one of them, and those behind it
record Parted (i n : ℕ) (xs ys : List Item) : Type 0 where
  others : ℕ
  is : ys ≡ dedents i others
  indents : count_by indent_item xs ≡ 0
  count : count_by dedent_item xs + others ≡ n

parted : (i n : ℕ) (first : List Item) (z : Item) (ws : List Item) → item i newline i ∷ (dedents i n ++ []) ≡ first ++ z ∷ ws → Parted i n (first ++ z ∷ []) ws
parted i n [] z ws e =
    let s : z ≡ item i newline i = cc in
    let t : dedents i n ++ [] ≡ ws = cc in
    record {
      others = n;
      is = sym t ∙ append-nil (dedents i n);
      indents = ap (λ x. count_by indent_item (x ∷ [])) s;
      count = omega (arith, ap (λ x. count_by dedent_item (x ∷ [])) s);
    }
parted i n (y ∷ first) z ws e =
    let s : y ≡ item i newline i = cc in
    let t : dedents i n ++ [] ≡ first ++ z ∷ ws = cc in
    let xs = first ++ z ∷ [] in
    let a = apart i n xs ws (sym (append-nil (dedents i n)) ∙ t ∙ sym (append_assoc first (z ∷ []) ws)) in
    let line = item i newline i in
    record {
      others = a.others;
      is = a.others_are;
      indents = omega (arith, ap (λ x. count_by indent_item (x ∷ xs)) s, count_cons indent_item line xs, ap (count_by indent_item) a.some_are, dedents_indents i a.some);
      count = omega (arith, ap (λ x. count_by dedent_item (x ∷ xs)) s, count_cons dedent_item line xs, ap (count_by dedent_item) a.some_are, dedents_count i a.some, a.all);
    }

-- ---- the step that ends a text

record Over (p : Past) (rest : List ℕ) (l : Lexed) : Type 0 where
  closed : List ℕ
  shut : Closes p.lines 0 closed
  is : l ≡ with_items (item (p.place + length rest) newline (p.place + length rest) ∷ dedents (p.place + length rest) (length closed)) nothing

no_over : (p : Past) (rest : List ℕ) (l : Lexed) (first : List Item) (z : Item) (ws : List Item) → [] ≡ first ++ z ∷ ws → Over p rest l
no_over p rest l first z ws e = absurd (omega (arith, ap length e, length-append first (z ∷ ws)))

over_given : {p : Past} {rest : List ℕ} {l : Lexed} → Step p rest (over l) → (first : List Item) (z : Item) (ws : List Item) → l.items ≡ first ++ z ∷ ws → Over p rest l
over_given (rules.last_line p rest closed f e c) first z ws is = record { closed = closed; shut = c; is = refl }
over_given (rules.ends_text p closed f c d) first z ws is =
    let at : p.place ≡ p.place + 0 = omega arith in
    record { closed = closed; shut = d; is = ap (λ i. with_items (item i newline i ∷ dedents i (length closed)) nothing) at }
over_given (rules.tabbed p rest m t) first z ws is = no_over p rest _ first z ws is
over_given (rules.misfits p rest m t d o) first z ws is = no_over p rest _ first z ws is
over_given (rules.faults p rest n e v l) first z ws is = no_over p rest _ first z ws is
over_given (rules.unclosed p rest n g k v l t e) first z ws is = no_over p rest _ first z ws is
over_given (rules.misspelt p rest n g k m v l t e) first z ws is = no_over p rest _ first z ws is
over_given (rules.unfinished p b g rest k f c e) first z ws is = no_over p rest _ first z ws is
over_given (rules.misspells p b g rest k m f c e) first z ws is = no_over p rest _ first z ws is

-- the widths that are open behind steps
reach_widths : {p : Past} {rest : List ℕ} {xs : List Item} {q : Past} {v : List ℕ} → Reach p rest xs q v → Fresh p → Nest p.mode p.outer → (ws : List ℕ) → IsStack p.lines ws → Stacked p xs q ws
reach_widths (stays p rest) fr nest ws s = record { still = ws; stack = s; count = refl }
reach_widths (more p rest xs q left ys r v step far) fr nest ws s =
    let t = tracks step nest fr in
    let a = t.widths ws s in
    let b = reach_widths far t.fresh t.nest a.still a.stack in
    record {
      still = b.still;
      stack = b.stack;
      count = omega (arith, a.count, b.count, sum_by-append (λ y. cond (indent_item y) 1 0) xs ys, sum_by-append (λ y. cond (dedent_item y) 1 0) xs ys);
    }

module _ (u v : List ℕ) (before : List Item) (z : Item) (behind : List Item) (c : IsCutAt u v before z behind) where
  abbrev Here : Type 0
  Here = Found start (u ++ v) before z behind c.fault

  found : Here
  found = find c.lex before z behind refl

  -- the steps up to there end within the text
  far_place : (f : Here) → f.past.place + length f.left ≡ length u + length v
  far_place f = omega (arith, (far_reach f.reach (λ _. refl) tt).1.0, length-append u v)

  ended : (f : Here) (l : Lexed) → Step f.past f.left (over l) → l.items ≡ f.first ++ z ∷ behind → l.fault ≡ c.fault → IsEnded u v before z behind c.fault
  ended f l step e same =
      let o = over_given step f.first z behind e in
      let i = f.past.place + length f.left in
      let at : z.end ≡ i = (given step f.first z behind e).0 in
      let here : i ≡ length u = sym at ∙ sym c.length_is in
      let w = reach_widths f.reach (λ _. refl) tt [] no_lines in
      let n = length o.closed in
      let mine : Closes f.past.lines 0 w.still = record { once = w.stack.once; each = λ x. w.stack.each x } in
      let r = parted i n f.first z behind (ap (λ m. m.items) (sym o.is) ∙ e) in
      let last = f.first ++ z ∷ [] in
      let parts : before ++ z ∷ [] ≡ f.front ++ last = ap (λ y. y ++ z ∷ []) f.is ∙ append_assoc f.front f.first (z ∷ []) in
      record {
        whole = nil_from_length v (omega (arith, far_place f, here));
        no_fault = sym same ∙ ap (λ m. m.fault) o.is;
        count = r.others;
        layout = omega (
          arith,
          w.count,
          same_closes f.past.lines 0 o.closed w.still o.shut mine,
          r.indents,
          r.count,
          ap (count_by indent_item) parts,
          ap (count_by dedent_item) parts,
          sum_by-append (λ y. cond (indent_item y) 1 0) f.front last,
          sum_by-append (λ y. cond (dedent_item y) 1 0) f.front last,
        );
        rest = r.is ∙ ap (λ k. dedents k r.others) here;
      }

  pub line_ended : z.lexeme ≡ newline → z.end ≡ z.begin → IsEnded u v before z behind c.fault
  line_ended is none =
      let f = found in
      elim f.given [
        | inr (l, (step, e)) ↦ ended f l step e.0 e.1
        | inl (xs, q, w, ws, (step, e)) ↦
            let g = line_given f.first z step (given step f.first z ws e) is in
            absurd (omega (arith, none, g.1.1.1.1))
      ]

  pub dedent_ended : z.lexeme ≡ dedent → v ≡ [] → IsEnded u v before z behind c.fault
  dedent_ended is none =
      let f = found in
      elim f.given [
        | inr (l, (step, e)) ↦ ended f l step e.0 e.1
        | inl (xs, q, w, ws, (step, e)) ↦
            let g = dedent_given f.first z step (given step f.first z ws e) is in
            absurd (omega (arith, measured_some f.past f.left g.measured, far_place f, ap (λ x. x.end) g.is, c.length_is, ap length none))
      ]

  pub line_width : z.lexeme ≡ newline → (z.end ≡ z.begin) ⊎ (z.end ≡ z.begin + 1)
  line_width is =
      let f = found in
      elim f.given [
        | inr (l, (step, e)) ↦ inl (sym (given step f.first z behind e.0).1.0)
        | inl (xs, q, w, ws, (step, e)) ↦ inr (line_given f.first z step (given step f.first z ws e) is).1.1.1.1
      ]
