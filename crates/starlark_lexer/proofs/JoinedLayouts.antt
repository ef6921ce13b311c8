-- The lexemes of two texts, one behind the other, where Dedents close the first.
use Rattle.std.proofs.Common.{◌≡◌, ◌<◌, ℕ, suc, ◌+◌, true, false, List, [], ◌∷◌, ◌++◌, length, drop, map, refl, ap, sym, ◌∙◌, arith, inl, inr, subst, append_assoc, drop-drop}
use Rattle.std.specs.Prelude.{None, ◌⊎◌, count_by}
use Rattle.std.proofs.lemmas.Bool.{cases_Bool, false≢true}
use Rattle.std.proofs.lemmas.List.{append-nil}
use Rattle.std.specs.List.{list_all}
use Rattle.starlark_lexer.specs.Items.{newline, Item, item, Lexed, nothing, with_items, opening_item, closing_item, dedents}
use Rattle.starlark_lexer.specs.Classes.{leading, blanks, has_tab, width, line_len, line_end}
use Rattle.starlark_lexer.specs.Widths.{IsOpen, Closes}
use Rattle.starlark_lexer.specs.Lex.{Past, Move, Step, Lex, on, over, start, goes_on, is_over}
use Rattle.starlark_lexer.specs.Lex as rules
use Rattle.starlark_lexer.specs.Joining.{IsClosed, IsEven, IsLaid, FirstLine, whole_line, line_item, opens_level, item_on, lexed_on}
use Rattle.starlark_lexer.specs.Joining as lines
use Rattle.starlark_lexer.specs.Order.{InOrder}
use Rattle.starlark_lexer.proofs.JoinedOn.{Alike, on_past, moves, both_on, measured_on, fitted_on, ends_on, lex_on}
use Rattle.starlark_lexer.proofs.Joined.{cut_text}
use Rattle.starlark_lexer.proofs.Options.{none_some}
use Rattle.starlark_lexer.proofs.Dedents.{dedents_opened, dedents_closed}
use Rattle.starlark_lexer.proofs.Widths.{IsStack, no_lines, open_after}
use Rattle.starlark_lexer.proofs.Ordered.{Sound, at_start, in_order, short, within}
use Rattle.starlark_lexer.proofs.Stacks.{has_first}

-- ---- lines without a width

all_lines : (xs ys : List Item) → list_all line_item xs ≡ true → opens_level (xs ++ ys) ≡ opens_level ys
all_lines [] ys h = refl
all_lines (x ∷ xs) ys h = elim (cases_Bool (line_item x)) [ inl t ↦ rw t (all_lines xs ys (rw t at h)) | inr f ↦ absurd (false≢true (rw f at h)) ]

lines_append : (xs ys : List Item) → list_all line_item xs ≡ true → list_all line_item ys ≡ true → list_all line_item (xs ++ ys) ≡ true
lines_append [] ys h k = k
lines_append (x ∷ xs) ys h k = elim (cases_Bool (line_item x)) [ inl t ↦ rw t (lines_append xs ys (rw t at h) k) | inr f ↦ absurd (false≢true (rw f at h)) ]

-- ---- the first line of a text that has a width

-- the same place behind other lines
abbrev relined : List ℕ → Past → Past
relined ls q = record { place = q.place; items = q.items; lines = ls; fresh = q.fresh; mode = q.mode; outer = q.outer }

open_nil : (x : ℕ) → IsOpen [] x → x ≡ 0
open_nil x (inl z) = z
open_nil x (inr (k, lt, is, before)) = absurd (omega (arith, lt))

-- behind a line of width 0 nothing is open
open_flat : (ls : List ℕ) (w x : ℕ) → w ≡ 0 → IsOpen (w ∷ ls) x → x ≡ 0
open_flat ls w x z o = elim (open_after w ls x o) [ inl e ↦ e ∙ z | inr both ↦ omega (arith, both.0, z) ]

closes_nil : (w : ℕ) (closed : List ℕ) → Closes [] w closed → closed ≡ []
closes_nil w [] c = refl
closes_nil w (y ∷ ys) c =
    let k = (c.each y).0 (has_first y ys) in
    absurd (omega (arith, open_nil y k.0, k.1))

-- a line end or a comment on a line of its own
record Lines (n : ℕ) (is : List Item) (ls closed : List ℕ) (q : Past) (rest : List ℕ) (xs : List Item) (r : Past) (more : List ℕ) : Type 0 where
  js : List Item
  ks : List ℕ
  step : Step (on_past n is ls q) rest (on (map (item_on n) xs) (on_past n js ks r) more)
  closes : Closes ks 0 closed
  even : count_by opening_item js + count_by closing_item r.items ≡ count_by closing_item js + count_by opening_item r.items
  fresh : r.fresh ≡ true
  lines : r.lines ≡ []
  all : list_all line_item xs ≡ true
  size : ℕ
  next : r.place ≡ q.place + size
  line : (k : ℕ) → FirstLine more k → FirstLine rest (size + k)

-- a line of width 0, with which so many widths are closed
record Measured (n : ℕ) (is : List Item) (ls : List ℕ) (c : ℕ) (q : Past) (rest : List ℕ) (xs : List Item) (r : Past) (more : List ℕ) : Type 0 where
  js : List Item
  ks : List ℕ
  step : Step (on_past n is ls q) rest (on (map (item_on n) (dedents q.place c)) (on_past n js ks r) more)
  alike : Alike js ks r
  none : xs ≡ []
  line : FirstLine rest 0
  some : 0 < length rest

record Over (n : ℕ) (is : List Item) (ls : List ℕ) (c : ℕ) (q : Past) (rest : List ℕ) (l : Lexed) : Type 0 where
  place : ℕ
  end : place ≡ q.place + length rest
  line : FirstLine rest (length rest)
  items : l.items ≡ item place newline place ∷ []
  step : Step (on_past n is ls q) rest (over (lexed_on n (with_items (item place newline place ∷ dedents place c) nothing)))

abbrev First : ℕ → List Item → List ℕ → List ℕ → Past → List ℕ → Move → Type 0
First n is ls closed q rest (on xs r more) = Lines n is ls closed q rest xs r more ⊎ (Measured n is ls (length closed) q rest xs r more ⊎ ((ys : List Item) → opens_level (xs ++ ys) ≡ false))
First n is ls closed q rest (over l) = l.fault ≡ None → Over n is ls (length closed) q rest l

module _ (n : ℕ) (is : List Item) (ls closed : List ℕ) (shuts : Closes ls 0 closed) where
  like : (q : Past) → count_by opening_item is + count_by closing_item q.items ≡ count_by closing_item is + count_by opening_item q.items → Alike is ls (relined ls q)
  like q even = record { even = even; there = λ x o. o; back = λ x o. o }

  closes_like : (ks : List ℕ) → ((x : ℕ) → IsOpen ks x → IsOpen ls x) → ((x : ℕ) → IsOpen ls x → IsOpen ks x) → Closes ks 0 closed
  closes_like ks there back = record {
    once = shuts.once;
    each = λ x. (λ t. let k = (shuts.each x).0 t in (back x k.0, k.1), λ k. (shuts.each x).1 (there x k.0, k.1));
  }

  fitted_first : (q : Past) (rest cl : List ℕ) → count_by opening_item is + count_by closing_item q.items ≡ count_by closing_item is + count_by opening_item q.items
      → q.lines ≡ [] → rules.IsMeasured q rest → has_tab (blanks rest) ≡ false → IsOpen q.lines (width rest) → Closes q.lines (width rest) cl
      → Measured n is ls (length closed) q rest (dedents q.place (length cl)) (record { place = q.place + leading rest; items = dedents q.place (length cl) ++ q.items; lines = width rest ∷ q.lines; fresh = false; mode = q.mode; outer = q.outer }) (drop (leading rest) rest)
  fitted_first q rest cl even none m t o c =
      let w = width rest in
      let flat : w ≡ 0 = open_nil w (subst (λ v. IsOpen v w) none o) in
      let empty : cl ≡ [] = closes_nil w cl (subst (λ v. Closes v w cl) none c) in
      let mv = fitted_on n (relined ls q) is ls rest (like q even) w (length closed) (leading rest)
      (rules.fits (on_past n is ls q) rest closed (measured_on n (relined ls q) is ls rest (like q even) (record { fresh = m.fresh; first = m.first; more = m.more; stands = m.stands; not_line = m.not_line; not_remark = m.not_remark })) t (inl flat) (subst (λ v. Closes ls v closed) (sym flat) shuts)) in
      record {
        js = mv.0;
        ks = mv.1;
        step = mv.2;
        alike = record {
          even = omega (arith, mv.3.even, dedents_opened q.place (length closed) q.items, dedents_closed q.place (length closed) q.items, dedents_opened q.place (length cl) q.items, dedents_closed q.place (length cl) q.items);
          there = λ x v. inl (open_flat ls w x flat (mv.3.there x v));
          back = λ x v. inl (open_flat q.lines w x flat v);
        };
        none = ap (λ v. dedents q.place (length v)) empty;
        line = lines.here rest m.first m.more m.stands m.not_line m.not_remark;
        some = omega (arith, short rest m.more m.first m.stands);
      }

  remark_on : (rest more : List ℕ) (k : ℕ) → drop (leading rest) rest ≡ 35 ∷ more
      → FirstLine (drop (leading rest + (1 + line_len more) + line_end (drop (line_len more) more)) rest) k
      → FirstLine rest (leading rest + (1 + line_len more) + line_end (drop (line_len more) more) + k)
  remark_on rest more k e l =
      let n = whole_line more in
      let size : leading rest + (1 + line_len more) + line_end (drop (line_len more) more) ≡ leading rest + (n + 1) = omega arith in
      let moved : drop (leading rest + (1 + line_len more) + line_end (drop (line_len more) more)) rest ≡ drop n more =
      ap (λ i. drop i rest) size ∙ sym (drop-drop (n + 1) (leading rest) rest) ∙ ap (drop (n + 1)) e ∙ ap (λ i. drop i (35 ∷ more)) {x = n + 1} {y = suc n} (omega arith) in
      let whole : leading rest + 1 + n + k ≡ leading rest + (1 + line_len more) + line_end (drop (line_len more) more) + k = omega arith in
      subst (FirstLine rest) whole (lines.remark rest more k e (subst (λ ys. FirstLine ys k) moved l))

  first : {q : Past} {rest : List ℕ} {m : Move} → Step q rest m → q.fresh ≡ true → q.lines ≡ [] → count_by opening_item is + count_by closing_item q.items ≡ count_by closing_item is + count_by opening_item q.items
      → First n is ls closed q rest m
  first (rules.blank_line q rest more f e) fr none even =
      let mv = moves n is ls (rules.blank_line (relined ls q) rest more f e) (like q even) in
      inl (record {
        js = mv.0;
        ks = mv.1;
        step = mv.2;
        closes = closes_like mv.1 mv.3.there mv.3.back;
        even = mv.3.even;
        fresh = refl;
        lines = none;
        all = refl;
        size = leading rest + 1;
        next = refl;
        line = λ k l. lines.blank rest more k e (subst (λ ys. FirstLine ys k) (sym (drop-drop 1 (leading rest) rest) ∙ ap (drop 1) e) l);
      })
  first (rules.remark_line q rest more f e) fr none even =
      let mv = moves n is ls (rules.remark_line (relined ls q) rest more f e) (like q even) in
      inl (record {
        js = mv.0;
        ks = mv.1;
        step = mv.2;
        closes = closes_like mv.1 mv.3.there mv.3.back;
        even = mv.3.even;
        fresh = refl;
        lines = none;
        all = refl;
        size = leading rest + (1 + line_len more) + line_end (drop (line_len more) more);
        next = refl;
        line = λ k l. remark_on rest more k e l;
      })
  first (rules.last_line q rest cl f e c) fr none even = λ ok.
      let empty : cl ≡ [] = closes_nil 0 cl (subst (λ v. Closes v 0 cl) none c) in
      let i = q.place + length rest in
      record {
        place = i;
        end = refl;
        line = lines.none rest e;
        items = ap (λ v. item i newline i ∷ (dedents i (length v) ++ [])) empty;
        step = ends_on n (relined ls q) is ls rest (like q even) i (n + q.place + length rest) (length closed) (omega arith) (rules.last_line (on_past n is ls q) rest closed f e shuts);
      }
  first (rules.tabbed q rest m t) fr none even = λ ok. absurd (none_some _ (sym ok))
  first (rules.deepens q rest m t d) fr none even = inr (inr (λ ys. refl))
  first (rules.fits q rest cl m t o c) fr none even = inr (inl (fitted_first q rest cl even none m t o c))
  first (rules.misfits q rest m t d o) fr none even = λ ok. absurd (none_some _ (sym ok))
  first (rules.passes q b rest f c d) fr none even = absurd (false≢true (sym f ∙ fr))
  first (rules.escapes q rest f c d) fr none even = absurd (false≢true (sym f ∙ fr))
  first (rules.joins q rest f d) fr none even = absurd (false≢true (sym f ∙ fr))
  first (rules.ends_line q rest f c d) fr none even = absurd (false≢true (sym f ∙ fr))
  first (rules.remark q rest f c) fr none even = absurd (false≢true (sym f ∙ fr))
  first (rules.lexeme q rest k x v l) fr none even = absurd (false≢true (sym v.within ∙ fr))
  first (rules.faults q rest k e v l) fr none even = absurd (false≢true (sym v.within ∙ fr))
  first (rules.ends_text q cl f c d) fr none even = absurd (false≢true (sym f ∙ fr))
  first (rules.literal q rest k g j v l s e) fr none even = absurd (false≢true (sym v.within ∙ fr))
  first (rules.unclosed q rest k g j v l s e) fr none even = absurd (false≢true (sym v.within ∙ fr))
  first (rules.misspelt q rest k g j m v l s e) fr none even = absurd (false≢true (sym v.within ∙ fr))
  first (rules.enters q rest k g v l s) fr none even = absurd (false≢true (sym v.within ∙ fr))
  first (rules.texts q b g rest k f c s e) fr none even = absurd (false≢true (sym f ∙ fr))
  first (rules.leaves q b g rest f c e) fr none even = absurd (false≢true (sym f ∙ fr))
  first (rules.opens_field q b g rest f c e) fr none even = absurd (false≢true (sym f ∙ fr))
  first (rules.unfinished q b g rest k f c e) fr none even = absurd (false≢true (sym f ∙ fr))
  first (rules.misspells q b g rest k m f c e) fr none even = absurd (false≢true (sym f ∙ fr))
  first (rules.shuts q b g bs rest f c d) fr none even = absurd (false≢true (sym f ∙ fr))
  first (rules.bangs q b g bs rest f c d e) fr none even = absurd (false≢true (sym f ∙ fr))

-- ---- all lines

record Laid (n : ℕ) (is : List Item) (ls : List ℕ) (c : ℕ) (q : Past) (rest : List ℕ) (m : Lexed) : Type 0 where
  front : List Item
  more : List Item
  second : m.items ≡ front ++ more
  lines : list_all line_item front ≡ true
  place : ℕ
  size : ℕ
  at : place ≡ q.place + size
  line : FirstLine rest size
  before : InOrder q.place place front None
  behind : ((size ≡ length rest) × (more ≡ [])) ⊎ ((size < length rest) × InOrder place (q.place + length rest) more m.fault)
  lex : Lex (on_past n is ls q) rest (lexed_on n (record { items = front ++ (dedents place c ++ more); fault = m.fault }))

laid : (n : ℕ) (is : List Item) (ls closed : List ℕ) → Closes ls 0 closed → {q : Past} {rest : List ℕ} {m : Lexed} → Lex q rest m → m.fault ≡ None → q.fresh ≡ true → q.lines ≡ []
    → count_by opening_item is + count_by closing_item q.items ≡ count_by closing_item is + count_by opening_item q.items → opens_level m.items ≡ true → Sound q → Laid n is ls (length closed) q rest m
laid n is ls closed shuts (goes_on q rest xs r more l step d) ok fr none even level sound =
    let stack : IsStack q.lines [] = subst (λ v. IsStack v []) (sym none) no_lines in
    elim (first n is ls closed shuts step fr none even) [
      | inl h ↦
          let w = within [] step sound stack in
          let k = laid n h.js h.ks closed h.closes d ok h.fresh h.lines h.even (sym (all_lines xs l.items h.all) ∙ level) w.sound in
          let lexed : Lexed = record { items = k.front ++ (dedents k.place (length closed) ++ k.more); fault = l.fault } in
          let long : h.size + length more ≡ length rest = omega (arith, w.place, h.next) in
          record {
            front = xs ++ k.front;
            more = k.more;
            second = ap (λ ys. xs ++ ys) k.second ∙ sym (append_assoc xs k.front k.more);
            lines = lines_append xs k.front h.all k.lines;
            place = k.place;
            size = h.size + k.size;
            at = omega (arith, k.at, h.next);
            line = h.line k.size k.line;
            before = w.order k.place k.front None k.before;
            behind = elim k.behind [
              | inl e ↦ inl (omega (arith, e.0, long), e.1)
              | inr e ↦ inr (omega (arith, e.0, long), subst (λ i. InOrder k.place i k.more l.fault) w.place e.1)
            ];
            lex = subst (λ ys. Lex (on_past n is ls q) rest (lexed_on n (record { items = ys; fault = l.fault }))) (sym (append_assoc xs k.front (dedents k.place (length closed) ++ k.more)))
                (subst (Lex (on_past n is ls q) rest) (both_on n xs lexed) (goes_on (on_past n is ls q) rest (map (item_on n) xs) (on_past n h.js h.ks r) more (lexed_on n lexed) h.step k.lex));
          }
      | inr other ↦ elim other [
        | inl h ↦
            record {
              front = [];
              more = l.items;
              second = ap (λ ys. ys ++ l.items) h.none;
              lines = refl;
              place = q.place;
              size = 0;
              at = omega arith;
              line = h.line;
              before = omega arith;
              behind = inr (h.some, subst (λ ys. InOrder q.place (q.place + length rest) (ys ++ l.items) l.fault) h.none (in_order [] (goes_on q rest xs r more l step d) sound stack));
              lex = subst (Lex (on_past n is ls q) rest) (both_on n (dedents q.place (length closed)) l)
                  (goes_on (on_past n is ls q) rest (map (item_on n) (dedents q.place (length closed))) (on_past n h.js h.ks r) more (lexed_on n l) h.step (lex_on n h.js h.ks d h.alike ok));
            }
        | inr indented ↦ absurd (false≢true (sym (indented l.items) ∙ level))
      ]
    ]
laid n is ls closed shuts (is_over q rest l step) ok fr none even level sound =
    let h = first n is ls closed shuts step fr none even ok in
    let c = length closed in
    let ends : InOrder q.place h.place (item h.place newline h.place ∷ []) None = (omega (arith, h.end), omega arith, omega arith) in
    record {
      front = l.items;
      more = [];
      second = sym (append-nil l.items);
      lines = ap (list_all line_item) h.items;
      place = h.place;
      size = length rest;
      at = h.end;
      line = h.line;
      before = subst (λ ys. InOrder q.place h.place ys None) (sym h.items) ends;
      behind = inl (refl, refl);
      lex = subst (λ v. Lex (on_past n is ls q) rest (lexed_on n v)) (λ t. record { items = sym h.items t ++ (dedents h.place c ++ []); fault = sym ok t })
          (is_over (on_past n is ls q) rest (lexed_on n (with_items (item h.place newline h.place ∷ dedents h.place c) nothing)) h.step);
    }

pub joined_dedents : (a b : List ℕ) (l m : Lexed) → Lex start a l → Lex start b m → l.fault ≡ None → m.fault ≡ None → IsClosed a → IsEven l.items → opens_level m.items ≡ true → IsLaid a b l m
joined_dedents a b l m d e ok fine closed even level =
    let j = cut_text a b l d ok closed even in
    let n : 0 + length a ≡ length a = omega arith in
    let whole : 0 + length b ≡ length b = omega arith in
    let k = laid (0 + length a) j.is j.lines j.closed j.closes e fine refl refl (omega (arith, j.balanced)) level at_start in
    let lexed : Lexed = record { items = k.front ++ (dedents k.place (length j.closed) ++ k.more); fault = m.fault } in
    let place : k.size ≡ k.place = omega (arith, k.at) in
    record {
      items = j.xs;
      count = length j.closed;
      first = j.items ∙ ap (λ i. j.xs ++ item i newline i ∷ dedents i (length j.closed)) n;
      line_end = j.line;
      front = k.front;
      more = k.more;
      second = k.second;
      lines = k.lines;
      place = k.place;
      line = subst (FirstLine b) place k.line;
      before = k.before;
      behind = elim k.behind [
        | inl h ↦ inl (sym place ∙ h.0, h.1)
        | inr h ↦ inr (omega (arith, h.0, place), subst (λ i. InOrder k.place i k.more m.fault) whole h.1)
      ];
      both = subst (λ i. Lex start (a ++ b) (with_items j.xs (lexed_on i lexed))) n (j.lex (lexed_on (0 + length a) lexed) k.lex);
    }
