-- Items and the fault stand in order in the text, and there are two items a byte and one more at most.
use Rattle.std.proofs.Common.{◌≡◌, ◌<◌, ◌≤◌, ℕ, ◌+◌, ◌-◌, ◌*◌, Bool, true, false, ◌&&◌, ◌||◌, List, [], ◌∷◌, ◌++◌, length, take, drop, refl, ap, arith, zero, suc, inl, inr, eqb, ltb, leb, subst, length-append, length-drop}
use Rattle.std.specs.Prelude.{Option, Some, None}
use Rattle.std.proofs.lemmas.Bool.{cases_Bool}
use Rattle.std.proofs.lemmas.List.{length-take}
use Rattle.std.proofs.lemmas.List.Sums.{prefix_len-le-length}
use Rattle.std.specs.List.{filter}
use Rattle.starlark_lexer.specs.declared.literal.Form.{Form}
use Rattle.starlark_lexer.specs.declared.literal.Ending.{Ending}
use Rattle.starlark_lexer.specs.declared.literal.Ending.TheVariants as ending
use Rattle.starlark_lexer.specs.Items.{Lexeme, newline, indent, is_newline, Item, item, Stop, Lexed, dedents, newline_span}
use Rattle.starlark_lexer.specs.Literals.{body, quotes}
use Rattle.starlark_lexer.specs.Classes.{is_blank, leading, width, spaces, line_end, line_len, escaped}
use Rattle.starlark_lexer.specs.Widths.{IsOpen, IsDeeper, Closes, has}
use Rattle.starlark_lexer.specs.Scan.{kept}
use Rattle.starlark_lexer.specs.Lex.{Mode, Past, Move, Step, Lex, on, over, start, recorded, mode_behind, below, moved, gives, deepened, fitted, turns, goes_on, is_over}
use Rattle.starlark_lexer.specs.Lex as rules
use Rattle.starlark_lexer.specs.Order.{InOrder}
use Rattle.starlark_lexer.proofs.Bodies.{IsInside, body_within}
use Rattle.starlark_lexer.proofs.Widths.{IsStack, no_lines}
use Rattle.starlark_lexer.proofs.Widths as widths
use Rattle.starlark_lexer.proofs.Stacks.{kept_filter, closes_count, same_closes}
use Rattle.starlark_lexer.proofs.Dedents.{dedents_span}
use Rattle.starlark_lexer.proofs.Openings.{quotes_some}
use Rattle.starlark_lexer.proofs.Gaps.{line_end_within, line_len_within}

-- ---- what stands before

-- an f-string begins before the place
abbrev pub Begun : ℕ → Mode → Type 0
Begun i rules.code = Unit {0}
Begun i (rules.inside b g) = b ≤ i
Begun i (rules.field b g bs) = b ≤ i

abbrev pub AllBegun : ℕ → List Mode → Type 0
AllBegun i [] = Unit {0}
AllBegun i (m ∷ ms) = Begun i m × AllBegun i ms

-- the last line end and the f-strings around stand before the place
pub record Sound (p : Past) : Type 0 where
  pub ordered : (newline_span p.items).0 ≤ (newline_span p.items).1
  pub before : (newline_span p.items).1 ≤ p.place
  pub mode : Begun p.place p.mode
  pub outer : AllBegun p.place p.outer

begun_more : (i j : ℕ) (m : Mode) → i ≤ j → Begun i m → Begun j m
begun_more i j rules.code le h = h
begun_more i j (rules.inside b g) le h = omega (arith, h, le)
begun_more i j (rules.field b g bs) le h = omega (arith, h, le)

all_more : (i j : ℕ) (ms : List Mode) → i ≤ j → AllBegun i ms → AllBegun j ms
all_more i j [] le h = h
all_more i j (m ∷ ms) le h = (begun_more i j m le h.0, all_more i j ms le h.1)

begun_behind : (i : ℕ) (m : Mode) (x : Lexeme) → Begun i m → Begun i (mode_behind m x)
begun_behind i rules.code x h = h
begun_behind i (rules.inside b g) x h = h
begun_behind i (rules.field b g bs) x h = h

begun_below : (i : ℕ) (os : List Mode) → AllBegun i os → Begun i (below os) × AllBegun i (drop 1 os)
begun_below i [] h = (tt, tt)
begun_below i (m ∷ ms) h = h

-- the last line end, one item more
record SoundSpan (xs : List Item) (i : ℕ) : Type 0 where
  ordered : (newline_span xs).0 ≤ (newline_span xs).1
  before : (newline_span xs).1 ≤ i

span_later : (xs : List Item) (i j : ℕ) → i ≤ j → SoundSpan xs i → SoundSpan xs j
span_later xs i j le h = record { ordered = h.ordered; before = omega (arith, h.before, le) }

span_cons : (x : Item) (xs : List Item) (i : ℕ) → x.begin ≤ x.end → x.end ≤ i → SoundSpan xs i → SoundSpan (x ∷ xs) i
span_cons x xs i le fits h = elim (cases_Bool (is_newline x.lexeme)) [
  | inl t ↦
      let e : newline_span (x ∷ xs) ≡ (x.begin, x.end) = rw t refl in
      record { ordered = omega (arith, le, ap (λ s. s.0) e, ap (λ s. s.1) e); before = omega (arith, fits, ap (λ s. s.1) e) }
  | inr f ↦
      let e : newline_span (x ∷ xs) ≡ newline_span xs = rw f refl in
      subst_span e
]
  where
    subst_span : newline_span (x ∷ xs) ≡ newline_span xs → SoundSpan (x ∷ xs) i
    subst_span e = record { ordered = omega (arith, h.ordered, ap (λ s. s.0) e, ap (λ s. s.1) e); before = omega (arith, h.before, ap (λ s. s.1) e) }

span_recorded : (m : Mode) (x : Item) (xs : List Item) (i : ℕ) → x.begin ≤ x.end → x.end ≤ i → SoundSpan xs i → SoundSpan (recorded m x xs) i
span_recorded rules.code x xs i le fits h = span_cons x xs i le fits h
span_recorded (rules.inside b g) x xs i le fits h = h
span_recorded (rules.field b g bs) x xs i le fits h = h

span_dedents : (i n : ℕ) (xs : List Item) (j : ℕ) → SoundSpan xs j → SoundSpan (dedents i n ++ xs) j
span_dedents i n xs j h =
    let e = dedents_span i n xs in
    record { ordered = omega (arith, h.ordered, ap (λ s. s.0) e, ap (λ s. s.1) e); before = omega (arith, h.before, ap (λ s. s.1) e) }

-- ---- a step

sooner : (i j n : ℕ) (xs : List Item) (f : Option Stop) → i ≤ j → InOrder j n xs f → InOrder i n xs f
sooner i j n [] None le h = omega (arith, h, le)
sooner i j n [] (Some s) le h = (omega (arith, h.0, le), h.1, h.2)
sooner i j n (x ∷ xs) f le h = (omega (arith, h.0, le), h.1, h.2)

-- What a step gives stands before where it goes on. As many widths are open behind it as vs has.
pub record Within (p : Past) (ws rest : List ℕ) (xs : List Item) (q : Past) (more : List ℕ) : Type 0 where
  pub order : (n : ℕ) (ys : List Item) (f : Option Stop) → InOrder q.place n ys f → InOrder p.place n (xs ++ ys) f
  pub place : q.place + length more ≡ p.place + length rest
  pub sound : Sound q
  pub vs : List ℕ
  pub stack : IsStack q.lines vs
  pub count : length xs + length vs + 2 * length more ≤ length ws + 2 * length rest

abbrev pub Steps : Past → List ℕ → List ℕ → Move → Type 0
Steps p ws rest (on xs q more) = Within p ws rest xs q more
Steps p ws rest (over l) = InOrder p.place (p.place + length rest) l.items l.fault × (length l.items ≤ length ws + 1)

module _ (p : Past) (ws rest : List ℕ) (h : Sound p) (stack : IsStack p.lines ws) where
  span : SoundSpan p.items p.place
  span = record { ordered = h.ordered; before = h.before }

  gives_within : (s : ℕ) (x : Lexeme) (n k : ℕ) (f : Bool) → 0 < k → s + n ≤ k → k ≤ length rest → Steps p ws rest (gives p s x n k f rest)
  gives_within s x n k f some le fits =
      let it : Item = item (p.place + s) x (p.place + s + n) in
      let z = span_recorded p.mode it p.items (p.place + k) (omega arith) (omega (arith, le)) (span_later p.items p.place (p.place + k) (omega arith) span) in
      record {
        order = λ m ys g o. (omega arith, omega arith, sooner (p.place + s + n) (p.place + k) m ys g (omega (arith, le)) o);
        place = omega (arith, length-drop k rest, fits);
        sound = record {
          ordered = z.ordered;
          before = z.before;
          mode = begun_behind (p.place + k) p.mode x (begun_more p.place (p.place + k) p.mode (omega arith) h.mode);
          outer = all_more p.place (p.place + k) p.outer (omega arith) h.outer;
        };
        vs = ws;
        stack = stack;
        count = omega (arith, length-drop k rest, fits, some);
      }

  turns_within : (x : Lexeme) (n : ℕ) (m : Mode) (os : List Mode) → 0 < n → n ≤ length rest → Begun (p.place + n) m → AllBegun (p.place + n) os → Steps p ws rest (turns p x n m os rest)
  turns_within x n m os some fits mode outer =
      record {
        order = λ k ys g o. (omega arith, omega arith, o);
        place = omega (arith, length-drop n rest, fits);
        sound = record { ordered = h.ordered; before = omega (arith, h.before); mode = mode; outer = outer };
        vs = ws;
        stack = stack;
        count = omega (arith, length-drop n rest, fits, some);
      }

  passes_within : (k : ℕ) → k ≤ length rest → Steps p ws rest (on [] (moved p k) (drop k rest))
  passes_within k fits =
      record {
        order = λ n ys g o. sooner p.place (p.place + k) n ys g (omega arith) o;
        place = omega (arith, length-drop k rest, fits);
        sound = record {
          ordered = h.ordered;
          before = omega (arith, h.before);
          mode = begun_more p.place (p.place + k) p.mode (omega arith) h.mode;
          outer = all_more p.place (p.place + k) p.outer (omega arith) h.outer;
        };
        vs = ws;
        stack = stack;
        count = omega (arith, length-drop k rest, fits);
      }

  -- a width above all that are open
  shut_above : (w : ℕ) → IsDeeper p.lines w → (eqb w 0 || has ws w) ≡ false
  shut_above w d = elim (cases_Bool (eqb w 0 || has ws w)) [ inr f ↦ f | inl t ↦ absurd (let lt = d w (widths.open_test p.lines ws stack w t) in omega (arith, lt)) ]

  none_above : (w : ℕ) → IsDeeper p.lines w → has (filter (λ x. ltb w x) ws) ≡ (λ x. false)
  none_above w d = λ i x. no_width x i
    where
      no_width : (x : ℕ) → has (filter (λ x. ltb w x) ws) x ≡ false
      no_width x = elim (cases_Bool (has (filter (λ x. ltb w x) ws) x)) [
        | inr f ↦ f
        | inl t ↦ absurd (let o = ((widths.closes p.lines ws stack w).each x).0 t in let lt = d x o.0 in omega (arith, lt, o.1))
      ]

  deepened_within : (w k : ℕ) → 0 < k → k ≤ length rest → IsDeeper p.lines w → Steps p ws rest (deepened p w k rest)
  deepened_within w k some fits d =
      let it : Item = item p.place indent (p.place + k) in
      let z = span_cons it p.items (p.place + k) (omega arith) (omega arith) (span_later p.items p.place (p.place + k) (omega arith) span) in
      record {
        order = λ m ys g o. (omega arith, omega arith, o);
        place = omega (arith, length-drop k rest, fits);
        sound = record {
          ordered = z.ordered;
          before = z.before;
          mode = begun_more p.place (p.place + k) p.mode (omega arith) h.mode;
          outer = all_more p.place (p.place + k) p.outer (omega arith) h.outer;
        };
        vs = ws ++ w ∷ [];
        stack = widths.pushed p.lines ws stack w (none_above w d) (shut_above w d);
        count = omega (arith, length-drop k rest, fits, some, length-append ws (w ∷ []));
      }

  fitted_within : (w k : ℕ) (closed : List ℕ) → k ≤ length rest → IsOpen p.lines w → Closes p.lines w closed → Steps p ws rest (fitted p w (length closed) k rest)
  fitted_within w k closed fits o c =
      let them = dedents p.place (length closed) in
      let z = span_dedents p.place (length closed) p.items (p.place + k) (span_later p.items p.place (p.place + k) (omega arith) span) in
      let less : length ws - kept ws w ≡ length closed = closes_count p.lines ws w stack (widths.closes p.lines ws stack w) closed c in
      let left : length (filter (λ x. leb x w) ws) ≤ kept ws w = omega (arith, ap length (kept_filter ws w stack.once), length-take (kept ws w) ws) in
      let most : kept ws w ≤ length ws = prefix_len-le-length (λ x. leb x w) ws in
      record {
        order = λ m ys g o. behind_dedents (length closed) m ys g (sooner p.place (p.place + k) m ys g (omega arith) o);
        place = omega (arith, length-drop k rest, fits);
        sound = record {
          ordered = z.ordered;
          before = z.before;
          mode = begun_more p.place (p.place + k) p.mode (omega arith) h.mode;
          outer = all_more p.place (p.place + k) p.outer (omega arith) h.outer;
        };
        vs = filter (λ x. leb x w) ws;
        stack = widths.kept p.lines ws stack w (widths.test_open p.lines ws stack w o);
        count = omega (arith, length-drop k rest, fits, less, left, most, length_dedents p.place (length closed));
      }
    where
      length_dedents : (i n : ℕ) → length (dedents i n) ≡ n
      length_dedents i zero = refl
      length_dedents i (suc n) = ap suc (length_dedents i n)

      behind_dedents : (c m : ℕ) (ys : List Item) (g : Option Stop) → InOrder p.place m ys g → InOrder p.place m (dedents p.place c ++ ys) g
      behind_dedents zero m ys g o = o
      behind_dedents (suc c) m ys g o = (omega arith, omega arith, behind_dedents c m ys g o)

  ends_within : (i : ℕ) (closed : List ℕ) → p.place ≤ i → i ≤ p.place + length rest → Closes p.lines 0 closed → Steps p ws rest (rules.ends i (length closed))
  ends_within i closed low high c =
      let all : length ws ≡ length closed = same_closes p.lines 0 ws closed (record { once = stack.once; each = stack.each }) c in
      ((low, omega arith, ends_order (length closed)), omega (arith, all, ends_length (length closed)))
    where
      ends_order : (n : ℕ) → InOrder i (p.place + length rest) (dedents i n ++ []) None
      ends_order zero = high
      ends_order (suc n) = (omega arith, omega arith, ends_order n)

      ends_length : (n : ℕ) → length (dedents i n ++ []) ≡ n
      ends_length zero = refl
      ends_length (suc n) = ap suc (ends_length n)

-- ---- rule by rule

pub inside : (g : Form) (rest : List ℕ) (e : Ending) → body g 0 rest ≡ e → IsInside g rest e
inside g rest e is = rw is at (body_within g rest)

pub short : (rest more : List ℕ) (c : ℕ) → drop (leading rest) rest ≡ c ∷ more → leading rest + (1 + length more) ≡ length rest
short rest more c e = omega (arith, ap length e, length-drop (leading rest) rest)

pub escaped_most : (xs : List ℕ) → escaped xs ≤ length xs
unfolding escaped
escaped_most [] = omega arith
escaped_most (b ∷ bs) = elim (cases_Bool (eqb b 92 && ltb 0 (line_end bs))) [ inl t ↦ rw t (omega (arith, line_end_within bs)) | inr f ↦ rw f (omega arith) ]

-- a line that is wider than another begins with a blank
wide_blank : (rest : List ℕ) (n : ℕ) → 0 < spaces (take n rest) → 0 < n
wide_blank [] zero h = absurd (omega (arith, h))
wide_blank (b ∷ bs) zero h = absurd (omega (arith, h))
wide_blank rest (suc n) h = omega arith

pub within : {p : Past} {rest : List ℕ} {m : Move} (ws : List ℕ) → Step p rest m → Sound p → IsStack p.lines ws → Steps p ws rest m
within ws (rules.blank_line p rest more f e) h s = gives_within p ws rest h s (leading rest) newline 1 (leading rest + 1) true (omega arith) (omega arith) (omega (arith, short rest more 10 e))
within ws (rules.remark_line p rest more f e) h s =
    let n = line_len more in
    gives_within p ws rest h s (leading rest) _ (1 + n) (leading rest + (1 + n) + line_end (drop n more)) true (omega arith) (omega arith)
    (omega (arith, short rest more 35 e, line_len_within more, line_end_within (drop n more), length-drop n more))
within ws (rules.last_line p rest closed f e c) h s = ends_within p ws rest h s (p.place + length rest) closed (omega arith) (omega arith) c
within ws (rules.tabbed p rest m t) h s = ((omega arith, h.ordered, omega (arith, h.before)), omega arith)
within ws (rules.deepens p rest m t d) h s =
    deepened_within p ws rest h s (width rest) (leading rest) (wide_blank rest (leading rest) (d 0 (inl refl))) (prefix_len-le-length is_blank rest) d
within ws (rules.fits p rest closed m t o c) h s = fitted_within p ws rest h s (width rest) (leading rest) closed (prefix_len-le-length is_blank rest) o c
within ws (rules.misfits p rest m t d o) h s = ((omega arith, omega arith, omega (arith, prefix_len-le-length is_blank rest)), omega arith)
within ws (rules.passes p b rest f c d) h s = passes_within p ws (b ∷ rest) h s 1 (omega arith)
within ws (rules.escapes p rest f c d) h s = passes_within p ws rest h s (escaped rest) (escaped_most rest)
within ws (rules.joins p rest f d) h s = passes_within p ws (10 ∷ rest) h s 1 (omega arith)
within ws (rules.ends_line p rest f c d) h s = gives_within p ws (10 ∷ rest) h s 0 newline 1 1 true (omega arith) (omega arith) (omega arith)
within ws (rules.remark p rest f c) h s = gives_within p ws (35 ∷ rest) h s 0 _ (1 + line_len rest) (1 + line_len rest) false (omega arith) (omega arith) (omega (arith, line_len_within rest))
within ws (rules.lexeme p rest n x v l) h s = gives_within p ws rest h s 0 x n n false l.nonempty (omega arith) l.within
within ws (rules.faults p rest n e v l) h s = ((omega arith, omega arith, omega (arith, l.within)), omega arith)
within ws (rules.ends_text p closed f c d) h s = ends_within p ws [] h s p.place closed (omega arith) (omega arith) d
within ws (rules.literal p rest n g k v l t e) h s =
    let fits : k + quotes g.quote ≤ length (drop n rest) = inside g (drop n rest) (ending.Closed k) e in
    gives_within p ws rest h s 0 _ (n + k + quotes g.quote) (n + k + quotes g.quote) false (omega (arith, l.nonempty)) (omega arith) (omega (arith, fits, length-drop n rest, l.within))
within ws (rules.unclosed p rest n g k v l t e) h s =
    let fits : k ≤ length (drop n rest) = inside g (drop n rest) (ending.Unfinished k) e in
    ((omega arith, omega arith, omega (arith, fits, length-drop n rest, l.within)), omega arith)
within ws (rules.misspelt p rest n g k m v l t e) h s =
    let fits : k + m ≤ length (drop n rest) = inside g (drop n rest) (ending.Escape k m) e in
    ((omega arith, omega arith, omega (arith, fits, length-drop n rest, l.within)), omega arith)
within ws (rules.enters p rest n g v l t) h s =
    turns_within p ws rest h s _ n (rules.inside p.place g) (p.mode ∷ p.outer) l.nonempty l.within (omega arith) (begun_more p.place (p.place + n) p.mode (omega arith) h.mode, all_more p.place (p.place + n) p.outer (omega arith) h.outer)
within ws (rules.texts p b g rest k f c some (inl e)) h s =
    let fits : k + quotes g.quote ≤ length rest = inside g rest (ending.Closed k) e in
    gives_within p ws rest h s 0 _ k k false some (omega arith) (omega (arith, fits))
within ws (rules.texts p b g rest k f c some (inr e)) h s =
    let fits : k + 1 ≤ length rest = inside g rest (ending.Field k) e in
    gives_within p ws rest h s 0 _ k k false some (omega arith) (omega (arith, fits))
within ws (rules.leaves p b g rest f c e) h s =
    let fits : 0 + quotes g.quote ≤ length rest = inside g rest (ending.Closed 0) e in
    let n = quotes g.quote in
    let o = begun_below (p.place + n) p.outer (all_more p.place (p.place + n) p.outer (omega arith) h.outer) in
    turns_within p ws rest h s _ n (below p.outer) (drop 1 p.outer) (quotes_some g.quote) (omega (arith, fits)) o.0 o.1
within ws (rules.opens_field p b g rest f c e) h s =
    let fits : 0 + 1 ≤ length rest = inside g rest (ending.Field 0) e in
    let begun : b ≤ p.place = rw c at h.mode in
    turns_within p ws rest h s _ 1 (rules.field b g []) p.outer (omega arith) (omega (arith, fits)) (omega (arith, begun)) (all_more p.place (p.place + 1) p.outer (omega arith) h.outer)
within ws (rules.unfinished p b g rest k f c e) h s =
    let fits : k ≤ length rest = inside g rest (ending.Unfinished k) e in
    let begun : b ≤ p.place = rw c at h.mode in
    ((omega arith, omega (arith, begun), omega (arith, fits)), omega arith)
within ws (rules.misspells p b g rest k m f c e) h s =
    let fits : k + m ≤ length rest = inside g rest (ending.Escape k m) e in
    ((omega arith, omega arith, omega (arith, fits)), omega arith)
within ws (rules.shuts p b g bs rest f c d) h s =
    let begun : b ≤ p.place = rw c at h.mode in
    turns_within p ws (125 ∷ rest) h s _ 1 (rules.inside b g) p.outer (omega arith) (omega arith) (omega (arith, begun)) (all_more p.place (p.place + 1) p.outer (omega arith) h.outer)
within ws (rules.bangs p b g bs rest f c d e) h s = gives_within p ws (33 ∷ rest) h s 0 _ 1 1 false (omega arith) (omega arith) (omega arith)

-- ---- all steps

pub in_order : {p : Past} {rest : List ℕ} {l : Lexed} (ws : List ℕ) → Lex p rest l → Sound p → IsStack p.lines ws → InOrder p.place (p.place + length rest) l.items l.fault
in_order ws (goes_on p rest xs q more l step d) h s =
    let w = within ws step h s in
    let o : InOrder q.place (p.place + length rest) l.items l.fault = subst (λ n. InOrder q.place n l.items l.fault) w.place (in_order w.vs d w.sound w.stack) in
    w.order (p.place + length rest) l.items l.fault o
in_order ws (is_over p rest l step) h s = (within ws step h s).0

few : {p : Past} {rest : List ℕ} {l : Lexed} (ws : List ℕ) → Lex p rest l → Sound p → IsStack p.lines ws → length l.items ≤ length ws + 2 * length rest + 1
few ws (goes_on p rest xs q more l step d) h s = let w = within ws step h s in omega (arith, few w.vs d w.sound w.stack, w.count, length-append xs l.items)
few ws (is_over p rest l step) h s = omega (arith, (within ws step h s).1)

pub at_start : Sound start
at_start = record { ordered = omega arith; before = omega arith; mode = tt; outer = tt }

pub ordered : (text : List ℕ) (l : Lexed) → Lex start text l → InOrder 0 (length text) l.items l.fault
ordered text l d = let e : 0 + length text ≡ length text = omega arith in subst (λ n. InOrder 0 n l.items l.fault) e (in_order [] d at_start no_lines)

pub few_items : (text : List ℕ) (l : Lexed) → Lex start text l → length l.items ≤ 2 * length text + 1
few_items text l d = omega (arith, few [] d at_start no_lines)
