-- The lexemes of two texts, one behind the other.
use Rattle.std.proofs.Common.{◌≡◌, ◌<◌, ◌≤◌, ℕ, ◌+◌, ◌-◌, Bool, true, false, cond, ◌&&◌, ◌||◌, List, [], ◌∷◌, ◌++◌, length, take, drop, refl, ap, sym, ◌∙◌, arith, zero, suc, inl, inr, eqb, subst, length-drop, append_assoc}
use Rattle.std.specs.Prelude.{None, count_by}
use Rattle.std.proofs.lemmas.Bool.{cases_Bool, false≢true}
use Rattle.std.proofs.lemmas.List.{take-append-le, drop-append-le, append-nil}
use Rattle.std.proofs.lemmas.List.Sums.{sum_by-append, prefix_len_passes}
use Rattle.starlark_lexer.specs.declared.literal.Form.{Form}
use Rattle.starlark_lexer.specs.declared.literal.Sort.{Sort}
use Rattle.starlark_lexer.specs.declared.literal.Sort.TheVariants as sort
use Rattle.starlark_lexer.specs.declared.literal.Ending.{Ending}
use Rattle.starlark_lexer.specs.declared.literal.Ending.TheVariants as ending
use Rattle.starlark_lexer.specs.Items.{Lexeme, newline, is_newline, indent, comment, fstring_start, fstring_text, fstring_expr_start, fstring_expr_end, fstring_bang, fstring_end, is_opening, is_closing, Item, item, Lexed, nothing, with_items, opening_item, closing_item, dedents}
use Rattle.starlark_lexer.specs.Literals.{body, quotes, value}
use Rattle.starlark_lexer.specs.Depth.{Bracket}
use Rattle.starlark_lexer.specs.Classes.{Meaning, is_blank, leading, width, blanks, has_tab, line_end, line_len, escaped, IsLexeme, token, opens}
use Rattle.starlark_lexer.specs.Widths.{IsOpen, IsDeeper, Closes}
use Rattle.starlark_lexer.specs.Lex.{Mode, Past, Move, Step, Lex, on, over, start, IsBalanced, IsPlain, IsMeasured, recorded, mode_behind, below, moved, gives, deepened, fitted, turns, literal_lexeme, goes_on, is_over}
use Rattle.starlark_lexer.specs.Lex as rules
use Rattle.starlark_lexer.specs.Joining.{IsClosed, IsEven, IsLevel, IsJoined, nested, outside, open_behind, is_comment, begins_line, dedent_item, ends_dedented, lexed_on}
use Rattle.starlark_lexer.proofs.JoinedBodies.{Ended, Final, final_nil, body_more, body_short}
use Rattle.starlark_lexer.proofs.JoinedTokens.{token_neutral}
use Rattle.starlark_lexer.proofs.JoinedLines.{IsTail, tail_drop, tail_ended, tail_closed, lexeme_more, lexeme_short, end_more, len_more, len_short, escaped_more, escaped_short, closes_more, leading_more}
use Rattle.starlark_lexer.proofs.JoinedOn.{Alike, on_past, count_cons, lex_on}
use Rattle.starlark_lexer.proofs.Options.{none_some}
use Rattle.starlark_lexer.proofs.Dedents.{dedents_opened, dedents_closed}
use Rattle.starlark_lexer.proofs.Gaps.{line_end_within}

-- ---- f-strings that are open

-- something is open around a place that is not among lexemes, and nothing around one that is
abbrev pub Nest : Mode → List Mode → Type 0
Nest rules.code [] = Unit {0}
Nest rules.code (m ∷ ms) = ⊥
Nest (rules.inside b g) [] = ⊥
Nest (rules.inside b g) (m ∷ ms) = Nest m ms
Nest (rules.field b g bs) [] = ⊥
Nest (rules.field b g bs) (m ∷ ms) = Nest m ms

pub nest_behind : (m : Mode) (x : Lexeme) (os : List Mode) → Nest m os → Nest (mode_behind m x) os
nest_behind rules.code x os h = h
nest_behind (rules.inside b g) x os h = h
nest_behind (rules.field b g bs) x [] h = h
nest_behind (rules.field b g bs) x (m ∷ ms) h = h

pub nest_below : (b : ℕ) (g : Form) (os : List Mode) → Nest (rules.inside b g) os → Nest (below os) (drop 1 os)
nest_below b g [] h = absurd h
nest_below b g (m ∷ ms) h = h

pub nest_field : (b : ℕ) (g : Form) (os : List Mode) → Nest (rules.inside b g) os → Nest (rules.field b g []) os
nest_field b g [] h = h
nest_field b g (m ∷ ms) h = h

pub nest_inside : (b : ℕ) (g : Form) (bs : List Bracket) (os : List Mode) → Nest (rules.field b g bs) os → Nest (rules.inside b g) os
nest_inside b g bs [] h = h
nest_inside b g bs (m ∷ ms) h = h

pub nest_code : (m : Mode) (os : List Mode) → Nest m os → length os ≡ 0 → (m ≡ rules.code) × (os ≡ [])
nest_code rules.code [] h e = (refl, refl)
nest_code rules.code (m ∷ ms) h e = absurd h
nest_code (rules.inside b g) [] h e = absurd h
nest_code (rules.inside b g) (m ∷ ms) h e = absurd (omega (arith, e))
nest_code (rules.field b g bs) [] h e = absurd h
nest_code (rules.field b g bs) (m ∷ ms) h e = absurd (omega (arith, e))

-- ---- counting

pub outside_nil : (d : ℕ) → outside d [] ≡ []
outside_nil zero = refl
outside_nil (suc d) = refl

pub outside_append : (d : ℕ) (xs ys : List Item) → outside d (xs ++ ys) ≡ outside d xs ++ outside (open_behind d xs) ys
outside_append zero [] ys = refl
outside_append (suc d) [] ys = refl
outside_append zero (x ∷ xs) ys = ap (λ zs. x ∷ zs) (outside_append (nested 0 x.lexeme) xs ys)
outside_append (suc d) (x ∷ xs) ys = outside_append (nested (suc d) x.lexeme) xs ys

pub open_append : (d : ℕ) (xs ys : List Item) → open_behind d (xs ++ ys) ≡ open_behind (open_behind d xs) ys
open_append d [] ys = refl
open_append d (x ∷ xs) ys = open_append (nested d x.lexeme) xs ys

-- a lexeme that is no bracket
pub none_counted : (f : Item → Bool) (x : Item) (d : ℕ) → f x ≡ false → count_by f (outside d (x ∷ [])) ≡ 0
none_counted f x zero e = ap (λ xs. count_by f (x ∷ xs)) (outside_nil (nested 0 x.lexeme)) ∙ count_cons f x [] ∙ ap (λ t. cond t 1 0 + 0) e
none_counted f x (suc d) e = ap (count_by f) (outside_nil (nested (suc d) x.lexeme))

-- a lexeme as it is recorded
pub one_counted : (f : Item → Bool) (m : Mode) (os : List Mode) (x : Item) (xs : List Item) → Nest m os → count_by f (recorded m x xs) ≡ count_by f (outside (length os) (x ∷ [])) + count_by f xs
one_counted f rules.code [] x xs h = omega (arith, ap (λ ys. count_by f (x ∷ ys)) (outside_nil (nested 0 x.lexeme)), count_cons f x xs, count_cons f x [])
one_counted f rules.code (m ∷ ms) x xs h = absurd h
one_counted f (rules.inside b g) [] x xs h = absurd h
one_counted f (rules.inside b g) (m ∷ ms) x xs h = omega (arith, ap (count_by f) (outside_nil (nested (suc (length ms)) x.lexeme)))
one_counted f (rules.field b g bs) [] x xs h = absurd h
one_counted f (rules.field b g bs) (m ∷ ms) x xs h = omega (arith, ap (count_by f) (outside_nil (nested (suc (length ms)) x.lexeme)))

pub dedents_out_opened : (d i n : ℕ) → count_by opening_item (outside d (dedents i n)) ≡ 0
dedents_out_opened zero i zero = refl
dedents_out_opened (suc d) i zero = refl
dedents_out_opened zero i (suc n) = dedents_out_opened zero i n
dedents_out_opened (suc d) i (suc n) = dedents_out_opened (suc d) i n

pub dedents_out_closed : (d i n : ℕ) → count_by closing_item (outside d (dedents i n)) ≡ 0
dedents_out_closed zero i zero = refl
dedents_out_closed (suc d) i zero = refl
dedents_out_closed zero i (suc n) = dedents_out_closed zero i n
dedents_out_closed (suc d) i (suc n) = dedents_out_closed (suc d) i n

pub dedents_open : (d i n : ℕ) → open_behind d (dedents i n) ≡ d
dedents_open d i zero = refl
dedents_open d i (suc n) = dedents_open d i n

line_mono : (xs : List Item) (f g : Bool) → (f ≡ true → g ≡ true) → begins_line f xs ≡ true → begins_line g xs ≡ true
line_mono [] f g h e = h e
line_mono (x ∷ xs) f g h e = line_mono xs _ _ (more (is_newline x.lexeme) (is_comment x.lexeme) f g h) e
  where
    more : (a c f g : Bool) → (f ≡ true → g ≡ true) → (a || (f && c)) ≡ true → (a || (g && c)) ≡ true
    more true c f g h e = refl
    more false c true g h e = let t = h refl in rw t e
    more false c false g h e = absurd (false≢true e)

-- ---- a step

-- What is left ends in a line feed that nothing escapes. Where nothing is left among lexemes outside brackets, a line begins.
record Ready (p : Past) (rest : List ℕ) : Type 0 where
  tail : IsTail rest
  line : length rest ≡ 0 → p.mode ≡ rules.code → IsBalanced p → p.fresh ≡ true
  nest : Nest p.mode p.outer

record Extends (p : Past) (rest b : List ℕ) (xs : List Item) (q : Past) (more : List ℕ) : Type 0 where
  step : Step p (rest ++ b) (on xs q (more ++ b))
  place : q.place + length more ≡ p.place + length rest
  opened : count_by opening_item q.items ≡ count_by opening_item (outside (length p.outer) xs) + count_by opening_item p.items
  closed : count_by closing_item q.items ≡ count_by closing_item (outside (length p.outer) xs) + count_by closing_item p.items
  strings : open_behind (length p.outer) xs ≡ length q.outer
  ready : Ready q more
  line : (ys : List Item) → begins_line q.fresh ys ≡ true → begins_line p.fresh (xs ++ ys) ≡ true

-- As many brackets are closed as are opened, before the place and behind it, and so are all f-strings.
record Even (p : Past) (l : Lexed) : Type 0 where
  brackets : count_by opening_item p.items + count_by opening_item (outside (length p.outer) l.items) ≡ count_by closing_item p.items + count_by closing_item (outside (length p.outer) l.items)
  strings : open_behind (length p.outer) l.items ≡ 0

-- the first text is over: so many widths are open at its end
record Ends (p : Past) (rest : List ℕ) (l : Lexed) : Type 0 where
  none : rest ≡ []
  fresh : p.fresh ≡ true
  mode : p.mode ≡ rules.code
  outer : p.outer ≡ []
  balanced : IsBalanced p
  closed : List ℕ
  closes : Closes p.lines 0 closed
  items : l.items ≡ item (p.place + length rest) newline (p.place + length rest) ∷ dedents (p.place + length rest) (length closed)

abbrev Goes : Past → List ℕ → List ℕ → Move → Type 0
Goes p rest b (on xs q more) = Extends p rest b xs q more
Goes p rest b (over l) = l.fault ≡ None → Even p l → Ends p rest l

-- neither the beginning nor the end of an f-string, and behind it a line begins where one does
record Suits (f g : Bool) (x : Lexeme) : Type 0 where
  strings : (n : ℕ) → nested n x ≡ n
  line : g ≡ true → (is_newline x || (f && is_comment x)) ≡ true

not_line : (f : Bool) (x : Lexeme) → ((n : ℕ) → nested n x ≡ n) → Suits f false x
not_line f x h = record { strings = h; line = λ e. absurd (false≢true e) }

module _ (p : Past) (rest b : List ℕ) (h : Ready p rest) where
  -- what is left k bytes on
  ready_drop : (q : Past) (k : ℕ) → k ≤ length rest → Nest q.mode q.outer → (k ≡ length rest → q.mode ≡ rules.code → IsBalanced q → q.fresh ≡ true) → Ready q (drop k rest)
  ready_drop q k le nest line = record { tail = tail_drop k rest h.tail; line = λ e. line (omega (arith, e, length-drop k rest, le)); nest = nest }

  gives_goes : (s : ℕ) (x : Lexeme) (n k : ℕ) (f : Bool) → k ≤ length rest → Suits p.fresh f x → (k ≡ length rest → mode_behind p.mode x ≡ rules.code → f ≡ true)
      → Step p (rest ++ b) (gives p s x n k f (rest ++ b)) → Goes p rest b (gives p s x n k f rest)
  gives_goes s x n k f le suits line step =
      let it : Item = item (p.place + s) x (p.place + s + n) in
      let q : Past = record { place = p.place + k; items = recorded p.mode it p.items; lines = p.lines; fresh = f; mode = mode_behind p.mode x; outer = p.outer } in
      record {
        step = subst (λ r. Step p (rest ++ b) (on (it ∷ []) q r)) (drop-append-le k rest b le) step;
        place = omega (arith, length-drop k rest, le);
        opened = one_counted opening_item p.mode p.outer it p.items h.nest;
        closed = one_counted closing_item p.mode p.outer it p.items h.nest;
        strings = suits.strings (length p.outer);
        ready = ready_drop q k le (nest_behind p.mode x p.outer h.nest) (λ e m _. line e m);
        line = λ ys e. line_mono ys f _ suits.line e;
      }

  -- where the mode changes
  turns_goes : (x : Lexeme) (n : ℕ) (m : Mode) (os : List Mode) → n ≤ length rest → is_opening x ≡ false → is_closing x ≡ false → nested (length p.outer) x ≡ length os → Nest m os → (n ≡ length rest → m ≡ rules.code → ⊥)
      → Step p (rest ++ b) (turns p x n m os (rest ++ b)) → Goes p rest b (turns p x n m os rest)
  turns_goes x n m os le no_opening no_closing depth nest not_all step =
      let it : Item = item p.place x (p.place + n) in
      let q : Past = record { place = p.place + n; items = p.items; lines = p.lines; fresh = false; mode = m; outer = os } in
      record {
        step = subst (λ r. Step p (rest ++ b) (on (it ∷ []) q r)) (drop-append-le n rest b le) step;
        place = omega (arith, length-drop n rest, le);
        opened = omega (arith, none_counted opening_item it (length p.outer) no_opening);
        closed = omega (arith, none_counted closing_item it (length p.outer) no_closing);
        strings = depth;
        ready = ready_drop q n le nest (λ e m _. absurd (not_all e m));
        line = λ ys e. line_mono ys false _ (λ t. absurd (false≢true t)) e;
      }

  -- bytes that give nothing
  passes_goes : (k : ℕ) → k ≤ length rest → (k ≡ length rest → p.mode ≡ rules.code → IsBalanced p → ⊥) → Step p (rest ++ b) (on [] (moved p k) (drop k (rest ++ b))) → Goes p rest b (on [] (moved p k) (drop k rest))
  passes_goes k le not_all step = record {
    step = subst (λ r. Step p (rest ++ b) (on [] (moved p k) r)) (drop-append-le k rest b le) step;
    place = omega (arith, length-drop k rest, le);
    opened = omega (arith, ap (count_by opening_item) (outside_nil (length p.outer)));
    closed = omega (arith, ap (count_by closing_item) (outside_nil (length p.outer)));
    strings = refl;
    ready = ready_drop (moved p k) k le h.nest (λ e m v. absurd (not_all e m v));
    line = λ ys e. line_mono ys false _ (λ t. absurd (false≢true t)) e;
  }

  deepened_goes : (w k : ℕ) → k < length rest → Step p (rest ++ b) (deepened p w k (rest ++ b)) → Goes p rest b (deepened p w k rest)
  deepened_goes w k lt step =
      let it : Item = item p.place indent (p.place + k) in
      let q : Past = record { place = p.place + k; items = it ∷ p.items; lines = w ∷ p.lines; fresh = false; mode = p.mode; outer = p.outer } in
      let le : k ≤ length rest = omega (arith, lt) in
      record {
        step = subst (λ r. Step p (rest ++ b) (on (it ∷ []) q r)) (drop-append-le k rest b le) step;
        place = omega (arith, length-drop k rest, le);
        opened = omega (arith, none_counted opening_item it (length p.outer) refl, count_cons opening_item it p.items);
        closed = omega (arith, none_counted closing_item it (length p.outer) refl, count_cons closing_item it p.items);
        strings = refl;
        ready = ready_drop q k le h.nest (λ e m v. absurd (omega (arith, e, lt)));
        line = λ ys e. line_mono ys false _ (λ t. absurd (false≢true t)) e;
      }

  fitted_goes : (w n k : ℕ) → k < length rest → Step p (rest ++ b) (fitted p w n k (rest ++ b)) → Goes p rest b (fitted p w n k rest)
  fitted_goes w n k lt step =
      let them = dedents p.place n in
      let q : Past = record { place = p.place + k; items = them ++ p.items; lines = w ∷ p.lines; fresh = false; mode = p.mode; outer = p.outer } in
      let le : k ≤ length rest = omega (arith, lt) in
      record {
        step = subst (λ r. Step p (rest ++ b) (on them q r)) (drop-append-le k rest b le) step;
        place = omega (arith, length-drop k rest, le);
        opened = omega (arith, dedents_out_opened (length p.outer) p.place n, dedents_opened p.place n p.items);
        closed = omega (arith, dedents_out_closed (length p.outer) p.place n, dedents_closed p.place n p.items);
        strings = dedents_open (length p.outer) p.place n;
        ready = ready_drop q k le h.nest (λ e m v. absurd (omega (arith, e, lt)));
        line = λ ys e. behind_dedents n ys p.fresh e;
      }
    where
      behind_dedents : (n : ℕ) (ys : List Item) (f : Bool) → begins_line false ys ≡ true → begins_line f (dedents p.place n ++ ys) ≡ true
      behind_dedents zero ys f e = line_mono ys false f (λ t. absurd (false≢true t)) e
      behind_dedents (suc n) ys f e = behind_dedents n ys _ e

-- ---- the end of the first text

record Closing (p : Past) : Type 0 where
  mode : p.mode ≡ rules.code
  outer : p.outer ≡ []
  balanced : IsBalanced p

module _ (p : Past) (i n : ℕ) (nest : Nest p.mode p.outer) (e : Even p (with_items (item i newline i ∷ dedents i n) nothing)) where
  opened_end : (d : ℕ) → count_by opening_item (outside d (item i newline i ∷ dedents i n ++ [])) ≡ 0
  opened_end zero = ap (λ xs. count_by opening_item (outside zero xs)) (append-nil (dedents i n)) ∙ dedents_out_opened zero i n
  opened_end (suc d) = ap (λ xs. count_by opening_item (outside (suc d) xs)) (append-nil (dedents i n)) ∙ dedents_out_opened (suc d) i n

  closed_end : (d : ℕ) → count_by closing_item (outside d (item i newline i ∷ dedents i n ++ [])) ≡ 0
  closed_end zero = ap (λ xs. count_by closing_item (outside zero xs)) (append-nil (dedents i n)) ∙ dedents_out_closed zero i n
  closed_end (suc d) = ap (λ xs. count_by closing_item (outside (suc d) xs)) (append-nil (dedents i n)) ∙ dedents_out_closed (suc d) i n

  strings_end : (d : ℕ) → open_behind d (dedents i n ++ []) ≡ d
  strings_end d = ap (open_behind d) (append-nil (dedents i n)) ∙ dedents_open d i n

  closing : Closing p
  closing =
      let c = nest_code p.mode p.outer nest (sym (strings_end (length p.outer)) ∙ e.strings) in
      record { mode = c.0; outer = c.1; balanced = omega (arith, e.brackets, opened_end (length p.outer), closed_end (length p.outer)) }

no_widths : (lines closed : List ℕ) → Closes lines 0 closed → length closed ≡ 0 → (x : ℕ) → IsOpen lines x → x ≡ 0
no_widths lines [] c e zero o = refl
no_widths lines [] c e (suc x) o = absurd (false≢true ((c.each (suc x)).1 (o, omega arith)))
no_widths lines (y ∷ ys) c e x o = absurd (omega (arith, e))

-- ---- rule by rule

feed_blank : (x : ℕ) → x ≡ 10 → is_blank x ≡ true → ⊥
feed_blank x e h = false≢true (sym (ap is_blank e) ∙ h)

leading_short : (rest more : List ℕ) (c : ℕ) → drop (leading rest) rest ≡ c ∷ more → leading rest < length rest
leading_short rest more c e = omega (arith, ap length e, length-drop (leading rest) rest)

last_blank : (rest : List ℕ) → Ended rest → leading rest ≡ length rest → ⊥
last_blank [] h e = h
last_blank (b ∷ []) h e = feed_blank b h (prefix_len_passes is_blank (b ∷ []) 0 0 (omega (arith, e)))
last_blank (b ∷ c ∷ bs) h e =
    let t : is_blank b ≡ true = prefix_len_passes is_blank (b ∷ c ∷ bs) 0 0 (omega (arith, e)) in
    let n : 1 + leading (c ∷ bs) ≡ length (b ∷ c ∷ bs) = rw t at e in
    last_blank (c ∷ bs) h (omega (arith, n))

blanks_none : (rest : List ℕ) → IsTail rest → leading rest ≡ length rest → rest ≡ []
blanks_none [] h e = refl
blanks_none (b ∷ bs) h e = absurd (last_blank (b ∷ bs) (tail_ended (b ∷ bs) h (omega arith)) e)

-- behind a byte that is no line feed something stands
some_behind : (b : ℕ) (bs : List ℕ) → Ended (b ∷ bs) → (b ≡ 10 → ⊥) → Ended bs
some_behind b [] h n = absurd (n h)
some_behind b (c ∷ bs) h n = h

pub ended_some : (xs : List ℕ) → Ended xs → 0 < length xs
ended_some [] h = absurd h
ended_some (b ∷ bs) h = omega arith

measured_more : (p : Past) (rest b : List ℕ) → IsMeasured p rest → IsMeasured p (rest ++ b)
measured_more p rest b m =
    let lead = leading_more rest b m.more m.first m.stands in
    let le : leading rest ≤ length rest = omega (arith, leading_short rest m.more m.first m.stands) in
    record {
      fresh = m.fresh;
      first = m.first;
      more = m.more ++ b;
      stands = ap (λ k. drop k (rest ++ b)) lead ∙ drop-append-le (leading rest) rest b le ∙ ap (λ r. r ++ b) m.stands;
      not_line = m.not_line;
      not_remark = m.not_remark;
    }

blanks_more : (p : Past) (rest b : List ℕ) → IsMeasured p rest → blanks (rest ++ b) ≡ blanks rest
blanks_more p rest b m =
    let lead = leading_more rest b m.more m.first m.stands in
    let le : leading rest ≤ length rest = omega (arith, leading_short rest m.more m.first m.stands) in
    ap (λ k. take k (rest ++ b)) lead ∙ take-append-le (leading rest) rest b le

plain_more : (p : Past) (rest b : List ℕ) → IsPlain p rest → Ended rest → IsPlain p (rest ++ b)
plain_more p rest b h ended = record {
  within = h.within;
  outside = h.outside;
  no_escape = escaped_more rest b ended ∙ h.no_escape;
  no_end = λ i g bs e d. closes_more rest b ended ∙ h.no_end i g bs e d;
}

pub literal_neutral : (s : Sort) (v : List ℕ) (n : ℕ) → nested n (literal_lexeme s v) ≡ n
literal_neutral sort.Text v n = refl
literal_neutral sort.Bytes v n = refl
literal_neutral sort.Format v n = refl

lexeme_some : (rest : List ℕ) (n : ℕ) (m : Meaning) → IsLexeme rest n m → 0 < length rest
lexeme_some rest n m h = omega (arith, h.nonempty, h.within)

body_some : (g : Form) (rest : List ℕ) (e : Ending) → Final e → body g 0 rest ≡ e → 0 < length rest
body_some g [] e h is = absurd (final_nil g 0 (rw (sym is) at h))
body_some g (b ∷ bs) e h is = omega arith

-- a comment on a line of its own, and its line end
remark_more : (more b : List ℕ) → Ended more → (line_len (more ++ b) ≡ line_len more) × (take (line_len (more ++ b)) (more ++ b) ≡ take (line_len more) more) × (line_end (drop (line_len (more ++ b)) (more ++ b)) ≡ line_end (drop (line_len more) more))
remark_more more b h =
    let n = len_more more b h in
    let short = len_short more h in
    let le : line_len more ≤ length more = omega (arith, short) in
    let cut = drop-append-le (line_len more) more b le in (
      n,
      ap (λ k. take k (more ++ b)) n ∙ take-append-le (line_len more) more b le,
      ap (λ k. line_end (drop k (more ++ b))) n ∙ ap line_end cut ∙ end_more (drop (line_len more) more) b (ended_drop (line_len more) more short h),
    )
  where
    ended_drop : (k : ℕ) (xs : List ℕ) → k < length xs → Ended xs → Ended (drop k xs)
    ended_drop zero [] lt h = h
    ended_drop zero (x ∷ xs) lt h = h
    ended_drop (suc k) [] lt h = h
    ended_drop (suc k) (x ∷ []) lt h = absurd (omega (arith, lt))
    ended_drop (suc k) (x ∷ y ∷ ys) lt h = ended_drop k (y ∷ ys) (omega (arith, lt)) h

escaped_some : (rest : List ℕ) → 0 < escaped rest → 0 < length rest
unfolding escaped
escaped_some [] h = absurd (omega (arith, h))
escaped_some (b ∷ bs) h = omega arith

goes : {p : Past} {rest : List ℕ} {m : Move} (b : List ℕ) → Step p rest m → Ready p rest → Goes p rest b m
goes b (rules.blank_line p rest more f e) h =
    let lead = leading_more rest b more 10 e in
    let short = leading_short rest more 10 e in
    let le : leading rest ≤ length rest = omega (arith, short) in
    let stands : drop (leading (rest ++ b)) (rest ++ b) ≡ 10 ∷ (more ++ b) = ap (λ k. drop k (rest ++ b)) lead ∙ drop-append-le (leading rest) rest b le ∙ ap (λ r. r ++ b) e in
    gives_goes p rest b h (leading rest) newline 1 (leading rest + 1) true (omega (arith, short)) (record { strings = λ n. refl; line = λ _. refl }) (λ _ _. refl)
    (subst (λ k. Step p (rest ++ b) (gives p k newline 1 (k + 1) true (rest ++ b))) lead (rules.blank_line p (rest ++ b) (more ++ b) f stands))
goes b (rules.remark_line p rest more f e) h =
    let lead = leading_more rest b more 35 e in
    let short = leading_short rest more 35 e in
    let le : leading rest ≤ length rest = omega (arith, short) in
    let stands : drop (leading (rest ++ b)) (rest ++ b) ≡ 35 ∷ (more ++ b) = ap (λ k. drop k (rest ++ b)) lead ∙ drop-append-le (leading rest) rest b le ∙ ap (λ r. r ++ b) e in
    let len : length rest ≡ leading rest + (1 + length more) = omega (arith, ap length e, length-drop (leading rest) rest, le) in
    let whole : Ended (drop (leading rest) rest) = tail_ended (drop (leading rest) rest) (tail_drop (leading rest) rest h.tail) (omega (arith, ap length e)) in
    let ended : Ended more = some_behind 35 more (subst Ended e whole) (λ t. omega (arith, t)) in
    let r = remark_more more b ended in
    let n = line_len more in
    let z = line_end (drop n more) in
    let most : z ≤ length more - n = omega (arith, line_end_within (drop n more), length-drop n more) in
    gives_goes p rest b h (leading rest) (comment (take n more)) (1 + n) (leading rest + (1 + n) + z) true (omega (arith, len, most, len_short more ended))
    (record { strings = λ n. refl; line = λ _. rw f refl }) (λ _ _. refl)
    (subst (λ k. Step p (rest ++ b) (gives p k (comment (take n more)) (1 + n) (k + (1 + n) + z) true (rest ++ b))) lead
    (subst (λ y. Step p (rest ++ b) (gives p (leading (rest ++ b)) (comment (take n more)) (1 + n) (leading (rest ++ b) + (1 + n) + y) true (rest ++ b))) r.2
    (subst (λ c. Step p (rest ++ b) (gives p (leading (rest ++ b)) (comment c) (1 + n) (leading (rest ++ b) + (1 + n) + line_end (drop (line_len (more ++ b)) (more ++ b))) true (rest ++ b))) r.1
    (subst (λ j. Step p (rest ++ b) (gives p (leading (rest ++ b)) (comment (take (line_len (more ++ b)) (more ++ b))) (1 + j) (leading (rest ++ b) + (1 + j) + line_end (drop (line_len (more ++ b)) (more ++ b))) true (rest ++ b))) r.0
    (rules.remark_line p (rest ++ b) (more ++ b) f stands)))))
goes b (rules.last_line p rest closed f e c) h = λ ok even.
    let none = blanks_none rest h.tail e in
    let n = p.place + length rest in
    let k = closing p n (length closed) h.nest even in
    record { none = none; fresh = f; mode = k.mode; outer = k.outer; balanced = k.balanced; closed = closed; closes = c; items = ap (λ xs. item n newline n ∷ xs) (append-nil (dedents n (length closed))) }
goes b (rules.tabbed p rest m t) h = λ ok even. absurd (none_some _ (sym ok))
goes b (rules.deepens p rest m t d) h =
    let lead = leading_more rest b m.more m.first m.stands in
    let same = blanks_more p rest b m in
    let wide : width (rest ++ b) ≡ width rest = ap (count_by (λ x. eqb x 32)) same in
    deepened_goes p rest b h (width rest) (leading rest) (leading_short rest m.more m.first m.stands)
    (subst (λ k. Step p (rest ++ b) (deepened p (width rest) k (rest ++ b))) lead
    (subst (λ w. Step p (rest ++ b) (deepened p w (leading (rest ++ b)) (rest ++ b))) wide
    (rules.deepens p (rest ++ b) (measured_more p rest b m) (ap has_tab same ∙ t) (subst (IsDeeper p.lines) (sym wide) d))))
goes b (rules.fits p rest closed m t o c) h =
    let lead = leading_more rest b m.more m.first m.stands in
    let same = blanks_more p rest b m in
    let wide : width (rest ++ b) ≡ width rest = ap (count_by (λ x. eqb x 32)) same in
    fitted_goes p rest b h (width rest) (length closed) (leading rest) (leading_short rest m.more m.first m.stands)
    (subst (λ k. Step p (rest ++ b) (fitted p (width rest) (length closed) k (rest ++ b))) lead
    (subst (λ w. Step p (rest ++ b) (fitted p w (length closed) (leading (rest ++ b)) (rest ++ b))) wide
    (rules.fits p (rest ++ b) closed (measured_more p rest b m) (ap has_tab same ∙ t) (subst (IsOpen p.lines) (sym wide) o) (subst (λ w. Closes p.lines w closed) (sym wide) c))))
goes b (rules.misfits p rest m t d o) h = λ ok even. absurd (none_some _ (sym ok))
goes b (rules.passes p x rest f c d) h =
    let ended : Ended rest = some_behind x rest (tail_ended (x ∷ rest) h.tail (omega arith)) (λ e. feed_blank x e d) in
    passes_goes p (x ∷ rest) b h 1 (omega arith) (λ e _ _. omega (arith, e, ended_some rest ended)) (rules.passes p x (rest ++ b) f c d)
goes b (rules.escapes p rest f c d) h =
    let some : 0 < length rest = escaped_some rest d in
    let ended = tail_ended rest h.tail some in
    let short = escaped_short rest ended (h.tail.each 0) in
    let same = escaped_more rest b ended in
    passes_goes p rest b h (escaped rest) (omega (arith, short)) (λ e _ _. omega (arith, e, short))
    (subst (λ k. Step p (rest ++ b) (on [] (moved p k) (drop k (rest ++ b)))) same (rules.escapes p (rest ++ b) f c (omega (arith, same, d))))
goes b (rules.joins p rest f d) h = passes_goes p (10 ∷ rest) b h 1 (omega arith) (λ _ m v. not_both p d m v) (rules.joins p (rest ++ b) f d)
  where
    not_both : (p : Past) → rules.IsJoined p → p.mode ≡ rules.code → IsBalanced p → ⊥
    not_both p (inl (i, g, bs, e)) m v = field_code i g bs (sym e ∙ m)
      where
        field_code : (i : ℕ) (g : Form) (bs : List Bracket) → rules.field i g bs ≡ rules.code → ⊥
        field_code i g bs e = cc
    not_both p (inr (e, odd)) m v = odd v
goes b (rules.ends_line p rest f c d) h =
    gives_goes p (10 ∷ rest) b h 0 newline 1 1 true (omega arith) (record { strings = λ n. refl; line = λ _. refl }) (λ _ _. refl) (rules.ends_line p (rest ++ b) f c d)
goes b (rules.remark p rest f c) h =
    let ended : Ended rest = some_behind 35 rest (tail_ended (35 ∷ rest) h.tail (omega arith)) (λ t. omega (arith, t)) in
    let r = remark_more rest b ended in
    let n = line_len rest in
    let short = len_short rest ended in
    gives_goes p (35 ∷ rest) b h 0 (comment (take n rest)) (1 + n) (1 + n) false (omega (arith, short)) (not_line p.fresh _ (λ n. refl)) (λ e _. absurd (omega (arith, e, short)))
    (subst (λ c. Step p (35 ∷ rest ++ b) (gives p 0 (comment c) (1 + n) (1 + n) false (35 ∷ rest ++ b))) r.1
    (subst (λ j. Step p (35 ∷ rest ++ b) (gives p 0 (comment (take (line_len (rest ++ b)) (rest ++ b))) (1 + j) (1 + j) false (35 ∷ rest ++ b))) r.0 (rules.remark p (rest ++ b) f c)))
goes b (rules.lexeme p rest n x v l) h =
    let ended = tail_ended rest h.tail (lexeme_some rest n _ l) in
    let short = lexeme_short rest n (token x) l ended in
    let neutral = token_neutral (take n rest) x l.means in
    gives_goes p rest b h 0 x n n false (omega (arith, short)) (not_line p.fresh x neutral.nested) (λ e _. absurd (omega (arith, e, short)))
    (rules.lexeme p (rest ++ b) n x (plain_more p rest b v ended) (lexeme_more rest b n (token x) l ended))
goes b (rules.faults p rest n e v l) h = λ ok even. absurd (none_some _ (sym ok))
goes b (rules.ends_text p closed f c d) h = λ ok even.
    let k = closing p p.place (length closed) h.nest even in
    absurd (false≢true (sym f ∙ h.line refl k.mode k.balanced))
goes b (rules.literal p rest n g k v l s e) h =
    let ended = tail_ended rest h.tail (lexeme_some rest n _ l) in
    let lt = lexeme_short rest n (opens g) l ended in
    let le : n ≤ length rest = omega (arith, lt) in
    let behind = tail_ended (drop n rest) (tail_drop n rest h.tail) (omega (arith, length-drop n rest, lt)) in
    let short : 0 + k + quotes g.quote < length (drop n rest) = body_short g (drop n rest) (ending.Closed k) behind e in
    let cut = drop-append-le n rest b le in
    let whole : body g 0 (drop n (rest ++ b)) ≡ ending.Closed k = ap (body g 0) cut ∙ body_more g (drop n rest) b (ending.Closed k) behind tt e in
    let same : take k (drop n (rest ++ b)) ≡ take k (drop n rest) = ap (take k) cut ∙ take-append-le k (drop n rest) b (omega (arith, short)) in
    gives_goes p rest b h 0 (literal_lexeme g.sort (value g (take k (drop n rest)))) (n + k + quotes g.quote) (n + k + quotes g.quote) false (omega (arith, short, length-drop n rest, lt))
    (not_line p.fresh _ (literal_neutral g.sort (value g (take k (drop n rest))))) (λ t _. absurd (omega (arith, t, short, length-drop n rest, lt)))
    (subst (λ w. Step p (rest ++ b) (gives p 0 (literal_lexeme g.sort (value g w)) (n + k + quotes g.quote) (n + k + quotes g.quote) false (rest ++ b))) same
    (rules.literal p (rest ++ b) n g k (plain_more p rest b v ended) (lexeme_more rest b n (opens g) l ended) s whole))
goes b (rules.unclosed p rest n g k v l s e) h = λ ok even. absurd (none_some _ (sym ok))
goes b (rules.misspelt p rest n g k m v l s e) h = λ ok even. absurd (none_some _ (sym ok))
goes b (rules.enters p rest n g v l s) h =
    let ended = tail_ended rest h.tail (lexeme_some rest n _ l) in
    let lt = lexeme_short rest n (opens g) l ended in
    turns_goes p rest b h (fstring_start g.quote) n (rules.inside p.place g) (p.mode ∷ p.outer) (omega (arith, lt)) refl refl refl h.nest (λ t _. omega (arith, t, lt))
    (rules.enters p (rest ++ b) n g (plain_more p rest b v ended) (lexeme_more rest b n (opens g) l ended) s)
goes b (rules.texts p i g rest k f c some (inl e)) h =
    let ended = tail_ended rest h.tail (body_some g rest (ending.Closed k) tt e) in
    let short : 0 + k + quotes g.quote < length rest = body_short g rest (ending.Closed k) ended e in
    let le : k ≤ length rest = omega (arith, short) in
    gives_goes p rest b h 0 (fstring_text (value g (take k rest))) k k false le (not_line p.fresh _ (λ n. refl)) (λ t _. absurd (omega (arith, t, short)))
    (subst (λ w. Step p (rest ++ b) (gives p 0 (fstring_text (value g w)) k k false (rest ++ b))) (take-append-le k rest b le)
    (rules.texts p i g (rest ++ b) k f c some (inl (body_more g rest b (ending.Closed k) ended tt e))))
goes b (rules.texts p i g rest k f c some (inr e)) h =
    let ended = tail_ended rest h.tail (body_some g rest (ending.Field k) tt e) in
    let short : 0 + k < length rest = body_short g rest (ending.Field k) ended e in
    let le : k ≤ length rest = omega (arith, short) in
    gives_goes p rest b h 0 (fstring_text (value g (take k rest))) k k false le (not_line p.fresh _ (λ n. refl)) (λ t _. absurd (omega (arith, t, short)))
    (subst (λ w. Step p (rest ++ b) (gives p 0 (fstring_text (value g w)) k k false (rest ++ b))) (take-append-le k rest b le)
    (rules.texts p i g (rest ++ b) k f c some (inr (body_more g rest b (ending.Field k) ended tt e))))
goes b (rules.leaves p i g rest f c e) h =
    let ended = tail_ended rest h.tail (body_some g rest (ending.Closed 0) tt e) in
    let short : 0 + 0 + quotes g.quote < length rest = body_short g rest (ending.Closed 0) ended e in
    turns_goes p rest b h fstring_end (quotes g.quote) (below p.outer) (drop 1 p.outer) (omega (arith, short)) refl refl (sym (length-drop 1 p.outer)) (nest_below i g p.outer (subst (λ m. Nest m p.outer) c h.nest)) (λ t _. omega (arith, t, short))
    (rules.leaves p i g (rest ++ b) f c (body_more g rest b (ending.Closed 0) ended tt e))
goes b (rules.opens_field p i g rest f c e) h =
    let some = body_some g rest (ending.Field 0) tt e in
    let ended = tail_ended rest h.tail some in
    turns_goes p rest b h fstring_expr_start 1 (rules.field i g []) p.outer (omega (arith, some)) refl refl refl (nest_field i g p.outer (subst (λ m. Nest m p.outer) c h.nest)) (λ t m. field_code i g m)
    (rules.opens_field p i g (rest ++ b) f c (body_more g rest b (ending.Field 0) ended tt e))
  where
    field_code : (i : ℕ) (g : Form) → rules.field i g [] ≡ rules.code → ⊥
    field_code i g e = cc
goes b (rules.unfinished p i g rest k f c e) h = λ ok even. absurd (none_some _ (sym ok))
goes b (rules.misspells p i g rest k m f c e) h = λ ok even. absurd (none_some _ (sym ok))
goes b (rules.shuts p i g bs rest f c d) h =
    turns_goes p (125 ∷ rest) b h fstring_expr_end 1 (rules.inside i g) p.outer (omega arith) refl refl refl (nest_inside i g bs p.outer (subst (λ m. Nest m p.outer) c h.nest)) (λ t m. inside_code i g m)
    (rules.shuts p i g bs (rest ++ b) f c d)
  where
    inside_code : (i : ℕ) (g : Form) → rules.inside i g ≡ rules.code → ⊥
    inside_code i g e = cc
goes b (rules.bangs p i g bs rest f c d e) h =
    let ended : Ended (33 ∷ rest) = tail_ended (33 ∷ rest) h.tail (omega arith) in
    let more : Ended rest = some_behind 33 rest ended (λ t. omega (arith, t)) in
    gives_goes p (33 ∷ rest) b h 0 fstring_bang 1 1 false (omega arith) (not_line p.fresh _ (λ n. refl)) (λ t _. absurd (omega (arith, t, ended_some rest more)))
    (rules.bangs p i g bs (rest ++ b) f c d (closes_more (33 ∷ rest) b ended ∙ e))

-- ---- the first text

-- What the first text gives, and behind that its closing line end and Dedents. Whatever comes behind it comes behind what it gives.
pub record Cut (p : Past) (rest b : List ℕ) (l : Lexed) : Type 0 where
  pub xs : List Item
  pub closed : List ℕ
  pub items : l.items ≡ xs ++ item (p.place + length rest) newline (p.place + length rest) ∷ dedents (p.place + length rest) (length closed)
  pub line : begins_line p.fresh xs ≡ true
  pub is : List Item
  pub lines : List ℕ
  pub balanced : count_by opening_item is ≡ count_by closing_item is
  pub closes : Closes lines 0 closed
  pub lex : (m : Lexed) → Lex (on_past (p.place + length rest) is lines start) b m → Lex p (rest ++ b) (with_items xs m)

even_behind : (p : Past) (rest b : List ℕ) (xs : List Item) (q : Past) (more : List ℕ) (l : Lexed) → Extends p rest b xs q more → Even p (with_items xs l) → Even q l
even_behind p rest b xs q more l g e =
    let d = length p.outer in
    let split : outside d (xs ++ l.items) ≡ outside d xs ++ outside (length q.outer) l.items = outside_append d xs l.items ∙ ap (λ k. outside d xs ++ outside k l.items) g.strings in
    let o : count_by opening_item (outside d (xs ++ l.items)) ≡ count_by opening_item (outside d xs) + count_by opening_item (outside (length q.outer) l.items) =
    ap (count_by opening_item) split ∙ sum_by-append (λ y. cond (opening_item y) 1 0) (outside d xs) (outside (length q.outer) l.items) in
    let c : count_by closing_item (outside d (xs ++ l.items)) ≡ count_by closing_item (outside d xs) + count_by closing_item (outside (length q.outer) l.items) =
    ap (count_by closing_item) split ∙ sum_by-append (λ y. cond (closing_item y) 1 0) (outside d xs) (outside (length q.outer) l.items) in
    record {
      brackets = omega (arith, g.opened, g.closed, e.brackets, o, c);
      strings = ap (λ k. open_behind k l.items) (sym g.strings) ∙ sym (open_append d xs l.items) ∙ e.strings;
    }

cut_over : (p : Past) (rest b : List ℕ) (l : Lexed) → Ends p rest l → Cut p rest b l
cut_over p rest b l e =
    let n = p.place + length rest in
    let place : n + 0 ≡ p.place = omega (arith, ap length e.none) in
    let here : on_past n p.items p.lines start ≡ p = λ i. record { place = place i; items = p.items; lines = p.lines; fresh = sym e.fresh i; mode = sym e.mode i; outer = sym e.outer i } in
    record {
      xs = [];
      closed = e.closed;
      items = e.items;
      line = e.fresh;
      is = p.items;
      lines = p.lines;
      balanced = e.balanced;
      closes = e.closes;
      lex = λ m d. subst (λ r. Lex p (r ++ b) m) (sym e.none) (subst (λ q. Lex q b m) here d);
    }

cut_on : (p : Past) (rest b : List ℕ) (xs : List Item) (q : Past) (more : List ℕ) (l : Lexed) → Extends p rest b xs q more → Cut q more b l → Cut p rest b (with_items xs l)
cut_on p rest b xs q more l g j =
    let n = q.place + length more in
    record {
      xs = xs ++ j.xs;
      closed = j.closed;
      items = ap (λ ys. xs ++ ys) j.items ∙ sym (append_assoc xs j.xs (item n newline n ∷ dedents n (length j.closed))) ∙ ap (λ k. (xs ++ j.xs) ++ item k newline k ∷ dedents k (length j.closed)) g.place;
      line = g.line j.xs j.line;
      is = j.is;
      lines = j.lines;
      balanced = j.balanced;
      closes = j.closes;
      lex = λ m d.
          let both : with_items xs (with_items j.xs m) ≡ with_items (xs ++ j.xs) m = λ i. record { items = sym (append_assoc xs j.xs m.items) i; fault = m.fault } in
          subst (Lex p (rest ++ b)) both (goes_on p (rest ++ b) xs q (more ++ b) (with_items j.xs m) g.step (j.lex m (subst (λ k. Lex (on_past k j.is j.lines start) b m) (sym g.place) d)));
    }

cut : {p : Past} {rest : List ℕ} {l : Lexed} (b : List ℕ) → Lex p rest l → l.fault ≡ None → Even p l → Ready p rest → Cut p rest b l
cut b (goes_on p rest xs q more l step e) ok even ready =
    let g = goes b step ready in
    cut_on p rest b xs q more l g (cut b e ok (even_behind p rest b xs q more l g even) g.ready)
cut b (is_over p rest l step) ok even ready = cut_over p rest b l (goes b step ready ok even)

pub cut_text : (a b : List ℕ) (l : Lexed) → Lex start a l → l.fault ≡ None → IsClosed a → IsEven l.items → Cut start a b l
cut_text a b l d ok closed even =
    cut b d ok (record { brackets = omega (arith, even.brackets); strings = even.strings }) (record { tail = tail_closed a closed; line = λ _ _ _. refl; nest = tt })

-- ---- both texts

-- behind a line end that many Dedents stand, but none last
no_dedents : (n : ℕ) (xs : List Item) (i j k : ℕ) (b : Bool) → ends_dedented b (xs ++ item i newline j ∷ dedents k n) ≡ false → n ≡ 0
no_dedents n (x ∷ xs) i j k b e = no_dedents n xs i j k (dedent_item x) e
no_dedents zero [] i j k b e = refl
no_dedents (suc n) [] i j k b e = absurd (false≢true (sym e ∙ all_dedents k n))
  where
    all_dedents : (i n : ℕ) → ends_dedented true (dedents i n) ≡ true
    all_dedents i zero = refl
    all_dedents i (suc n) = all_dedents i n

pub nothing_open : (lines : List ℕ) (x : ℕ) → IsOpen [] x → IsOpen lines x
nothing_open lines x (inl z) = inl z
nothing_open lines x (inr (k, lt, is, before)) = absurd (omega (arith, lt))

pub joined : (a b : List ℕ) (l m : Lexed) → Lex start a l → Lex start b m → l.fault ≡ None → m.fault ≡ None → IsClosed a → IsEven l.items → IsLevel l.items → IsJoined a b l m
joined a b l m d e ok fine closed even level =
    let j = cut_text a b l d ok closed even in
    let n : 0 + length a ≡ length a = omega arith in
    let none = no_dedents (length j.closed) j.xs _ _ _ false (sym (ap (ends_dedented false) j.items) ∙ level.closed) in
    let alike : Alike j.is j.lines start = record { even = omega (arith, j.balanced); there = λ x o. inl (no_widths j.lines j.closed j.closes none x o); back = nothing_open j.lines } in
    record {
      items = j.xs;
      first = j.items ∙ (λ i. j.xs ++ item (n i) newline (n i) ∷ dedents (n i) (none i));
      line_end = j.line;
      both = subst (λ k. Lex start (a ++ b) (with_items j.xs (lexed_on k m))) n (j.lex (lexed_on (0 + length a) m) (lex_on (0 + length a) j.is j.lines e alike fine));
    }

-- items without a Dedent
level_without : (xs : List Item) → count_by dedent_item xs ≡ 0 → ends_dedented false xs ≡ false
level_without [] h = refl
level_without (x ∷ xs) h = elim (cases_Bool (dedent_item x)) [
  | inl t ↦ absurd (let c : count_by dedent_item (x ∷ xs) ≡ 1 + count_by dedent_item xs = count_cons dedent_item x xs ∙ ap (λ b. cond b 1 0 + count_by dedent_item xs) t in omega (arith, h, c))
  | inr f ↦ rw f (level_without xs (let c : count_by dedent_item (x ∷ xs) ≡ 0 + count_by dedent_item xs = count_cons dedent_item x xs ∙ ap (λ b. cond b 1 0 + count_by dedent_item xs) f in omega (arith, h, c)))
]

pub joined_flat : (a b : List ℕ) (l m : Lexed) → Lex start a l → Lex start b m → l.fault ≡ None → m.fault ≡ None → IsClosed a → IsEven l.items → count_by dedent_item l.items ≡ 0 → IsJoined a b l m
joined_flat a b l m d e ok fine closed even flat = joined a b l m d e ok fine closed even (record { closed = level_without l.items flat })
