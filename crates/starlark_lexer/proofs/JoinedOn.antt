-- A text is cut into the same n bytes on, behind other items and lines.
use Rattle.std.proofs.Common.{◌≡◌, ℕ, ◌+◌, Bool, false, cond, List, [], ◌∷◌, ◌++◌, length, drop, map, refl, ap, sym, ◌∙◌, arith, zero, suc, inl, inr, subst}
use Rattle.std.specs.Prelude.{None, count_by}
use Rattle.std.proofs.lemmas.List.{map-append}
use Rattle.std.proofs.lemmas.List.Sums.{sum_by-cons}
use Rattle.starlark_lexer.specs.declared.literal.Form.{Form}
use Rattle.starlark_lexer.specs.Items.{Lexeme, newline, indent, dedent, fstring_start, fstring_expr_start, fstring_expr_end, fstring_end, Item, item, Lexed, nothing, with_items, opening_item, closing_item, dedents}
use Rattle.starlark_lexer.specs.Literals.{quotes}
use Rattle.starlark_lexer.specs.Classes.{width, escaped}
use Rattle.starlark_lexer.specs.Depth.{Bracket}
use Rattle.starlark_lexer.specs.Widths.{IsOpen, Closes}
use Rattle.starlark_lexer.specs.Lex.{Mode, Past, Move, Step, Lex, on, over, IsBalanced, IsJoined, IsPlain, IsMeasured, recorded, mode_behind, below, is_inside, moved, gives, deepened, fitted, ends, turns, goes_on, is_over}
use Rattle.starlark_lexer.specs.Lex as rules
use Rattle.starlark_lexer.specs.Joining.{item_on, stop_on, lexed_on}
use Rattle.starlark_lexer.proofs.Options.{none_some}
use Rattle.starlark_lexer.proofs.Dedents.{dedents_opened, dedents_closed}
use Rattle.starlark_lexer.proofs.Widths.{open_after, open_now, open_still}

-- ---- the widths that are open

-- one line more behind both
open_more : (ls ms : List ℕ) (w : ℕ) → ((x : ℕ) → IsOpen ls x → IsOpen ms x) → (x : ℕ) → IsOpen (w ∷ ls) x → IsOpen (w ∷ ms) x
open_more ls ms w h x o = elim (open_after w ls x o) [
  | inl e ↦ subst (IsOpen (w ∷ ms)) (sym e) (open_now w ms)
  | inr both ↦ open_still w ms x both.0 (h x both.1)
]

-- ---- what stands before

-- As much is open behind the items and lines as behind those of the place.
pub record Alike (is : List Item) (ls : List ℕ) (q : Past) : Type 0 where
  pub even : count_by opening_item is + count_by closing_item q.items ≡ count_by closing_item is + count_by opening_item q.items
  pub there : (x : ℕ) → IsOpen ls x → IsOpen q.lines x
  pub back : (x : ℕ) → IsOpen q.lines x → IsOpen ls x

abbrev pub mode_on : ℕ → Mode → Mode
mode_on n rules.code = rules.code
mode_on n (rules.inside b g) = rules.inside (n + b) g
mode_on n (rules.field b g bs) = rules.field (n + b) g bs

-- a place n bytes on, behind those items and lines
abbrev pub on_past : ℕ → List Item → List ℕ → Past → Past
on_past n is ls q = record { place = n + q.place; items = is; lines = ls; fresh = q.fresh; mode = mode_on n q.mode; outer = map (mode_on n) q.outer }

pub count_cons : (f : Item → Bool) (x : Item) (xs : List Item) → count_by f (x ∷ xs) ≡ cond (f x) 1 0 + count_by f xs
count_cons f x xs = sum_by-cons (λ y. cond (f y) 1 0) x xs

-- two lists of items that are as even
abbrev EvenLists : List Item → List Item → Type 0
EvenLists is js = count_by opening_item is + count_by closing_item js ≡ count_by closing_item is + count_by opening_item js

cons_even : (n : ℕ) (x : Item) (is js : List Item) → EvenLists is js → EvenLists (item_on n x ∷ is) (x ∷ js)
cons_even n x is js h = omega (arith, h, count_cons opening_item (item_on n x) is, count_cons closing_item (item_on n x) is, count_cons opening_item x js, count_cons closing_item x js)

recorded_even : (n : ℕ) (m : Mode) (x : Item) (is js : List Item) → EvenLists is js → EvenLists (recorded (mode_on n m) (item_on n x) is) (recorded m x js)
recorded_even n rules.code x is js h = cons_even n x is js h
recorded_even n (rules.inside b g) x is js h = h
recorded_even n (rules.field b g bs) x is js h = h

behind_on : (n : ℕ) (m : Mode) (x : Lexeme) → mode_behind (mode_on n m) x ≡ mode_on n (mode_behind m x)
behind_on n rules.code x = refl
behind_on n (rules.inside b g) x = refl
behind_on n (rules.field b g bs) x = refl

inside_on : (n : ℕ) (m : Mode) → is_inside (mode_on n m) ≡ is_inside m
inside_on n rules.code = refl
inside_on n (rules.inside b g) = refl
inside_on n (rules.field b g bs) = refl

below_on : (n : ℕ) (os : List Mode) → below (map (mode_on n) os) ≡ mode_on n (below os)
below_on n [] = refl
below_on n (m ∷ os) = refl

drop_on : (n : ℕ) (os : List Mode) → drop 1 (map (mode_on n) os) ≡ map (mode_on n) (drop 1 os)
drop_on n [] = refl
drop_on n (m ∷ os) = refl

field_back : (n : ℕ) (m : Mode) (b : ℕ) (g : Form) (bs : List Bracket) → mode_on n m ≡ rules.field b g bs → (c : ℕ) × (m ≡ rules.field c g bs)
field_back n rules.code b g bs e = absurd (cc)
field_back n (rules.inside c f) b g bs e = absurd (cc)
field_back n (rules.field c f cs) b g bs e = let same_form : f ≡ g = cc in let same_field : cs ≡ bs = cc in (c, λ i. rules.field c (same_form i) (same_field i))

-- ---- a step

abbrev pub Moves : ℕ → Past → List Item → List ℕ → List ℕ → Move → Type 0
Moves n q is ls rest (on xs r more) = (js : List Item) × (ks : List ℕ) × Step (on_past n is ls q) rest (on (map (item_on n) xs) (on_past n js ks r) more) × Alike js ks r
Moves n q is ls rest (over l) = l.fault ≡ None → Step (on_past n is ls q) rest (over (lexed_on n l))

module _ (n : ℕ) (q : Past) (is : List Item) (ls : List ℕ) (rest : List ℕ) (h : Alike is ls q) where
  gives_on : (s : ℕ) (x : Lexeme) (w k : ℕ) (f : Bool) → Step (on_past n is ls q) rest (gives (on_past n is ls q) s x w k f rest) → Moves n q is ls rest (gives q s x w k f rest)
  gives_on s x w k f step =
      let b : n + q.place + s ≡ n + (q.place + s) = omega arith in
      let e : n + q.place + s + w ≡ n + (q.place + s + w) = omega arith in
      let p : n + q.place + k ≡ n + (q.place + k) = omega arith in
      let m = behind_on n q.mode x in (
        recorded (mode_on n q.mode) (item (n + (q.place + s)) x (n + (q.place + s + w))) is,
        ls,
        subst (Step (on_past n is ls q) rest) (λ i. on (item (b i) x (e i) ∷ []) (record { place = p i; items = recorded (mode_on n q.mode) (item (b i) x (e i)) is; lines = ls; fresh = f; mode = m i; outer = map (mode_on n) q.outer }) (drop k rest)) step,
        record { even = recorded_even n q.mode (item (q.place + s) x (q.place + s + w)) is q.items h.even; there = h.there; back = h.back },
      )

  turns_on : (x : Lexeme) (w : ℕ) (m k : Mode) (os vs : List Mode) → k ≡ mode_on n m → vs ≡ map (mode_on n) os
      → Step (on_past n is ls q) rest (turns (on_past n is ls q) x w k vs rest) → Moves n q is ls rest (turns q x w m os rest)
  turns_on x w m k os vs em eo step =
      let e : n + q.place + w ≡ n + (q.place + w) = omega arith in (
        is,
        ls,
        subst (Step (on_past n is ls q) rest) (λ i. on (item (n + q.place) x (e i) ∷ []) (record { place = e i; items = is; lines = ls; fresh = false; mode = em i; outer = eo i }) (drop w rest)) step,
        record { even = h.even; there = h.there; back = h.back },
      )

  passes_on : (k : ℕ) (more : List ℕ) → Step (on_past n is ls q) rest (on [] (moved (on_past n is ls q) k) more) → Moves n q is ls rest (on [] (moved q k) more)
  passes_on k more step =
      let p : n + q.place + k ≡ n + (q.place + k) = omega arith in (
        is,
        ls,
        subst (Step (on_past n is ls q) rest) (λ i. on [] (record { place = p i; items = is; lines = ls; fresh = false; mode = mode_on n q.mode; outer = map (mode_on n) q.outer }) more) step,
        record { even = h.even; there = h.there; back = h.back },
      )

  deepened_on : (w k : ℕ) → Step (on_past n is ls q) rest (deepened (on_past n is ls q) w k rest) → Moves n q is ls rest (deepened q w k rest)
  deepened_on w k step =
      let e : n + q.place + k ≡ n + (q.place + k) = omega arith in (
        item (n + q.place) indent (n + (q.place + k)) ∷ is,
        w ∷ ls,
        subst (Step (on_past n is ls q) rest) (λ i. on (item (n + q.place) indent (e i) ∷ []) (record { place = e i; items = item (n + q.place) indent (e i) ∷ is; lines = w ∷ ls; fresh = false; mode = mode_on n q.mode; outer = map (mode_on n) q.outer }) (drop k rest)) step,
        record { even = cons_even n (item q.place indent (q.place + k)) is q.items h.even; there = open_more ls q.lines w h.there; back = open_more q.lines ls w h.back },
      )

  dedents_on : (i k : ℕ) → dedents (n + i) k ≡ map (item_on n) (dedents i k)
  dedents_on i zero = refl
  dedents_on i (suc k) = ap (λ xs. item (n + i) dedent (n + i) ∷ xs) (dedents_on i k)

  pub fitted_on : (w c k : ℕ) → Step (on_past n is ls q) rest (fitted (on_past n is ls q) w c k rest) → Moves n q is ls rest (fitted q w c k rest)
  fitted_on w c k step =
      let e : n + q.place + k ≡ n + (q.place + k) = omega arith in
      let d = dedents_on q.place c in (
        dedents (n + q.place) c ++ is,
        w ∷ ls,
        subst (Step (on_past n is ls q) rest) (λ i. on (d i) (record { place = e i; items = dedents (n + q.place) c ++ is; lines = w ∷ ls; fresh = false; mode = mode_on n q.mode; outer = map (mode_on n) q.outer }) (drop k rest)) step,
        record {
          even = omega (arith, h.even, dedents_opened (n + q.place) c is, dedents_closed (n + q.place) c is, dedents_opened q.place c q.items, dedents_closed q.place c q.items);
          there = open_more ls q.lines w h.there;
          back = open_more q.lines ls w h.back;
        },
      )

  -- the end of the text
  ends_items : (i k : ℕ) → dedents (n + i) k ++ [] ≡ map (item_on n) (dedents i k ++ [])
  ends_items i zero = refl
  ends_items i (suc k) = ap (λ xs. item (n + i) dedent (n + i) ∷ xs) (ends_items i k)

  pub ends_on : (i j k : ℕ) → j ≡ n + i → Step (on_past n is ls q) rest (ends j k) → Step (on_past n is ls q) rest (over (lexed_on n (with_items (item i newline i ∷ dedents i k) nothing)))
  ends_on i j k e step =
      let d = ends_items i k in
      subst (Step (on_past n is ls q) rest) (λ t. over (record { items = item (n + i) newline (n + i) ∷ d t; fault = None })) (subst (λ t. Step (on_past n is ls q) rest (ends t k)) e step)

  pub measured_on : IsMeasured q rest → IsMeasured (on_past n is ls q) rest
  measured_on m = record { fresh = m.fresh; first = m.first; more = m.more; stands = m.stands; not_line = m.not_line; not_remark = m.not_remark }

  plain_on : IsPlain q rest → IsPlain (on_past n is ls q) rest
  plain_on p = record {
    within = p.within;
    outside = inside_on n q.mode ∙ p.outside;
    no_escape = p.no_escape;
    no_end = λ b g bs e d. let k = field_back n q.mode b g bs e in p.no_end k.0 g bs k.1 d;
  }

  joined_on : IsJoined q → IsJoined (on_past n is ls q)
  joined_on (inl (b, g, bs, e)) = inl (n + b, g, bs, ap (mode_on n) e)
  joined_on (inr (e, odd)) = inr (ap (mode_on n) e, λ b. odd (omega (arith, b, h.even)))

  closes_on : (w : ℕ) (closed : List ℕ) → Closes q.lines w closed → Closes ls w closed
  closes_on w closed c = record {
    once = c.once;
    each = λ x. (λ t. let k = (c.each x).0 t in (h.back x k.0, k.1), λ k. (c.each x).1 (h.there x k.0, k.1));
  }

  balanced_on : IsBalanced q → IsBalanced (on_past n is ls q)
  balanced_on e = omega (arith, e, h.even)

pub moves : (n : ℕ) {q : Past} {rest : List ℕ} {m : Move} (is : List Item) (ls : List ℕ) → Step q rest m → Alike is ls q → Moves n q is ls rest m
moves n is ls (rules.blank_line q rest more f e) h = gives_on n q is ls rest h _ _ _ _ _ (rules.blank_line (on_past n is ls q) rest more f e)
moves n is ls (rules.remark_line q rest more f e) h = gives_on n q is ls rest h _ _ _ _ _ (rules.remark_line (on_past n is ls q) rest more f e)
moves n is ls (rules.last_line q rest closed f e c) h = λ ok.
    ends_on n q is ls rest h (q.place + length rest) (n + q.place + length rest) (length closed) (omega arith) (rules.last_line (on_past n is ls q) rest closed f e (closes_on n q is ls rest h 0 closed c))
moves n is ls (rules.tabbed q rest m t) h = λ ok. absurd (none_some _ (sym ok))
moves n is ls (rules.deepens q rest m t d) h = deepened_on n q is ls rest h _ _ (rules.deepens (on_past n is ls q) rest (measured_on n q is ls rest h m) t (λ x o. d x (h.there x o)))
moves n is ls (rules.fits q rest closed m t o c) h =
    fitted_on n q is ls rest h _ _ _ (rules.fits (on_past n is ls q) rest closed (measured_on n q is ls rest h m) t (h.back (width rest) o) (closes_on n q is ls rest h (width rest) closed c))
moves n is ls (rules.misfits q rest m t d o) h = λ ok. absurd (none_some _ (sym ok))
moves n is ls (rules.passes q b rest f c d) h = passes_on n q is ls (b ∷ rest) h 1 rest (rules.passes (on_past n is ls q) b rest f (inside_on n q.mode ∙ c) d)
moves n is ls (rules.escapes q rest f c d) h = passes_on n q is ls rest h (escaped rest) (drop (escaped rest) rest) (rules.escapes (on_past n is ls q) rest f (inside_on n q.mode ∙ c) d)
moves n is ls (rules.joins q rest f d) h = passes_on n q is ls (10 ∷ rest) h 1 rest (rules.joins (on_past n is ls q) rest f (joined_on n q is ls rest h d))
moves n is ls (rules.ends_line q rest f c d) h = gives_on n q is ls (10 ∷ rest) h _ _ _ _ _ (rules.ends_line (on_past n is ls q) rest f (ap (mode_on n) c) (balanced_on n q is ls rest h d))
moves n is ls (rules.remark q rest f c) h = gives_on n q is ls (35 ∷ rest) h _ _ _ _ _ (rules.remark (on_past n is ls q) rest f (inside_on n q.mode ∙ c))
moves n is ls (rules.lexeme q rest k x p l) h = gives_on n q is ls rest h _ _ _ _ _ (rules.lexeme (on_past n is ls q) rest k x (plain_on n q is ls rest h p) l)
moves n is ls (rules.faults q rest k e p l) h = λ ok. absurd (none_some _ (sym ok))
moves n is ls (rules.ends_text q closed f c d) h = λ ok.
    ends_on n q is ls [] h q.place (n + q.place) (length closed) refl (rules.ends_text (on_past n is ls q) closed f (inside_on n q.mode ∙ c) (closes_on n q is ls [] h 0 closed d))
moves n is ls (rules.literal q rest k g j p l s e) h = gives_on n q is ls rest h _ _ _ _ _ (rules.literal (on_past n is ls q) rest k g j (plain_on n q is ls rest h p) l s e)
moves n is ls (rules.unclosed q rest k g j p l s e) h = λ ok. absurd (none_some _ (sym ok))
moves n is ls (rules.misspelt q rest k g j m p l s e) h = λ ok. absurd (none_some _ (sym ok))
moves n is ls (rules.enters q rest k g p l s) h =
    turns_on n q is ls rest h (fstring_start g.quote) k (rules.inside q.place g) _ (q.mode ∷ q.outer) _ refl refl (rules.enters (on_past n is ls q) rest k g (plain_on n q is ls rest h p) l s)
moves n is ls (rules.texts q b g rest k f c s e) h = gives_on n q is ls rest h _ _ _ _ _ (rules.texts (on_past n is ls q) (n + b) g rest k f (ap (mode_on n) c) s e)
moves n is ls (rules.leaves q b g rest f c e) h =
    turns_on n q is ls rest h fstring_end (quotes g.quote) (below q.outer) _ (drop 1 q.outer) _ (below_on n q.outer) (drop_on n q.outer) (rules.leaves (on_past n is ls q) (n + b) g rest f (ap (mode_on n) c) e)
moves n is ls (rules.opens_field q b g rest f c e) h =
    turns_on n q is ls rest h fstring_expr_start 1 (rules.field b g []) _ q.outer _ refl refl (rules.opens_field (on_past n is ls q) (n + b) g rest f (ap (mode_on n) c) e)
moves n is ls (rules.unfinished q b g rest k f c e) h = λ ok. absurd (none_some _ (sym ok))
moves n is ls (rules.misspells q b g rest k m f c e) h = λ ok. absurd (none_some _ (sym ok))
moves n is ls (rules.shuts q b g bs rest f c d) h =
    turns_on n q is ls (125 ∷ rest) h fstring_expr_end 1 (rules.inside b g) _ q.outer _ refl refl (rules.shuts (on_past n is ls q) (n + b) g bs rest f (ap (mode_on n) c) d)
moves n is ls (rules.bangs q b g bs rest f c d e) h = gives_on n q is ls (33 ∷ rest) h _ _ _ _ _ (rules.bangs (on_past n is ls q) (n + b) g bs rest f (ap (mode_on n) c) d e)

-- ---- all steps

pub both_on : (n : ℕ) (xs : List Item) (l : Lexed) → with_items (map (item_on n) xs) (lexed_on n l) ≡ lexed_on n (with_items xs l)
both_on n xs l = λ i. record { items = sym (map-append (item_on n) xs l.items) i; fault = stop_on n l.fault }

pub lex_on : (n : ℕ) {q : Past} {rest : List ℕ} {l : Lexed} (is : List Item) (ls : List ℕ) → Lex q rest l → Alike is ls q → l.fault ≡ None → Lex (on_past n is ls q) rest (lexed_on n l)
lex_on n is ls (goes_on q rest xs r more l step d) h ok =
    let m = moves n is ls step h in
    subst (Lex (on_past n is ls q) rest) (both_on n xs l) (goes_on (on_past n is ls q) rest (map (item_on n) xs) (on_past n m.0 m.1 r) more (lexed_on n l) m.2 (lex_on n m.0 m.1 d m.3 ok))
lex_on n is ls (is_over q rest l step) h ok = is_over (on_past n is ls q) rest (lexed_on n l) (moves n is ls step h ok)
