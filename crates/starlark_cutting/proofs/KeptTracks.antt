-- What a step without fault does to what stands before a place: brackets, f-strings and widths that are open.
use Rattle.std.proofs.Common.{◌≡◌, ℕ, ◌+◌, Bool, true, false, cond, List, [], ◌∷◌, ◌++◌, length, take, drop, refl, ap, sym, ◌∙◌, arith, zero, suc, inl, inr, ltb, leb, subst, length-append, length-drop}
use Rattle.std.specs.Prelude.{count_by}
use Rattle.std.specs.List.{filter}
use Rattle.std.proofs.lemmas.Bool.{cases_Bool, false≢true}
use Rattle.std.proofs.lemmas.Bool.Decides.{nat_tests}
use Rattle.starlark_lexer.specs.declared.literal.Form.{Form}
use Rattle.starlark_lexer.specs.declared.literal.Sort.{Sort}
use Rattle.starlark_lexer.specs.declared.literal.Sort.TheVariants as sort
use Rattle.starlark_lexer.specs.Items.{Lexeme, newline, comment, indent, dedent, fstring_start, fstring_text, fstring_expr_start, fstring_expr_end, fstring_bang, fstring_end, is_opening, is_closing, Item, item, opening_item, closing_item, dedents}
use Rattle.starlark_lexer.specs.Literals.{quotes, value}
use Rattle.starlark_lexer.specs.Classes.{leading, width, escaped, line_len, line_end}
use Rattle.starlark_lexer.specs.Widths.{IsOpen, IsDeeper, Closes}
use Rattle.starlark_lexer.specs.Lex.{Mode, Past, Move, Step, on, over, recorded, mode_behind, below, moved, literal_lexeme}
use Rattle.starlark_lexer.specs.Lex as rules
use Rattle.starlark_cutting.specs.Cutting.{indent_item}
use Rattle.starlark_lexer.specs.Joining.{nested, outside, open_behind, is_indent, is_dedent, dedent_item}
use Rattle.starlark_lexer.proofs.Joined.{Nest, nest_behind, nest_below, nest_field, nest_inside, outside_nil, none_counted, one_counted, dedents_out_opened, dedents_out_closed, dedents_open, literal_neutral}
use Rattle.starlark_lexer.proofs.JoinedOn.{count_cons}
use Rattle.starlark_lexer.proofs.JoinedTokens.{token_neutral}
use Rattle.starlark_lexer.proofs.Widths.{IsStack}
use Rattle.starlark_lexer.proofs.Widths as widths
use Rattle.starlark_lexer.proofs.Stacks.{same_closes, none_above}
use Rattle.starlark_lexer.proofs.Rules.{deeper_shut, deeper_all}
use Rattle.starlark_lexer.proofs.Dedents.{dedents_opened, dedents_closed}
use Rattle.starlark_cutting.proofs.KeptMoves.{Fresh}

-- ---- widths

-- the widths that are open behind the items, where those are open before them
pub record Stacked (p : Past) (xs : List Item) (q : Past) (ws : List ℕ) : Type 0 where
  pub still : List ℕ
  pub stack : IsStack q.lines still
  pub count : count_by indent_item xs + length ws ≡ count_by dedent_item xs + length still

pub parts : (ws : List ℕ) (w : ℕ) → length (filter (λ x. leb x w) ws) + length (filter (λ x. ltb w x) ws) ≡ length ws
parts [] w = refl
parts (x ∷ ws) w = elim (cases_Bool (leb x w)) [
  | inl e ↦ let f : ltb w x ≡ false = grind (arith, nat_tests) in rw (e, f) (omega (arith, parts ws w))
  | inr e ↦ let f : ltb w x ≡ true = grind (arith, nat_tests) in rw (e, f) (omega (arith, parts ws w))
]

pub dedents_indents : (i n : ℕ) → count_by indent_item (dedents i n) ≡ 0
dedents_indents i zero = refl
dedents_indents i (suc n) = dedents_indents i n

pub dedents_count : (i n : ℕ) → count_by dedent_item (dedents i n) ≡ n
dedents_count i zero = refl
dedents_count i (suc n) = count_cons dedent_item (item i dedent i) (dedents i n) ∙ (let e : 1 + count_by dedent_item (dedents i n) ≡ suc n = omega (arith, dedents_count i n) in e)

same_widths : (p : Past) (xs : List Item) (q : Past) (ws : List ℕ) → IsStack p.lines ws → q.lines ≡ p.lines → count_by indent_item xs ≡ count_by dedent_item xs → Stacked p xs q ws
same_widths p xs q ws s e n = record { still = ws; stack = subst (λ l. IsStack l ws) (sym e) s; count = omega (arith, n) }

-- ---- all

pub record Tracks (p : Past) (xs : List Item) (q : Past) : Type 0 where
  pub opened : count_by opening_item q.items ≡ count_by opening_item (outside (length p.outer) xs) + count_by opening_item p.items
  pub closed : count_by closing_item q.items ≡ count_by closing_item (outside (length p.outer) xs) + count_by closing_item p.items
  pub strings : open_behind (length p.outer) xs ≡ length q.outer
  pub nest : Nest q.mode q.outer
  pub fresh : Fresh q
  pub widths : (ws : List ℕ) → IsStack p.lines ws → Stacked p xs q ws

-- it neither opens nor closes an f-string, and is neither Indent nor Dedent
pub record Level (x : Lexeme) : Type 0 where
  pub strings : (n : ℕ) → nested n x ≡ n
  pub widths : is_indent x ≡ is_dedent x

module _ (p : Past) (nest : Nest p.mode p.outer) where
  one_widths : (it : Item) (q : Past) → q.lines ≡ p.lines → is_indent it.lexeme ≡ is_dedent it.lexeme → (ws : List ℕ) → IsStack p.lines ws → Stacked p (it ∷ []) q ws
  one_widths it q e n ws s = same_widths p (it ∷ []) q ws s e (count_cons indent_item it [] ∙ ap (λ t. cond t 1 0 + 0) n ∙ sym (count_cons dedent_item it []))

  gives_tracks : (s : ℕ) (x : Lexeme) (n k : ℕ) (f : Bool) → Level x → (f ≡ true → p.mode ≡ rules.code)
      → (let it : Item = item (p.place + s) x (p.place + s + n) in Tracks p (it ∷ []) (record { place = p.place + k; items = recorded p.mode it p.items; lines = p.lines; fresh = f; mode = mode_behind p.mode x; outer = p.outer }))
  gives_tracks s x n k f level fr =
      let it : Item = item (p.place + s) x (p.place + s + n) in
      let q : Past = record { place = p.place + k; items = recorded p.mode it p.items; lines = p.lines; fresh = f; mode = mode_behind p.mode x; outer = p.outer } in
      record {
        opened = one_counted opening_item p.mode p.outer it p.items nest;
        closed = one_counted closing_item p.mode p.outer it p.items nest;
        strings = level.strings (length p.outer);
        nest = nest_behind p.mode x p.outer nest;
        fresh = λ e. ap (λ m. mode_behind m x) (fr e);
        widths = one_widths it q refl level.widths;
      }

  turns_tracks : (x : Lexeme) (n : ℕ) (m : Mode) (os : List Mode) → is_opening x ≡ false → is_closing x ≡ false → is_indent x ≡ is_dedent x → nested (length p.outer) x ≡ length os → Nest m os
      → Tracks p (item p.place x (p.place + n) ∷ []) (record { place = p.place + n; items = p.items; lines = p.lines; fresh = false; mode = m; outer = os })
  turns_tracks x n m os no_opening no_closing level depth there =
      let it : Item = item p.place x (p.place + n) in
      let q : Past = record { place = p.place + n; items = p.items; lines = p.lines; fresh = false; mode = m; outer = os } in
      record {
        opened = omega (arith, none_counted opening_item it (length p.outer) no_opening);
        closed = omega (arith, none_counted closing_item it (length p.outer) no_closing);
        strings = depth;
        nest = there;
        fresh = λ e. absurd (false≢true e);
        widths = one_widths it q refl level;
      }

  passes_tracks : (k : ℕ) → Tracks p [] (moved p k)
  passes_tracks k = record {
    opened = omega (arith, ap (count_by opening_item) (outside_nil (length p.outer)));
    closed = omega (arith, ap (count_by closing_item) (outside_nil (length p.outer)));
    strings = refl;
    nest = nest;
    fresh = λ e. absurd (false≢true e);
    widths = λ ws s. same_widths p [] (moved p k) ws s refl refl;
  }

  deepened_tracks : (w k : ℕ) → IsDeeper p.lines w
      → (let it : Item = item p.place indent (p.place + k) in Tracks p (it ∷ []) (record { place = p.place + k; items = it ∷ p.items; lines = w ∷ p.lines; fresh = false; mode = p.mode; outer = p.outer }))
  deepened_tracks w k deep =
      let it : Item = item p.place indent (p.place + k) in
      record {
        opened = omega (arith, none_counted opening_item it (length p.outer) refl, count_cons opening_item it p.items);
        closed = omega (arith, none_counted closing_item it (length p.outer) refl, count_cons closing_item it p.items);
        strings = refl;
        nest = nest;
        fresh = λ e. absurd (false≢true e);
        widths = λ ws s. record {
          still = ws ++ w ∷ [];
          stack = widths.pushed p.lines ws s w (λ i z. none_above ws w s.once (deeper_all p ws s w deep) z i) (deeper_shut p ws s w deep);
          count = omega (arith, length-append ws (w ∷ []));
        };
      }

  fitted_tracks : (w n k : ℕ) (shut : List ℕ) → n ≡ length shut → IsOpen p.lines w → Closes p.lines w shut
      → Tracks p (dedents p.place n) (record { place = p.place + k; items = dedents p.place n ++ p.items; lines = w ∷ p.lines; fresh = false; mode = p.mode; outer = p.outer })
  fitted_tracks w n k shut len o c = record {
    opened = omega (arith, dedents_out_opened (length p.outer) p.place n, dedents_opened p.place n p.items);
    closed = omega (arith, dedents_out_closed (length p.outer) p.place n, dedents_closed p.place n p.items);
    strings = dedents_open (length p.outer) p.place n;
    nest = nest;
    fresh = λ e. absurd (false≢true e);
    widths = λ ws s.
        let mine = widths.closes p.lines ws s w in
        record {
          still = filter (λ x. leb x w) ws;
          stack = widths.kept p.lines ws s w (widths.test_open p.lines ws s w o);
          count = omega (arith, parts ws w, same_closes p.lines w _ shut mine c, len, dedents_indents p.place n, dedents_count p.place n);
        };
  }

-- ---- step by step

abbrev pub Tracked : Past → Move → Type 0
Tracked p (on xs q more) = Tracks p xs q
Tracked p (over l) = Unit {0}

literal_level : (g : Form) (v : List ℕ) → Level (literal_lexeme g.sort v)
literal_level g v = record { strings = literal_neutral g.sort v; widths = by_sort g.sort v }
  where
    by_sort : (s : Sort) (v : List ℕ) → is_indent (literal_lexeme s v) ≡ is_dedent (literal_lexeme s v)
    by_sort sort.Text v = refl
    by_sort sort.Bytes v = refl
    by_sort sort.Format v = refl

never_fresh : (m : Mode) → false ≡ true → m ≡ rules.code
never_fresh m e = absurd (false≢true e)

pub tracks : {p : Past} {rest : List ℕ} {m : Move} → Step p rest m → Nest p.mode p.outer → Fresh p → Tracked p m
tracks (rules.blank_line p rest more f e) n h = gives_tracks p n (leading rest) newline 1 (leading rest + 1) true (record { strings = λ k. refl; widths = refl }) (λ _. h f)
tracks (rules.remark_line p rest more f e) n h = gives_tracks p n (leading rest) (comment (take (line_len more) more)) (1 + line_len more) (leading rest + (1 + line_len more) + line_end (drop (line_len more) more)) true (record { strings = λ k. refl; widths = refl }) (λ _. h f)
tracks (rules.last_line p rest closed f e c) n h = tt
tracks (rules.tabbed p rest m t) n h = tt
tracks (rules.deepens p rest m t d) n h = deepened_tracks p n (width rest) (leading rest) d
tracks (rules.fits p rest closed m t o c) n h = fitted_tracks p n (width rest) (length closed) (leading rest) closed refl o c
tracks (rules.misfits p rest m t d o) n h = tt
tracks (rules.passes p b rest f c d) n h = passes_tracks p n 1
tracks (rules.escapes p rest f c d) n h = passes_tracks p n (escaped rest)
tracks (rules.joins p rest f d) n h = passes_tracks p n 1
tracks (rules.ends_line p rest f c d) n h = gives_tracks p n 0 newline 1 1 true (record { strings = λ k. refl; widths = refl }) (λ _. c)
tracks (rules.remark p rest f c) n h = gives_tracks p n 0 (comment (take (line_len rest) rest)) (1 + line_len rest) (1 + line_len rest) false (record { strings = λ k. refl; widths = refl }) (never_fresh p.mode)
tracks (rules.lexeme p rest k x v l) n h = let t = token_neutral (take k rest) x l.means in gives_tracks p n 0 x k k false (record { strings = t.nested; widths = t.level }) (never_fresh p.mode)
tracks (rules.faults p rest k e v l) n h = tt
tracks (rules.ends_text p closed f c d) n h = tt
tracks (rules.literal p rest j g k v l t e) n h = gives_tracks p n 0 (literal_lexeme g.sort (value g (take k (drop j rest)))) (j + k + quotes g.quote) (j + k + quotes g.quote) false (literal_level g (value g (take k (drop j rest)))) (never_fresh p.mode)
tracks (rules.unclosed p rest j g k v l t e) n h = tt
tracks (rules.misspelt p rest j g k m v l t e) n h = tt
tracks (rules.enters p rest j g v l t) n h = turns_tracks p n (fstring_start g.quote) j (rules.inside p.place g) (p.mode ∷ p.outer) refl refl refl refl n
tracks (rules.texts p b g rest k f c some e) n h = gives_tracks p n 0 (fstring_text (value g (take k rest))) k k false (record { strings = λ k. refl; widths = refl }) (never_fresh p.mode)
tracks (rules.leaves p b g rest f c e) n h = turns_tracks p n fstring_end (quotes g.quote) (below p.outer) (drop 1 p.outer) refl refl refl (sym (length-drop 1 p.outer)) (nest_below b g p.outer (subst (λ m. Nest m p.outer) c n))
tracks (rules.opens_field p b g rest f c e) n h = turns_tracks p n fstring_expr_start 1 (rules.field b g []) p.outer refl refl refl refl (nest_field b g p.outer (subst (λ m. Nest m p.outer) c n))
tracks (rules.unfinished p b g rest k f c e) n h = tt
tracks (rules.misspells p b g rest k m f c e) n h = tt
tracks (rules.shuts p b g bs rest f c d) n h = turns_tracks p n fstring_expr_end 1 (rules.inside b g) p.outer refl refl refl refl (nest_inside b g bs p.outer (subst (λ m. Nest m p.outer) c n))
tracks (rules.bangs p b g bs rest f c d e) n h = gives_tracks p n 0 fstring_bang 1 1 false (record { strings = λ k. refl; widths = refl }) (never_fresh p.mode)
