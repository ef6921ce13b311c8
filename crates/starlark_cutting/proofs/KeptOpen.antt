-- A step within what is kept of a text is one there with other bytes behind it, also in an f-string.
use Rattle.std.proofs.Common.{◌≡◌, ◌<◌, ◌≤◌, ◌⊎◌, ℕ, ◌+◌, true, false, List, [], ◌∷◌, ◌++◌, length, take, drop, refl, ap, sym, ◌∙◌, arith, zero, suc, inl, inr, eqb, subst, length-append, length-drop}
use Rattle.std.specs.Prelude.{count_by}
use Rattle.std.proofs.lemmas.Bool.{false≢true}
use Rattle.std.proofs.lemmas.List.{drop-append-le}
use Rattle.starlark_lexer.specs.declared.literal.Form.{Form}
use Rattle.starlark_lexer.specs.declared.literal.Ending.{Ending}
use Rattle.starlark_lexer.specs.declared.literal.Ending.TheVariants as ending
use Rattle.starlark_lexer.specs.Items.{Lexeme, newline, comment, indent, fstring_text, fstring_expr_end, fstring_bang, fstring_end, Item, item, dedents}
use Rattle.starlark_lexer.specs.Literals.{body, quotes, value, is_format}
use Rattle.starlark_lexer.specs.Widths.{IsOpen, IsDeeper, Closes}
use Rattle.starlark_lexer.specs.Classes.{Meaning, closes_field, token, opens, leading, has_tab, width, line_len, escaped, IsLexeme}
use Rattle.starlark_lexer.specs.Lex.{Mode, Past, Move, Step, on, over, is_inside, recorded, mode_behind, below, moved, gives, deepened, fitted, turns, literal_lexeme}
use Rattle.starlark_lexer.specs.Lex as rules
use Rattle.starlark_lexer.proofs.JoinedBodies.{Final}
use Rattle.starlark_lexer.proofs.Openings.{quotes_some}
use Rattle.starlark_cutting.proofs.KeptBodies.{take_kept}
use Rattle.starlark_cutting.proofs.KeptReads.{body_same, extent, at_once, body_once}
use Rattle.starlark_cutting.proofs.KeptLines.{Holds, lexeme_longest, closes_kept, escaped_kept}
use Rattle.starlark_cutting.proofs.KeptMoves.{Fresh, first_kept, lead_kept, measured_kept, blanks_kept, plain_kept}
use Rattle.starlark_cutting.proofs.KeptSteps.{blank_kept, remark_len, remark_kept, inline_kept, literal_step}
use Rattle.starlark_cutting.proofs.KeptMarks.{Barrier, barrier_drop}
use Rattle.starlark_cutting.proofs.KeptTails.{text_closed, text_field}

-- in an f-string, its text ends with the other bytes behind it as it did, unless more of it comes first
abbrev pub Bodies : Mode → List ℕ → List ℕ → List ℕ → Type 0
Bodies rules.code u v o = Unit {0}
Bodies (rules.inside b g) u v o = (body g 0 (u ++ o) ≡ body g 0 (u ++ v)) ⊎ (0 < extent (body g 0 (u ++ v)))
Bodies (rules.field b g bs) u v o = Unit {0}

pub none_inside : (m : Mode) (u v o : List ℕ) → is_inside m ≡ false → Bodies m u v o
none_inside rules.code u v o e = tt
none_inside (rules.inside b g) u v o e = absurd (false≢true (sym e))
none_inside (rules.field b g bs) u v o e = tt

-- u is kept at a place, where v stood behind it and o stands there now
pub record Stands (p : Past) (u v o : List ℕ) : Type 0 where
  pub some : 0 < length u
  pub not_cr : is_inside p.mode ≡ false → u ≡ 13 ∷ [] → ⊥
  pub body : Bodies p.mode u v o
  pub bars : Barrier u o

fresh_bodies : (p : Past) (u v o : List ℕ) → Fresh p → p.fresh ≡ true → Bodies p.mode u v o
fresh_bodies p u v o h f = subst (λ m. Bodies m u v o) (sym (h f)) tt

pub record KeptOn (p : Past) (rest : List ℕ) (xs : List Item) (q : Past) (more : List ℕ) : Type 0 where
  pub k : ℕ
  pub place : q.place ≡ p.place + k
  pub is : more ≡ drop k rest
  pub go : (u v o : List ℕ) → rest ≡ u ++ v → k ≤ length u → Stands q (drop k u) v o → Stands p u v o × Step p (u ++ o) (on xs q (drop k u ++ o))

-- something is left behind k bytes
left_on : (q : Past) (k : ℕ) (u v o : List ℕ) → Stands q (drop k u) v o → k < length u
left_on q k u v o at = omega (arith, at.some, length-drop k u)

not_alone : (p q : Past) (k : ℕ) (u v o : List ℕ) → (0 < k) ⊎ (q.mode ≡ p.mode) → Stands q (drop k u) v o → is_inside p.mode ≡ false → u ≡ 13 ∷ [] → ⊥
not_alone p q zero u v o (inl some) at c e = omega (arith, some)
not_alone p q zero u v o (inr same) at c e = at.not_cr (ap is_inside same ∙ c) e
not_alone p q (suc k) u v o some at c e = omega (arith, left_on q (suc k) u v o at, ap length e)

kept_on : (p : Past) (rest : List ℕ) (xs : List Item) (q : Past) (k : ℕ) → q.place ≡ p.place + k → (0 < k) ⊎ (q.mode ≡ p.mode)
    → ((u v o : List ℕ) → rest ≡ u ++ v → k ≤ length u → Stands q (drop k u) v o → Barrier u o → Bodies p.mode u v o × Step p (u ++ o) (on xs q (drop k (u ++ o))))
    → KeptOn p rest xs q (drop k rest)
kept_on p rest xs q k place some h = record {
  k = k;
  place = place;
  is = refl;
  go = λ u v o e l at.
      let bars = barrier_drop k u o at.bars in
      let r = h u v o e l at bars in (
        record { some = omega (arith, left_on q k u v o at); not_cr = not_alone p q k u v o some at; body = r.0; bars = bars },
        subst (λ w. Step p (u ++ o) (on xs q w)) (drop-append-le k u o l) r.1,
      );
}

pub behind_same : (m : Mode) (x : Lexeme) → is_inside m ≡ false → is_inside (mode_behind m x) ≡ false
behind_same rules.code x e = refl
behind_same (rules.inside b g) x e = e
behind_same (rules.field b g bs) x e = refl

-- ---- lexemes

pub lexeme_on : (u v o : List ℕ) (n : ℕ) (m : Meaning) → IsLexeme (u ++ v) n m → n ≤ length u → Barrier u o → IsLexeme (u ++ o) n m
lexeme_on u v o n m h le bars = lexeme_longest u v o n m h le (bars [])

pub literal_on : (p : Past) (rest u w o : List ℕ) (n : ℕ) (g : Form) (k : ℕ) → rules.IsPlain p rest → IsLexeme rest n (opens g) → is_format g.sort ≡ false → body g 0 (drop n rest) ≡ ending.Closed k
    → rest ≡ u ++ w → n + k + quotes g.quote ≤ length u → Barrier u o → 1 < length u
    → Step p (u ++ o) (gives p 0 (literal_lexeme g.sort (value g (take k (drop n rest)))) (n + k + quotes g.quote) (n + k + quotes g.quote) false (u ++ o))
literal_on p rest u w o n g k v l t e is le bars two =
    let plain = plain_kept p rest u w o n (opens g) v l tt is (omega (arith, le, l.nonempty)) (inl two) in
    literal_step p rest u w o n g k plain (lexeme_on u w o n (opens g) (subst (λ r. IsLexeme r n (opens g)) is l) (omega (arith, le)) bars) t e is le

-- ---- texts of f-strings

-- the mode behind the text
behind_inside : (p : Past) (x : Lexeme) (b : ℕ) (g : Form) (u v o : List ℕ) → p.mode ≡ rules.inside b g → Bodies (mode_behind p.mode x) u v o → Bodies (rules.inside b g) u v o
behind_inside p x b g u v o c h = subst (λ m. Bodies (mode_behind m x) u v o) c h

-- where a text of k bytes ends
at_end : (p : Past) (x : Lexeme) (b : ℕ) (g : Form) (u v o : List ℕ) (k : ℕ) (e : Ending) → p.mode ≡ rules.inside b g → Final e → extent e ≡ k → k ≤ length u → body g 0 (u ++ v) ≡ e → Bodies (mode_behind p.mode x) (drop k u) v o
    → body g 0 (drop k u ++ o) ≡ body g 0 (drop k u ++ v)
at_end p x b g u v o k e c final is le h at =
    let once : body g 0 (drop k u ++ v) ≡ at_once e = ap (body g 0) (sym (drop-append-le k u v le)) ∙ ap (λ n. body g 0 (drop n (u ++ v))) (sym is) ∙ body_once g (u ++ v) e final h in
    elim (behind_inside p x b g (drop k u) v o c at) [ inl same ↦ same | inr some ↦ absurd (omega (arith, some, ap extent once, extent_once e final)) ]
  where
    extent_once : (e : Ending) → Final e → extent (at_once e) ≡ 0
    extent_once (ending.Closed k) h = refl
    extent_once (ending.Field k) h = refl
    extent_once (ending.Unfinished k) h = absurd h
    extent_once (ending.Escape k m) h = absurd h

pub more_text : (p : Past) (b : ℕ) (g : Form) (u v o : List ℕ) (k : ℕ) → p.mode ≡ rules.inside b g → 0 < k → extent (body g 0 (u ++ v)) ≡ k → Bodies p.mode u v o
more_text p b g u v o k c some e = subst (λ m. Bodies m u v o) (sym c) (inr (omega (arith, some, e)))

pub leaves_on : (p : Past) (b : ℕ) (g : Form) (rest u v o : List ℕ) → p.fresh ≡ false → p.mode ≡ rules.inside b g → body g 0 rest ≡ ending.Closed 0 → rest ≡ u ++ v → quotes g.quote ≤ length u
    → Bodies p.mode u v o × Step p (u ++ o) (turns p fstring_end (quotes g.quote) (below p.outer) (drop 1 p.outer) (u ++ o))
leaves_on p b g rest u v o f c e is le =
    let here : body g 0 (u ++ v) ≡ ending.Closed 0 = ap (body g 0) (sym is) ∙ e in
    let there = body_same g u v o (ending.Closed 0) (omega (arith, le)) here in
    (subst (λ m. Bodies m u v o) (sym c) (inl (there ∙ sym here)), rules.leaves p b g (u ++ o) f c there)

-- ---- step by step

abbrev pub Goes_on : Past → List ℕ → Move → Type 0
Goes_on p rest (on xs q more) = KeptOn p rest xs q more
Goes_on p rest (over l) = Unit {0}

pub goes_on : {p : Past} {rest : List ℕ} {m : Move} → Step p rest m → Fresh p → Goes_on p rest m
goes_on (rules.blank_line p rest more f e) h =
    kept_on p rest _ _ (leading rest + 1) refl (inl (omega arith)) (λ u v o is le at bars. (fresh_bodies p u v o h f, blank_kept p rest more u v o f e is le))
goes_on (rules.remark_line p rest more f e) h =
    let q : Past = record { place = p.place + remark_len rest more; items = recorded p.mode (item (p.place + leading rest) (comment (take (line_len more) more)) (p.place + leading rest + (1 + line_len more))) p.items; lines = p.lines; fresh = true; mode = mode_behind p.mode (comment (take (line_len more) more)); outer = p.outer } in
    kept_on p rest _ q (remark_len rest more) refl (inl (omega arith))
    (λ u v o is le at bars. (fresh_bodies p u v o h f, remark_kept p rest more u v o f e is le (omega (arith, left_on q (remark_len rest more) u v o at, ap length is, length-append u v))))
goes_on (rules.last_line p rest closed f e c) h = tt
goes_on (rules.tabbed p rest m t) h = tt
goes_on (rules.deepens p rest m t d) h =
    let w = width rest in
    let k = leading rest in
    let it : Item = item p.place indent (p.place + k) in
    let q : Past = record { place = p.place + k; items = it ∷ p.items; lines = w ∷ p.lines; fresh = false; mode = p.mode; outer = p.outer } in
    kept_on p rest (it ∷ []) q k refl (inr refl)
    (λ u v o is le at bars.
    let lt = left_on q k u v o at in
    let same = blanks_kept rest u v o is lt in
    let wide : width (u ++ o) ≡ w = ap (count_by (λ x. eqb x 32)) same in (
      fresh_bodies p u v o h m.fresh,
      subst (λ j. Step p (u ++ o) (deepened p w j (u ++ o))) (lead_kept rest u v o is lt)
          (subst (λ x. Step p (u ++ o) (deepened p x (leading (u ++ o)) (u ++ o))) wide
          (rules.deepens p (u ++ o) (measured_kept p rest u v o m is lt) (ap has_tab same ∙ t) (subst (IsDeeper p.lines) (sym wide) d))),
    ))
goes_on (rules.fits p rest closed m t n c) h =
    let w = width rest in
    let k = leading rest in
    let them = dedents p.place (length closed) in
    let q : Past = record { place = p.place + k; items = them ++ p.items; lines = w ∷ p.lines; fresh = false; mode = p.mode; outer = p.outer } in
    kept_on p rest them q k refl (inr refl)
    (λ u v o is le at bars.
    let lt = left_on q k u v o at in
    let same = blanks_kept rest u v o is lt in
    let wide : width (u ++ o) ≡ w = ap (count_by (λ x. eqb x 32)) same in (
      fresh_bodies p u v o h m.fresh,
      subst (λ j. Step p (u ++ o) (fitted p w (length closed) j (u ++ o))) (lead_kept rest u v o is lt)
          (subst (λ x. Step p (u ++ o) (fitted p x (length closed) (leading (u ++ o)) (u ++ o))) wide
          (rules.fits p (u ++ o) closed (measured_kept p rest u v o m is lt) (ap has_tab same ∙ t) (subst (IsOpen p.lines) (sym wide) n) (subst (λ x. Closes p.lines x closed) (sym wide) c))),
    ))
goes_on (rules.misfits p rest m t d o) h = tt
goes_on (rules.passes p b rest f c d) h =
    kept_on p (b ∷ rest) [] (moved p 1) 1 refl (inr refl)
    (λ u v o is le at bars.
    let s = first_kept b rest u v is le in
    (none_inside p.mode u v o c, subst (λ w. Step p (w ++ o) (on [] (moved p 1) (drop 1 (w ++ o)))) (sym s.1.0) (rules.passes p b (s.0 ++ o) f c d)))
goes_on (rules.escapes p rest f c d) h =
    kept_on p rest [] (moved p (escaped rest)) (escaped rest) refl (inr refl)
    (λ u v o is le at bars.
    let same : escaped (u ++ o) ≡ escaped rest = escaped_kept u v o (omega (arith, d, ap escaped is)) (omega (arith, le, ap escaped is)) ∙ ap escaped (sym is) in
    (none_inside p.mode u v o c, subst (λ k. Step p (u ++ o) (on [] (moved p k) (drop k (u ++ o)))) same (rules.escapes p (u ++ o) f c (omega (arith, same, d)))))
goes_on (rules.joins p rest f d) h =
    kept_on p (10 ∷ rest) [] (moved p 1) 1 refl (inr refl)
    (λ u v o is le at bars.
    let s = first_kept 10 rest u v is le in
    (joined_body p u v o d, subst (λ w. Step p (w ++ o) (on [] (moved p 1) (drop 1 (w ++ o)))) (sym s.1.0) (rules.joins p (s.0 ++ o) f d)))
  where
    joined_body : (p : Past) (u v o : List ℕ) → rules.IsJoined p → Bodies p.mode u v o
    joined_body p u v o (inl (b, g, bs, e)) = subst (λ m. Bodies m u v o) (sym e) tt
    joined_body p u v o (inr (e, odd)) = subst (λ m. Bodies m u v o) (sym e) tt
goes_on (rules.ends_line p rest f c d) h =
    kept_on p (10 ∷ rest) _ _ 1 refl (inl (omega arith))
    (λ u v o is le at bars.
    let s = first_kept 10 rest u v is le in
    (subst (λ m. Bodies m u v o) (sym c) tt, subst (λ w. Step p (w ++ o) (gives p 0 newline 1 1 true (w ++ o))) (sym s.1.0) (rules.ends_line p (s.0 ++ o) f c d)))
goes_on (rules.remark p rest f c) h =
    let n = line_len rest in
    kept_on p (35 ∷ rest) _ _ (1 + n) refl (inl (omega arith))
    (λ u v o is le at bars.
    let s = first_kept 35 rest u v is (omega (arith, le)) in
    let short : n ≤ length s.0 = omega (arith, le, ap length s.1.0) in
    let e : 1 + n ≡ suc n = omega arith in
    let hold : Holds (drop n s.0) = subst Holds (ap (λ k. drop k u) e ∙ ap (drop (suc n)) s.1.0) (record { some = at.some; not_cr = at.not_cr (behind_same p.mode (comment (take n rest)) c) }) in
    (none_inside p.mode u v o c, subst (λ w. Step p (w ++ o) (gives p 0 (comment (take n rest)) (1 + n) (1 + n) false (w ++ o))) (sym s.1.0) (inline_kept p rest s.0 v o f c s.1.1 short hold)))
goes_on (rules.lexeme p rest n x v l) h =
    let q : Past = record { place = p.place + n; items = recorded p.mode (item (p.place + 0) x (p.place + 0 + n)) p.items; lines = p.lines; fresh = false; mode = mode_behind p.mode x; outer = p.outer } in
    kept_on p rest _ q n refl (inl l.nonempty)
    (λ u w o is le at bars.
    let lt = left_on q n u w o at in
    let some = l.nonempty in
    (none_inside p.mode u w o v.outside, rules.lexeme p (u ++ o) n x (plain_kept p rest u w o n (token x) v l tt is (omega (arith, lt)) (inl (omega (arith, lt, some)))) (lexeme_on u w o n (token x) (subst (λ r. IsLexeme r n (token x)) is l) le bars)))
goes_on (rules.faults p rest n e v l) h = tt
goes_on (rules.ends_text p closed f c d) h = tt
goes_on (rules.literal p rest n g k v l t e) h =
    let x = literal_lexeme g.sort (value g (take k (drop n rest))) in
    let j = n + k + quotes g.quote in
    let q : Past = record { place = p.place + j; items = recorded p.mode (item (p.place + 0) x (p.place + 0 + j)) p.items; lines = p.lines; fresh = false; mode = mode_behind p.mode x; outer = p.outer } in
    kept_on p rest _ q j refl (inl (omega (arith, l.nonempty)))
    (λ u w o is le at bars. (none_inside p.mode u w o v.outside, literal_on p rest u w o n g k v l t e is le bars (omega (arith, left_on q j u w o at, l.nonempty))))
goes_on (rules.unclosed p rest n g k v l t e) h = tt
goes_on (rules.misspelt p rest n g k m v l t e) h = tt
goes_on (rules.enters p rest n g v l t) h =
    let q : Past = record { place = p.place + n; items = p.items; lines = p.lines; fresh = false; mode = rules.inside p.place g; outer = p.mode ∷ p.outer } in
    kept_on p rest _ q n refl (inl l.nonempty)
    (λ u w o is le at bars.
    let lt = left_on q n u w o at in
    let some = l.nonempty in
    (none_inside p.mode u w o v.outside, rules.enters p (u ++ o) n g (plain_kept p rest u w o n (opens g) v l tt is (omega (arith, lt)) (inl (omega (arith, lt, some)))) (lexeme_on u w o n (opens g) (subst (λ r. IsLexeme r n (opens g)) is l) le bars) t))
goes_on (rules.texts p b g rest k f c some (inl e)) h =
    kept_on p rest _ _ k refl (inl some)
    (λ u v o is le at bars.
    let here : body g 0 (u ++ v) ≡ ending.Closed k = ap (body g 0) (sym is) ∙ e in
    let there : body g 0 (u ++ o) ≡ ending.Closed k = text_closed g k u v o (left_on _ k u v o at) here (at_end p _ b g u v o k (ending.Closed k) c tt refl le here at.body) in (
      more_text p b g u v o k c some (ap extent here),
      subst (λ w. Step p (u ++ o) (gives p 0 (fstring_text (value g w)) k k false (u ++ o))) (take_kept rest u v o k is le) (rules.texts p b g (u ++ o) k f c some (inl there)),
    ))
goes_on (rules.texts p b g rest k f c some (inr e)) h =
    kept_on p rest _ _ k refl (inl some)
    (λ u v o is le at bars.
    let here : body g 0 (u ++ v) ≡ ending.Field k = ap (body g 0) (sym is) ∙ e in
    let there : body g 0 (u ++ o) ≡ ending.Field k = text_field g k u v o (left_on _ k u v o at) here (at_end p _ b g u v o k (ending.Field k) c tt refl le here at.body) in (
      more_text p b g u v o k c some (ap extent here),
      subst (λ w. Step p (u ++ o) (gives p 0 (fstring_text (value g w)) k k false (u ++ o))) (take_kept rest u v o k is le) (rules.texts p b g (u ++ o) k f c some (inr there)),
    ))
goes_on (rules.leaves p b g rest f c e) h = kept_on p rest _ _ (quotes g.quote) refl (inl (quotes_some g.quote)) (λ u v o is le at bars. leaves_on p b g rest u v o f c e is le)
goes_on (rules.opens_field p b g rest f c e) h =
    let q : Past = record { place = p.place + 1; items = p.items; lines = p.lines; fresh = false; mode = rules.field b g []; outer = p.outer } in
    kept_on p rest _ q 1 refl (inl (omega arith))
    (λ u v o is le at bars.
    let here : body g 0 (u ++ v) ≡ ending.Field 0 = ap (body g 0) (sym is) ∙ e in
    let there = body_same g u v o (ending.Field 0) (omega (arith, left_on q 1 u v o at)) here in
    (subst (λ m. Bodies m u v o) (sym c) (inl (there ∙ sym here)), rules.opens_field p b g (u ++ o) f c there))
goes_on (rules.unfinished p b g rest k f c e) h = tt
goes_on (rules.misspells p b g rest k m f c e) h = tt
goes_on (rules.shuts p b g bs rest f c d) h =
    kept_on p (125 ∷ rest) _ _ 1 refl (inl (omega arith))
    (λ u v o is le at bars.
    let s = first_kept 125 rest u v is le in
    (subst (λ m. Bodies m u v o) (sym c) tt, subst (λ w. Step p (w ++ o) (turns p fstring_expr_end 1 (rules.inside b g) p.outer (w ++ o))) (sym s.1.0) (rules.shuts p b g bs (s.0 ++ o) f c d)))
goes_on (rules.bangs p b g bs rest f c d e) h =
    let q : Past = record { place = p.place + 1; items = recorded p.mode (item (p.place + 0) fstring_bang (p.place + 0 + 1)) p.items; lines = p.lines; fresh = false; mode = mode_behind p.mode fstring_bang; outer = p.outer } in
    kept_on p (33 ∷ rest) _ q 1 refl (inl (omega arith))
    (λ u v o is le at bars.
    let s = first_kept 33 rest u v is le in
    let two : 1 < length (33 ∷ s.0) = omega (arith, left_on q 1 u v o at, ap length s.1.0) in (
      subst (λ m. Bodies m u v o) (sym c) tt,
      subst (λ w. Step p (w ++ o) (gives p 0 fstring_bang 1 1 false (w ++ o))) (sym s.1.0)
          (rules.bangs p b g bs (s.0 ++ o) f c d (closes_kept (33 ∷ s.0) v o two ∙ ap (λ r. closes_field (33 ∷ r)) (sym s.1.1) ∙ e)),
    ))
