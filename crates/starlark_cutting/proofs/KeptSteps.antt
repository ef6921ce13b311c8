-- A step within what is kept of a text is one there whatever stands behind that.
use Rattle.std.proofs.Common.{◌≡◌, ◌<◌, ◌≤◌, ◌⊎◌, ℕ, ◌+◌, true, false, List, [], ◌∷◌, ◌++◌, length, take, drop, refl, ap, sym, ◌∙◌, arith, suc, inl, inr, eqb, subst, length-append, length-drop}
use Rattle.std.specs.Prelude.{count_by}
use Rattle.std.proofs.lemmas.List.{drop-append-le}
use Rattle.std.proofs.lemmas.List.Sums.{prefix_len-le-length}
use Rattle.starlark_lexer.specs.declared.literal.Form.{Form}
use Rattle.starlark_lexer.specs.declared.literal.Ending.{Ending}
use Rattle.starlark_lexer.specs.declared.literal.Ending.TheVariants as ending
use Rattle.starlark_lexer.specs.Items.{Lexeme, newline, comment, indent, fstring_text, fstring_expr_end, fstring_bang, fstring_end, Item, item, dedents}
use Rattle.starlark_lexer.specs.Literals.{body, quotes, value, is_format}
use Rattle.starlark_lexer.specs.Widths.{IsOpen, IsDeeper, Closes}
use Rattle.starlark_lexer.specs.Classes.{closes_field, token, opens, is_blank, leading, has_tab, width, line_end, line_len, escaped, IsLexeme}
use Rattle.starlark_lexer.specs.Lex.{Past, Move, Step, on, over, is_inside, recorded, mode_behind, below, moved, gives, deepened, fitted, turns, literal_lexeme}
use Rattle.starlark_lexer.specs.Lex as rules
use Rattle.starlark_lexer.proofs.Ordered.{inside, escaped_most}
use Rattle.starlark_lexer.proofs.Gaps.{line_len_within, line_end_within}
use Rattle.starlark_cutting.proofs.KeptBodies.{take_kept}
use Rattle.starlark_cutting.proofs.KeptReads.{Fits, body_same, body_once}
use Rattle.starlark_cutting.proofs.KeptLines.{Barred, Holds, lexeme_kept, closes_kept, escaped_kept, len_kept}
use Rattle.starlark_cutting.proofs.KeptRemarks.{full_kept}
use Rattle.starlark_cutting.proofs.KeptMoves.{BodyFits, not_inside, Fresh, fresh_body, Kept, kept, left, first_kept, stands_kept, lead_kept, measured_kept, blanks_kept, plain_kept}

-- ---- lines without a width

pub blank_kept : (p : Past) (rest more u v o : List ℕ) → p.fresh ≡ true → drop (leading rest) rest ≡ 10 ∷ more → rest ≡ u ++ v → leading rest + 1 ≤ length u
    → Step p (u ++ o) (gives p (leading rest) newline 1 (leading rest + 1) true (u ++ o))
blank_kept p rest more u v o f e is le =
    let s = stands_kept rest u v o 10 more is (omega (arith, le)) e in
    subst (λ k. Step p (u ++ o) (gives p k newline 1 (k + 1) true (u ++ o))) (lead_kept rest u v o is (omega (arith, le))) (rules.blank_line p (u ++ o) (s.0 ++ o) f s.1.1.1)

abbrev pub remark_len : List ℕ → List ℕ → ℕ
remark_len rest more = leading rest + (1 + line_len more) + line_end (drop (line_len more) more)

pub remark_kept : (p : Past) (rest more u v o : List ℕ) → p.fresh ≡ true → drop (leading rest) rest ≡ 35 ∷ more → rest ≡ u ++ v → remark_len rest more ≤ length u → remark_len rest more < length rest
    → Step p (u ++ o) (gives p (leading rest) (comment (take (line_len more) more)) (1 + line_len more) (remark_len rest more) true (u ++ o))
remark_kept p rest more u v o f e is le lt =
    let l = leading rest in
    let n = line_len more in
    let below : l < length u = omega (arith, le) in
    let s = stands_kept rest u v o 35 more is below e in
    let w = s.0 in
    let len : length u ≡ l + (1 + length w) = omega (arith, below, length-drop l u, ap length s.1.0) in
    let whole : length rest ≡ l + (1 + length more) = omega (arith, below, len, ap length is, length-append u v, ap length s.1.1.0, length-append w v) in
    let same : more ≡ w ++ v = s.1.1.0 in
    let r = full_kept w v o (subst (λ m. line_len m < length m) same (omega (arith, whole, lt)))
    (subst (λ m. line_len m + line_end (drop (line_len m) m) ≤ length w) same (omega (arith, le, len))) in
    let en : line_len (w ++ o) ≡ n = r.0 ∙ sym (ap line_len same) in
    let ez : line_end (drop (line_len (w ++ o)) (w ++ o)) ≡ line_end (drop n more) = ap (λ k. line_end (drop k (w ++ o))) r.0 ∙ r.1 ∙ sym (ap (λ m. line_end (drop (line_len m) m)) same) in
    let fits : n ≤ length w = omega (arith, le, len) in
    let et : take (line_len (w ++ o)) (w ++ o) ≡ take n more = ap (λ k. take k (w ++ o)) en ∙ take_kept more w v o n same fits in
    let el = lead_kept rest u v o is below in
    subst (Step p (u ++ o)) (λ i. gives p (el i) (comment (et i)) (1 + en i) (el i + (1 + en i) + ez i) true (u ++ o)) (rules.remark_line p (u ++ o) (w ++ o) f s.1.1.1)

-- ---- comments behind lexemes

pub inline_kept : (p : Past) (rest w v o : List ℕ) → p.fresh ≡ false → is_inside p.mode ≡ false → rest ≡ w ++ v → line_len rest ≤ length w → Holds (drop (line_len rest) w)
    → Step p (35 ∷ w ++ o) (gives p 0 (comment (take (line_len rest) rest)) (1 + line_len rest) (1 + line_len rest) false (35 ∷ w ++ o))
inline_kept p rest w v o f c is le h =
    let n = line_len rest in
    let en : line_len (w ++ o) ≡ n = len_kept w v o (subst (λ r. Holds (drop (line_len r) w)) is h) ∙ ap line_len (sym is) in
    let et : take (line_len (w ++ o)) (w ++ o) ≡ take n rest = ap (λ k. take k (w ++ o)) en ∙ take_kept rest w v o n is le in
    subst (Step p (35 ∷ w ++ o)) (λ i. gives p 0 (comment (et i)) (1 + en i) (1 + en i) false (35 ∷ w ++ o)) (rules.remark p (w ++ o) f c)

-- ---- texts of f-strings

-- the text that ends k bytes on ends within what is kept, as what is left of it does
closed_fits : (b : ℕ) (g : Form) (rest u v : List ℕ) (k : ℕ) → rest ≡ u ++ v → k ≤ length u → body g 0 rest ≡ ending.Closed k → BodyFits (rules.inside b g) (drop k u) v → Fits g 0 u (ending.Closed k)
closed_fits b g rest u v k is le e h =
    let once : body g 0 (drop k u ++ v) ≡ ending.Closed 0 = ap (body g 0) (sym (drop-append-le k u v le)) ∙ ap (λ r. body g 0 (drop k r)) (sym is) ∙ body_once g rest (ending.Closed k) tt e in
    let fits : Fits g 0 (drop k u) (ending.Closed 0) = subst (Fits g 0 (drop k u)) (sym h.1.0 ∙ once) h.1.1 in
    omega (arith, fits, le, length-drop k u)

field_fits : (b : ℕ) (g : Form) (rest u v : List ℕ) (k : ℕ) → rest ≡ u ++ v → k ≤ length u → body g 0 rest ≡ ending.Field k → BodyFits (rules.inside b g) (drop k u) v → Fits g 0 u (ending.Field k)
field_fits b g rest u v k is le e h =
    let once : body g 0 (drop k u ++ v) ≡ ending.Field 0 = ap (body g 0) (sym (drop-append-le k u v le)) ∙ ap (λ r. body g 0 (drop k r)) (sym is) ∙ body_once g rest (ending.Field k) tt e in
    let fits : Fits g 0 (drop k u) (ending.Field 0) = subst (Fits g 0 (drop k u)) (sym h.1.0 ∙ once) h.1.1 in
    omega (arith, fits, le, length-drop k u)

text_kept : (p : Past) (b : ℕ) (g : Form) (rest u v o : List ℕ) (k : ℕ) (e : Ending) → p.fresh ≡ false → p.mode ≡ rules.inside b g → 0 < k → rest ≡ u ++ v → k ≤ length u → body g 0 rest ≡ e → Fits g 0 u e
    → ((w : List ℕ) → body g 0 w ≡ e → (body g 0 w ≡ ending.Closed k) ⊎ (body g 0 w ≡ ending.Field k))
    → BodyFits p.mode u v × Step p (u ++ o) (gives p 0 (fstring_text (value g (take k rest))) k k false (u ++ o))
text_kept p b g rest u v o k e f c some is le has fits ends =
    let here : body g 0 (u ++ v) ≡ e = ap (body g 0) (sym is) ∙ has in
    let cut : take k (u ++ o) ≡ take k rest = take_kept rest u v o k is le in (
      subst (λ m. BodyFits m u v) (sym c) (e, (here, fits)),
      subst (λ w. Step p (u ++ o) (gives p 0 (fstring_text (value g w)) k k false (u ++ o))) cut
          (rules.texts p b g (u ++ o) k f c some (ends (u ++ o) (body_same g u v o e fits here))),
    )

-- the mode behind the text
behind_inside : (p : Past) (x : Lexeme) (b : ℕ) (g : Form) (u v : List ℕ) → p.mode ≡ rules.inside b g → BodyFits (mode_behind p.mode x) u v → BodyFits (rules.inside b g) u v
behind_inside p x b g u v c h = subst (λ m. BodyFits (mode_behind m x) u v) c h

pub leaves_kept : (p : Past) (b : ℕ) (g : Form) (rest u v o : List ℕ) → p.fresh ≡ false → p.mode ≡ rules.inside b g → body g 0 rest ≡ ending.Closed 0 → rest ≡ u ++ v → quotes g.quote ≤ length u
    → BodyFits p.mode u v × Step p (u ++ o) (turns p fstring_end (quotes g.quote) (below p.outer) (drop 1 p.outer) (u ++ o))
leaves_kept p b g rest u v o f c e is le =
    let here : body g 0 (u ++ v) ≡ ending.Closed 0 = ap (body g 0) (sym is) ∙ e in
    let room : Fits g 0 u (ending.Closed 0) = omega (arith, le) in
    (subst (λ m. BodyFits m u v) (sym c) (ending.Closed 0, (here, room)), rules.leaves p b g (u ++ o) f c (body_same g u v o (ending.Closed 0) room here))

-- ---- literals

-- a literal that is plain and opens where o stands behind what is kept
pub literal_step : (p : Past) (rest u w o : List ℕ) (n : ℕ) (g : Form) (k : ℕ) → rules.IsPlain p (u ++ o) → IsLexeme (u ++ o) n (opens g) → is_format g.sort ≡ false → body g 0 (drop n rest) ≡ ending.Closed k
    → rest ≡ u ++ w → n + k + quotes g.quote ≤ length u
    → Step p (u ++ o) (gives p 0 (literal_lexeme g.sort (value g (take k (drop n rest)))) (n + k + quotes g.quote) (n + k + quotes g.quote) false (u ++ o))
literal_step p rest u w o n g k v l t e is le =
    let short : n ≤ length u = omega (arith, le) in
    let cut : drop n rest ≡ drop n u ++ w = ap (drop n) is ∙ drop-append-le n u w short in
    let cut2 : drop n (u ++ o) ≡ drop n u ++ o = drop-append-le n u o short in
    let room : Fits g 0 (drop n u) (ending.Closed k) = omega (arith, le, length-drop n u) in
    let whole : body g 0 (drop n (u ++ o)) ≡ ending.Closed k = ap (body g 0) cut2 ∙ body_same g (drop n u) w o (ending.Closed k) room (ap (body g 0) (sym cut) ∙ e) in
    let few : k ≤ length (drop n u) = omega (arith, room) in
    let same : take k (drop n (u ++ o)) ≡ take k (drop n rest) = ap (take k) cut2 ∙ take_kept (drop n rest) (drop n u) w o k cut few in
    subst (λ x. Step p (u ++ o) (gives p 0 (literal_lexeme g.sort (value g x)) (n + k + quotes g.quote) (n + k + quotes g.quote) false (u ++ o))) same (rules.literal p (u ++ o) n g k v l t whole)

pub literal_kept : (p : Past) (rest u w o : List ℕ) (n : ℕ) (g : Form) (k : ℕ) → rules.IsPlain p rest → IsLexeme rest n (opens g) → is_format g.sort ≡ false → body g 0 (drop n rest) ≡ ending.Closed k
    → rest ≡ u ++ w → n + k + quotes g.quote ≤ length u → Barred u o → (1 < length u) ⊎ (p.mode ≡ rules.code)
    → Step p (u ++ o) (gives p 0 (literal_lexeme g.sort (value g (take k (drop n rest)))) (n + k + quotes g.quote) (n + k + quotes g.quote) false (u ++ o))
literal_kept p rest u w o n g k v l t e is le bar two =
    let plain = plain_kept p rest u w o n (opens g) v l tt is (omega (arith, le, l.nonempty)) two in
    literal_step p rest u w o n g k plain (lexeme_kept u w o n (opens g) (subst (λ r. IsLexeme r n (opens g)) is l) (omega (arith, le)) bar) t e is le

-- ---- step by step

abbrev pub Goes : Past → List ℕ → Move → Type 0
Goes p rest (on xs q more) = Kept p rest xs q more
Goes p rest (over l) = Unit {0}

pub goes : {p : Past} {rest : List ℕ} {m : Move} → Step p rest m → Fresh p → Goes p rest m
goes (rules.blank_line p rest more f e) h =
    kept p rest _ _ (leading rest + 1) refl (omega (arith, ap length e, length-drop (leading rest) rest))
    (λ u v o is le at bar. (fresh_body p u v h f, blank_kept p rest more u v o f e is le))
goes (rules.remark_line p rest more f e) h =
    let q : Past = record { place = p.place + remark_len rest more; items = recorded p.mode (item (p.place + leading rest) (comment (take (line_len more) more)) (p.place + leading rest + (1 + line_len more))) p.items; lines = p.lines; fresh = true; mode = mode_behind p.mode (comment (take (line_len more) more)); outer = p.outer } in
    kept p rest _ q (remark_len rest more) refl (remark_fits rest more e)
    (λ u v o is le at bar. (fresh_body p u v h f, remark_kept p rest more u v o f e is le (omega (arith, left q (remark_len rest more) u v at, ap length is, length-append u v))))
  where
    remark_fits : (rest more : List ℕ) → drop (leading rest) rest ≡ 35 ∷ more → remark_len rest more ≤ length rest
    remark_fits rest more e = omega (arith, ap length e, length-drop (leading rest) rest, line_len_within more, line_end_within (drop (line_len more) more), length-drop (line_len more) more)
goes (rules.last_line p rest closed f e c) h = tt
goes (rules.tabbed p rest m t) h = tt
goes (rules.deepens p rest m t d) h =
    let w = width rest in
    let k = leading rest in
    let it : Item = item p.place indent (p.place + k) in
    let q : Past = record { place = p.place + k; items = it ∷ p.items; lines = w ∷ p.lines; fresh = false; mode = p.mode; outer = p.outer } in
    kept p rest (it ∷ []) q k refl (prefix_len-le-length is_blank rest)
    (λ u v o is le at bar.
    let lt = left q k u v at in
    let same = blanks_kept rest u v o is lt in
    let wide : width (u ++ o) ≡ w = ap (count_by (λ x. eqb x 32)) same in (
      fresh_body p u v h m.fresh,
      subst (λ j. Step p (u ++ o) (deepened p w j (u ++ o))) (lead_kept rest u v o is lt)
          (subst (λ x. Step p (u ++ o) (deepened p x (leading (u ++ o)) (u ++ o))) wide
          (rules.deepens p (u ++ o) (measured_kept p rest u v o m is lt) (ap has_tab same ∙ t) (subst (IsDeeper p.lines) (sym wide) d))),
    ))
goes (rules.fits p rest closed m t n c) h =
    let w = width rest in
    let k = leading rest in
    let them = dedents p.place (length closed) in
    let q : Past = record { place = p.place + k; items = them ++ p.items; lines = w ∷ p.lines; fresh = false; mode = p.mode; outer = p.outer } in
    kept p rest them q k refl (prefix_len-le-length is_blank rest)
    (λ u v o is le at bar.
    let lt = left q k u v at in
    let same = blanks_kept rest u v o is lt in
    let wide : width (u ++ o) ≡ w = ap (count_by (λ x. eqb x 32)) same in (
      fresh_body p u v h m.fresh,
      subst (λ j. Step p (u ++ o) (fitted p w (length closed) j (u ++ o))) (lead_kept rest u v o is lt)
          (subst (λ x. Step p (u ++ o) (fitted p x (length closed) (leading (u ++ o)) (u ++ o))) wide
          (rules.fits p (u ++ o) closed (measured_kept p rest u v o m is lt) (ap has_tab same ∙ t) (subst (IsOpen p.lines) (sym wide) n) (subst (λ x. Closes p.lines x closed) (sym wide) c))),
    ))
goes (rules.misfits p rest m t d o) h = tt
goes (rules.passes p b rest f c d) h =
    kept p (b ∷ rest) [] (moved p 1) 1 refl (omega arith)
    (λ u v o is le at bar.
    let s = first_kept b rest u v is le in
    (not_inside p.mode u v c, subst (λ w. Step p (w ++ o) (on [] (moved p 1) (drop 1 (w ++ o)))) (sym s.1.0) (rules.passes p b (s.0 ++ o) f c d)))
goes (rules.escapes p rest f c d) h =
    kept p rest [] (moved p (escaped rest)) (escaped rest) refl (escaped_most rest)
    (λ u v o is le at bar.
    let same : escaped (u ++ o) ≡ escaped rest = escaped_kept u v o (omega (arith, d, ap escaped is)) (omega (arith, le, ap escaped is)) ∙ ap escaped (sym is) in
    (not_inside p.mode u v c, subst (λ k. Step p (u ++ o) (on [] (moved p k) (drop k (u ++ o)))) same (rules.escapes p (u ++ o) f c (omega (arith, same, d)))))
goes (rules.joins p rest f d) h =
    kept p (10 ∷ rest) [] (moved p 1) 1 refl (omega arith)
    (λ u v o is le at bar.
    let s = first_kept 10 rest u v is le in
    (joined_body p u v d, subst (λ w. Step p (w ++ o) (on [] (moved p 1) (drop 1 (w ++ o)))) (sym s.1.0) (rules.joins p (s.0 ++ o) f d)))
  where
    joined_body : (p : Past) (u v : List ℕ) → rules.IsJoined p → BodyFits p.mode u v
    joined_body p u v (inl (b, g, bs, e)) = subst (λ m. BodyFits m u v) (sym e) tt
    joined_body p u v (inr (e, odd)) = subst (λ m. BodyFits m u v) (sym e) tt
goes (rules.ends_line p rest f c d) h =
    kept p (10 ∷ rest) _ _ 1 refl (omega arith)
    (λ u v o is le at bar.
    let s = first_kept 10 rest u v is le in
    (subst (λ m. BodyFits m u v) (sym c) tt, subst (λ w. Step p (w ++ o) (gives p 0 newline 1 1 true (w ++ o))) (sym s.1.0) (rules.ends_line p (s.0 ++ o) f c d)))
goes (rules.remark p rest f c) h =
    let n = line_len rest in
    kept p (35 ∷ rest) _ _ (1 + n) refl (omega (arith, line_len_within rest))
    (λ u v o is le at bar.
    let s = first_kept 35 rest u v is (omega (arith, le)) in
    let short : n ≤ length s.0 = omega (arith, le, ap length s.1.0) in
    let e : 1 + n ≡ suc n = omega arith in
    let hold : Holds (drop n s.0) = subst Holds (ap (λ k. drop k u) e ∙ ap (drop (suc n)) s.1.0) at.holds in
    (not_inside p.mode u v c, subst (λ w. Step p (w ++ o) (gives p 0 (comment (take n rest)) (1 + n) (1 + n) false (w ++ o))) (sym s.1.0) (inline_kept p rest s.0 v o f c s.1.1 short hold)))
goes (rules.lexeme p rest n x v l) h =
    let q : Past = record { place = p.place + n; items = recorded p.mode (item (p.place + 0) x (p.place + 0 + n)) p.items; lines = p.lines; fresh = false; mode = mode_behind p.mode x; outer = p.outer } in
    kept p rest _ q n refl l.within
    (λ u w o is le at bar.
    let lt = left q n u w at in
    let some = l.nonempty in
    (not_inside p.mode u w v.outside, rules.lexeme p (u ++ o) n x (plain_kept p rest u w o n (token x) v l tt is (omega (arith, lt)) (inl (omega (arith, lt, some)))) (lexeme_kept u w o n (token x) (subst (λ r. IsLexeme r n (token x)) is l) le bar)))
goes (rules.faults p rest n e v l) h = tt
goes (rules.ends_text p closed f c d) h = tt
goes (rules.literal p rest n g k v l t e) h =
    let fits : k + quotes g.quote ≤ length (drop n rest) = inside g (drop n rest) (ending.Closed k) e in
    let x = literal_lexeme g.sort (value g (take k (drop n rest))) in
    let j = n + k + quotes g.quote in
    let q : Past = record { place = p.place + j; items = recorded p.mode (item (p.place + 0) x (p.place + 0 + j)) p.items; lines = p.lines; fresh = false; mode = mode_behind p.mode x; outer = p.outer } in
    kept p rest _ q j refl (omega (arith, fits, length-drop n rest, l.within))
    (λ u w o is le at bar. (not_inside p.mode u w v.outside, literal_kept p rest u w o n g k v l t e is le bar (inl (omega (arith, left q j u w at, l.nonempty)))))
goes (rules.unclosed p rest n g k v l t e) h = tt
goes (rules.misspelt p rest n g k m v l t e) h = tt
goes (rules.enters p rest n g v l t) h =
    let q : Past = record { place = p.place + n; items = p.items; lines = p.lines; fresh = false; mode = rules.inside p.place g; outer = p.mode ∷ p.outer } in
    kept p rest _ q n refl l.within
    (λ u w o is le at bar.
    let lt = left q n u w at in
    let some = l.nonempty in
    (not_inside p.mode u w v.outside, rules.enters p (u ++ o) n g (plain_kept p rest u w o n (opens g) v l tt is (omega (arith, lt)) (inl (omega (arith, lt, some)))) (lexeme_kept u w o n (opens g) (subst (λ r. IsLexeme r n (opens g)) is l) le bar) t))
goes (rules.texts p b g rest k f c some (inl e)) h =
    let fits : k + quotes g.quote ≤ length rest = inside g rest (ending.Closed k) e in
    kept p rest _ _ k refl (omega (arith, fits))
    (λ u v o is le at bar. text_kept p b g rest u v o k (ending.Closed k) f c some is le e (closed_fits b g rest u v k is le e (behind_inside p _ b g (drop k u) v c at.body)) (λ w r. inl r))
goes (rules.texts p b g rest k f c some (inr e)) h =
    let fits : k + 1 ≤ length rest = inside g rest (ending.Field k) e in
    kept p rest _ _ k refl (omega (arith, fits))
    (λ u v o is le at bar. text_kept p b g rest u v o k (ending.Field k) f c some is le e (field_fits b g rest u v k is le e (behind_inside p _ b g (drop k u) v c at.body)) (λ w r. inr r))
goes (rules.leaves p b g rest f c e) h =
    let fits : 0 + quotes g.quote ≤ length rest = inside g rest (ending.Closed 0) e in
    kept p rest _ _ (quotes g.quote) refl (omega (arith, fits))
    (λ u v o is le at bar. leaves_kept p b g rest u v o f c e is le)
goes (rules.opens_field p b g rest f c e) h =
    let q : Past = record { place = p.place + 1; items = p.items; lines = p.lines; fresh = false; mode = rules.field b g []; outer = p.outer } in
    let fits : 0 + 1 ≤ length rest = inside g rest (ending.Field 0) e in
    kept p rest _ q 1 refl (omega (arith, fits))
    (λ u v o is le at bar.
    let here : body g 0 (u ++ v) ≡ ending.Field 0 = ap (body g 0) (sym is) ∙ e in
    let room : Fits g 0 u (ending.Field 0) = omega (arith, left q 1 u v at) in
    (subst (λ m. BodyFits m u v) (sym c) (ending.Field 0, (here, room)), rules.opens_field p b g (u ++ o) f c (body_same g u v o (ending.Field 0) room here)))
goes (rules.unfinished p b g rest k f c e) h = tt
goes (rules.misspells p b g rest k m f c e) h = tt
goes (rules.shuts p b g bs rest f c d) h =
    kept p (125 ∷ rest) _ _ 1 refl (omega arith)
    (λ u v o is le at bar.
    let s = first_kept 125 rest u v is le in
    (subst (λ m. BodyFits m u v) (sym c) tt, subst (λ w. Step p (w ++ o) (turns p fstring_expr_end 1 (rules.inside b g) p.outer (w ++ o))) (sym s.1.0) (rules.shuts p b g bs (s.0 ++ o) f c d)))
goes (rules.bangs p b g bs rest f c d e) h =
    let q : Past = record { place = p.place + 1; items = recorded p.mode (item (p.place + 0) fstring_bang (p.place + 0 + 1)) p.items; lines = p.lines; fresh = false; mode = mode_behind p.mode fstring_bang; outer = p.outer } in
    kept p (33 ∷ rest) _ q 1 refl (omega arith)
    (λ u v o is le at bar.
    let s = first_kept 33 rest u v is le in
    let two : 1 < length (33 ∷ s.0) = omega (arith, left q 1 u v at, ap length s.1.0) in (
      subst (λ m. BodyFits m u v) (sym c) tt,
      subst (λ w. Step p (w ++ o) (gives p 0 fstring_bang 1 1 false (w ++ o))) (sym s.1.0)
          (rules.bangs p b g bs (s.0 ++ o) f c d (closes_kept (33 ∷ s.0) v o two ∙ ap (λ r. closes_field (33 ∷ r)) (sym s.1.1) ∙ e)),
    ))
