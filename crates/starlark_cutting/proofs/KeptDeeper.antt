-- A deeper line that is put behind a text where a line begins.
use Rattle.std.proofs.Common.{◌≡◌, ℕ, ◌+◌, true, false, cond, List, [], ◌∷◌, ◌++◌, length, take, drop, refl, ap, sym, ◌∙◌, arith, subst}
use Rattle.std.specs.List.{list_all}
use Rattle.std.proofs.Math.Seq.{take-append_seam, drop-append_seam}
use Rattle.starlark_lexer.specs.Items.{Item, item, Lexed, nothing, newline, indent, keyword_pass, dedents, with_items, opening_item, closing_item}
use Rattle.starlark_lexer.specs.Widths.{IsDeeper, Closes}
use Rattle.starlark_lexer.specs.Classes.{token, IsLexeme, is_blank, leading, blanks, has_tab, spaces, width}
use Rattle.starlark_lexer.specs.Lex.{Past, Step, Lex, on, goes_on, start, deepened, recorded, mode_behind, IsMeasured, IsBalanced}
use Rattle.starlark_lexer.specs.Lex as rules
use Rattle.starlark_cutting.specs.Cutting.{IsIndented, filled_line, indent_item}
use Rattle.starlark_lexer.specs.Joining.{dedent_item}
use Rattle.std.proofs.lemmas.List.Sums.{sum_by-append}
use Rattle.starlark_lexer.proofs.JoinedOn.{count_cons}
use Rattle.starlark_lexer.proofs.Widths.{no_lines}
use Rattle.starlark_cutting.proofs.KeptLines.{Stops}
use Rattle.starlark_cutting.proofs.KeptTracks.{tracks}
use Rattle.starlark_cutting.proofs.KeptCut.{both_tracks}
use Rattle.starlark_cutting.proofs.KeptPuts.{Among, alone_lexeme, among_plain, end_line, counted}
use Rattle.starlark_cutting.proofs.KeptSpelled.{a_pass}
use Rattle.starlark_cutting.proofs.KeptFresh.{Begun}
use Rattle.starlark_cutting.proofs.KeptFeeds.{lead_before}

-- ---- a lexeme right at the place

abbrev pub pass_bytes : List ℕ
pass_bytes = 112 ∷ 97 ∷ 115 ∷ 115 ∷ []

abbrev pass_past : Past → Past
pass_past p = record { place = p.place + 4; items = recorded p.mode (item (p.place + 0) keyword_pass (p.place + 0 + 4)) p.items; lines = p.lines; fresh = false; mode = mode_behind p.mode keyword_pass; outer = p.outer }

pass_put : (p : Past) (o : List ℕ) (m : Lexed) → Among p → Stops o → Lex (pass_past p) o m → Lex p (pass_bytes ++ o) (with_items (item (p.place + 0) keyword_pass (p.place + 0 + 4) ∷ []) m)
pass_put p o m a stop d =
    let l : IsLexeme (pass_bytes ++ o) 4 (token keyword_pass) = alone_lexeme pass_bytes o keyword_pass (omega arith) a_pass stop in
    goes_on p (pass_bytes ++ o) _ (pass_past p) o m (rules.lexeme p (pass_bytes ++ o) 4 keyword_pass (among_plain p pass_bytes o 4 keyword_pass a (omega arith) l) l) d

-- the rest of the line and of the text
pub pass_line : (p : Past) (still : List ℕ) → Among p → IsBalanced p → Closes p.lines 0 still → Lex p (pass_bytes ++ 10 ∷ []) (filled_line p.place (length still))
pass_line p still a even shut =
    let k = length still in
    let r = pass_past p in
    let among : Among r = record { fresh = refl; mode = ap (λ m. mode_behind m keyword_pass) a.mode } in
    let it : Item = item (p.place + 0) keyword_pass (p.place + 0 + 4) in
    let level : IsBalanced r = omega (arith, even, counted opening_item p.mode it p.items a.mode, counted closing_item p.mode it p.items a.mode) in
    let d = pass_put p (10 ∷ []) _ a refl (end_line r still among level shut) in
    let e : p.place + 0 ≡ p.place = omega arith in
    let f : p.place + 4 + 0 ≡ p.place + 4 = omega arith in
    let g : p.place + 4 + 1 + 0 ≡ p.place + 4 + 1 = omega arith in
    subst (λ l. Lex p (pass_bytes ++ 10 ∷ []) l) (λ i. with_items (item (e i) keyword_pass (e i + 4) ∷ item (f i) newline (f i + 1) ∷ item (g i) newline (g i) ∷ dedents (g i) k) nothing) d

-- ---- the line

pub measured : (q : Past) → q.fresh ≡ true → (bs r : List ℕ) → list_all is_blank bs ≡ true → IsMeasured q (bs ++ 112 ∷ r)
measured q f bs r blank = record {
  fresh = f;
  first = 112;
  more = r;
  stands = ap (λ k. drop k (bs ++ 112 ∷ r)) (lead_before bs 112 r refl blank) ∙ drop-append_seam bs (112 ∷ r);
  not_line = λ e. omega (arith, e);
  not_remark = λ e. omega (arith, e);
}

pub same_blanks : (bs r : List ℕ) → list_all is_blank bs ≡ true → blanks (bs ++ 112 ∷ r) ≡ bs
same_blanks bs r blank = ap (λ k. take k (bs ++ 112 ∷ r)) (lead_before bs 112 r refl blank) ∙ take-append_seam bs (112 ∷ r)

module _ (u : List ℕ) (xs : List Item) (q : Past) (b : Begun u xs q) (bs : List ℕ) (blank : list_all is_blank bs ≡ true) (tab : has_tab bs ≡ false) (deep : IsDeeper q.lines (spaces bs)) where
  abbrev n : ℕ
  n = length bs

  abbrev deep_item : Item
  deep_item = item q.place indent (q.place + n)

  abbrev deep_past : Past
  deep_past = record { place = q.place + n; items = deep_item ∷ q.items; lines = spaces bs ∷ q.lines; fresh = false; mode = q.mode; outer = q.outer }

  deep_step : (r : List ℕ) → Step q (bs ++ 112 ∷ r) (on (deep_item ∷ []) deep_past (112 ∷ r))
  deep_step r =
      let rest = bs ++ 112 ∷ r in
      let w : width rest ≡ spaces bs = ap spaces (same_blanks bs r blank) in
      let s = rules.deepens q rest (measured q b.begins.fresh bs r blank) (ap has_tab (same_blanks bs r blank) ∙ tab) (subst (IsDeeper q.lines) (sym w) deep) in
      let t : Step q rest (deepened q (spaces bs) (leading rest) rest) = subst (λ k. Step q rest (deepened q k (leading rest) rest)) w s in
      let v : Step q rest (deepened q (spaces bs) n rest) = subst (λ k. Step q rest (deepened q (spaces bs) k rest)) (lead_before bs 112 r refl blank) t in
      subst (λ k. Step q rest (on (deep_item ∷ []) deep_past k)) (drop-append_seam bs (112 ∷ r)) v

  deep_among : Among deep_past
  deep_among = record { fresh = refl; mode = b.begins.mode }

  pub deepened_text : IsIndented u bs xs
  deepened_text =
      let p = deep_past in
      let step = deep_step (97 ∷ 115 ∷ 115 ∷ 10 ∷ []) in
      let t = both_tracks start xs q (deep_item ∷ []) p b.tracks (tracks step b.tracks.nest b.tracks.fresh) in
      let w = t.widths [] no_lines in
      let even : IsBalanced p = omega (arith, b.begins.even, count_cons opening_item deep_item q.items, count_cons closing_item deep_item q.items) in
      let shut : Closes p.lines 0 w.still = record { once = w.stack.once; each = λ x. w.stack.each x } in
      record {
        begin = q.place;
        place = p.place;
        count = length w.still;
        layout = omega (arith, w.count, sum_by-append (λ y. cond (indent_item y) 1 0) xs (deep_item ∷ []), sum_by-append (λ y. cond (dedent_item y) 1 0) xs (deep_item ∷ []));
        lex = b.lex (bs ++ (pass_bytes ++ 10 ∷ [])) _ (goes_on q (bs ++ (pass_bytes ++ 10 ∷ [])) (deep_item ∷ []) p (pass_bytes ++ 10 ∷ []) _ step (pass_line p w.still deep_among even shut));
      }
