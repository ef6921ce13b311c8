-- A text that is cut off behind its end goes on with a line feed or two, the last of which is a line end.
use Rattle.std.proofs.Common.{◌≡◌, ◌<◌, ℕ, ◌+◌, true, false, List, [], ◌∷◌, ◌++◌, length, take, drop, refl, ap, sym, ◌∙◌, arith, suc, inl, inr, subst, append_assoc, length-append, length-drop, IsAscii}
use Rattle.std.proofs.Math.Seq.{drop-append_seam}
use Rattle.std.proofs.lemmas.Bool.{cases_lt, false≢true}
use Rattle.std.proofs.lemmas.List.{append-nil, drop-append-le, nil_from_length}
use Rattle.std.proofs.lemmas.Str.Ascii.{IsAscii-nil, IsAscii-push}
use Rattle.starlark_lexer.specs.Items.{newline, comment, is_opening, is_closing, Item, item, with_items, opening_item, closing_item}
use Rattle.starlark_lexer.specs.Classes.{leading, line_len, line_end}
use Rattle.starlark_lexer.specs.Widths.{Closes}
use Rattle.starlark_lexer.specs.Lex.{Past, Step, Lex, on, recorded, mode_behind, is_inside, IsBalanced, goes_on, start}
use Rattle.starlark_lexer.specs.Lex as rules
use Rattle.starlark_lexer.specs.Joining.{nested, open_behind}
use Rattle.starlark_cutting.specs.Cutting.{tokens_of, EvenWith, IsCutAt, IsContinued}
use Rattle.starlark_lexer.proofs.Widths.{no_lines}
use Rattle.starlark_lexer.proofs.Joined.{nest_code, none_counted, open_append}
use Rattle.starlark_lexer.proofs.JoinedLines.{leading_more}
use Rattle.starlark_cutting.proofs.KeptMoves.{At, not_inside}
use Rattle.starlark_cutting.proofs.KeptSteps.{goes}
use Rattle.starlark_cutting.proofs.KeptTracks.{Tracks, tracks}
use Rattle.starlark_cutting.proofs.KeptCut.{joint_items, both_tracks, outside_counted}
use Rattle.starlark_cutting.proofs.KeptPuts.{counted}
use Rattle.starlark_cutting.proofs.KeptRemarks.{whole_len}
use Rattle.starlark_cutting.proofs.KeptReach.{Reach, one_more, find, far_reach}
use Rattle.starlark_cutting.proofs.KeptFresh.{Begun, begun, begun_lines, nothing_yet}
use Rattle.starlark_cutting.proofs.KeptGiven.{given}
use Rattle.starlark_cutting.proofs.KeptIndents.{passed}
use Rattle.starlark_cutting.proofs.KeptFeeds.{all_blank, blank_all, stops_blank, fed, fed_left, fed_whole, whole_kept}
use Rattle.starlark_cutting.proofs.KeptFront.{fronts, all_tracks, LastStep, last_step}
use Rattle.starlark_cutting.proofs.KeptContinued.{tokens_append, tokens_line, same_tokens, fed_lexed, feed_within, feed_line, continued}
use Rattle.starlark_cutting.proofs.KeptTail.{Solid, firm, remarked, Tail, tail}
use Rattle.starlark_cutting.proofs.KeptLast.{AtEnd, begins, within, closing, Begins, line, remark, begins_last}

-- the widths that are open
shut : (xs : List Item) (q : Past) → Tracks start xs q → (closed : List ℕ) × Closes q.lines 0 closed
shut xs q t = let w = t.widths [] no_lines in (w.still, record { once = w.stack.once; each = λ x. w.stack.each x })

no_cr : (c : List ℕ) → 35 ∷ c ≡ 13 ∷ [] → ⊥
no_cr c e = let s : ◌≡◌ {A = ℕ} 35 13 = cc in omega (arith, s)

line_feed : IsAscii (10 ∷ [])
line_feed = IsAscii-push [] 10 IsAscii-nil (omega arith)

-- ---- where a line begins

module _ (u : List ℕ) (z : Item) (is_end : z.lexeme ≡ newline) where
  line_continued : (w left : List ℕ) (xs : List Item) (q : Past) → Begun w xs q → u ≡ w ++ left → all_blank left ≡ true → IsContinued u (xs ++ z ∷ [])
  line_continued w left xs q b is blank =
      let n = length u in
      let s = shut xs q b.tracks in
      let d = feed_line left q s.0 n (omega (arith, ap length is, length-append w left, b.place)) b.begins.fresh s.1 blank in
      let here : w ++ (left ++ 10 ∷ []) ≡ u ++ 10 ∷ [] = sym (append_assoc w left (10 ∷ [])) ∙ ap (λ y. y ++ 10 ∷ []) (sym is) in
      let a : Item = item n newline (n + 1) in
      continued u (10 ∷ []) xs (xs ++ z ∷ []) n (length s.0) line_feed (subst (λ t. Lex start t (with_items xs (fed_lexed n (length s.0)))) here (b.lex (left ++ 10 ∷ []) _ d)) (omega (arith, length-append u (10 ∷ [])))
      (tokens_append xs (a ∷ []) ∙ ap (λ y. tokens_of xs ++ y) (tokens_line a refl ∙ sym (tokens_line z is_end)) ∙ sym (tokens_append xs (z ∷ [])))

  -- behind a comment that ends with the text
  remark_continued : (w bytes c o : List ℕ) (xs ys : List Item) (p : Past) → IsAscii o → Begun w xs p → u ≡ w ++ bytes → drop (leading bytes) bytes ≡ 35 ∷ c → tokens_of ys ≡ [] → whole_len (c ++ (o ++ 10 ∷ [])) ≡ length c + length o
      → IsContinued u ((xs ++ ys) ++ z ∷ [])
  remark_continued w bytes c o xs ys p ascii b is e none whole =
      let more = o ++ 10 ∷ [] in
      let rest = bytes ++ more in
      let t = c ++ more in
      let j = line_len t in
      let k = leading rest + (1 + j) + line_end (drop j t) in
      let n = length u + length o in
      let lead : leading rest ≡ leading bytes = leading_more bytes more c 35 e in
      let len : length bytes ≡ leading bytes + (1 + length c) = omega (arith, ap length e, length-drop (leading bytes) bytes) in
      let stands : drop (leading rest) rest ≡ 35 ∷ t = ap (λ i. drop i rest) lead ∙ drop-append-le (leading bytes) bytes more (omega (arith, len)) ∙ ap (λ r. r ++ more) e in
      let all : k ≡ length (bytes ++ o) = omega (arith, lead, len, whole, length-append bytes o) in
      let left : drop k rest ≡ 10 ∷ [] = ap (λ y. drop k y) (sym (append_assoc bytes o (10 ∷ []))) ∙ ap (λ i. drop i ((bytes ++ o) ++ 10 ∷ [])) all ∙ drop-append_seam (bytes ++ o) (10 ∷ []) in
      let x = comment (take j t) in
      let it : Item = item (p.place + leading rest) x (p.place + leading rest + (1 + j)) in
      let q : Past = record { place = p.place + k; items = recorded p.mode it p.items; lines = p.lines; fresh = true; mode = mode_behind p.mode x; outer = p.outer } in
      let step : Step p rest (on (it ∷ []) q (10 ∷ [])) = subst (λ y. Step p rest (on (it ∷ []) q y)) left (rules.remark_line p rest t b.begins.fresh stands) in
      let s = shut xs p b.tracks in
      let m = fed_lexed n (length s.0) in
      let d : Lex q (10 ∷ []) m = feed_line [] q s.0 n (omega (arith, all, b.place, ap length is, length-append w bytes, length-append bytes o)) refl s.1 refl in
      let g = b.lex rest _ (goes_on p rest (it ∷ []) q (10 ∷ []) m step d) in
      let here : w ++ rest ≡ u ++ more = sym (append_assoc w bytes more) ∙ ap (λ y. y ++ more) (sym is) in
      continued u more (xs ++ it ∷ []) ((xs ++ ys) ++ z ∷ []) n (length s.0) (IsAscii-push o 10 ascii (omega arith)) (subst (Lex start (u ++ more)) (joint_items xs (it ∷ []) m) (subst (λ y. Lex start y (with_items xs (with_items (it ∷ []) m))) here g))
      (omega (arith, length-append u more, length-append o (10 ∷ [])))
      (same_tokens (it ∷ []) ys xs (item n newline (n + 1)) z (sym none) refl is_end)

  some_bytes : (bytes c : List ℕ) → drop (leading bytes) bytes ≡ 35 ∷ c → 0 < length bytes
  some_bytes bytes c e = omega (arith, ap length e, length-drop (leading bytes) bytes)

  by_begins : (xs : List Item) (q : Past) (r : Reach start u xs q []) (s : LastStep start u xs q []) → q.fresh ≡ true → Begins s.past s.bytes s.items → IsContinued u ((s.front ++ s.items) ++ z ∷ [])
  by_begins xs q r s fresh (line l) =
      let far = far_reach r (λ _. refl) tt in
      let b = begun_lines (one_more s.reach s.step fresh l) u [] (sym (append-nil u)) (omega (arith, far.1.0)) in
      line_continued u [] (s.front ++ s.items) q b (sym (append-nil u)) refl
  by_begins xs q r s fresh (remark c f e none len) =
      let w = passed s.reach (λ _. refl) tt in
      let b = begun s.reach f (some_bytes s.bytes c e) w.0 s.bytes w.1.0 (omega (arith, w.1.1)) in
      let bytes : length s.bytes ≡ leading s.bytes + (1 + length c) = omega (arith, ap length e, length-drop (leading s.bytes) s.bytes) in
      let whole : whole_len c ≡ length c = omega (arith, len, bytes) in
      elim (cases_lt (line_len c) (length c)) [
        | inl lt ↦
            let kept = whole_kept c (10 ∷ []) lt (omega (arith, whole)) in
            remark_continued w.0 s.bytes c [] s.front s.items s.past IsAscii-nil b w.1.0 e none (omega (arith, kept, whole))
        | inr ge ↦
            let fed_all = fed_whole c (10 ∷ []) (fed c (10 ∷ []) (omega (arith, ge, whole))) in
            remark_continued w.0 s.bytes c (10 ∷ []) s.front s.items s.past line_feed b w.1.0 e none (omega (arith, fed_all))
      ]

  at_line : (xs : List Item) (q : Past) (left : List ℕ) → Reach start u xs q left → q.fresh ≡ true → leading left ≡ length left → IsContinued u (xs ++ z ∷ [])
  at_line xs q (b ∷ left) r fresh blank =
      let w = passed r (λ _. refl) tt in
      line_continued w.0 (b ∷ left) xs q (begun r fresh (omega arith) w.0 (b ∷ left) w.1.0 (omega (arith, w.1.1))) w.1.0 (blank_all (b ∷ left) blank)
  at_line xs q [] r fresh blank = elim (last_step r) [
    | inl e ↦ subst (λ y. IsContinued u (y ++ z ∷ [])) (sym e.0) (line_continued [] [] [] start nothing_yet (sym e.1.1) refl)
    | inr s ↦ subst (λ y. IsContinued u (y ++ z ∷ [])) (sym s.is) (by_begins xs q r s fresh (begins_last s.step fresh refl))
  ]

  -- ---- within a line

  by_solid : (xs : List Item) (t : Tail start u xs) → Solid t.past t.bytes t.items t.behind t.left → IsContinued u ((t.front ++ t.items) ++ z ∷ [])
  by_solid xs t (firm w is at step) =
      let f = fronts t.reach w t.left is at tt (λ _. refl) in
      let a = all_tracks t.reach tt (λ _. refl) in
      let far = far_reach t.reach (λ _. refl) tt in
      let k = goes t.step a.fresh in
      let le = k.le in
      let b = both_tracks start t.front t.past t.items t.behind a (tracks t.step a.nest a.fresh) in
      let s = shut (t.front ++ t.items) t.behind b in
      let n = length u in
      let o = t.left ++ 10 ∷ [] in
      let stops = stops_blank t.left t.blank in
      let m = fed_lexed n (length s.0) in
      let d : Lex t.behind o m = feed_within t.left t.behind s.0 n (omega (arith, k.place, far.1.0, le, ap length k.is, length-drop k.k t.bytes)) (record { fresh = t.fresh; mode = t.mode }) t.even s.1 t.blank in
      let g = f.1.1.lex o stops _ (goes_on t.past (w ++ o) t.items t.behind o m (step o stops) d) in
      let here : f.0 ++ o ≡ u ++ 10 ∷ [] = sym (append_assoc f.0 t.left (10 ∷ [])) ∙ ap (λ y. y ++ 10 ∷ []) (sym f.1.0) in
      continued u (10 ∷ []) (t.front ++ t.items) ((t.front ++ t.items) ++ z ∷ []) n (length s.0) line_feed
      (subst (Lex start (u ++ 10 ∷ [])) (joint_items t.front t.items m) (subst (λ y. Lex start y (with_items t.front (with_items t.items m))) here g))
      (omega (arith, length-append u (10 ∷ [])))
      (same_tokens t.items t.items t.front (item n newline (n + 1)) z refl refl is_end)
  by_solid xs t (remarked c is len fresh mode even none) =
      let p = t.past in
      let at : At p (35 ∷ c) [] = record { holds = record { some = omega arith; not_cr = no_cr c }; body = not_inside p.mode (35 ∷ c) [] (ap is_inside mode) } in
      let f = fronts t.reach (35 ∷ c) [] (is ∙ sym (append-nil (35 ∷ c))) at tt (λ _. refl) in
      let a = all_tracks t.reach tt (λ _. refl) in
      let far = far_reach t.reach (λ _. refl) tt in
      let s = shut t.front p a in
      let n = length u in
      let o = 10 ∷ [] in
      let g = fed c [] len in
      let j = line_len (c ++ o) in
      let x = comment (take j (c ++ o)) in
      let it : Item = item (p.place + 0) x (p.place + 0 + (1 + j)) in
      let q : Past = record { place = p.place + (1 + j); items = recorded p.mode it p.items; lines = p.lines; fresh = false; mode = mode_behind p.mode x; outer = p.outer } in
      let one : 1 + j ≡ suc j = omega arith in
      let left : drop (1 + j) (35 ∷ c ++ o) ≡ g.cr ++ o = ap (λ k. drop k (35 ∷ c ++ o)) one ∙ fed_left c [] g in
      let step : Step p (35 ∷ c ++ o) (on (it ∷ []) q (g.cr ++ o)) = subst (λ y. Step p (35 ∷ c ++ o) (on (it ∷ []) q y)) left (rules.remark p (c ++ o) fresh (ap is_inside mode)) in
      let m = fed_lexed n (length s.0) in
      let d : Lex q (g.cr ++ o) m = feed_within g.cr q s.0 n (omega (arith, g.len, far.1.0, ap length is, ap length g.is, length-append g.text g.cr)) (record { fresh = refl; mode = ap (λ y. mode_behind y x) mode })
      (omega (arith, even, counted opening_item p.mode it p.items mode, counted closing_item p.mode it p.items mode)) s.1 g.blank in
      let h = f.1.1.lex o refl _ (goes_on p (35 ∷ c ++ o) (it ∷ []) q (g.cr ++ o) m step d) in
      let here : f.0 ++ o ≡ u ++ o = ap (λ y. y ++ o) (sym (append-nil f.0) ∙ sym f.1.0) in
      continued u o (t.front ++ it ∷ []) ((t.front ++ t.items) ++ z ∷ []) n (length s.0) line_feed
      (subst (Lex start (u ++ o)) (joint_items t.front (it ∷ []) m) (subst (λ y. Lex start y (with_items t.front (with_items (it ∷ []) m))) here h))
      (omega (arith, length-append u o))
      (same_tokens (it ∷ []) t.items t.front (item n newline (n + 1)) z (sym none) refl is_end)

  at_within : (xs : List Item) (q : Past) → Reach start u xs q [] → q.fresh ≡ false → q.mode ≡ rules.code → IsBalanced q → IsContinued u (xs ++ z ∷ [])
  at_within xs q r fresh mode even = elim (tail r refl fresh mode even) [
    | inl run ↦ absurd (false≢true (sym run.fresh))
    | inr t ↦ subst (λ y. IsContinued u (y ++ z ∷ [])) (sym t.is) (by_solid xs t t.solid)
  ]

-- ---- the text's end

module _ (u : List ℕ) (xs : List Item) (z : Item) (is_end : z.lexeme ≡ newline) (closed : open_behind 0 (xs ++ z ∷ []) ≡ 0) (even : EvenWith (xs ++ z ∷ []) []) where
  closed_before : open_behind 0 xs ≡ 0
  closed_before = ap (nested (open_behind 0 xs)) (sym is_end) ∙ sym (open_append 0 xs (z ∷ [])) ∙ closed

  by_end : (q : Past) (left : List ℕ) → Reach start u xs q left → AtEnd q left → IsContinued u (xs ++ z ∷ [])
  by_end q left r (begins fresh blank) = at_line u z is_end xs q left r fresh blank
  by_end q left r (within fresh inside none) =
      let t = all_tracks r tt (λ _. refl) in
      let c = nest_code q.mode q.outer t.nest (sym t.strings ∙ closed_before) in
      let o = outside_counted opening_item 0 0 xs (z ∷ []) closed_before in
      let k = outside_counted closing_item 0 0 xs (z ∷ []) closed_before in
      let balanced : IsBalanced q = omega (arith, t.opened, t.closed, even, o, k, none_counted opening_item z 0 (ap is_opening is_end), none_counted closing_item z 0 (ap is_closing is_end)) in
      at_within u z is_end xs q (subst (Reach start u xs q) none r) fresh c.0 balanced

pub behind_end : (u v : List ℕ) (before : List Item) (z : Item) (behind : List Item) → IsCutAt u v before z behind → z.lexeme ≡ newline → z.end ≡ z.begin → open_behind 0 (before ++ z ∷ []) ≡ 0 → EvenWith (before ++ z ∷ []) []
    → IsContinued u (before ++ z ∷ [])
behind_end u v before z behind c n none closed even =
    let f = find c.lex before z behind refl in
    let far = far_reach f.reach (λ _. refl) tt in
    elim f.given [
      | inl (xs, q, w, ws, (step, e)) ↦ absurd (omega (arith, closing step f.first z ws e n, none))
      | inr (l, (step, e)) ↦
          let k = closing step f.first z behind e.0 n in
          let g = given step f.first z behind e.0 in
          let nil : v ≡ [] = nil_from_length v (omega (arith, g.0, far.1.0, c.length_is, length-append u v)) in
          let all : u ++ v ≡ u = ap (λ y. u ++ y) nil ∙ append-nil u in
          let front : f.front ≡ before = sym (f.is ∙ ap (λ y. f.front ++ y) k.0 ∙ append-nil f.front) in
          by_end u before z n closed even f.past f.left (subst (λ y. Reach start y before f.past f.left) all (subst (λ y. Reach start (u ++ v) y f.past f.left) front f.reach)) k.1
    ]
