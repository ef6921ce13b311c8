-- The last step within a line behind which only blanks are passed over up to the text's end.
use Rattle.std.proofs.Common.{◌≡◌, ◌<◌, ◌≤◌, ◌⊎◌, ℕ, ◌+◌, Bool, true, false, cond, ◌&&◌, List, [], ◌∷◌, ◌++◌, length, take, drop, refl, ap, sym, ◌∙◌, arith, zero, suc, inl, inr, eqb, ltb, subst, append_assoc, length-drop}
use Rattle.std.proofs.lemmas.Bool.{false≢true, and_parts, and_from}
use Rattle.std.proofs.lemmas.Bool.Decides.{nat_tests}
use Rattle.std.proofs.lemmas.List.{append-nil, take-append-drop, length-take-le, drop-append-le, drop_all}
use Rattle.starlark_lexer.specs.declared.literal.Ending.TheVariants as ending
use Rattle.starlark_lexer.specs.Items.{comment, Item, item, opening_item, closing_item}
use Rattle.starlark_lexer.specs.Literals.{quotes}
use Rattle.starlark_lexer.specs.Classes.{is_blank, leading, line_end, line_len, escaped}
use Rattle.starlark_lexer.specs.Lex.{Past, Move, Step, on, over, moved, is_inside, IsBalanced, IsMeasured}
use Rattle.starlark_lexer.specs.Lex as rules
use Rattle.starlark_lexer.proofs.Ordered.{inside, escaped_most}
use Rattle.starlark_cutting.specs.Cutting.{tokens_of}
use Rattle.starlark_cutting.proofs.KeptLines.{Stops, escaped_kept}
use Rattle.starlark_cutting.proofs.KeptMoves.{At, not_inside, field_code}
use Rattle.starlark_cutting.proofs.KeptPuts.{counted}
use Rattle.starlark_cutting.proofs.KeptReach.{Reach, stays, more}
use Rattle.starlark_cutting.proofs.KeptFinal.{Ends, lexeme_ends, literal_ends, leaves_ends, code_behind, inside_code}
use Rattle.starlark_cutting.proofs.KeptFeeds.{all_blank, none_behind, all_line}

-- ---- the step

-- A step that is one too where what stops a lexeme stands behind it, or a comment that runs to the text's end.
pub data Solid (p : Past) (rest : List ℕ) (xs : List Item) (q : Past) (left : List ℕ) : Type 0 where
  firm : (w : List ℕ) → rest ≡ w ++ left → At p w left → ((o : List ℕ) → Stops o → Step p (w ++ o) (on xs q o)) → Solid p rest xs q left
  remarked : (c : List ℕ) → rest ≡ 35 ∷ c → line_len c ≡ length c → p.fresh ≡ false → p.mode ≡ rules.code → IsBalanced p → tokens_of xs ≡ [] → Solid p rest xs q left

-- or a blank that is passed over
pub data Final (p : Past) (rest : List ℕ) (xs : List Item) (q : Past) (left : List ℕ) : Type 0 where
  passed : xs ≡ [] → all_blank rest ≡ true → p.fresh ≡ false → p.mode ≡ rules.code → IsBalanced p → Final p rest xs q left
  solid : Solid p rest xs q left → Final p rest xs q left

abbrev pub Finals : Past → List ℕ → Move → Type 0
Finals p rest (on xs q left) = all_blank left ≡ true → q.fresh ≡ false → q.mode ≡ rules.code → IsBalanced q → Final p rest xs q left
Finals p rest (over l) = Unit {0}

measured_not : (p : Past) (rest : List ℕ) → IsMeasured p rest → all_blank (drop (leading rest) rest) ≡ true → ⊥
measured_not p rest m h =
    let k = and_parts (is_blank m.first) (all_blank m.more) (sym (ap all_blank m.stands) ∙ h) in
    false≢true (sym (none_behind rest m.more m.first m.stands) ∙ k.0)

module _ (p : Past) (rest : List ℕ) (xs : List Item) (q : Past) (k : ℕ) (le : k ≤ length rest) where
  firm_ends : q.place ≡ p.place + k → q.mode ≡ rules.code → Ends p rest (on xs q (drop k rest)) → Solid p rest xs q (drop k rest)
  firm_ends at mode ends =
      let w = take k rest in
      let v = drop k rest in
      let is : rest ≡ w ++ v = sym (take-append-drop k rest) in
      let e = ends w v is (omega (arith, at, length-take-le k rest le)) mode in
      firm w is e.at e.step

escaped_two : (xs : List ℕ) → 0 < escaped xs → 1 < escaped xs
unfolding escaped
escaped_two [] h = absurd (omega (arith, h))
escaped_two (b ∷ bs) h = by_test (eqb b 92) (line_end bs) h
  where
    by_test : (t : Bool) (n : ℕ) → 0 < cond (t && ltb 0 n) (n + 1) 0 → 1 < cond (t && ltb 0 n) (n + 1) 0
    by_test true zero h = absurd (omega (arith, h))
    by_test true (suc n) h = let e : ltb 0 (suc n) ≡ true = grind (arith, nat_tests) in rw e (omega arith)
    by_test false n h = absurd (omega (arith, h))

escapes_firm : (p : Past) (rest : List ℕ) → p.fresh ≡ false → is_inside p.mode ≡ false → 0 < escaped rest → Solid p rest [] (moved p (escaped rest)) (drop (escaped rest) rest)
escapes_firm p rest f c some =
    let n = escaped rest in
    let w = take n rest in
    let v = drop n rest in
    let is : rest ≡ w ++ v = sym (take-append-drop n rest) in
    let len : length w ≡ n = length-take-le n rest (escaped_most rest) in
    let here : escaped (w ++ v) ≡ n = ap escaped (sym is) in
    let two = escaped_two rest some in
    firm w is
    (record { holds = record { some = omega (arith, len, some); not_cr = λ e. omega (arith, ap length e, len, two) }; body = not_inside p.mode w v c })
    (λ o s.
    let same : escaped (w ++ o) ≡ n = escaped_kept w v o (omega (arith, here, some)) (omega (arith, here, len)) ∙ here in
    let step : Step p (w ++ o) (on [] (moved p n) (drop n (w ++ o))) = subst (λ k. Step p (w ++ o) (on [] (moved p k) (drop k (w ++ o)))) same (rules.escapes p (w ++ o) f c (omega (arith, same, some))) in
    let all : drop n (w ++ o) ≡ o = drop-append-le n w o (omega (arith, len)) ∙ ap (λ y. y ++ o) (drop_all n w (omega (arith, len))) in
    subst (λ y. Step p (w ++ o) (on [] (moved p n) y)) all step)

not_joined : (p : Past) → rules.IsJoined p → p.mode ≡ rules.code → IsBalanced p → ⊥
not_joined p (inl (b, g, bs, e)) mode even = field_code b g bs (sym e ∙ mode)
not_joined p (inr (e, odd)) mode even = odd even

pub finals : {p : Past} {rest : List ℕ} {m : Move} → Step p rest m → Finals p rest m
finals (rules.blank_line p rest left f e) = λ blank fresh mode even. absurd (false≢true (sym fresh))
finals (rules.remark_line p rest left f e) = λ blank fresh mode even. absurd (false≢true (sym fresh))
finals (rules.last_line p rest closed f e c) = tt
finals (rules.tabbed p rest m t) = tt
finals (rules.deepens p rest m t d) = λ blank fresh mode even. absurd (measured_not p rest m blank)
finals (rules.fits p rest closed m t o d) = λ blank fresh mode even. absurd (measured_not p rest m blank)
finals (rules.misfits p rest m t d o) = tt
finals (rules.passes p b rest f c d) = λ blank fresh mode even. passed refl (and_from (is_blank b) (all_blank rest) d blank) f mode even
finals (rules.escapes p rest f c d) = λ blank fresh mode even. solid (escapes_firm p rest f c d)
finals (rules.joins p rest f d) = λ blank fresh mode even. absurd (not_joined p d mode even)
finals (rules.ends_line p rest f c d) = λ blank fresh mode even. absurd (false≢true (sym fresh))
finals (rules.remark p rest f c) = λ blank fresh mode even.
    let n = line_len rest in
    let x = comment (take n rest) in
    let it : Item = item (p.place + 0) x (p.place + 0 + (1 + n)) in
    let code = code_behind p.mode x mode in
    let e : 1 + n ≡ suc n = omega arith in
    solid (remarked rest refl (all_line rest (sym (ap (λ k. all_blank (drop k (35 ∷ rest))) e) ∙ blank)) f code
    (omega (arith, even, counted opening_item p.mode it p.items code, counted closing_item p.mode it p.items code)) refl)
finals (rules.lexeme p rest n x v l) = λ blank fresh mode even. solid (firm_ends p rest _ _ n l.within refl mode (lexeme_ends p rest n x v l))
finals (rules.faults p rest n e v l) = tt
finals (rules.ends_text p closed f c d) = tt
finals (rules.literal p rest n g k v l t e) = λ blank fresh mode even.
    let fits : k + quotes g.quote ≤ length (drop n rest) = inside g (drop n rest) (ending.Closed k) e in
    solid (firm_ends p rest _ _ (n + k + quotes g.quote) (omega (arith, fits, length-drop n rest, l.within)) refl mode (literal_ends p rest n g k v l t e))
finals (rules.unclosed p rest n g k v l t e) = tt
finals (rules.misspelt p rest n g k m v l t e) = tt
finals (rules.enters p rest n g v l t) = λ blank fresh mode even. absurd (inside_code p.place g mode)
finals (rules.texts p b g rest k f c some e) = λ blank fresh mode even. absurd (inside_code b g (sym c ∙ code_behind p.mode _ mode))
finals (rules.leaves p b g rest f c e) = λ blank fresh mode even.
    let fits : 0 + quotes g.quote ≤ length rest = inside g rest (ending.Closed 0) e in
    solid (firm_ends p rest _ _ (quotes g.quote) (omega (arith, fits)) refl mode (leaves_ends p b g rest f c e))
finals (rules.opens_field p b g rest f c e) = λ blank fresh mode even. absurd (field_code b g [] mode)
finals (rules.unfinished p b g rest k f c e) = tt
finals (rules.misspells p b g rest k m f c e) = tt
finals (rules.shuts p b g bs rest f c d) = λ blank fresh mode even. absurd (inside_code b g mode)
finals (rules.bangs p b g bs rest f c d e) = λ blank fresh mode even. absurd (field_code b g bs (sym c ∙ code_behind p.mode _ mode))

-- ---- all steps

-- only blanks are passed over
pub record Run (p : Past) (rest : List ℕ) (xs : List Item) : Type 0 where
  pub none : xs ≡ []
  pub blank : all_blank rest ≡ true
  pub fresh : p.fresh ≡ false
  pub mode : p.mode ≡ rules.code
  pub even : IsBalanced p

-- the last step before such
pub record Tail (p : Past) (rest : List ℕ) (xs : List Item) : Type 0 where
  pub front : List Item
  pub past : Past
  pub bytes : List ℕ
  pub reach : Reach p rest front past bytes
  pub items : List Item
  pub behind : Past
  pub left : List ℕ
  pub step : Step past bytes (on items behind left)
  pub solid : Solid past bytes items behind left
  pub is : xs ≡ front ++ items
  pub blank : all_blank left ≡ true
  pub fresh : behind.fresh ≡ false
  pub mode : behind.mode ≡ rules.code
  pub even : IsBalanced behind

by_final : {p : Past} {rest : List ℕ} {xs : List Item} {q : Past} {left : List ℕ} (zs : List Item) → Step p rest (on xs q left) → Run q left zs → Final p rest xs q left → Run p rest (xs ++ zs) ⊎ Tail p rest (xs ++ zs)
by_final {p} {rest} {xs} {q} {left} zs step r (passed none blank fresh mode even) = inl (record { none = (λ i. none i ++ r.none i); blank = blank; fresh = fresh; mode = mode; even = even })
by_final {p} {rest} {xs} {q} {left} zs step r (solid s) =
    inr (record {
      front = [];
      past = p;
      bytes = rest;
      reach = stays p rest;
      items = xs;
      behind = q;
      left = left;
      step = step;
      solid = s;
      is = ap (λ y. xs ++ y) r.none ∙ append-nil xs;
      blank = r.blank;
      fresh = r.fresh;
      mode = r.mode;
      even = r.even;
    })

pub tail : {p : Past} {rest : List ℕ} {xs : List Item} {q : Past} {left : List ℕ} → Reach p rest xs q left → all_blank left ≡ true → q.fresh ≡ false → q.mode ≡ rules.code → IsBalanced q → Run p rest xs ⊎ Tail p rest xs
tail (stays p rest) blank fresh mode even = inl (record { none = refl; blank = blank; fresh = fresh; mode = mode; even = even })
tail (more p rest xs q left ys r v step far) blank fresh mode even = elim (tail far blank fresh mode even) [
  | inl run ↦ by_final ys step run (finals step run.blank run.fresh run.mode run.even)
  | inr t ↦ inr (record {
    front = xs ++ t.front;
    past = t.past;
    bytes = t.bytes;
    reach = more p rest xs q left t.front t.past t.bytes step t.reach;
    items = t.items;
    behind = t.behind;
    left = t.left;
    step = t.step;
    solid = t.solid;
    is = ap (λ y. xs ++ y) t.is ∙ sym (append_assoc xs t.front t.items);
    blank = t.blank;
    fresh = t.fresh;
    mode = t.mode;
    even = t.even;
  })
]
