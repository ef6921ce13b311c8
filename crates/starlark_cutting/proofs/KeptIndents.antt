-- A text that is cut off behind a line end, with a deeper line behind it, and one that is cut off behind an Indent.
use Rattle.std.proofs.Common.{◌≡◌, ◌≤◌, ℕ, ◌+◌, true, false, cond, List, [], ◌∷◌, ◌++◌, length, take, drop, refl, ap, sym, ◌∙◌, arith, zero, suc, inl, inr, eqb, subst, append_assoc, length-append}
use Rattle.std.specs.List.{list_all}
use Rattle.std.proofs.lemmas.Bool.{cases_Bool, cases_lt, false≢true, and_from, or_from}
use Rattle.std.proofs.lemmas.Bool.Decides.{nat_tests}
use Rattle.std.proofs.lemmas.List.{append-nil, take-append-drop, length-take-le}
use Rattle.std.proofs.lemmas.List.Folds.{list_all-append, list_any-append}
use Rattle.std.proofs.lemmas.List.Sums.{sum_by-append, sum_by-cons, prefix_len-le-length}
use Rattle.starlark_lexer.specs.Items.{Item, item, with_items, newline, indent}
use Rattle.starlark_lexer.specs.Classes.{is_blank, leading, width, blanks, has_tab, spaces}
use Rattle.starlark_lexer.specs.Widths.{IsDeeper, has}
use Rattle.starlark_lexer.specs.Lex.{Past, Step, Lex, on, start, IsMeasured}
use Rattle.starlark_lexer.specs.Joining.{is_indent}
use Rattle.starlark_cutting.specs.Cutting.{IsCutAt, IsIndented, IsDeepened, indented_line, blanks_of}
use Rattle.starlark_lexer.proofs.Widths.{IsStack, no_lines}
use Rattle.starlark_lexer.proofs.Joined.{Nest}
use Rattle.starlark_lexer.proofs.Runs.{list_all_run}
use Rattle.starlark_cutting.proofs.KeptMoves.{Fresh}
use Rattle.starlark_cutting.proofs.KeptSteps.{goes}
use Rattle.starlark_cutting.proofs.KeptTracks.{tracks}
use Rattle.starlark_cutting.proofs.KeptReach.{Reach, stays, more, find}
use Rattle.starlark_cutting.proofs.KeptFresh.{begun}
use Rattle.starlark_cutting.proofs.KeptGiven.{Given, line, shallower, deeper, other, layout, given}
use Rattle.starlark_cutting.proofs.KeptLayouts.{line_begun, measured_some}
use Rattle.starlark_cutting.proofs.KeptDeeper.{deepened_text}

-- ---- so many spaces

pub all_blank : (n : ℕ) → list_all is_blank (blanks_of n) ≡ true
all_blank zero = refl
all_blank (suc n) = all_blank n

pub no_tab : (n : ℕ) → has_tab (blanks_of n) ≡ false
no_tab zero = refl
no_tab (suc n) = no_tab n

pub wide : (n : ℕ) → spaces (blanks_of n) ≡ n
wide zero = refl
wide (suc n) = sum_by-cons (λ x. cond (eqb x 32) 1 0) 32 (blanks_of n) ∙ (let k : 1 + spaces (blanks_of n) ≡ suc n = omega (arith, wide n) in k)

-- ---- wider than all that is open

abbrev total : List ℕ → ℕ
total [] = 0
total (x ∷ xs) = x + total xs

among_total : (ws : List ℕ) (x : ℕ) → has ws x ≡ true → x ≤ total ws
among_total [] x h = absurd (false≢true h)
among_total (w ∷ ws) x h = elim (cases_Bool (eqb w x)) [
  | inl t ↦ let e : w ≡ x = grind (arith, nat_tests) in omega (arith, e)
  | inr f ↦ let k : has ws x ≡ true = rw f at h in omega (arith, among_total ws x k)
]

over_all : (lines ws : List ℕ) → IsStack lines ws → IsDeeper lines (suc (total ws))
over_all lines ws s x o = elim (cases_lt 0 x) [
  | inl pos ↦ omega (arith, among_total ws x ((s.each x).1 (o, pos)))
  | inr z ↦ omega (arith, z)
]

pub deeper_line : (u v : List ℕ) (before : List Item) (z : Item) (behind : List Item) → IsCutAt u v before z behind → z.lexeme ≡ newline → z.end ≡ z.begin + 1 → IsDeepened u (before ++ z ∷ [])
deeper_line u v before z behind c is one =
    let b = line_begun u v before z behind c is one in
    let w = b.begun.tracks.widths [] no_lines in
    let n = suc (total w.still) in
    record { spaces = n; indented = deepened_text u (before ++ z ∷ []) b.past b.begun (blanks_of n) (all_blank n) (no_tab n) (subst (IsDeeper b.past.lines) (sym (wide n)) (over_all b.past.lines w.still w.stack)) }

-- ---- an Indent

-- what is passed by the steps
pub passed : {p : Past} {rest : List ℕ} {xs : List Item} {q : Past} {v : List ℕ} → Reach p rest xs q v → Fresh p → Nest p.mode p.outer → (w : List ℕ) × ((rest ≡ w ++ v) × (q.place ≡ p.place + length w))
passed (stays p rest) fr nest = ([], (refl, omega arith))
passed (more p rest xs q left ys r v step far) fr nest =
    let k = goes step fr in
    let t = tracks step nest fr in
    let h = passed far t.fresh t.nest in
    let le = k.le in
    let front = take k.k rest in (
      front ++ h.0,
      (
        sym (take-append-drop k.k rest) ∙ ap (λ y. front ++ y) (sym k.is ∙ h.1.0) ∙ sym (append_assoc front h.0 v),
        omega (arith, h.1.1, k.place, length-append front h.0, length-take-le k.k rest le),
      ),
    )

same_front : (a b c d : List ℕ) → a ++ b ≡ c ++ d → length a ≡ length c → a ≡ c
same_front [] b [] d e h = refl
same_front [] b (y ∷ c) d e h = absurd (omega (arith, h))
same_front (x ∷ a) b [] d e h = absurd (omega (arith, h))
same_front (x ∷ a) b (y ∷ c) d e h =
    let s : x ≡ y = cc in
    let t : a ++ b ≡ c ++ d = cc in
    let l : length a ≡ length c = omega (arith, h) in
    let r = same_front a b c d t l in λ i. s i ∷ r i

record Deeper (p : Past) (rest : List ℕ) (first : List Item) (z : Item) : Type 0 where
  first_is : first ≡ []
  is : z ≡ item p.place indent (p.place + leading rest)
  measured : IsMeasured p rest
  tab : has_tab (blanks rest) ≡ false
  deep : IsDeeper p.lines (width rest)

indent_given : {p : Past} {rest : List ℕ} {xs : List Item} {q : Past} {v : List ℕ} (first : List Item) (z : Item) → Step p rest (on xs q v) → Given p rest xs q first z → z.lexeme ≡ indent → Deeper p rest first z
indent_given first z step (line a b c d e w) n = absurd (false≢true (ap is_indent (sym c) ∙ ap is_indent n))
indent_given first z step (shallower k a b m c f) n = absurd (false≢true (ap (λ x. is_indent x.lexeme) (sym b) ∙ ap is_indent n))
indent_given first z step (deeper a b m t d) n = record { first_is = a; is = b; measured = m; tab = t; deep = d }
indent_given first z step (other a) n = absurd (false≢true (sym a ∙ ap layout n))

-- the text with a wider line in place of the Indent
reworked : (u w bs : List ℕ) (xs ys : List Item) → u ≡ w ++ bs → ys ≡ xs → IsIndented w (bs ++ 32 ∷ []) xs → IsIndented u (32 ∷ []) ys
reworked u w bs xs ys e h i =
    let t = 112 ∷ 97 ∷ 115 ∷ 115 ∷ 10 ∷ [] in
    let same : w ++ ((bs ++ 32 ∷ []) ++ t) ≡ u ++ (32 ∷ [] ++ t) = ap (λ y. w ++ y) (append_assoc bs (32 ∷ []) t) ∙ sym (append_assoc w bs (32 ∷ t)) ∙ ap (λ y. y ++ 32 ∷ t) (sym e) in
    let here : IsIndented u (32 ∷ []) xs = record { begin = i.begin; place = i.place; count = i.count; layout = i.layout; lex = subst (λ s. Lex start s (with_items xs (indented_line i.begin i.place i.count))) same i.lex } in
    subst (IsIndented u (32 ∷ [])) (sym h) here

pub behind_indent : (u v : List ℕ) (before : List Item) (z : Item) (behind : List Item) → IsCutAt u v before z behind → z.lexeme ≡ indent → IsIndented u (32 ∷ []) before
behind_indent u v before z behind c n =
    let f = find c.lex before z behind refl in
    elim f.given [
      | inr (l, (step, e)) ↦ absurd (false≢true (sym (given step f.first z behind e.0).1.1 ∙ ap is_indent n))
      | inl (xs, q, left, ws, (step, e)) ↦
          let g = indent_given f.first z step (given step f.first z ws e) n in
          let w = passed f.reach (λ _. refl) tt in
          let bs = blanks f.left in
          let k = leading f.left in
          let fits : k ≤ length f.left = prefix_len-le-length is_blank f.left in
          let at : f.past.place ≡ length w.0 = omega (arith, w.1.1) in
          let len : length (w.0 ++ bs) ≡ length u = omega (arith, c.length_is, ap (λ x. x.end) g.is, at, length-append w.0 bs, length-take-le k f.left fits) in
          let whole : u ++ v ≡ (w.0 ++ bs) ++ drop k f.left = w.1.0 ∙ ap (λ y. w.0 ++ y) (sym (take-append-drop k f.left)) ∙ sym (append_assoc w.0 bs (drop k f.left)) in
          let b = begun f.reach g.measured.fresh (measured_some f.past f.left g.measured) w.0 f.left w.1.0 at in
          let wide : spaces (bs ++ 32 ∷ []) ≡ spaces bs + 1 = sum_by-append (λ x. cond (eqb x 32) 1 0) bs (32 ∷ []) in
          let i = deepened_text w.0 f.front f.past b (bs ++ 32 ∷ []) (list_all-append is_blank bs (32 ∷ []) ∙ and_from _ _ (list_all_run is_blank f.left) refl) (list_any-append (λ x. eqb x 9) bs (32 ∷ []) ∙ or_from _ _ g.tab refl)
          (λ x o. omega (arith, wide, g.deep x o)) in
          reworked u w.0 bs f.front before (same_front u v (w.0 ++ bs) (drop k f.left) whole (sym len)) (f.is ∙ ap (λ y. f.front ++ y) g.first_is ∙ append-nil f.front) i
    ]
