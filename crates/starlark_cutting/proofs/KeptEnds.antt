-- The step that leads to a line's beginning: where what is kept of a text ends with it, it is one whatever stands behind.
use Rattle.std.proofs.Common.{◌≡◌, ◌<◌, ◌≤◌, ◌⊎◌, ℕ, ◌+◌, Bool, true, false, List, [], ◌∷◌, ◌++◌, length, take, drop, refl, ap, sym, ◌∙◌, arith, inl, inr, subst, length-append, length-drop}
use Rattle.std.proofs.lemmas.Bool.{false≢true}
use Rattle.std.proofs.Math.Seq.{take-append_seam}
use Rattle.std.proofs.lemmas.List.{take-append-drop, nil_from_length}
use Rattle.starlark_lexer.specs.Items.{Item, item, newline, comment, opening_item, closing_item}
use Rattle.starlark_lexer.specs.Classes.{leading, line_len, line_end}
use Rattle.starlark_lexer.specs.Lex.{Past, Move, Step, on, over, IsBalanced}
use Rattle.starlark_lexer.specs.Lex as rules
use Rattle.starlark_lexer.proofs.JoinedBodies.{Ended}
use Rattle.starlark_lexer.proofs.Joined.{ended_some}
use Rattle.starlark_cutting.proofs.KeptRemarks.{ended_behind, full_ended}
use Rattle.starlark_cutting.proofs.KeptMoves.{At, BodyFits, Fresh, fresh_body, first_kept, stands_kept}
use Rattle.starlark_cutting.proofs.KeptSteps.{blank_kept, remark_kept, remark_len}
use Rattle.starlark_cutting.proofs.KeptFinal.{behind_all}
use Rattle.starlark_cutting.proofs.KeptPuts.{counted}
use Rattle.starlark_cutting.proofs.KeptReach.{is_line}

pub record Ends (p : Past) (xs : List Item) (q : Past) (u v : List ℕ) : Type 0 where
  pub at : At p u v
  pub ended : Ended u
  pub step : (o : List ℕ) → Step p (u ++ o) (on xs q o)

ten_not : (b : ℕ) → b ≡ 13 → b ≡ 10 → ⊥
ten_not b e h = omega (arith, e, h)

ended_at : (p : Past) (u v : List ℕ) → Fresh p → p.fresh ≡ true → Ended u → At p u v
ended_at p u v fr f h = record { holds = record { some = ended_some u h; not_cr = λ e. ten_not 13 refl (subst Ended e h) }; body = fresh_body p u v fr f }

-- a text ends as what is left of it does
pub behind_front : (k : ℕ) (u w : List ℕ) → drop k u ≡ w → Ended w → Ended u
behind_front k u w e h = subst Ended (take-append-drop k u) (ended_behind (take k u) (drop k u) (subst Ended (sym e) h))

abbrev pub LeadsTo : Past → List ℕ → Move → Type 0
LeadsTo p rest (on xs q left) = (u v : List ℕ) → rest ≡ u ++ v → q.place ≡ p.place + length u → q.fresh ≡ true → (0 < length left) ⊎ (is_line xs ≡ true) → Ends p xs q u v
LeadsTo p rest (over l) = Unit {0}

some_left : (a : Bool) (n : ℕ) → a ≡ false → (0 < n) ⊎ (a ≡ true) → 0 < n
some_left a n e (inl h) = h
some_left a n e (inr t) = absurd (false≢true (sym e ∙ t))

pub leads : {p : Past} {rest : List ℕ} {m : Move} → Step p rest m → Fresh p → LeadsTo p rest m
leads (rules.blank_line p rest more f e) fr = λ u v is at g c.
    let le : leading rest + 1 ≤ length u = omega (arith, at) in
    let s = stands_kept rest u v [] 10 more is (omega (arith, le)) e in
    let none = nil_from_length s.0 (omega (arith, at, ap length s.1.0, length-drop (leading rest) u)) in
    let ended : Ended u = behind_front (leading rest) u (10 ∷ []) (s.1.0 ∙ ap (λ w. 10 ∷ w) none) refl in
    record {
      at = ended_at p u v fr f ended;
      ended = ended;
      step = λ o. behind_all p _ _ u o (leading rest + 1) (omega (arith, at)) (blank_kept p rest more u v o f e is le);
    }
leads (rules.remark_line p rest more f e) fr = λ u v is at g c.
    let l = leading rest in
    let k = remark_len rest more in
    let some : 0 < length (drop k rest) = some_left false (length (drop k rest)) refl c in
    let same : k ≡ length u = omega (arith, at) in
    let lt : k < length rest = omega (arith, some, length-drop k rest) in
    let s = stands_kept rest u v [] 35 more is (omega (arith, same)) e in
    let w = s.0 in
    let whole : line_len more + line_end (drop (line_len more) more) ≡ length w = omega (arith, same, ap length s.1.0, length-drop l u) in
    let lens : length more ≡ length w + length v = ap length s.1.1.0 ∙ length-append w v in
    let vs : 0 < length v = omega (arith, lt, same, ap length is, length-append u v) in
    let tail : Ended (take (line_len more + line_end (drop (line_len more) more)) more) = full_ended more (omega (arith, whole, lens, vs)) in
    let cut : take (line_len more + line_end (drop (line_len more) more)) more ≡ w = ap (λ n. take n more) whole ∙ ap (take (length w)) s.1.1.0 ∙ take-append_seam w v in
    let ended : Ended u = behind_front l u (35 ∷ w) s.1.0 (ended_behind (35 ∷ []) w (subst Ended cut tail)) in
    record {
      at = ended_at p u v fr f ended;
      ended = ended;
      step = λ o. behind_all p _ _ u o k same (remark_kept p rest more u v o f e is (omega (arith, same)) lt);
    }
leads (rules.last_line p rest closed f e c) fr = tt
leads (rules.tabbed p rest m t) fr = tt
leads (rules.deepens p rest m t d) fr = λ u v is at g c. absurd (false≢true g)
leads (rules.fits p rest closed m t o d) fr = λ u v is at g c. absurd (false≢true g)
leads (rules.misfits p rest m t d o) fr = tt
leads (rules.passes p b rest f c d) fr = λ u v is at g e. absurd (false≢true g)
leads (rules.escapes p rest f c d) fr = λ u v is at g e. absurd (false≢true g)
leads (rules.joins p rest f d) fr = λ u v is at g e. absurd (false≢true g)
leads (rules.ends_line p rest f c d) fr = λ u v is at g e.
    let s = first_kept 10 rest u v is (omega (arith, at)) in
    let none = nil_from_length s.0 (omega (arith, at, ap length s.1.0)) in
    let one : u ≡ 10 ∷ [] = s.1.0 ∙ ap (λ w. 10 ∷ w) none in
    let ended : Ended u = subst Ended (sym one) refl in
    record {
      at = record { holds = record { some = ended_some u ended; not_cr = λ h. ten_not 13 refl (subst Ended h ended) }; body = subst (λ m. BodyFits m u v) (sym c) tt };
      ended = ended;
      step = λ o. subst (λ w. Step p (w ++ o) (rules.gives p 0 newline 1 1 true (10 ∷ o))) (sym one) (rules.ends_line p o f c d);
    }
leads (rules.remark p rest f c) fr = λ u v is at g e. absurd (false≢true g)
leads (rules.lexeme p rest n x v l) fr = λ u w is at g e. absurd (false≢true g)
leads (rules.faults p rest n e v l) fr = tt
leads (rules.ends_text p closed f c d) fr = tt
leads (rules.literal p rest n g k v l t e) fr = λ u w is at h c. absurd (false≢true h)
leads (rules.unclosed p rest n g k v l t e) fr = tt
leads (rules.misspelt p rest n g k m v l t e) fr = tt
leads (rules.enters p rest n g v l t) fr = λ u w is at h c. absurd (false≢true h)
leads (rules.texts p b g rest k f c some e) fr = λ u w is at h d. absurd (false≢true h)
leads (rules.leaves p b g rest f c e) fr = λ u w is at h d. absurd (false≢true h)
leads (rules.opens_field p b g rest f c e) fr = λ u w is at h d. absurd (false≢true h)
leads (rules.unfinished p b g rest k f c e) fr = tt
leads (rules.misspells p b g rest k m f c e) fr = tt
leads (rules.shuts p b g bs rest f c d) fr = λ u w is at h e. absurd (false≢true h)
leads (rules.bangs p b g bs rest f c d e) fr = λ u w is at h i. absurd (false≢true h)

-- ---- brackets are balanced where a line begins

abbrev pub Even : Past → Type 0
Even p = p.fresh ≡ true → IsBalanced p

abbrev pub EvenBehind : Move → Type 0
EvenBehind (on xs q left) = Even q
EvenBehind (over l) = Unit {0}

pub evens : {p : Past} {rest : List ℕ} {m : Move} → Step p rest m → Fresh p → Even p → EvenBehind m
evens (rules.blank_line p rest more f e) fr h = λ _.
    let it : Item = item (p.place + leading rest) newline (p.place + leading rest + 1) in
    omega (arith, h f, counted opening_item p.mode it p.items (fr f), counted closing_item p.mode it p.items (fr f))
evens (rules.remark_line p rest more f e) fr h = λ _.
    let it : Item = item (p.place + leading rest) (comment (take (line_len more) more)) (p.place + leading rest + (1 + line_len more)) in
    omega (arith, h f, counted opening_item p.mode it p.items (fr f), counted closing_item p.mode it p.items (fr f))
evens (rules.last_line p rest closed f e c) fr h = tt
evens (rules.tabbed p rest m t) fr h = tt
evens (rules.deepens p rest m t d) fr h = λ e. absurd (false≢true e)
evens (rules.fits p rest closed m t o d) fr h = λ e. absurd (false≢true e)
evens (rules.misfits p rest m t d o) fr h = tt
evens (rules.passes p b rest f c d) fr h = λ e. absurd (false≢true e)
evens (rules.escapes p rest f c d) fr h = λ e. absurd (false≢true e)
evens (rules.joins p rest f d) fr h = λ e. absurd (false≢true e)
evens (rules.ends_line p rest f c d) fr h = λ _.
    let it : Item = item (p.place + 0) newline (p.place + 0 + 1) in
    omega (arith, d, counted opening_item p.mode it p.items c, counted closing_item p.mode it p.items c)
evens (rules.remark p rest f c) fr h = λ e. absurd (false≢true e)
evens (rules.lexeme p rest n x v l) fr h = λ e. absurd (false≢true e)
evens (rules.faults p rest n e v l) fr h = tt
evens (rules.ends_text p closed f c d) fr h = tt
evens (rules.literal p rest n g k v l t e) fr h = λ i. absurd (false≢true i)
evens (rules.unclosed p rest n g k v l t e) fr h = tt
evens (rules.misspelt p rest n g k m v l t e) fr h = tt
evens (rules.enters p rest n g v l t) fr h = λ e. absurd (false≢true e)
evens (rules.texts p b g rest k f c some e) fr h = λ i. absurd (false≢true i)
evens (rules.leaves p b g rest f c e) fr h = λ i. absurd (false≢true i)
evens (rules.opens_field p b g rest f c e) fr h = λ i. absurd (false≢true i)
evens (rules.unfinished p b g rest k f c e) fr h = tt
evens (rules.misspells p b g rest k m f c e) fr h = tt
evens (rules.shuts p b g bs rest f c d) fr h = λ e. absurd (false≢true e)
evens (rules.bangs p b g bs rest f c d e) fr h = λ i. absurd (false≢true i)
