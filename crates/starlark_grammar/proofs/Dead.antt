-- Where the machine is stuck no program goes on, rules aside; and up to there one does.
use Rattle.std.proofs.Common.{ℕ, ◌≡◌, ◌⊎◌, ◌∷◌, ◌++◌, ◌∙◌, [], inl, inr, List, Option, Some, None, refl, ap, sym, subst, append-nil}
use Rattle.starlark_grammar.specs.Spans.{stretch}
use Rattle.starlark_lexer.specs.Items.{Lexeme, Item, item}
use Rattle.starlark_ast.specs.Tree.{Statement, when}
use Rattle.starlark_grammar.specs.Grammar.{Derives}
use Rattle.starlark_grammar.specs.Frames.{Blocks, outer, inner, State, at_line, behind_for, behind_if}
use Rattle.starlark_grammar.specs.Machine.{settled, step}
use Rattle.starlark_grammar.specs.Runs.{met, Trace, Accepts, Stuck, bottom, end_line, finish, run, initial}
use Rattle.starlark_grammar.specs.Completion.{completion}
use Rattle.starlark_grammar.specs.Language.{bare, IsDead, EndsAt}
use Rattle.starlark_grammar.proofs.Steps.{runs}
use Rattle.starlark_grammar.proofs.Sound.{bottom_note, sound}
use Rattle.starlark_grammar.proofs.Complete.{complete}
use Rattle.starlark_grammar.proofs.AlikeFrames.{b_outer, s_line}
use Rattle.starlark_grammar.proofs.Alike.{bottom_end, like}
use Rattle.starlark_grammar.proofs.Closing.{completion_ends}

-- how a state ends
line_is : (k : Blocks) (e : ℕ) → (end_line k e ≡ Stuck []) ⊎ ((raw : Statement) × (end_line k e ≡ Accepts raw))
line_is (outer ss) e = inr (_, refl)
line_is (inner ss k) e = inl refl

pub finish_is : (s : State) → (finish s ≡ Stuck []) ⊎ ((raw : Statement) × (finish s ≡ Accepts raw))
finish_is (at_line k e) = line_is k e
finish_is (behind_for l k e) = line_is k e
finish_is (behind_if q s p e k) = line_is (settled k (when q s (stretch p e)) e) e
finish_is _ = inl refl

-- past a step
abbrev pub beyond : Item → List Item → Option State → Trace
beyond x xs o = let v : Trace = elim o [ None ↦ Stuck (x ∷ xs) | Some s' ↦ run s' xs ] in v

-- nothing can stand there
abbrev pub Stops : State → List Item → Type 0
Stops s [] = finish s ≡ Stuck []
Stops s (x ∷ xs) = step s x ≡ None

pub one_step : (s : State) (x : Item) (xs : List Item) → bottom (run s (x ∷ xs)) ≡ bottom (beyond x xs (step s x))
one_step s x xs = ap bottom (runs s x xs) ∙ bottom_note (x ∷ xs) (met s (Some x.lexeme)) (beyond x xs (step s x))

-- the state behind what was read
record Halts (s : State) (ts rest : List Item) : Type 0 where
  before : List Item
  parts : before ++ rest ≡ ts
  state : State
  goes_on : (ys : List Item) → bottom (run s (before ++ ys)) ≡ bottom (run state ys)
  stops : Stops state rest

same_rest : (a b : List Item) → Stuck a ≡ Stuck b → a ≡ b
same_rest a b e = cc

halts : (ts : List Item) (s : State) (rest : List Item) → bottom (run s ts) ≡ Stuck rest → Halts s ts rest
halts [] s rest e = go (finish_is s)
  where
    go : (finish s ≡ Stuck []) ⊎ ((raw : Statement) × (finish s ≡ Accepts raw)) → Halts s [] rest
    go (inl q) = let n : [] ≡ rest = same_rest [] rest (sym q ∙ sym (bottom_end s) ∙ e) in subst (Halts s []) n (record { before = []; parts = refl; state = s; goes_on = λ ys. refl; stops = q })
    go (inr q) = absurd (let n : Accepts q.0 ≡ Stuck rest = sym q.1 ∙ sym (bottom_end s) ∙ e in (cc))
halts (x ∷ xs) s rest e = go (step s x) refl (sym (one_step s x xs) ∙ e) (λ u. halts xs u rest)
  where
    go : (o : Option State) → step s x ≡ o → bottom (beyond x xs (step s x)) ≡ Stuck rest → ((u : State) → bottom (run u xs) ≡ Stuck rest → Halts u xs rest) → Halts s (x ∷ xs) rest
    go None q e f = let n : x ∷ xs ≡ rest = same_rest (x ∷ xs) rest (sym (ap (λ o. bottom (beyond x xs o)) q) ∙ e) in subst (Halts s (x ∷ xs)) n (record { before = []; parts = refl; state = s; goes_on = λ ys. refl; stops = q })
    go (Some u) q e f =
        let h = f u (sym (ap (λ o. bottom (beyond x xs o)) q) ∙ e) in
        record { before = x ∷ h.before; parts = ap (λ ys. x ∷ ys) h.parts; state = h.state; goes_on = λ ys. one_step s x (h.before ++ ys) ∙ ap (λ o. bottom (beyond x (h.before ++ ys) o)) q ∙ h.goes_on ys; stops = h.stops }

-- tokens with no place
placeless : List Lexeme → List Item
placeless [] = []
placeless (y ∷ ys) = item 0 y 0 ∷ placeless ys

bare_placeless : (ys : List Lexeme) → bare (placeless ys) ≡ ys
unfolding placeless
bare_placeless [] = refl
bare_placeless (y ∷ ys) = ap (λ zs. y ∷ zs) (bare_placeless ys)

pub bare_append : (bs cs : List Item) → bare (bs ++ cs) ≡ bare bs ++ bare cs
bare_append [] cs = refl
bare_append (b ∷ bs) cs = ap (λ zs. b.lexeme ∷ zs) (bare_append bs cs)

pub dead : (w : List Item) (s : State) → ((ys : List Item) → bottom (run initial (w ++ ys)) ≡ bottom (run s ys)) → (rest : List Item) → Stops s rest → IsDead w rest
dead w s g [] k = λ u raw q d.
    let h = like u (w ++ []) initial initial (s_line b_outer) (q ∙ ap bare (sym (append-nil w))) raw (complete u raw d).0 in
    let n : Stuck [] ≡ Accepts h.raw = sym k ∙ sym (bottom_end s) ∙ sym (g []) ∙ h.ends in
    absurd (cc)
dead w s g (x ∷ xs) k = λ u more raw q d.
    let us = placeless more in
    let same : bare u ≡ bare (w ++ x ∷ us) = q ∙ ap (λ zs. bare w ++ x.lexeme ∷ zs) (sym (bare_placeless more)) ∙ sym (bare_append w (x ∷ us)) in
    let h = like u (w ++ x ∷ us) initial initial (s_line b_outer) same raw (complete u raw d).0 in
    let n : Stuck (x ∷ us) ≡ Accepts h.raw = sym (one_step s x us ∙ ap (λ o. bottom (beyond x us o)) k) ∙ sym (g (x ∷ us)) ∙ h.ends in
    absurd (cc)

-- where nothing can stand no program goes on
pub stopped : (s : State) (rest : List Item) (raw : Statement) → Stops s rest → bottom (run s rest) ≡ Accepts raw → ⊥
stopped s [] raw k e = let n : Stuck [] ≡ Accepts raw = sym k ∙ sym (bottom_end s) ∙ e in (cc)
stopped s (x ∷ xs) raw k e = let n : Stuck (x ∷ xs) ≡ Accepts raw = sym (one_step s x xs ∙ ap (λ o. bottom (beyond x xs o)) k) ∙ e in (cc)

pub stuck_dead : (u rest : List Item) → bottom (run initial u) ≡ Stuck rest → EndsAt u rest
stuck_dead u rest e =
    let h = halts u initial rest e in
    let t = completion_ends h.state in
    record {
      before = h.before;
      parts = h.parts;
      is_end = record { more = completion h.state; raw = t.raw; derives = sound (h.before ++ completion h.state) t.raw (h.goes_on (completion h.state) ∙ t.ends); dead = dead h.before h.state h.goes_on rest h.stops };
    }

pub one_derivation : (u : List Item) (a b : Statement) → Derives u a → Derives u b → a ≡ b
one_derivation u a b d e = let n : Accepts a ≡ Accepts b = sym (complete u a d).0 ∙ (complete u b e).0 in (cc)
