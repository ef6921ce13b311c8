-- The machine's way over tokens, and that places do not matter to it.
use Rattle.std.proofs.Common.{◌≡◌, ◌⊎◌, ◌∷◌, ◌++◌, ◌∙◌, [], inl, inr, List, Option, Some, None, refl, ap, sym, append-nil}
use Rattle.std.proofs.lemmas.List.{map-append}
use Rattle.starlark_lexer.specs.Items.{Lexeme, Item}
use Rattle.starlark_ast.specs.Tree.{Statement}
use Rattle.starlark_grammar.specs.Grammar.{Derives}
use Rattle.starlark_grammar.specs.Frames.{State}
use Rattle.starlark_grammar.specs.Machine.{step}
use Rattle.starlark_grammar.specs.Runs.{Trace, Accepts, Stuck, Note, bottom, finish, run, initial}
use Rattle.starlark_grammar.specs.Language.{bare, IsDead}
use Rattle.starlark_grammar.proofs.Alike.{bottom_end}
use Rattle.starlark_grammar.proofs.Behind.{Path, no_step, a_step}
use Rattle.starlark_grammar.proofs.Dead.{beyond, one_step}
use Rattle.starlark_completion.specs.Laws.{Laws}
use Rattle.starlark_completion.specs.Ending.{Goes}

-- the machine accepts the tokens from that state, marks aside
abbrev pub Accepted : State → List Item → Type 0
Accepted s ts = (raw : Statement) × (bottom (run s ts) ≡ Accepts raw)

-- accepted at once, and behind a token
pub accepted_now : (s : State) (raw : Statement) → finish s ≡ Accepts raw → Accepted s []
accepted_now s raw q = (raw, bottom_end s ∙ q)

pub accepted_step : (s u : State) (x : Item) (xs : List Item) → step s x ≡ Some u → Accepted u xs → Accepted s (x ∷ xs)
accepted_step s u x xs q a = (a.0, one_step s x xs ∙ ap (λ o. bottom (beyond x xs o)) q ∙ a.1)

-- what it accepts it has a step for
pub record Stepped (s : State) (x : Item) (xs : List Item) : Type 0 where
  pub state : State
  pub steps : step s x ≡ Some state
  pub accepted : Accepted state xs

pub stuck_not : {P : Type 0} (ts : List Item) (raw : Statement) → Stuck ts ≡ Accepts raw → P
stuck_not ts raw q = absurd (cc)

pub accepted_steps : (s : State) (x : Item) (xs : List Item) → Accepted s (x ∷ xs) → Stepped s x xs
accepted_steps s x xs a = go (step s x) refl (sym (one_step s x xs) ∙ a.1)
  where
    go : (o : Option State) → step s x ≡ o → bottom (beyond x xs (step s x)) ≡ Accepts a.0 → Stepped s x xs
    go None q e = stuck_not (x ∷ xs) a.0 (sym (ap (λ o. bottom (beyond x xs o)) q) ∙ e)
    go (Some u) q e = record { state = u; steps = q; accepted = (a.0, sym (ap (λ o. bottom (beyond x xs o)) q) ∙ e) }

pub record Reached (s : State) (w rest : List Item) : Type 0 where
  pub state : State
  pub path : Path s w state
  pub accepted : Accepted state rest

pub reached : (w rest : List Item) (s : State) → Accepted s (w ++ rest) → Reached s w rest
reached [] rest s a = record { state = s; path = no_step; accepted = a }
reached (x ∷ w) rest s a =
    let h = accepted_steps s x (w ++ rest) a in
    let r = reached w rest h.state h.accepted in
    record { state = r.state; path = a_step h.steps r.path; accepted = r.accepted }

pub runs_on : {s t : State} {w : List Item} → Path s w t → (ts : List Item) → Accepted t ts → Accepted s (w ++ ts)
runs_on no_step ts a = a
runs_on (a_step {s} {u} {x} {w} q p) ts a = accepted_step s u x (w ++ ts) q (runs_on p ts a)

pub path_same : {s t : State} {w : List Item} → Path s w t → (ts : List Item) → bottom (run s (w ++ ts)) ≡ bottom (run t ts)
path_same no_step ts = refl
path_same (a_step {s} {u} {x} {w} q p) ts = one_step s x (w ++ ts) ∙ ap (λ o. bottom (beyond x (w ++ ts) o)) q ∙ path_same p ts

-- the end alone
bottom_is : (v : Trace) → ((raw : Statement) × (bottom v ≡ Accepts raw)) ⊎ ((xs : List Item) × (bottom v ≡ Stuck xs))
bottom_is (Accepts raw) = inl (raw, refl)
bottom_is (Stuck xs) = inr (xs, refl)
bottom_is (Note xs e v) = bottom_is v

-- Places do not matter: a run that is stuck is so at all places.
pub elsewhere : Laws → (v u : List Item) (raw : Statement) → Derives v raw → bare u ≡ bare v → (raw' : Statement) × Derives u raw'
elsewhere laws v u raw d q = go (bottom_is (run initial u))
  where
    dead : (before rest : List Item) → before ++ rest ≡ u → IsDead before rest → ⊥
    dead before [] e n = n v raw (sym q ∙ ap bare (sym e) ∙ ap bare (append-nil before)) d
    dead before (x ∷ xs) e n = n v (bare xs) raw (sym q ∙ ap bare (sym e) ∙ map-append (λ (y : Item). y.lexeme) before (x ∷ xs)) d

    go : Accepted initial u ⊎ ((xs : List Item) × (bottom (run initial u) ≡ Stuck xs)) → (raw' : Statement) × Derives u raw'
    go (inl a) = (a.0, laws.sound u a.0 a.1)
    go (inr a) = let e = laws.stuck_at_dead u a.0 a.1 in absurd (dead e.before a.0 e.parts e.is_end.dead)

-- what is accepted at some places goes at all
pub goes_by : Laws → (v : List Item) (xs : List Lexeme) → Accepted initial v → bare v ≡ xs → Goes xs
goes_by laws v xs a q u e = elsewhere laws v u a.0 (laws.sound v a.0 a.1) (e ∙ sym q)
