-- Steps of the machine.
use Rattle.std.proofs.Common.{ℕ, ◌≡◌, ◌≢◌, ◌∷◌, ◌∙◌, [], List, Option, Some, None, false, nat_eq, cond, refl, ap, sym, arith}
use Rattle.starlark_lexer.specs.Items.{Lexeme, Item}
use Rattle.starlark_ast.specs.Tree as tree
use Rattle.starlark_grammar.specs.Events.{Event}
use Rattle.starlark_grammar.specs.Tables.{Suffix, suffix, grade_of}
use Rattle.starlark_grammar.specs.Frames.{Frames, tail, State, has}
use Rattle.starlark_grammar.specs.Machine.{enter, goes_on, feed, step}
use Rattle.starlark_grammar.specs.Runs.{operates, ends, met, Trace, Stuck, note, finish, run}

-- what is met at a token, and behind it
abbrev pub arrive : Item → List Item → Option Event → Option State → Trace
arrive x xs m o = note (x ∷ xs) m (let v : Trace = elim o [ None ↦ Stuck (x ∷ xs) | Some s' ↦ run s' xs ] in v)

pub runs : (s : State) (x : Item) (xs : List Item) → run s (x ∷ xs) ≡ arrive x xs (met s (Some x.lexeme)) (step s x)
unfolding run
runs s x xs = refl

pub runs_end : (s : State) → run s [] ≡ note [] (met s None) (finish s)
unfolding run
runs_end s = refl

-- a step at which nothing is met
pub passes_on : (s s' : State) (x : Item) (xs : List Item) → met s (Some x.lexeme) ≡ None → step s x ≡ Some s' → run s (x ∷ xs) ≡ run s' xs
passes_on s s' x xs m e = runs s x xs ∙ ap (λ o. arrive x xs o (step s x)) m ∙ ap (arrive x xs None) e

pub stays_at : (s : State) (x : Item) (xs : List Item) → met s (Some x.lexeme) ≡ None → step s x ≡ None → run s (x ∷ xs) ≡ Stuck (x ∷ xs)
stays_at s x xs m e = runs s x xs ∙ ap (λ o. arrive x xs o (step s x)) m ∙ ap (arrive x xs None) e

pub at_token : (s t : State) (ts : List Item) → met s None ≡ met t None → finish s ≡ finish t → ((x : Item) (xs : List Item) → ts ≡ x ∷ xs → (step s x ≡ step t x) × (met s (Some x.lexeme) ≡ met t (Some x.lexeme))) → run s ts ≡ run t ts
at_token s t [] m e h = runs_end s ∙ ap (λ o. note [] o (finish s)) m ∙ ap (note [] (met t None)) e ∙ sym (runs_end t)
at_token s t (x ∷ xs) m e h =
    let p = h x xs refl in
    runs s x xs ∙ ap (arrive x xs (met s (Some x.lexeme))) p.0 ∙ ap (λ o. arrive x xs o (step t x)) p.1 ∙ sym (runs t x xs)

pub same : (s t : State) → finish s ≡ finish t → ((x : Item) → step s x ≡ step t x) → ((x : Option Lexeme) → met s x ≡ met t x) → (ts : List Item) → run s ts ≡ run t ts
same s t e h g ts = at_token s t ts (g None) e (λ x xs q. (h x, g (Some x.lexeme)))

-- the level of the suffix or the operator that the tokens begin with
abbrev pub first_grade : List Item → ℕ
first_grade [] = 13
first_grade (x ∷ xs) = grade_of (suffix x.lexeme)

other_grade : (o : Option Suffix) (n : ℕ) (q : tree.Expr) (k : Frames) (other : Option State) → nat_eq (grade_of o) n ≡ false → goes_on o n q k other ≡ other
other_grade None n q k other h = refl
other_grade (Some s) n q k other h = ap (λ b. cond b (Some (enter s q k)) other) h

other_operates : (o : Option Suffix) (n : ℕ) → nat_eq (grade_of o) n ≡ false → operates o n ≡ false
other_operates None n h = refl
other_operates (Some s) n h = h

-- a token of another level passes over a tail
pub past : (n : ℕ) (q : tree.Expr) (e : ℕ) (k : Frames) (ts : List Item) → first_grade ts ≢ n → run (has q e (tail n k)) ts ≡ run (has q e k) ts
past n q e k ts h = at_token _ _ ts refl refl (λ x xs w. let z : nat_eq (grade_of (suffix x.lexeme)) n ≡ false = nat_ne x xs w in (other_grade (suffix x.lexeme) n q k (feed k q e x.lexeme x.begin x.end) z, ap (λ b. cond b None (ends k q e (Some x.lexeme))) (other_operates (suffix x.lexeme) n z)))
  where
    nat_ne : (x : Item) (xs : List Item) → ts ≡ x ∷ xs → nat_eq (grade_of (suffix x.lexeme)) n ≡ false
    nat_ne x xs w = let ne : grade_of (suffix x.lexeme) ≢ n = (λ v. h (ap first_grade w ∙ v)) in grind arith
