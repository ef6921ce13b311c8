-- Operators between expressions, and signs before them.
use Rattle.std.proofs.Common.{ℕ, ◌+◌, ◌<◌, ◌≤◌, ◌≡◌, ◌≢◌, suc, List, [], ◌∷◌, Option, Some, None, MatchOption, Bool, true, false, nat_eq, cond, refl, ap, sym, subst, ◌∙◌, arith}
use Rattle.starlark_lexer.specs.Items.{Lexeme, Item, item, keyword_if, keyword_in, keyword_not, keyword_else}
use Rattle.starlark_lexer.specs.declared.dialect.Dialect.{Dialect}
use Rattle.starlark_ast.specs.declared.ast.BinOp.{BinOp}
use Rattle.starlark_ast.specs.declared.ast.BinOp.TheVariants as op
use Rattle.starlark_ast.specs.Tree as tree
use Rattle.starlark_grammar.specs.Nodes.{from, operated}
use Rattle.starlark_grammar.specs.Spans.{stretch}
use Rattle.starlark_grammar.specs.Tables.{Suffix, dotted, indexed, called, joined, negated, chosen, suffix, below, grade_of, associates}
use Rattle.starlark_grammar.specs.Points.{operand, condition, otherwise, not_read, behind_sign}
use Rattle.starlark_grammar.specs.Frames.{Frames, inside, tail, wants, has, stands}
use Rattle.starlark_grammar.specs.Machine.{tails, enter, goes_on, feed, step, move}
use Rattle.starlark_grammar.specs.Runs.{ends, operates, met}
use Rattle.starlark_read.specs.Reads.{Left, first_lexeme, grade_ahead, operator_of, operator_ahead, Passes, Goes, Sticks}
use Rattle.starlark_grammar.proofs.Steps.{same}
use Rattle.starlark_grammar.proofs.Reading.{eq_true}
use Rattle.starlark_read.proofs.Exits.{◌>>◌, sticks, runs_as, stays_there, not_next, stops, goes}

-- what goes on behind an operation of a level
abbrev pub rest_of : ℕ → Frames → Frames
rest_of n k = cond (associates n) (tail n k) k

-- an operator of one token
pub enters : {d : Dialect} (q : tree.Expr) (e : ℕ) (k : Frames) (o : BinOp) (n : ℕ) {x : Item} {ts us : Left} → Passes ts x us → suffix x.lexeme ≡ Some (joined o) → below o ≡ n → Goes d (has q e (tail (suc n) k)) ts (wants n (inside (operand q o) (rest_of (suc n) k))) us
enters {d} q e k o n {x} {ts} {us} p s w = subst (λ m. Goes d (has q e (tail (suc m) k)) ts (wants m (inside (operand q o) (rest_of (suc m) k))) us) w (goes p nothing on)
  where
    same_level : nat_eq (suc (below o)) (suc (below o)) ≡ true
    same_level = eq_true (suc (below o))

    nothing : met (has q e (tail (suc (below o)) k)) (Some x.lexeme) ≡ None
    nothing = ap (λ z. cond (operates z (suc (below o))) None (ends k q e (Some x.lexeme))) s ∙ ap (λ b. cond b None (ends k q e (Some x.lexeme))) same_level

    on : step (has q e (tail (suc (below o)) k)) x ≡ Some (wants (below o) (inside (operand q o) (rest_of (suc (below o)) k)))
    on = ap (λ z. goes_on z (suc (below o)) q k (feed k q e x.lexeme x.begin x.end)) s ∙ ap (λ b. cond b (Some (enter (joined o) q k)) (feed k q e x.lexeme x.begin x.end)) same_level

-- the operator that stands ahead
joined_by : (s : Option Suffix) (o : BinOp) → operator_of s ≡ Some o → s ≡ Some (joined o)
joined_by None o h = absurd (let w : None ≡ Some o = h in (cc))
joined_by (Some dotted) o h = absurd (let w : None ≡ Some o = h in (cc))
joined_by (Some indexed) o h = absurd (let w : None ≡ Some o = h in (cc))
joined_by (Some called) o h = absurd (let w : None ≡ Some o = h in (cc))
joined_by (Some negated) o h = absurd (let w : None ≡ Some o = h in (cc))
joined_by (Some chosen) o h = absurd (let w : None ≡ Some o = h in (cc))
joined_by (Some (joined p)) o h = let w : Some p ≡ Some o = h in let v : p ≡ o = cc in ap (λ z. Some (joined z)) v

pub operates_by : {d : Dialect} (q : tree.Expr) (e : ℕ) (k : Frames) (o : BinOp) (n : ℕ) {x : Item} {ts us : Left} → Passes ts x us → operator_ahead ts.items ≡ Some o → grade_ahead ts.items ≡ suc n → Goes d (has q e (tail (suc n) k)) ts (wants n (inside (operand q o) (rest_of (suc n) k))) us
operates_by q e k o n {x} {ts} {us} p a g =
    let s : suffix x.lexeme ≡ Some (joined o) = joined_by (suffix x.lexeme) o (sym (ap operator_ahead p.items) ∙ a) in
    let w : suc (below o) ≡ suc n = sym (ap grade_of s) ∙ sym (ap grade_ahead p.items) ∙ g in
    enters q e k o n p s (omega (arith, w))

pub operates_next : {d : Dialect} {X : Type 0} (f : X → Item) (q : tree.Expr) (e : ℕ) (k : Frames) (o : BinOp) (n : ℕ) {ts us : Left} (r : Option X) → MatchOption r ((ts.items ≡ []) × (us ≡ ts)) (λ x. Passes ts (f x) us) → operator_ahead ts.items ≡ Some o → grade_ahead ts.items ≡ suc n → Goes d (has q e (tail (suc n) k)) ts (wants n (inside (operand q o) (rest_of (suc n) k))) us
operates_next f q e k o n None h a g = absurd (let w : None ≡ Some o = sym (ap operator_ahead h.0) ∙ a in (cc))
operates_next f q e k o n (Some x) h a g = operates_by q e k o n h a g

negated_by : (x : Lexeme) → suffix x ≡ Some negated → x ≡ keyword_not
negated_by keyword_not h = refl
negated_by _ h = absurd (cc)

no_binary : (x : Lexeme) (n : ℕ) → operator_of (suffix x) ≡ None → x ≢ keyword_not → grade_of (suffix x) ≡ suc n → n < 11 → ⊥
no_binary x n h a g l = go (suffix x) refl
  where
    go : (s : Option Suffix) → suffix x ≡ s → ⊥
    go None w = let v : 13 ≡ suc n = sym (ap grade_of w) ∙ g in omega (arith, v, l)
    go (Some dotted) w = let v : 0 ≡ suc n = sym (ap grade_of w) ∙ g in omega (arith, v)
    go (Some indexed) w = let v : 0 ≡ suc n = sym (ap grade_of w) ∙ g in omega (arith, v)
    go (Some called) w = let v : 0 ≡ suc n = sym (ap grade_of w) ∙ g in omega (arith, v)
    go (Some negated) w = a (negated_by x w)
    go (Some chosen) w = let v : 12 ≡ suc n = sym (ap grade_of w) ∙ g in omega (arith, v, l)
    go (Some (joined o)) w = let v : Some o ≡ None = sym (ap operator_of w) ∙ h in absurd (cc)

pub some_operator : (ts : List Item) (n : ℕ) → operator_ahead ts ≡ None → first_lexeme ts ≢ Some keyword_not → grade_ahead ts ≡ suc n → n < 11 → ⊥
some_operator [] n h a g l = let v : 13 ≡ suc n = g in omega (arith, v, l)
some_operator (x ∷ xs) n h a g l = no_binary x.lexeme n h (λ w. a (ap Some w)) g l

-- `not in`
pub negates : {d : Dialect} (q : tree.Expr) (e : ℕ) (k : Frames) (n : ℕ) {i j i' j' : ℕ} {ts us vs : Left} → grade_ahead ts.items ≡ suc n → Passes ts (item i keyword_not j) us → Passes us (item i' keyword_in j') vs → Goes d (has q e (tail (suc n) k)) ts (wants n (inside (operand q op.NotIn) (rest_of (suc n) k))) vs
negates {d} q e k n {i} {j} {i'} {j'} {ts} {us} {vs} g p r =
    let w : 8 ≡ suc n = sym (ap grade_ahead p.items) ∙ g in
    let v : 7 ≡ n = omega (arith, w) in
    subst (λ m. Goes d (has q e (tail (suc m) k)) ts (wants m (inside (operand q op.NotIn) (rest_of (suc m) k))) vs) v (goes p refl refl >> goes r refl refl)

pub no_in : {d : Dialect} (q : tree.Expr) (e : ℕ) (k : Frames) (n : ℕ) {i j : ℕ} {ts us vs : Left} → grade_ahead ts.items ≡ suc n → Passes ts (item i keyword_not j) us → (vs ≡ us) × (first_lexeme us.items ≢ Some keyword_in) → Sticks d (has q e (tail (suc n) k)) ts vs
no_in {d} q e k n {i} {j} {ts} {us} {vs} g p h =
    let w : 8 ≡ suc n = sym (ap grade_ahead p.items) ∙ g in
    let v : 7 ≡ n = omega (arith, w) in
    subst (λ m. Sticks d (has q e (tail (suc m) k)) ts vs) v (sticks (goes p refl refl) (stays_there h.0 (stops (stands (not_read q) k) us refl refl (λ x xs z. here x.lexeme x.begin x.end (not_next us x xs keyword_in h.1 z)))))
  where
    here : (y : Lexeme) (i j : ℕ) → y ≢ keyword_in → move (stands (not_read q) k) y i j ≡ None
    here keyword_in i j a = absurd (a refl)
    here _ i j a = refl

-- behind the right side of an operator
pub joins : {d : Dialect} (q r : tree.Expr) (o : BinOp) (e : ℕ) (k : Frames) (ts : Left) → Goes d (has r e (inside (operand q o) k)) ts (has (operated q o r) e k) ts
joins q r o e k ts = runs_as (same _ _ refl (λ x. refl) (λ x. refl) ts.items)

-- behind a sign
pub signs : {d : Dialect} (s : tree.Sign) (b : ℕ) (q : tree.Expr) (e : ℕ) (k : Frames) (ts : Left) → Goes d (has q e (inside (behind_sign s b) k)) ts (has (tree.signed s q (stretch b e)) e k) ts
signs s b q e k ts = runs_as (same _ _ refl (λ x. refl) (λ x. refl) ts.items)

-- behind what is there without the condition
pub chooses : {d : Dialect} (t c q : tree.Expr) (e : ℕ) (k : Frames) (ts : Left) → Goes d (has q e (inside (otherwise t c) k)) ts (has (tree.choice c t q (from t e)) e k) ts
chooses t c q e k ts = runs_as (same _ _ refl (λ x. refl) (λ x. refl) ts.items)

pub no_else : {d : Dialect} (t c : tree.Expr) (e : ℕ) (k : Frames) (ts us : Left) → (us ≡ ts) × (first_lexeme ts.items ≢ Some keyword_else) → Sticks d (has c e (inside (condition t) k)) ts us
no_else t c e k ts us h = stays_there h.0 (stops _ ts refl refl (λ x xs z. here x.lexeme x.begin x.end (not_next ts x xs keyword_else h.1 z)))
  where
    here : (y : Lexeme) (i j : ℕ) → y ≢ keyword_else → move (has c e (inside (condition t) k)) y i j ≡ None
    here keyword_else i j a = absurd (a refl)
    here _ i j a = refl

-- only `if` is of the last level
pub no_choice : (ts : List Item) → first_lexeme ts ≢ Some keyword_if → grade_ahead ts ≢ 12
no_choice [] h w = let v : 13 ≡ 12 = w in omega (arith, v)
no_choice (x ∷ xs) h w = go (suffix x.lexeme) refl
  where
    chosen_by : (y : Lexeme) → suffix y ≡ Some chosen → y ≡ keyword_if
    chosen_by keyword_if h = refl
    chosen_by _ h = absurd (cc)

    level : (o : BinOp) → suc (below o) ≢ 12
    level op.Or v = omega (arith, v)
    level op.And v = omega (arith, v)
    level _ v = omega (arith, v)

    go : (s : Option Suffix) → suffix x.lexeme ≡ s → ⊥
    go None v = let u : 13 ≡ 12 = sym (ap grade_of v) ∙ w in omega (arith, u)
    go (Some dotted) v = let u : 0 ≡ 12 = sym (ap grade_of v) ∙ w in omega (arith, u)
    go (Some indexed) v = let u : 0 ≡ 12 = sym (ap grade_of v) ∙ w in omega (arith, u)
    go (Some called) v = let u : 0 ≡ 12 = sym (ap grade_of v) ∙ w in omega (arith, u)
    go (Some negated) v = let u : 8 ≡ 12 = sym (ap grade_of v) ∙ w in omega (arith, u)
    go (Some chosen) v = h (ap Some (chosen_by x.lexeme v))
    go (Some (joined o)) v = level o (sym (ap grade_of v) ∙ w)

-- the tails from the next level on
pub next_tails : (g c b m : ℕ) (k : Frames) → cond (associates g) g (suc g) ≡ m → b + m ≡ suc (c + g) → rest_of g (tails c (suc g) k) ≡ tails b m k
next_tails g c b m k h w = go (associates g) refl
  where
    go : (a : Bool) → associates g ≡ a → rest_of g (tails c (suc g) k) ≡ tails b m k
    go true z =
        let u : g ≡ m = sym (ap (λ y. cond y g (suc g)) z) ∙ h in
        let v : suc c ≡ b = omega (arith, u, w) in
        ap (λ y. cond y (tail g (tails c (suc g) k)) (tails c (suc g) k)) z ∙ ap (λ y. tails (suc c) y k) u ∙ ap (λ y. tails y m k) v
    go false z =
        let u : suc g ≡ m = sym (ap (λ y. cond y g (suc g)) z) ∙ h in
        let v : c ≡ b = omega (arith, u, w) in
        ap (λ y. cond y (tail g (tails c (suc g) k)) (tails c (suc g) k)) z ∙ ap (λ y. tails c y k) u ∙ ap (λ y. tails y m k) v

pub next_floor : (g : ℕ) → (g ≤ cond (associates g) g (suc g)) × (cond (associates g) g (suc g) ≤ suc g)
next_floor g = go (associates g)
  where
    go : (a : Bool) → (g ≤ cond a g (suc g)) × (cond a g (suc g) ≤ suc g)
    go true = (omega arith, omega arith)
    go false = (omega arith, omega arith)
