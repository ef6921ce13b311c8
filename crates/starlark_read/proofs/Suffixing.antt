-- Suffixes and operators behind an expression.
use Rattle.std.proofs.Common.{ℕ, ◌+◌, ◌<◌, ◌≤◌, ◌≡◌, ◌≢◌, ◌⊎◌, inl, inr, zero, suc, List, [], ◌∷◌, Option, Some, None, MatchOption, max, Bool, true, false, nat_eq, refl, ap, sym, subst, ◌∙◌, arith}
use Rattle.starlark_place.specs.Place.{Extent, extent}
use Rattle.starlark_lexer.specs.Items.{Lexeme, Item, dot, opening_round, opening_square}
use Rattle.starlark_lexer.specs.declared.dialect.Dialect.{Dialect}
use Rattle.starlark_ast.specs.Tree as tree
use Rattle.starlark_grammar.specs.Nodes.{from}
use Rattle.starlark_grammar.specs.Spans.{stretch}
use Rattle.starlark_grammar.specs.Tables.{suffix, grade_of}
use Rattle.starlark_grammar.specs.Points.{attribute_wanted, made, on_some}
use Rattle.starlark_grammar.specs.Frames.{Frames, has, stands, tail}
use Rattle.starlark_grammar.specs.Machine.{tails, goes, else_state}
use Rattle.starlark_grammar.specs.Runs.{run}
use Rattle.starlark_read.specs.Reads.{Left, first_lexeme, grade_ahead, name_ahead, Sticks}
use Rattle.starlark_grammar.proofs.Steps.{first_grade, past}
use Rattle.starlark_read.proofs.Exits.{stays_there, stops}

-- the same tokens
pub unlike : {ts us : Left} {o : Option Lexeme} → us ≡ ts → first_lexeme ts.items ≢ o → first_lexeme us.items ≢ o
unlike {ts} {us} {o} w h e = h (ap (λ vs. first_lexeme vs.items) (sym w) ∙ e)

-- what a call answered
pub none_of : {X : Type 0} (P : Type 0) (Q : X → Type 0) (o : Option X) → o ≡ None → MatchOption o P Q → P
none_of P Q None e h = h
none_of P Q (Some x) e h = absurd (let w : Some x ≡ None = e in (cc))

pub some_of : {X : Type 0} (P : Type 0) (Q : X → Type 0) (o : Option X) (x : X) → o ≡ Some x → MatchOption o P Q → Q x
some_of P Q None x e h = absurd (let w : None ≡ Some x = e in (cc))
some_of P Q (Some y) x e h = let w : Some y ≡ Some x = e in let v : y ≡ x = cc in subst Q v h

-- from the beginning of an expression to there
pub spanned : (q : tree.Expr) (e : ℕ) {s p : Extent} {b : ℕ} → s ≡ stretch b e → b ≡ p.begin → p ≡ tree.place q → s ≡ from q e
spanned q e u v w = u ∙ ap (λ z. stretch z e) (v ∙ ap (λ z. z.begin) w)

pub since_there : {s : Extent} {b c : ℕ} (e : ℕ) → s ≡ stretch b e → b ≡ c → s ≡ stretch c e
since_there e u w = u ∙ ap (λ z. stretch z e) w

pub in_order : (s : Extent) → s.begin ≤ s.end → stretch s.begin s.end ≡ s
in_order s h = ap (extent s.begin) (let w : max s.begin s.end ≡ s.end = omega (arith, h) in w)

-- no name stands there
pub no_attribute : {d : Dialect} (q : tree.Expr) (k : Frames) (ts us : Left) → (us ≡ ts) × (name_ahead ts.items ≡ None) → Sticks d (stands (attribute_wanted q) k) ts us
no_attribute q k ts us h = stays_there h.0 (stops _ ts refl refl (λ x xs z. ap (λ o. else_state (goes k (on_some o (λ n. Some (made (tree.dot q n (stretch x.begin x.end) (from q x.end)) x.end)) None)) (else_state None None)) (sym (ap name_ahead z) ∙ h.1)))

pub same_grade : (ts : List Item) → first_grade ts ≡ grade_ahead ts
same_grade [] = refl
same_grade (x ∷ xs) = refl

-- a token of another level passes over a tail
pub passes_tail : (n : ℕ) (q : tree.Expr) (e : ℕ) (k : Frames) (ts : List Item) → grade_ahead ts ≢ n → run (has q e (tail n k)) ts ≡ run (has q e k) ts
passes_tail n q e k ts h = past n q e k ts (λ w. h (sym (same_grade ts) ∙ w))

no_grade : (x : Lexeme) → x ≢ dot → x ≢ opening_round → x ≢ opening_square → nat_eq (grade_of (suffix x)) 0 ≡ false
no_grade dot a b c = absurd (a refl)
no_grade opening_round a b c = absurd (b refl)
no_grade opening_square a b c = absurd (c refl)
no_grade _ a b c = refl

-- no suffix stands there
pub no_suffix : (ts : List Item) → first_lexeme ts ≢ Some dot → first_lexeme ts ≢ Some opening_round → first_lexeme ts ≢ Some opening_square → grade_ahead ts ≢ 0
no_suffix [] a b c e = absurd (let w : 13 ≡ 0 = e in omega arith)
no_suffix (x ∷ xs) a b c e =
    let w : nat_eq (grade_of (suffix x.lexeme)) 0 ≡ false = no_grade x.lexeme (λ z. a (ap Some z)) (λ z. b (ap Some z)) (λ z. c (ap Some z)) in
    let v : nat_eq (grade_of (suffix x.lexeme)) 0 ≡ true = ap (λ n. nat_eq n 0) e in
    absurd (let z : true ≡ false = sym v ∙ w in (cc))

-- a token of a level that none of the tails has passes over all
pub passes_tails : (c n : ℕ) (q : tree.Expr) (e : ℕ) (k : Frames) (ts : List Item) → (grade_ahead ts < n) ⊎ (n + c ≤ grade_ahead ts) → run (has q e (tails c n k)) ts ≡ run (has q e k) ts
passes_tails zero n q e k ts h = refl
passes_tails (suc c) n q e k ts h =
    passes_tail n q e (tails c (suc n) k) ts (out h) ∙ passes_tails c (suc n) q e k ts (on h)
  where
    out : (grade_ahead ts < n) ⊎ (n + suc c ≤ grade_ahead ts) → grade_ahead ts ≢ n
    out (inl a) e = omega arith
    out (inr a) e = omega arith

    on : (grade_ahead ts < n) ⊎ (n + suc c ≤ grade_ahead ts) → (grade_ahead ts < suc n) ⊎ (suc n + c ≤ grade_ahead ts)
    on (inl a) = inl (omega arith)
    on (inr a) = inr (omega arith)

by_level : {P : Type 0} (g n : ℕ) → (g ≡ n → P) → (g ≢ n → P) → P
by_level {P} g n f h = go (nat_eq g n) refl
  where
    go : (t : Bool) → nat_eq g n ≡ t → P
    go true z = f (grind arith)
    go false z = h (grind arith)

-- tails up to the level of the token
pub at_grade : (b c n : ℕ) (q : tree.Expr) (e : ℕ) (k : Frames) (ts : List Item) (g : ℕ) → grade_ahead ts ≡ g → n ≤ g → b + n ≡ suc (c + g) → run (has q e (tails b n k)) ts ≡ run (has q e (tail g (tails c (suc g) k))) ts
at_grade zero c n q e k ts g h l w = absurd (omega (arith, l, w))
at_grade (suc b) c n q e k ts g h l w = by_level g n
    (λ u. let v : b ≡ c = omega (arith, u, w) in ap (λ y. run (has q e (tail n (tails y (suc n) k))) ts) v ∙ ap (λ y. run (has q e (tail y (tails c (suc y) k))) ts) (sym u))
    (λ u. passes_tail n q e (tails b (suc n) k) ts (λ y. u (sym h ∙ y)) ∙ at_grade b c (suc n) q e k ts g h (omega (arith, l, u)) (omega (arith, w)))
