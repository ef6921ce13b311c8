-- How expressions begin.
use Rattle.std.proofs.Common.{ℕ, ◌+◌, ◌<◌, ◌≡◌, ◌≢◌, ◌⊎◌, inl, inr, zero, suc, List, [], ◌∷◌, Option, Some, None, MatchOption, true, false, nat_eq, cond, refl, ap, sym, subst, ◌∙◌, arith, add-zero}
use Rattle.starlark_lexer.specs.Items.{Lexeme, Item, item, keyword_lambda}
use Rattle.starlark_lexer.specs.declared.dialect.Dialect.{Dialect}
use Rattle.starlark_ast.specs.Tree as tree
use Rattle.starlark_grammar.specs.Nodes.{start}
use Rattle.starlark_grammar.specs.Tables.{Beginning, leaf, bracket, quoted, signed, lambda, beginning, begins_at, sign_level}
use Rattle.starlark_grammar.specs.Points.{before_body, body, behind_sign, member_wanted}
use Rattle.starlark_grammar.specs.Spans.{stretch}
use Rattle.starlark_grammar.specs.Frames.{Frames, inside, tail, wants, has, stands}
use Rattle.starlark_grammar.specs.Machine.{tails, begun, begin, begin_with, step}
use Rattle.starlark_read.specs.Reads.{Left, first_lexeme, begins_ahead, begins_by, sign_ahead, sign_in, Passes, Goes}
use Rattle.starlark_grammar.proofs.Steps.{at_token, same}
use Rattle.starlark_grammar.proofs.Reading.{eq_true, ne_false}
use Rattle.starlark_read.proofs.Exits.{runs_as, goes}

pub tails_end : (c n : ℕ) (k : Frames) → tails c n (tail (n + c) k) ≡ tails (suc c) n k
tails_end zero n k = rw (add-zero n)
tails_end (suc c) n k = let count : n + suc c ≡ suc n + c = omega arith in rw count (ap (tail n) (tails_end c (suc n) k))

-- an expression of level 0, or of a level above
low_begins : (n : ℕ) (b : Beginning) (i j : ℕ) (k : Frames) → (begins_at b ≡ 0) ⊎ (n < begins_at b) → begin n b i j k ≡ begin 0 b i j (tails n 1 k)
low_begins zero b i j k h = refl
low_begins (suc n) b i j k h =
    ap (λ y. cond y (Some (begun b i j k)) (begin n b i j (tail (suc n) k))) (ne_false (begins_at b) (suc n) (out h))
    ∙ low_begins n b i j (tail (suc n) k) (on h)
    ∙ ap (begin 0 b i j) (let one : suc n ≡ 1 + n = omega arith in rw one (tails_end n 1 k))
  where
    out : (begins_at b ≡ 0) ⊎ (suc n < begins_at b) → begins_at b ≢ suc n
    out (inl w) e = omega (arith, w, e)
    out (inr w) e = omega (arith, w, e)

    on : (begins_at b ≡ 0) ⊎ (suc n < begins_at b) → (begins_at b ≡ 0) ⊎ (n < begins_at b)
    on (inl w) = inl w
    on (inr w) = inr (omega (arith, w))

-- an expression of a level up to that
high_begins : (n c m : ℕ) (b : Beginning) (i j : ℕ) (k : Frames) → c + m ≡ n → begins_at b ≡ m → begin n b i j k ≡ Some (begun b i j (tails c (suc m) k))
high_begins zero c m b i j k w h =
    let low : begins_at b ≡ 0 = omega (arith, w, h) in
    let none : c ≡ 0 = omega (arith, w) in
    ap (λ y. cond (nat_eq y 0) (Some (begun b i j k)) None) low ∙ ap (λ y. Some (begun b i j (tails y (suc m) k))) (sym none)
high_begins (suc n) zero m b i j k w h =
    let here : nat_eq (begins_at b) (suc n) ≡ true = let e : begins_at b ≡ suc n = omega (arith, w, h) in ap (λ y. nat_eq y (suc n)) e ∙ eq_true (suc n) in
    ap (λ y. cond y (Some (begun b i j k)) (begin n b i j (tail (suc n) k))) here
high_begins (suc n) (suc c) m b i j k w h =
    let other : nat_eq (begins_at b) (suc n) ≡ false = ne_false (begins_at b) (suc n) (λ e. omega (arith, e, h, w)) in
    let count : suc n ≡ suc m + c = omega (arith, w) in
    ap (λ y. cond y (Some (begun b i j k)) (begin n b i j (tail (suc n) k))) other
    ∙ high_begins n c m b i j (tail (suc n) k) (omega (arith, w)) h
    ∙ ap (λ y. Some (begun b i j (tails c (suc m) (tail y k)))) count
    ∙ ap (λ y. Some (begun b i j y)) (tails_end c (suc m) k)

-- what begins with no sign of that level and no lambda
pub plain_begins : {d : Dialect} (n : ℕ) (k : Frames) (ts : Left) → (begins_ahead ts.items ≡ 0) ⊎ (n < begins_ahead ts.items) → Goes d (wants n k) ts (wants 0 (tails n 1 k)) ts
plain_begins n k ts h = runs_as (at_token _ _ ts.items refl refl (λ x xs z. (go (beginning x.lexeme) x.begin x.end (subst (λ ys. (begins_ahead ys ≡ 0) ⊎ (n < begins_ahead ys)) z h), refl)))
  where
    go : (o : Option Beginning) (i j : ℕ) → (begins_by o ≡ 0) ⊎ (n < begins_by o) → begin_with o n i j k ≡ begin_with o 0 i j (tails n 1 k)
    go None i j w = refl
    go (Some b) i j w = low_begins n b i j k w

signed_by : (o : Option Beginning) (s : tree.Sign) → sign_in o ≡ Some s → o ≡ Some (signed s)
signed_by None s h = absurd (let w : None ≡ Some s = h in (cc))
signed_by (Some (leaf l)) s h = absurd (let w : None ≡ Some s = h in (cc))
signed_by (Some (bracket p)) s h = absurd (let w : None ≡ Some s = h in (cc))
signed_by (Some quoted) s h = absurd (let w : None ≡ Some s = h in (cc))
signed_by (Some lambda) s h = absurd (let w : None ≡ Some s = h in (cc))
signed_by (Some (signed r)) s h = let w : Some r ≡ Some s = h in let v : r ≡ s = cc in ap (λ z. Some (signed z)) v

-- a sign
pub sign_begins : {d : Dialect} (c m : ℕ) (k : Frames) (s : tree.Sign) {x : Item} {ts us : Left} → Passes ts x us → sign_ahead ts.items ≡ Some s → begins_ahead ts.items ≡ m → Goes d (wants (c + m) k) ts (wants m (inside (behind_sign s (start ts.items)) (tails (suc c) m k))) us
sign_begins {d} c m k s {x} {ts} {us} p a h =
    let b : beginning x.lexeme ≡ Some (signed s) = signed_by (beginning x.lexeme) s (sym (ap sign_ahead p.items) ∙ a) in
    let l : sign_level s ≡ m = sym (ap begins_by b) ∙ sym (ap begins_ahead p.items) ∙ h in
    subst (λ i. Goes d (wants (c + m) k) ts (wants m (inside (behind_sign s i) (tails (suc c) m k))) us) (sym (ap start p.items)) (goes p refl (on b l))
  where
    on : beginning x.lexeme ≡ Some (signed s) → sign_level s ≡ m → step (wants (c + m) k) x ≡ Some (wants m (inside (behind_sign s x.begin) (tails (suc c) m k)))
    on b l = ap (λ o. begin_with o (c + m) x.begin x.end k) b ∙ high_begins (c + m) c m (signed s) x.begin x.end k refl l ∙ ap (λ z. Some (wants z (inside (behind_sign s x.begin) (tail z (tails c (suc m) k))))) l

pub sign_next : {d : Dialect} {X : Type 0} (f : X → Item) (c m : ℕ) (k : Frames) (s : tree.Sign) {ts us : Left} (r : Option X) → MatchOption r ((ts.items ≡ []) × (us ≡ ts)) (λ x. Passes ts (f x) us) → sign_ahead ts.items ≡ Some s → begins_ahead ts.items ≡ m → Goes d (wants (c + m) k) ts (wants m (inside (behind_sign s (start ts.items)) (tails (suc c) m k))) us
sign_next f c m k s None h a g = absurd (let w : None ≡ Some s = sym (ap sign_ahead h.0) ∙ a in (cc))
sign_next f c m k s (Some x) h a g = sign_begins c m k s h a g

pub not_none : {n : ℕ} → 0 < n → n ≡ 0 → ⊥
not_none l e = omega (arith, l, e)

no_other : (x : Lexeme) → sign_in (beginning x) ≡ None → x ≢ keyword_lambda → begins_by (beginning x) ≡ 0
no_other x h a = go (beginning x) refl
  where
    lambda_by : (y : Lexeme) → beginning y ≡ Some lambda → y ≡ keyword_lambda
    lambda_by keyword_lambda e = refl
    lambda_by _ e = absurd (cc)

    go : (o : Option Beginning) → beginning x ≡ o → begins_by (beginning x) ≡ 0
    go None w = ap begins_by w
    go (Some (leaf l)) w = ap begins_by w
    go (Some (bracket p)) w = ap begins_by w
    go (Some quoted) w = ap begins_by w
    go (Some lambda) w = absurd (a (lambda_by x w))
    go (Some (signed s)) w = absurd (let v : Some s ≡ None = sym (ap sign_in w) ∙ h in (cc))

pub some_sign : (ts : List Item) → sign_ahead ts ≡ None → first_lexeme ts ≢ Some keyword_lambda → begins_ahead ts ≡ 0
some_sign [] h a = refl
some_sign (x ∷ xs) h a = no_other x.lexeme h (λ w. a (ap Some w))

-- a lambda
pub lambda_begins : {d : Dialect} (n b : ℕ) (k : Frames) {j : ℕ} {ts us : Left} → n ≡ 12 → start ts.items ≡ b → Passes ts (item (start ts.items) keyword_lambda j) us → Goes d (wants n k) ts (stands (member_wanted (before_body b) tree.none false 0 0) k) us
lambda_begins {d} n b k {j} {ts} {us} l w p = subst (λ m. Goes d (wants m k) ts (stands (member_wanted (before_body b) tree.none false 0 0) k) us) (sym l) (subst (λ z. Goes d (wants 12 k) ts (stands (member_wanted (before_body z) tree.none false 0 0) k) us) w (goes p refl refl))

-- behind its body
pub lambda_ends : {d : Dialect} (ms : tree.Members) (b : ℕ) (q : tree.Expr) (e : ℕ) (k : Frames) (ts : Left) → Goes d (has q e (inside (body ms b) k)) ts (has (tree.lambda ms q (stretch b e)) e k) ts
lambda_ends ms b q e k ts = runs_as (same _ _ refl (λ x. refl) (λ x. refl) ts.items)
