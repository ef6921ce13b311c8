-- Where the constructs of a derivation begin: each within the tokens that it stands in, no two at one place.
use Rattle.std.proofs.Common.{ℕ, ◌≡◌, ◌<◌, ◌≤◌, ◌⊎◌, ◌∷◌, ◌∙◌, [], suc, inl, inr, List, ap, sym, subst, arith}
use Rattle.std.proofs.lemmas.Bool.{cases_lt}
use Rattle.starlark_place.specs.Place.{Extent}
use Rattle.starlark_lexer.specs.Items.{Lexeme, Item, item}
use Rattle.starlark_grammar.specs.Tables.{Kind, tests, pairs, arguments, parameters, loose, targets}
use Rattle.starlark_grammar.specs.Events.{Shape, Event, shaped}
use Rattle.starlark_grammar.specs.Marks.{Mark, mark, marked, comma_mark, Has}
use Rattle.starlark_grammar.specs.Longer.{begin_of, IsConstruct, BeginsTest}

-- up to where tokens that begin a Test have bytes, and where the last one ends at most
pub record Limits : Type 0 where
  pub firm : ℕ
  pub last : ℕ

-- the tokens stand in order, from m on
pub data Laid (l : Limits) : ℕ → List Item → Type 0 where
  no_tokens : {m : ℕ} → m ≤ l.last → Laid l m []
  a_token : {m i j : ℕ} {x : Lexeme} {xs : List Item} → m ≤ i → i ≤ j → (BeginsTest x → i < l.firm → i < j) → Laid l j xs → Laid l m (item i x j ∷ xs)

-- no construct there begins from lo to hi, before that limit
abbrev pub Clear : Limits → ℕ → ℕ → List Mark → Type 0
Clear l lo hi ms = (n : ℕ) (e : Event) → IsConstruct e → begin_of e < l.firm → Has (mark n e) ms → lo ≤ begin_of e → begin_of e < hi → ⊥

-- no two of them begin at one place
abbrev pub Unique : Limits → List Mark → Type 0
Unique l ms = (n m : ℕ) (d e : Event) → IsConstruct d → IsConstruct e → begin_of d ≡ begin_of e → begin_of d < l.firm → Has (mark n d) ms → Has (mark m e) ms → n ≡ m

-- marks that are put before others, whose constructs begin from lo to hi, each at a place of its own
pub record Spread (l : Limits) (lo hi : ℕ) (f : List Mark → List Mark) : Type 0 where
  pub inside : (later : List Mark) (n : ℕ) (e : Event) → IsConstruct e → begin_of e < l.firm → Has (mark n e) (f later) → Has (mark n e) later ⊎ ((lo ≤ begin_of e) × (begin_of e < hi))
  pub single : (later : List Mark) → Clear l lo hi later → Unique l later → Unique l (f later)

pub less_or : (a b : ℕ) → (a < b) ⊎ (b ≤ a)
less_or a b = cases_lt a b

clear_in : (l : Limits) {lo hi i j : ℕ} (ms : List Mark) → lo ≤ i → j ≤ hi → Clear l lo hi ms → Clear l i j ms
clear_in l ms a b h n e c k m u v = h n e c k m (omega (arith, a, u)) (omega (arith, b, v))

pub no_marks : {l : Limits} {lo hi : ℕ} → Spread l lo hi (λ later. later)
no_marks = record { inside = λ later n e c k m. inl m; single = λ later h g. g }

-- in a wider range
pub wider : {l : Limits} {lo hi i j : ℕ} {f : List Mark → List Mark} → i ≤ lo → hi ≤ j → Spread l lo hi f → Spread l i j f
wider {l} {lo} {hi} {i} {j} {f} a b s = record {
  inside = λ later n e c k m. go e (s.inside later n e c k m);
  single = λ later h g. s.single later (clear_in l later a b h) g;
}
  where
    go : {P : Type 0} (e : Event) → P ⊎ ((lo ≤ begin_of e) × (begin_of e < hi)) → P ⊎ ((i ≤ begin_of e) × (begin_of e < j))
    go e (inl p) = inl p
    go e (inr q) = inr (omega (arith, a, q.0), omega (arith, b, q.1))

-- behind a place that has bytes before that limit
pub sooner : {l : Limits} {i lo hi : ℕ} {f : List Mark → List Mark} → i ≤ lo → (i < l.firm → i < lo) → Spread l lo hi f → Spread l (suc i) hi f
sooner {l} {i} {lo} {hi} {f} a b s = record {
  inside = λ later n e c k m. go e k (s.inside later n e c k m);
  single = λ later h g. s.single later (λ n e c k m u v. h n e c k m (later_on e k u) v) g;
}
  where
    later_on : (e : Event) → begin_of e < l.firm → lo ≤ begin_of e → suc i ≤ begin_of e
    later_on e k u = let w = b (omega (arith, a, k, u)) in omega (arith, w, u)

    go : {P : Type 0} (e : Event) → begin_of e < l.firm → P ⊎ ((lo ≤ begin_of e) × (begin_of e < hi)) → P ⊎ ((suc i ≤ begin_of e) × (begin_of e < hi))
    go e k (inl p) = inl p
    go e k (inr q) = inr (later_on e k q.0, q.1)

-- one after the other
pub joins : {l : Limits} {lo i j hi : ℕ} {f g : List Mark → List Mark} → Spread l lo i f → i ≤ j → (j < l.firm → lo ≤ j) → j ≤ hi → Spread l j hi g → Spread l lo hi (λ later. f (g later))
joins {l} {lo} {i} {j} {hi} {f} {g} s a b c t = record {
  inside = λ later n e u k m. first e k (s.inside (g later) n e u k m) (t.inside later n e u k);
  single = λ later h q. s.single (g later) (λ n e u k m v w. second e (t.inside later n e u k m) (λ x. h n e u k x v (omega (arith, a, c, w))) w) (t.single later (λ n e u k m v w. h n e u k m (low e k v) w) q);
}
  where
    low : (e : Event) → begin_of e < l.firm → j ≤ begin_of e → lo ≤ begin_of e
    low e k v = let w = b (omega (arith, k, v)) in omega (arith, w, v)

    next : {Q : Type 0} (e : Event) → begin_of e < l.firm → Q ⊎ ((j ≤ begin_of e) × (begin_of e < hi)) → Q ⊎ ((lo ≤ begin_of e) × (begin_of e < hi))
    next e k (inl y) = inl y
    next e k (inr y) = inr (low e k y.0, y.1)

    first : {P Q : Type 0} (e : Event) → begin_of e < l.firm → P ⊎ ((lo ≤ begin_of e) × (begin_of e < i)) → (P → Q ⊎ ((j ≤ begin_of e) × (begin_of e < hi))) → Q ⊎ ((lo ≤ begin_of e) × (begin_of e < hi))
    first e k (inl p) z = next e k (z p)
    first e k (inr p) z = inr (p.0, (let w = p.1 in omega (arith, w, a, c)))

    second : {Q : Type 0} (e : Event) → Q ⊎ ((j ≤ begin_of e) × (begin_of e < hi)) → (Q → ⊥) → begin_of e < i → ⊥
    second e (inl y) z w = z y
    second e (inr y) z w = let v = y.0 in omega (arith, v, w, a)

is_mark : {n m : ℕ} {d e : Event} → mark n d ≡ mark m e → n ≡ m
is_mark h = cc

is_event : {n m : ℕ} {d e : Event} → mark n d ≡ mark m e → d ≡ e
is_event h = cc

-- and then a construct that begins where they do
pub around : {l : Limits} {hi : ℕ} {f : List Mark → List Mark} (n : ℕ) (e : Event) → Spread l (suc (begin_of e)) hi f → (begin_of e < l.firm → begin_of e < hi) → Spread l (begin_of e) hi (λ later. f (mark n e ∷ later))
around {l} {hi} {f} n e s b = record {
  inside = λ later m d u k h. outer d k (s.inside (mark n e ∷ later) m d u k h);
  single = λ later h g. s.single (mark n e ∷ later) (λ m d u k q v w. clear d q (λ y. h m d u k y (omega (arith, v)) w) v) (both later h g);
}
  where
    outer : {P : Type 0} {m : ℕ} (d : Event) → begin_of d < l.firm → ((mark m d ≡ mark n e) ⊎ P) ⊎ ((suc (begin_of e) ≤ begin_of d) × (begin_of d < hi)) → P ⊎ ((begin_of e ≤ begin_of d) × (begin_of d < hi))
    outer d k (inl (inl y)) = let w : begin_of d ≡ begin_of e = ap begin_of (is_event y) in let z = b (omega (arith, w, k)) in inr (omega (arith, w), omega (arith, w, z))
    outer d k (inl (inr y)) = inl y
    outer d k (inr y) = let w = y.0 in inr (omega (arith, w), y.1)

    clear : {P : Type 0} {m : ℕ} (d : Event) → (mark m d ≡ mark n e) ⊎ P → (P → ⊥) → suc (begin_of e) ≤ begin_of d → ⊥
    clear d (inl y) z v = let w : begin_of d ≡ begin_of e = ap begin_of (is_event y) in omega (arith, w, v)
    clear d (inr y) z v = z y

    both : (later : List Mark) → Clear l (begin_of e) hi later → Unique l later → Unique l (mark n e ∷ later)
    both later h g i j c d u v w k (inl x) (inl y) = is_mark x ∙ sym (is_mark y)
    both later h g i j c d u v w k (inl x) (inr y) = let z : begin_of c ≡ begin_of e = ap begin_of (is_event x) in let a = b (omega (arith, z, k)) in absurd (h j d v (omega (arith, w, k)) y (omega (arith, w, z)) (omega (arith, w, z, a)))
    both later h g i j c d u v w k (inr x) (inl y) = let z : begin_of d ≡ begin_of e = ap begin_of (is_event y) in let a = b (omega (arith, w, z, k)) in absurd (h i c u k x (omega (arith, w, z)) (omega (arith, w, z, a)))
    both later h g i j c d u v w k (inr x) (inr y) = g i j c d u v w k x y

-- a shape
pub shape_marks : {l : Limits} {lo hi : ℕ} (n : ℕ) (k : Shape) (s : Extent) → Spread l lo hi (λ later. mark n (shaped k s) ∷ later)
shape_marks {l} {lo} {hi} n k s = record {
  inside = λ later m e c b h. go e c h;
  single = λ later h g. both later g;
}
  where
    go : {m : ℕ} {P Q : Type 0} (e : Event) → IsConstruct e → (mark m e ≡ mark n (shaped k s)) ⊎ P → P ⊎ Q
    go e c (inl y) = absurd (subst IsConstruct (is_event y) c)
    go e c (inr y) = inl y

    both : (later : List Mark) → Unique l later → Unique l (mark n (shaped k s) ∷ later)
    both later g i j c d u v w b (inl x) y = absurd (subst IsConstruct (is_event x) u)
    both later g i j c d u v w b (inr x) (inl y) = absurd (subst IsConstruct (is_event y) v)
    both later g i j c d u v w b (inr x) (inr y) = g i j c d u v w b x y

pub comma_marks : {l : Limits} {lo hi : ℕ} (n : Kind) (k : ℕ) (s : Extent) → Spread l lo hi (λ later. marked k (comma_mark n s) later)
comma_marks loose k s = shape_marks k _ s
comma_marks targets k s = shape_marks k _ s
comma_marks tests k s = no_marks
comma_marks pairs k s = no_marks
comma_marks arguments k s = no_marks
comma_marks parameters k s = no_marks

-- tokens from m to e were read
pub record Passes (l : Limits) (m e : ℕ) (b : List Item) (f : List Mark → List Mark) : Type 0 where
  pub le : m ≤ e
  pub rest : Laid l e b
  pub marks : Spread l m e f

-- and among them what begins at p
pub record Begun (l : Limits) (m p e : ℕ) (b : List Item) (f : List Mark → List Mark) : Type 0 where
  pub from : m ≤ p
  pub to : p ≤ e
  pub firm : p < l.firm → p < e
  pub rest : Laid l e b
  pub marks : Spread l (suc p) e f

pub passed : {l : Limits} {m p e : ℕ} {b : List Item} {f : List Mark → List Mark} → Begun l m p e b f → Passes l m e b f
passed r = let u = r.from in let v = r.to in record { le = omega (arith, u, v); rest = r.rest; marks = wider (omega (arith, u)) (omega arith) r.marks }

pub stays : {l : Limits} {m : ℕ} {b : List Item} → Laid l m b → Passes l m m b (λ later. later)
stays h = record { le = omega arith; rest = h; marks = no_marks }

-- a token
pub skips : {l : Limits} {m i j : ℕ} {x : Lexeme} {b : List Item} → Laid l m (item i x j ∷ b) → Passes l m j b (λ later. later)
skips (a_token u v w h) = record { le = omega (arith, u, v); rest = h; marks = no_marks }

infixl 5 ◌>>◌
pub ◌>>◌ : {l : Limits} {m e k : ℕ} {b c : List Item} {f g : List Mark → List Mark} → Passes l m e b f → (Laid l e b → Passes l e k c g) → Passes l m k c (λ later. f (g later))
◌>>◌ {l} {m} {e} {k} {c} {f} {g} p q = go p.le (q p.rest)
  where
    go : m ≤ e → Passes l e k c g → Passes l m k c (λ later. f (g later))
    go a r = let u = r.le in record { le = omega (arith, a, u); rest = r.rest; marks = joins p.marks (omega arith) (λ w. a) u r.marks }

-- a first token that begins a Test, and what is behind it
pub leads : {l : Limits} {m i j e : ℕ} {x : Lexeme} {a b : List Item} {f : List Mark → List Mark} → Laid l m (item i x j ∷ a) → BeginsTest x → (Laid l j a → Passes l j e b f) → Begun l m i e b f
leads {l} {m} {i} {j} {e} {b} {f} (a_token w u z h) c q = go (q h)
  where
    go : Passes l j e b f → Begun l m i e b f
    go r = let v = r.le in record { from = w; to = omega (arith, u, v); firm = λ y. (let k = z c y in omega (arith, k, v)); rest = r.rest; marks = sooner u (z c) r.marks }

-- what begins there goes on
pub extends : {l : Limits} {m p e k : ℕ} {b c : List Item} {f g : List Mark → List Mark} → Begun l m p e b f → (Laid l e b → Passes l e k c g) → Begun l m p k c (λ later. f (g later))
extends {l} {m} {p} {e} {k} {c} {f} {g} s q = go s.to (q s.rest)
  where
    low : p ≤ e → e < l.firm → suc p ≤ e
    low u w = let z = s.firm (omega (arith, u, w)) in omega (arith, z)

    go : p ≤ e → Passes l e k c g → Begun l m p k c (λ later. f (g later))
    go u r = let v = r.le in record { from = s.from; to = omega (arith, u, v); firm = λ w. (let z = s.firm w in omega (arith, z, v)); rest = r.rest; marks = joins s.marks (omega arith) (low u) v r.marks }

-- the same from an earlier place
pub lowers : {l : Limits} {m n i p e : ℕ} {b : List Item} {f : List Mark → List Mark} → n ≤ i → i ≤ p → Begun l m p e b f → Begun l n i e b f
lowers {l} {n} {i} {p} {e} {b} {f} a c s = go s.to
  where
    firmly : (i < l.firm) → p ≤ e → (p < l.firm) ⊎ (l.firm ≤ p) → i < e
    firmly w u (inl z) = let y = s.firm z in omega (arith, c, y)
    firmly w u (inr z) = omega (arith, w, z, u)

    go : p ≤ e → Begun l n i e b f
    go u = record { from = a; to = omega (arith, c, u); firm = λ w. firmly w u (less_or p l.firm); rest = s.rest; marks = wider (omega (arith, c)) (omega arith) s.marks }

-- a construct that begins where that does
pub ends_with : {l : Limits} {m p e : ℕ} {b : List Item} {f : List Mark → List Mark} (n : ℕ) (d : Event) → p ≡ begin_of d → Begun l m p e b f → Passes l m e b (λ later. f (mark n d ∷ later))
ends_with {l} {m} {p} {e} {b} {f} n d h s = go s.from s.to
  where
    go : m ≤ p → p ≤ e → Passes l m e b (λ later. f (mark n d ∷ later))
    go u v = record { le = omega (arith, u, v); rest = s.rest; marks = wider (omega (arith, u, h)) (omega arith) (around n d (subst (λ z. Spread l (suc z) e f) h s.marks) (λ w. let y = s.firm (omega (arith, w, h)) in omega (arith, y, h))) }
