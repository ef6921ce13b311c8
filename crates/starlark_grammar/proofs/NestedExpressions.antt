-- The places in an expression lie in one another.
use Rattle.std.proofs.Common.{ℕ, ◌≤◌, ◌∷◌, List, Bool, true, false, sym, subst, arith}
use Rattle.starlark_place.specs.Place.{Extent}
use Rattle.starlark_rulebook.specs.Targets.{target_of, targets_of, member_target}
use Rattle.starlark_grammar.specs.Spans.{stretch}
use Rattle.starlark_lexer.specs.Items.{Lexeme, Item, item}
use Rattle.starlark_ast.specs.Tree as tree
use Rattle.starlark_ast.specs.Tree.{Expr, place}
use Rattle.starlark_grammar.specs.Nodes.{start, grouped, targeted}
use Rattle.starlark_grammar.specs.Tables.{round, square, curly, Kind, tests}
use Rattle.starlark_grammar.specs.Expressions as g
use Rattle.starlark_grammar.specs.Expressions.{Level, Member, Members, Listed, Listing, listing}
use Rattle.starlark_grammar.specs.Nested.{Lies, ExprIn, MemberIn, MembersIn, BoundIn, SubscriptIn, ClauseIn, ClausesIn, Inner}
use Rattle.starlark_grammar.proofs.Ranges.{Limits, Laid, no_tokens, a_token}
use Rattle.starlark_grammar.proofs.RangesOfExpressions.{IsBare, many_grouped, many_targeted, level_stands, members_stand}

-- tokens from m to e were read, and what they come to lies wherever they do
pub record Gives (l : Limits) (m e : ℕ) (b : List Item) (P : Extent → Type 0) : Type 0 where
  pub le : m ≤ e
  pub rest : Laid l e b
  pub inside : (o : Extent) → o.begin ≤ m → e ≤ o.end → P o

-- to some place
pub record Ends (l : Limits) (m : ℕ) (b : List Item) (P : Extent → Type 0) : Type 0 where
  pub end : ℕ
  pub gives : Gives l m end b P

pub ends : {l : Limits} {m e : ℕ} {b : List Item} {P : Extent → Type 0} → Gives l m e b P → Ends l m b P
ends {e} p = record { end = e; gives = p }

pub no_parts : {l : Limits} {m : ℕ} {b : List Item} → Laid l m b → Gives l m m b (λ o. Unit {0})
no_parts h = record { le = omega arith; rest = h; inside = λ o u v. tt }

-- a token, and its place
pub a_place : {l : Limits} {m i j : ℕ} {x : Lexeme} {b : List Item} → Laid l m (item i x j ∷ b) → Gives l m j b (λ o. Lies o (stretch i j))
a_place (a_token u v w h) = record { le = omega (arith, u, v); rest = h; inside = λ o y z. record { from = omega (arith, u, y); runs = omega (arith, v); to = omega (arith, v, z) } }

-- one part behind the other
infixl 5 ◌then◌
pub ◌then◌ : {l : Limits} {m e k : ℕ} {b c : List Item} {P Q : Extent → Type 0} → Gives l m e b P → (Laid l e b → Gives l e k c Q) → Gives l m k c (λ o. P o × Q o)
◌then◌ {l} {m} {e} {k} {c} {P} {Q} p q = go p.le (q p.rest)
  where
    go : m ≤ e → Gives l e k c Q → Gives l m k c (λ o. P o × Q o)
    go a r = let u = r.le in record { le = omega (arith, a, u); rest = r.rest; inside = λ o y z. (p.inside o y (omega (arith, z, u)), r.inside o (omega (arith, a, y)) z) }

-- the same, where the ends are not said
infixl 5 ◌on◌
pub ◌on◌ : {l : Limits} {m : ℕ} {b c : List Item} {P Q : Extent → Type 0} → Ends l m b P → ((k : ℕ) → Laid l k b → Ends l k c Q) → Ends l m c (λ o. P o × Q o)
◌on◌ {l} {m} {c} {P} {Q} p q = go (q p.end p.gives.rest)
  where
    go : Ends l p.end c Q → Ends l m c (λ o. P o × Q o)
    go r = ends (p.gives then (λ v. r.gives))

pub becomes : {l : Limits} {m e : ℕ} {b : List Item} {P Q : Extent → Type 0} → ((o : Extent) → P o → Q o) → Gives l m e b P → Gives l m e b Q
becomes f p = record { le = p.le; rest = p.rest; inside = λ o y z. f o (p.inside o y z) }

pub become : {l : Limits} {m : ℕ} {b : List Item} {P Q : Extent → Type 0} → ((o : Extent) → P o → Q o) → Ends l m b P → Ends l m b Q
become f p = record { end = p.end; gives = becomes f p.gives }

-- a token that is no part, before and behind
pub behind : {l : Limits} {m i j e : ℕ} {x : Lexeme} {b c : List Item} {P : Extent → Type 0} → Laid l m (item i x j ∷ b) → (Laid l j b → Gives l j e c P) → Gives l m e c P
behind {l} {m} {i} {j} {e} {c} {P} (a_token u v w h) f = go (f h)
  where
    go : Gives l j e c P → Gives l m e c P
    go r = let k = r.le in record { le = omega (arith, u, v, k); rest = r.rest; inside = λ o y z. r.inside o (omega (arith, u, v, y)) z }

pub before : {l : Limits} {m e i j : ℕ} {x : Lexeme} {b : List Item} {P : Extent → Type 0} → Gives l m e (item i x j ∷ b) P → Gives l m j b P
before {l} {m} {e} {i} {j} {x} {b} {P} p = go p.le p.rest
  where
    go : m ≤ e → Laid l e (item i x j ∷ b) → Gives l m j b P
    go a (a_token u v w h) = record { le = omega (arith, a, u, v); rest = h; inside = λ o y z. p.inside o y (omega (arith, z, u, v)) }

pub closed : {l : Limits} {m i j : ℕ} {x : Lexeme} {b : List Item} {P : Extent → Type 0} → Ends l m (item i x j ∷ b) P → Gives l m j b P
closed p = before p.gives

pub behind_ends : {l : Limits} {m i j : ℕ} {x : Lexeme} {b c : List Item} {P : Extent → Type 0} → Laid l m (item i x j ∷ b) → (Laid l j b → Ends l j c P) → Ends l m c P
behind_ends (a_token u v w h) f = ends (behind (a_token u v w h) (λ y. (f h).gives))

-- from a token on: the place of all that was read, the token in it, and the parts in it
pub prefix : {l : Limits} {m i j e : ℕ} {x : Lexeme} {b c : List Item} {P : Extent → Type 0} → Laid l m (item i x j ∷ b) → (Laid l j b → Gives l j e c P) → Gives l m e c (λ o. Lies o (stretch i e) × Lies (stretch i e) (stretch i j) × P (stretch i e))
prefix {l} {m} {i} {j} {e} {c} {P} (a_token u v w h) f = go (f h)
  where
    go : Gives l j e c P → Gives l m e c (λ o. Lies o (stretch i e) × Lies (stretch i e) (stretch i j) × P (stretch i e))
    go r = let k = r.le in record { le = omega (arith, u, v, k); rest = r.rest; inside = λ o y z. (record { from = omega (arith, u, y); runs = omega (arith, v, k); to = omega (arith, v, k, z) }, record { from = omega arith; runs = omega (arith, v); to = omega (arith, v, k) }, r.inside (stretch i e) v (omega arith)) }

-- from an expression on, and what is behind it
pub suffixed : {l : Limits} {m d e : ℕ} {b c : List Item} {P : Extent → Type 0} (q : Expr) → Gives l m d b (λ o. ExprIn o q) → (Laid l d b → Gives l d e c P) → Gives l m e c (λ o. Lies o (stretch (place q).begin e) × ExprIn (stretch (place q).begin e) q × P (stretch (place q).begin e))
suffixed {l} {m} {d} {e} {c} {P} q p f = go p.le (p.inside (stretch m d) (omega arith) (omega arith)) (f p.rest)
  where
    go : m ≤ d → ExprIn (stretch m d) q → Gives l d e c P → Gives l m e c (λ o. Lies o (stretch (place q).begin e) × ExprIn (stretch (place q).begin e) q × P (stretch (place q).begin e))
    go a x r =
        let k = r.le in
        let u = x.0.from in
        let v = x.0.runs in
        let w = x.0.to in
        record { le = omega (arith, a, k); rest = r.rest; inside = λ o y z. (record { from = omega (arith, u, y); runs = omega (arith, a, v, w, k); to = omega (arith, a, v, w, k, z) }, (record { from = omega arith; runs = v; to = omega (arith, a, w, k) }, x.1), r.inside (stretch (place q).begin e) (omega (arith, a, v, w)) (omega arith)) }

-- from one expression to another
pub spanned : {l : Limits} {m d e : ℕ} {b c : List Item} (q s : Expr) → Gives l m d b (λ o. ExprIn o q) → (Laid l d b → Gives l d e c (λ o. ExprIn o s)) → Gives l m e c (λ o. Lies o (stretch (place q).begin (place s).end) × ExprIn (stretch (place q).begin (place s).end) q × ExprIn (stretch (place q).begin (place s).end) s)
spanned {l} {m} {d} {e} {c} q s p f = go p.le (p.inside (stretch m d) (omega arith) (omega arith)) (f p.rest)
  where
    more : m ≤ d → ExprIn (stretch m d) q → d ≤ e → Laid l e c → ExprIn (stretch d e) s → Gives l m e c (λ o. Lies o (stretch (place q).begin (place s).end) × ExprIn (stretch (place q).begin (place s).end) q × ExprIn (stretch (place q).begin (place s).end) s)
    more a x k h y =
        let u = x.0.from in
        let v = x.0.runs in
        let w = x.0.to in
        let i = y.0.from in
        let j = y.0.runs in
        let n = y.0.to in
        record { le = omega (arith, a, k); rest = h; inside = λ o t z. (record { from = omega (arith, u, t); runs = omega (arith, a, v, w, i, j); to = omega (arith, a, k, v, w, i, j, n, z) }, (record { from = omega arith; runs = v; to = omega (arith, a, w, i, j) }, x.1), (record { from = omega (arith, a, v, w, i); runs = j; to = omega arith }, y.1)) }

    go : m ≤ d → ExprIn (stretch m d) q → Gives l d e c (λ o. ExprIn o s) → Gives l m e c (λ o. Lies o (stretch (place q).begin (place s).end) × ExprIn (stretch (place q).begin (place s).end) q × ExprIn (stretch (place q).begin (place s).end) s)
    go a x r = more a x r.le r.rest (r.inside (stretch d e) (omega arith) (omega arith))

-- from the first token on
pub tight : {l : Limits} {m : ℕ} {a : List Item} → Laid l m a → Laid l (start a) a
tight (no_tokens h) = no_tokens (omega (arith, h))
tight (a_token u v w h) = a_token (omega arith) v w h

pub from_first : {l : Limits} {m n e : ℕ} {b : List Item} {P : Extent → Type 0} → m ≤ n → Gives l n e b P → Gives l m e b (λ o. Lies o (stretch n e) × P (stretch n e))
from_first a r = let k = r.le in record { le = omega (arith, a, k); rest = r.rest; inside = λ o y z. (record { from = omega (arith, a, y); runs = omega (arith, k); to = omega (arith, k, z) }, r.inside (stretch _ _) (omega arith) (omega arith)) }

-- a target stands where its expression does
pub target_lies : {o : Extent} (x : Expr) → Lies o (place x) → Lies o (place (target_of x))
target_lies (tree.tuple ms s) h = h
target_lies (tree.list ms s) h = h
target_lies _ h = h

mutual
  pub target_in : (x : Expr) → Inner x → Inner (target_of x)
  target_in (tree.tuple ms s) h = targets_in s ms h
  target_in (tree.list ms s) h = targets_in s ms h
  target_in _ h = h

  targets_in : (o : Extent) (ms : tree.Members) → MembersIn o ms → MembersIn o (targets_of ms)
  targets_in o tree.none h = tt
  targets_in o (tree.more ms m) h = (targets_in o ms h.0, member_target_in o m h.1)

  member_target_in : (o : Extent) (m : tree.Member) → MemberIn o m → MemberIn o (member_target m)
  member_target_in o (tree.item x) h = (target_lies x h.0, target_in x h.1)
  member_target_in o _ h = h

pub itself : {o s : Extent} → Lies o s → Lies s s
itself h = record { from = omega arith; runs = h.runs; to = omega arith }

abbrev pub IsIn : Expr → Extent → Type 0
IsIn q o = ExprIn o q

abbrev pub AreIn : tree.Members → Extent → Type 0
AreIn ms o = MembersIn o ms

-- several in brackets or without are a tuple
as_grouped : {l : Limits} {m h e : ℕ} {n : Kind} {a b c : List Item} {ms : tree.Members} (ds : Members n a b ms e) (r : tree.Member) (t : Bool) (o s : Extent) → Gives l m h c (IsIn (tree.tuple (tree.more ms r) s)) → Gives l m h c (IsIn (grouped (tree.more ms r) t o s))
as_grouped {l} {m} {h} {c} ds r t o s p = subst (λ q. Gives l m h c (IsIn q)) (sym (many_grouped ds r t o s)) p

as_targeted : {l : Limits} {m h e : ℕ} {n : Kind} {a b c : List Item} {ms : tree.Members} (ds : Members n a b ms e) (r : tree.Member) (s : Extent) → Gives l m h c (IsIn (tree.tuple (tree.more ms r) s)) → Gives l m h c (IsIn (targeted (tree.more ms r) s))
as_targeted {l} {m} {h} {c} ds r s p = subst (λ q. Gives l m h c (IsIn q)) (sym (many_targeted ds r s)) p

pub first_of : {l : Limits} {m n e : ℕ} {a b : List Item} {q : Expr} (d : Level n a b q e) → Laid l m a → m ≤ start a
first_of d w = (level_stands d w).first

mutual
  pub level_in : {l : Limits} {m n e : ℕ} {a b : List Item} {q : Expr} (d : Level n a b q e) → Laid l m a → Gives l m e b (IsIn q)
  level_in (g.by_itself h) w = becomes (λ o p. (p, itself p)) (a_place w)
  level_in (g.in_brackets {p = round} h ds) w = round_in ds w
  level_in (g.in_brackets {p = square} h ds) w = becomes (λ o p. (p.0, p.2)) (prefix w (λ v. closed (listed_in ds v)))
  level_in (g.in_brackets {p = curly} h ds) w = becomes (λ o p. (p.0, p.2)) (prefix w (λ v. closed (listed_in ds v)))
  level_in (g.comprehend h p d cs) w = becomes (λ o p. (p.0, p.2)) (prefix w (λ v. closed (ends (member_in d v) on (λ k. clauses_in cs))))
  level_in (g.format h d) w = becomes (λ o p. (p.0, (itself p.0, itself p.0, p.2))) (prefix w (λ v. closed (pieces_in d v)))
  level_in (g.attribute {q} h d) w = becomes (λ o p. (p.0, (p.1.0, p.1.1, p.2))) (suffixed q (level_in d w) (λ v. behind v a_place))
  level_in (g.subscript {q} h d s) w = becomes (λ o p. (p.0, (p.1.0, p.1.1, p.2))) (suffixed q (level_in d w) (λ v. closed (behind_ends v (subscript_in s))))
  level_in (g.apply {q} h d ms) w = becomes (λ o p. (p.0, (p.1.0, p.1.1, p.2))) (suffixed q (level_in d w) (λ v. closed (behind_ends v (listed_in ms))))
  level_in (g.sign h d) w = becomes (λ o p. (p.0, p.2)) (prefix w (level_in d))
  level_in (g.operate {l = x} {q = y} h d f) w = becomes (λ o p. (p.0, (p.1.0, p.1.1, p.2.0, p.2.1))) (spanned x y (level_in d w) (λ v. behind v (level_in f)))
  level_in (g.not_in {l = x} {q = y} h d f) w = becomes (λ o p. (p.0, (p.1.0, p.1.1, p.2.0, p.2.1))) (spanned x y (level_in d w) (λ v. behind v (λ y. behind y (level_in f))))
  level_in (g.ternary {t = x} h d e f) w = becomes (λ o p. (p.0, (p.2.0.0, p.2.0.1, p.1.0, p.1.1, p.2.1.0, p.2.1.1))) (suffixed x (level_in d w) (λ v. behind v (λ y. before (level_in e y) then level_in f)))
  level_in (g.abstraction h ms d) w = becomes (λ o p. (p.0, (p.2.0, p.2.1.0, p.2.1.1))) (prefix w (λ v. closed (listed_in ms v) then level_in d))
  level_in (g.above d) w = level_in d w

  round_in : {l : Limits} {m i j u k e : ℕ} {x y : Lexeme} {a b : List Item} {ms : tree.Members} {t : Bool} → (ds : Listed tests a (item u y k ∷ b) ms t e) → Laid l m (item i x j ∷ a) → Gives l m k b (IsIn (grouped ms t (stretch i k) (stretch (start a) e)))
  round_in g.nothing w = becomes (λ o p. (p.0, tt)) (prefix w a_place)
  round_in (g.some (g.one (g.test d))) w = behind w (λ v. before (level_in d v))
  round_in {i} {k} {e} {a} (g.some (g.next {m = r} ds d)) w = as_grouped ds r false (stretch i k) (stretch (start a) e) (behind w (λ v. before (becomes (λ o p. p) (from_first (members_stand tt ds v).first (before (members_in ds (tight v)) then member_in d)))))
  round_in (g.trailing (g.one (g.test d))) w = behind w (λ v. before (becomes (λ o p. (p.0, (tt, p.1))) (from_first (first_of d v) (before (level_in d (tight v))))))
  round_in {i} {k} {e} {a} (g.trailing (g.next {m = r} ds d)) w = as_grouped ds r true (stretch i k) (stretch (start a) e) (behind w (λ v. before (becomes (λ o p. p) (from_first (members_stand tt ds v).first (before (before (members_in ds (tight v)) then member_in d))))))

  pub targeted_in : {l : Limits} {m e : ℕ} {n : Kind} {a b : List Item} {ms : tree.Members} → IsBare n → (ds : Members n a b ms e) → Laid l m a → Gives l m e b (IsIn (targeted ms (stretch (start a) e)))
  targeted_in i (g.one (g.test d)) w = level_in d w
  targeted_in i (g.one (g.loose_test d)) w = level_in d w
  targeted_in i (g.one (g.target d)) w = level_in d w
  targeted_in i (g.one _) w = absurd i
  targeted_in {e} {a} i (g.next {m = r} ds d) w = as_targeted ds r (stretch (start a) e) (from_first (members_stand i ds w).first (before (members_in ds (tight w)) then member_in d))

  member_in : {l : Limits} {m e : ℕ} {n : Kind} {a b : List Item} {r : tree.Member} (d : Member n a b r e) → Laid l m a → Gives l m e b (λ o. MemberIn o r)
  member_in (g.test d) w = level_in d w
  member_in (g.loose_test d) w = level_in d w
  member_in (g.target d) w = level_in d w
  member_in (g.entry d f) w = becomes (λ o p. (p.0.0, p.0.1, p.1.0, p.1.1)) (before (level_in d w) then level_in f)
  member_in (g.plain d) w = becomes (λ o p. (p.0, p.1.0, p.1.1)) (from_first (first_of d w) (level_in d (tight w)))
  member_in (g.keyword d) w = becomes (λ o p. (p.0, p.1, p.2.0, p.2.1)) (prefix w (λ v. behind v (level_in d)))
  member_in (g.spread d) w = becomes (λ o p. (p.0, p.2.0, p.2.1)) (prefix w (level_in d))
  member_in (g.spread_named d) w = becomes (λ o p. (p.0, p.2.0, p.2.1)) (prefix w (level_in d))
  member_in g.lone_slash w = a_place w
  member_in g.lone_star w = a_place w
  member_in g.star_name w = becomes (λ o p. (p.0, p.2, tt, tt)) (prefix w a_place)
  member_in g.stars_name w = becomes (λ o p. (p.0, p.2, tt, tt)) (prefix w a_place)
  member_in g.parameter w = becomes (λ o p. (p, itself p, tt, tt)) (a_place w)
  member_in (g.default d) w = becomes (λ o p. (p.0, p.1, tt, p.2)) (prefix w (λ v. behind v (level_in d)))

  members_in : {l : Limits} {m e : ℕ} {n : Kind} {a b : List Item} {ms : tree.Members} (ds : Members n a b ms e) → Laid l m a → Gives l m e b (AreIn ms)
  members_in (g.one d) w = becomes (λ o p. (tt, p)) (member_in d w)
  members_in (g.next ds d) w = before (members_in ds w) then member_in d

  listed_in : {l : Limits} {m e : ℕ} {n : Kind} {a b : List Item} {ms : tree.Members} {t : Bool} (ds : Listed n a b ms t e) → Laid l m a → Ends l m b (AreIn ms)
  listed_in g.nothing w = ends (no_parts w)
  listed_in (g.some d) w = ends (members_in d w)
  listed_in (g.trailing d) w = ends (before (members_in d w))

  subscript_in : {l : Limits} {m : ℕ} {a b : List Item} {s : tree.Subscript} (d : g.Subscript a b s) → Laid l m a → Ends l m b (λ o. SubscriptIn o s)
  subscript_in (g.single d) w = ends (level_in d w)
  subscript_in (g.double d f) w = ends (becomes (λ o p. (p.0.0, p.0.1, p.1.0, p.1.1)) (before (level_in d w) then level_in f))
  subscript_in (g.slice d f) w = become (λ o p. (p.0, p.1, tt)) (ends (closed (bound_in d w)) on (λ k. bound_in f))
  subscript_in (g.slice_step d f o) w = become (λ s p. (p.0.0, p.0.1, p.1)) (ends (closed (ends (closed (bound_in d w)) on (λ k. bound_in f))) on (λ k. bound_in o))

  bound_in : {l : Limits} {m : ℕ} {a b : List Item} {o : tree.Bound} (d : g.Bound a b o) → Laid l m a → Ends l m b (λ s. BoundIn s o)
  bound_in g.absent w = ends (no_parts w)
  bound_in (g.present d) w = ends (level_in d w)

  for_in : {l : Limits} {m : ℕ} {a b : List Item} {c : tree.Clause} (d : g.ForClause a b c) → Laid l m a → Ends l m b (λ o. ClauseIn o c)
  for_in (g.for_in {d} {a} {ms} ds f) w = ends (becomes (λ o p. (target_lies (targeted ms (stretch (start a) d)) p.0.0, target_in (targeted ms (stretch (start a) d)) p.0.1, p.1.0, p.1.1)) (behind w (λ v. before (targeted_in tt ds v) then level_in f)))

  clauses_in : {l : Limits} {m : ℕ} {a b : List Item} {cs : tree.Clauses} (d : g.Clauses a b cs) → Laid l m a → Ends l m b (λ o. ClausesIn o cs)
  clauses_in (g.first d) w = become (λ o p. (tt, p)) (for_in d w)
  clauses_in (g.and_for d f) w = clauses_in d w on (λ k. for_in f)
  clauses_in (g.and_if d f) w = ends (closed (clauses_in d w) then level_in f)

  pieces_in : {l : Limits} {m : ℕ} {f : List ℕ} {a b : List Item} {ms : tree.Members} (d : g.Pieces a b f ms) → Laid l m a → Ends l m b (AreIn ms)
  pieces_in g.no_piece w = ends (no_parts w)
  pieces_in (g.text d) w = ends (closed (pieces_in d w))
  pieces_in (g.field d f) w = ends (before (closed (pieces_in d w) then level_in f))
  pieces_in (g.converted d f s) w = ends (before (before (before (closed (pieces_in d w) then level_in f))))

pub listing_in : {l : Limits} {m e : ℕ} {n : Kind} {a b : List Item} {q : Expr} → IsBare n → (d : Listing n a b q e) → Laid l m a → Gives l m e b (IsIn q)
listing_in i (listing ds) w = targeted_in i ds w

pub listing_first : {l : Limits} {m e : ℕ} {n : Kind} {a b : List Item} {q : Expr} → IsBare n → Listing n a b q e → Laid l m a → m ≤ start a
listing_first i (listing ds) w = (members_stand i ds w).first
