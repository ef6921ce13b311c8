-- The places in an expression begin and end where tokens do.
use Rattle.std.proofs.Common.{ℕ, ◌≡◌, ◌≤◌, ◌<◌, ◌∷◌, [], List, Bool, false, inl, inr, length, subst, arith}
use Rattle.std.specs.Prelude.{max}
use Rattle.std.proofs.lemmas.Bool.{cases_lt}
use Rattle.starlark_place.specs.Place.{Extent}
use Rattle.starlark_rulebook.specs.Targets.{target_of, targets_of, member_target}
use Rattle.starlark_grammar.specs.Spans.{stretch}
use Rattle.starlark_lexer.specs.Items.{Lexeme, Item, item}
use Rattle.starlark_ast.specs.Tree as tree
use Rattle.starlark_ast.specs.Tree.{Expr, place}
use Rattle.starlark_grammar.specs.Nodes.{start, grouped, targeted, type_at}
use Rattle.starlark_grammar.specs.Tables.{Bracket, round, square, curly, Kind, enclosed}
use Rattle.starlark_grammar.specs.Expressions as g
use Rattle.starlark_grammar.specs.Expressions.{Level, Member, Members, Listed, Listing, listing}
use Rattle.starlark_grammar.specs.Ends.{At, ExprAt, MemberAt, MembersAt, BoundAt, SubscriptAt, ClauseAt, ClausesAt, AnnotationAt}

-- each token but the last n begins and ends at such a place
abbrev pub Known : (ℕ → Type 0) → ℕ → List Item → Type 0
Known B n [] = Unit {0}
Known B n (x ∷ xs) = (n ≤ length xs → B x.begin × B x.end) × Known B n xs

-- what tokens from a to b come to, where b has the last n
pub record Gives (B : ℕ → Type 0) (n : ℕ) (a b : List Item) (P : Type 0) : Type 0 where
  pub le : length b ≤ length a
  pub rest : Known B n b
  pub is : n ≤ length b → P

-- the same, and the ends of the first and the last of them
abbrev pub Reads : (ℕ → Type 0) → ℕ → List Item → List Item → ℕ → Type 0 → Type 0
Reads B n a b e P = Gives B n a b (B (start a) × B e × P)

pub none : (n : ℕ) → 0 ≤ n
none n = omega arith

-- ---- one behind the other

module _ {B : ℕ → Type 0} where
  pub no_parts : {n : ℕ} {a : List Item} → Known B n a → Gives B n a a (Unit {0})
  no_parts w = record { le = omega arith; rest = w; is = λ h. tt }

  pub a_token : {n i j : ℕ} {x : Lexeme} {a : List Item} → Known B n (item i x j ∷ a) → Gives B n (item i x j ∷ a) a (B i × B j)
  a_token w = record { le = omega arith; rest = w.1; is = w.0 }

  infixl 5 ◌then◌
  pub ◌then◌ : {n : ℕ} {a b c : List Item} {P Q : Type 0} → Gives B n a b P → (Known B n b → Gives B n b c Q) → Gives B n a c (P × Q)
  ◌then◌ {n} {a} {b} {c} {P} {Q} p q = go (q p.rest)
    where
      go : Gives B n b c Q → Gives B n a c (P × Q)
      go r = let u = p.le in let v = r.le in record { le = omega (arith, u, v); rest = r.rest; is = λ h. (p.is (omega (arith, v, h)), r.is h) }

  pub becomes : {n : ℕ} {a b : List Item} {P Q : Type 0} → (P → Q) → Gives B n a b P → Gives B n a b Q
  becomes f p = record { le = p.le; rest = p.rest; is = λ h. f (p.is h) }

module _ (B : ℕ → Type 0) where
  pub place_at : (x : Expr) → ExprAt B x → At B (place x)
  place_at (tree.leaf l u s) h = h.0
  place_at (tree.tuple ms s) h = h.0
  place_at (tree.list ms s) h = h.0
  place_at (tree.dict ms s) h = h.0
  place_at (tree.comprehension m cs s) h = h.0
  place_at (tree.dot x n u s) h = h.0
  place_at (tree.index x b s) h = h.0
  place_at (tree.call x ms s) h = h.0
  place_at (tree.lambda ms x s) h = h.0
  place_at (tree.signed o x s) h = h.0
  place_at (tree.operation x o y s) h = h.0
  place_at (tree.choice x y z s) h = h.0
  place_at (tree.fstring f u ms v s) h = h.0

module _ (B : ℕ → Type 0) (nought : B 0) where
  pub stretched : {i j : ℕ} → B i → B j → At B (stretch i j)
  stretched {i} {j} h k = elim (cases_lt i j) [
    | inl lt ↦ let e : j ≡ max i j = omega (arith, lt) in (h, subst B e k)
    | inr ge ↦ let e : i ≡ max i j = omega (arith, ge) in (h, subst B e h)
  ]

  pub typed_at : (x : Expr) → ExprAt B x → AnnotationAt B (type_at x)
  typed_at x h = (place_at B x h, h)

  -- where the first token begins
  pub start_known : {n : ℕ} (a : List Item) → Known B n a → n < length a → B (start a)
  start_known [] w h = absurd (omega (arith, h))
  start_known (x ∷ xs) w h = (w.0 (omega (arith, h))).0

  -- some tokens and a closing one, where the first of all begins
  closed : {n i j : ℕ} {x : Lexeme} {a b : List Item} {P : Type 0} → Known B n a → Gives B n a (item i x j ∷ b) P → Gives B n a b (B (start a) × (P × (B i × B j)))
  closed {n} {a} w p = go (p then a_token) (let u = p.le in omega (arith, u))
    where
      go : {b : List Item} {Q : Type 0} → Gives B n a b Q → length b < length a → Gives B n a b (B (start a) × Q)
      go r lt = record { le = r.le; rest = r.rest; is = λ h. (start_known a w (omega (arith, h, lt)), r.is h) }

  -- ---- lists

  pub grouped_at : (ms : tree.Members) (t : Bool) (o s : Extent) → At B o → At B s → MembersAt B ms → ExprAt B (grouped ms t o s)
  grouped_at tree.none t o s u v h = (u, h)
  grouped_at (tree.more tree.none (tree.item x)) false o s u v h = h.1
  grouped_at ms t o s u v h = (v, h)

  pub targeted_at : (ms : tree.Members) (s : Extent) → At B s → MembersAt B ms → ExprAt B (targeted ms s)
  targeted_at (tree.more tree.none (tree.item x)) s v h = h.1
  targeted_at ms s v h = (v, h)

  enclosed_at : (p : Bracket) (ms : tree.Members) (t : Bool) (o s : Extent) → At B o → At B s → MembersAt B ms → ExprAt B (enclosed p ms t o s)
  enclosed_at round ms t o s u v h = grouped_at ms t o s u v h
  enclosed_at square ms t o s u v h = (u, h)
  enclosed_at curly ms t o s u v h = (u, h)

  -- a target stands where its expression does
  mutual
    pub target_at : (x : Expr) → ExprAt B x → ExprAt B (target_of x)
    target_at (tree.tuple ms s) h = (h.0, targets_at ms h.1)
    target_at (tree.list ms s) h = (h.0, targets_at ms h.1)
    target_at _ h = h

    targets_at : (ms : tree.Members) → MembersAt B ms → MembersAt B (targets_of ms)
    targets_at tree.none h = tt
    targets_at (tree.more ms m) h = (targets_at ms h.0, member_target_at m h.1)

    member_target_at : (m : tree.Member) → MemberAt B m → MemberAt B (member_target m)
    member_target_at (tree.item x) h = target_at x h
    member_target_at _ h = h

  -- ---- expressions

  mutual
    pub level_at : {n m e : ℕ} {a b : List Item} {q : Expr} → Level m a b q e → Known B n a → Reads B n a b e (ExprAt B q)
    level_at (g.by_itself h) w = becomes (λ p. (p.0, p.1, (stretched p.0 p.1, stretched p.0 p.1))) (a_token w)
    level_at (g.in_brackets {p = o} {ms} {t} h ds) w = becomes (λ p. (p.0.0, p.1.1.1.1, enclosed_at o ms t _ _ (stretched p.0.0 p.1.1.1.1) (stretched p.1.0 p.1.1.0.0) p.1.1.0.1)) (a_token w then (λ v. closed v (listed_at ds v)))
    level_at (g.comprehend h p d cs) w = becomes (λ p. (p.0.0.0.0, p.1.1, (stretched p.0.0.0.0 p.1.1, p.0.0.1.2, p.0.1))) (a_token w then member_at d then clauses_at cs then a_token)
    level_at (g.format h d) w = becomes (λ p. (p.0.0.0, p.1.1, (stretched p.0.0.0 p.1.1, stretched p.0.0.0 p.1.1, p.0.1, stretched p.0.0.0 p.1.1))) (a_token w then pieces_at d then a_token)
    level_at (g.attribute {q} h d) w = becomes (λ p. (p.0.0.0, p.1.1, (stretched (place_at B q p.0.0.2).0 p.1.1, p.0.0.2, stretched p.1.0 p.1.1))) (level_at d w then a_token then a_token)
    level_at (g.subscript {q} h d s) w = becomes (λ p. (p.0.0.0.0, p.1.1, (stretched (place_at B q p.0.0.0.2).0 p.1.1, p.0.0.0.2, p.0.1))) (level_at d w then a_token then subscript_at s then a_token)
    level_at (g.apply {q} h d ms) w = becomes (λ p. (p.0.0.0.0, p.1.1, (stretched (place_at B q p.0.0.0.2).0 p.1.1, p.0.0.0.2, p.0.1.1))) (level_at d w then a_token then listed_at ms then a_token)
    level_at (g.sign h d) w = becomes (λ p. (p.0.0, p.1.1, (stretched p.0.0 p.1.1, p.1.2))) (a_token w then level_at d)
    level_at (g.operate {l = x} {q = y} h d f) w = becomes (λ p. (p.0.0.0, p.1.1, (stretched (place_at B x p.0.0.2).0 (place_at B y p.1.2).1, p.0.0.2, p.1.2))) (level_at d w then a_token then level_at f)
    level_at (g.not_in {l = x} {q = y} h d f) w = becomes (λ p. (p.0.0.0.0, p.1.1, (stretched (place_at B x p.0.0.0.2).0 (place_at B y p.1.2).1, p.0.0.0.2, p.1.2))) (level_at d w then a_token then a_token then level_at f)
    level_at (g.ternary {t = x} h d e f) w = becomes (λ p. (p.0.0.0.0.0, p.1.1, (stretched (place_at B x p.0.0.0.0.2).0 p.1.1, p.0.0.1.2, p.0.0.0.0.2, p.1.2))) (level_at d w then a_token then level_at e then a_token then level_at f)
    level_at (g.abstraction h ms d) w = becomes (λ p. (p.0.0.0.0, p.1.1, (stretched p.0.0.0.0 p.1.1, p.0.0.1.1, p.1.2))) (a_token w then listed_at ms then a_token then level_at d)
    level_at (g.above d) w = level_at d w

    pub member_at : {n e : ℕ} {k : Kind} {a b : List Item} {r : tree.Member} → Member k a b r e → Known B n a → Reads B n a b e (MemberAt B r)
    member_at (g.test d) w = level_at d w
    member_at (g.loose_test d) w = level_at d w
    member_at (g.target d) w = level_at d w
    member_at (g.entry d f) w = becomes (λ p. (p.0.0.0, p.1.1, (p.0.0.2, p.1.2))) (level_at d w then a_token then level_at f)
    member_at (g.plain d) w = becomes (λ p. (p.0, p.1, (stretched p.0 p.1, p.2))) (level_at d w)
    member_at (g.keyword d) w = becomes (λ p. (p.0.0.0, p.1.1, (stretched p.0.0.0 p.1.1, stretched p.0.0.0 p.0.0.1, p.1.2))) (a_token w then a_token then level_at d)
    member_at (g.spread d) w = becomes (λ p. (p.0.0, p.1.1, (stretched p.0.0 p.1.1, p.1.2))) (a_token w then level_at d)
    member_at (g.spread_named d) w = becomes (λ p. (p.0.0, p.1.1, (stretched p.0.0 p.1.1, p.1.2))) (a_token w then level_at d)
    member_at g.lone_slash w = becomes (λ p. (p.0, p.1, stretched p.0 p.1)) (a_token w)
    member_at g.lone_star w = becomes (λ p. (p.0, p.1, stretched p.0 p.1)) (a_token w)
    member_at g.star_name w = becomes (λ p. (p.0.0, p.1.1, (stretched p.0.0 p.1.1, stretched p.1.0 p.1.1, tt, tt))) (a_token w then a_token)
    member_at g.stars_name w = becomes (λ p. (p.0.0, p.1.1, (stretched p.0.0 p.1.1, stretched p.1.0 p.1.1, tt, tt))) (a_token w then a_token)
    member_at g.parameter w = becomes (λ p. (p.0, p.1, (stretched p.0 p.1, stretched p.0 p.1, tt, tt))) (a_token w)
    member_at (g.default d) w = becomes (λ p. (p.0.0.0, p.1.1, (stretched p.0.0.0 p.1.1, stretched p.0.0.0 p.0.0.1, tt, p.1.2))) (a_token w then a_token then level_at d)

    pub members_at : {n e : ℕ} {k : Kind} {a b : List Item} {ms : tree.Members} → Members k a b ms e → Known B n a → Reads B n a b e (MembersAt B ms)
    members_at (g.one d) w = becomes (λ p. (p.0, p.1, (tt, p.2))) (member_at d w)
    members_at (g.next ds d) w = becomes (λ p. (p.0.0.0, p.1.1, (p.0.0.2, p.1.2))) (members_at ds w then a_token then member_at d)

    pub listed_at : {n e : ℕ} {k : Kind} {a b : List Item} {ms : tree.Members} {t : Bool} → Listed k a b ms t e → Known B n a → Gives B n a b (B e × MembersAt B ms)
    listed_at g.nothing w = becomes (λ p. (nought, tt)) (no_parts w)
    listed_at (g.some d) w = becomes (λ p. (p.1, p.2)) (members_at d w)
    listed_at (g.trailing d) w = becomes (λ p. (p.1.1, p.0.2)) (members_at d w then a_token)

    pub subscript_at : {n : ℕ} {a b : List Item} {s : tree.Subscript} → g.Subscript a b s → Known B n a → Gives B n a b (SubscriptAt B s)
    subscript_at (g.single d) w = becomes (λ p. p.2) (level_at d w)
    subscript_at (g.double d f) w = becomes (λ p. (p.0.0.2, p.1.2)) (level_at d w then a_token then level_at f)
    subscript_at (g.slice d f) w = becomes (λ p. (p.0.0, p.1, tt)) (bound_at d w then a_token then bound_at f)
    subscript_at (g.slice_step d f o) w = becomes (λ p. (p.0.0.0.0, p.0.0.1, p.1)) (bound_at d w then a_token then bound_at f then a_token then bound_at o)

    pub bound_at : {n : ℕ} {a b : List Item} {o : tree.Bound} → g.Bound a b o → Known B n a → Gives B n a b (BoundAt B o)
    bound_at g.absent w = no_parts w
    bound_at (g.present d) w = becomes (λ p. p.2) (level_at d w)

    pub for_at : {n : ℕ} {a b : List Item} {c : tree.Clause} → g.ForClause a b c → Known B n a → Gives B n a b (ClauseAt B c)
    for_at (g.for_in {d} {a} {ms} ds f) w = becomes (λ p. (target_at (targeted ms (stretch (start a) d)) (targeted_at ms _ (stretched p.0.0.1.0 p.0.0.1.1) p.0.0.1.2), p.1.2)) (a_token w then members_at ds then a_token then level_at f)

    pub clauses_at : {n : ℕ} {a b : List Item} {cs : tree.Clauses} → g.Clauses a b cs → Known B n a → Gives B n a b (ClausesAt B cs)
    clauses_at (g.first d) w = becomes (λ p. (tt, p)) (for_at d w)
    clauses_at (g.and_for d f) w = clauses_at d w then for_at f
    clauses_at (g.and_if d f) w = becomes (λ p. (p.0.0, p.1.2)) (clauses_at d w then a_token then level_at f)

    pub pieces_at : {n : ℕ} {f : List ℕ} {a b : List Item} {ms : tree.Members} → g.Pieces a b f ms → Known B n a → Gives B n a b (MembersAt B ms)
    pieces_at g.no_piece w = no_parts w
    pieces_at (g.text d) w = becomes (λ p. p.0) (pieces_at d w then a_token)
    pieces_at (g.field d f) w = becomes (λ p. (p.0.0.0, p.0.1.2)) (pieces_at d w then a_token then level_at f then a_token)
    pieces_at (g.converted d f s) w = becomes (λ p. (p.0.0.0.0.0, p.0.0.0.1.2)) (pieces_at d w then a_token then level_at f then a_token then a_token then a_token)

  pub listing_at : {n e : ℕ} {k : Kind} {a b : List Item} {q : Expr} → Listing k a b q e → Known B n a → Reads B n a b e (ExprAt B q)
  listing_at (listing {ms} ds) w = becomes (λ p. (p.0, p.1, targeted_at ms _ (stretched p.0 p.1) p.2)) (members_at ds w)
