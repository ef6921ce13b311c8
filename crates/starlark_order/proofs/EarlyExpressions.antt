-- An expression and its parts begin at tokens, none of which is layout.
use Rattle.std.proofs.Common.{ℕ, ◌≡◌, ◌<◌, List, Bool, false, Some, refl, sym, subst}
use Rattle.starlark_place.specs.Place.{Extent}
use Rattle.starlark_rulebook.specs.Targets.{target_of, targets_of, member_target}
use Rattle.starlark_grammar.specs.Spans.{stretch}
use Rattle.starlark_lexer.specs.Items.{Lexeme, newline, indent, dedent, Item}
use Rattle.starlark_ast.specs.Tree as tree
use Rattle.starlark_ast.specs.Tree.{Expr, place}
use Rattle.starlark_grammar.specs.Nodes.{start, grouped, targeted, type_at}
use Rattle.starlark_grammar.specs.Tables.{Beginning, beginning, Bracket, round, square, curly, closing_bracket, enclosed, Kind}
use Rattle.starlark_grammar.specs.Expressions as g
use Rattle.starlark_grammar.specs.Expressions.{Level, Member, Members, Listed, Listing, listing}
use Rattle.starlark_order.specs.Ordered.{is_layout}
use Rattle.starlark_order.specs.Beginnings.{expr_begins, member_begins, members_begin, bound_begins, annotation_begins, subscript_begins, clause_begins, clauses_begin}
use Rattle.starlark_grammar.proofs.Smalls.{begins_none}
use Rattle.starlark_order.proofs.Early.{Early, no_more, and_more, ◌with◌, first_of, AreEarly, behind_token, Gives, becomes, ◌then◌, token, past, nothing_read}

-- ---- tokens

-- what begins an expression, or closes brackets
begins : (x : Lexeme) {c : Beginning} → beginning x ≡ Some c → is_layout x ≡ false
begins newline h = begins_none h
begins indent h = begins_none h
begins dedent h = begins_none h
begins _ h = refl

closes : (p : Bracket) → is_layout (closing_bracket p) ≡ false
closes round = refl
closes square = refl
closes curly = refl

-- an expression begins before its parts
first_place : {n : ℕ} (x : Expr) → Early n (expr_begins x) → (place x).begin < n
first_place (tree.leaf l u s) h = first_of h
first_place _ h = first_of h

-- ---- lists

grouped_early : {n : ℕ} (ms : tree.Members) (t : Bool) (o s : Extent) → o.begin < n → s.begin < n → Early n (members_begin ms) → Early n (expr_begins (grouped ms t o s))
grouped_early tree.none t o s u v h = and_more u h
grouped_early (tree.more tree.none (tree.item x)) false o s u v h = h
grouped_early ms t o s u v h = and_more v h

targeted_early : {n : ℕ} (ms : tree.Members) (s : Extent) → s.begin < n → Early n (members_begin ms) → Early n (expr_begins (targeted ms s))
targeted_early (tree.more tree.none (tree.item x)) s v h = h
targeted_early ms s v h = and_more v h

enclosed_early : {n : ℕ} (p : Bracket) (ms : tree.Members) (t : Bool) (o s : Extent) → o.begin < n → s.begin < n → Early n (members_begin ms) → Early n (expr_begins (enclosed p ms t o s))
enclosed_early round ms t o s u v h = grouped_early ms t o s u v h
enclosed_early square ms t o s u v h = and_more u h
enclosed_early curly ms t o s u v h = and_more u h

-- a target and its parts begin where its expression and those of that do
mutual
  target_same : (x : Expr) → expr_begins (target_of x) ≡ expr_begins x
  target_same (tree.tuple ms s) = let h = targets_same ms in cc
  target_same (tree.list ms s) = let h = targets_same ms in cc
  target_same _ = refl

  targets_same : (ms : tree.Members) → members_begin (targets_of ms) ≡ members_begin ms
  targets_same tree.none = refl
  targets_same (tree.more ms m) = let h = targets_same ms in let k = member_same m in cc

  member_same : (m : tree.Member) → member_begins (member_target m) ≡ member_begins m
  member_same (tree.item x) = target_same x
  member_same _ = refl

pub target_early : {n : ℕ} (x : Expr) → Early n (expr_begins x) → Early n (expr_begins (target_of x))
target_early {n} x h = subst (Early n) (sym (target_same x)) h

pub typed_early : {n : ℕ} (x : Expr) → Early n (expr_begins x) → Early n (annotation_begins (type_at x))
typed_early x h = and_more (first_place x h) h

-- ---- expressions

-- the first token begins before n, and so does what was read
abbrev pub Reads : ℕ → List Item → List Item → List ℕ → Type 0
Reads n a b ks = Gives n b ((start a < n) × Early n ks)

mutual
  pub level_early : {n m e : ℕ} {a b : List Item} {q : Expr} → Level m a b q e → AreEarly n a → Reads n a b (expr_begins q)
  level_early (g.by_itself {x} h) w = becomes (λ p. (p, and_more p (and_more p no_more))) (token (begins x h) w)
  level_early (g.in_brackets {x} {p = o} {ms} {t} h ds) w = becomes (λ p. (p.0.0, enclosed_early o ms t _ _ p.0.0 (p.0.1.0 p.1) p.0.1.1)) (token (begins x h) w then listed_early ds then token (closes o))
  level_early (g.comprehend {x} h p d cs) w = becomes (λ p. (p.0.0, and_more p.0.0 (p.0.1.1 with p.1))) (past (token (begins x h) w then member_early d then clauses_early cs))
  level_early (g.format {x} h d) w = becomes (λ p. (p.0, and_more p.0 (and_more p.0 (and_more p.0 p.1)))) (past (token (begins x h) w then pieces_early d))
  level_early (g.attribute {q} h d) w = becomes (λ p. (p.0.0, and_more (first_place q p.0.1) (and_more p.1 p.0.1))) (past (level_early d w) then token refl)
  level_early (g.subscript {q} h d s) w = becomes (λ p. (p.0.0, and_more (first_place q p.0.1) (p.0.1 with p.1))) (past (past (level_early d w) then subscript_early s))
  level_early (g.apply {q} h d ms) w = becomes (λ p. (p.0.0, and_more (first_place q p.0.1) (p.0.1 with p.1.1))) (past (past (level_early d w) then listed_early ms))
  level_early (g.sign {x} h d) w = becomes (λ p. (p.0, and_more p.0 p.1.1)) (token (begins x h) w then level_early d)
  level_early (g.operate {l = x} h d f) w = becomes (λ p. (p.0.0, and_more (first_place x p.0.1) (p.0.1 with p.1.1))) (past (level_early d w) then level_early f)
  level_early (g.not_in {l = x} h d f) w = becomes (λ p. (p.0.0, and_more (first_place x p.0.1) (p.0.1 with p.1.1))) (past (past (level_early d w)) then level_early f)
  level_early (g.ternary {t = x} h d e f) w = becomes (λ p. (p.0.0.0, and_more (first_place x p.0.0.1) (p.0.1.1 with p.0.0.1 with p.1.1))) (past (past (level_early d w) then level_early e) then level_early f)
  level_early (g.abstraction {x} h ms d) w = becomes (λ p. (p.0.0, and_more p.0.0 (p.0.1.1 with p.1.1))) (past (token (begins x h) w then listed_early ms) then level_early d)
  level_early (g.above d) w = level_early d w

  member_early : {n e : ℕ} {k : Kind} {a b : List Item} {r : tree.Member} → Member k a b r e → AreEarly n a → Reads n a b (member_begins r)
  member_early (g.test d) w = level_early d w
  member_early (g.loose_test d) w = level_early d w
  member_early (g.target d) w = level_early d w
  member_early (g.entry d f) w = becomes (λ p. (p.0.0, p.0.1 with p.1.1)) (past (level_early d w) then level_early f)
  member_early (g.plain d) w = becomes (λ p. (p.0, and_more p.0 p.1)) (level_early d w)
  member_early (g.keyword d) w = becomes (λ p. (p.0, and_more p.0 (and_more p.0 p.1.1))) (past (token refl w) then level_early d)
  member_early (g.spread d) w = becomes (λ p. (p.0, and_more p.0 p.1.1)) (token refl w then level_early d)
  member_early (g.spread_named d) w = becomes (λ p. (p.0, and_more p.0 p.1.1)) (token refl w then level_early d)
  member_early g.lone_slash w = becomes (λ p. (p, and_more p no_more)) (token refl w)
  member_early g.lone_star w = becomes (λ p. (p, and_more p no_more)) (token refl w)
  member_early g.star_name w = becomes (λ p. (p.0, and_more p.0 (and_more p.1 no_more))) (token refl w then token refl)
  member_early g.stars_name w = becomes (λ p. (p.0, and_more p.0 (and_more p.1 no_more))) (token refl w then token refl)
  member_early g.parameter w = becomes (λ p. (p, and_more p (and_more p no_more))) (token refl w)
  member_early (g.default d) w = becomes (λ p. (p.0, and_more p.0 (and_more p.0 p.1.1))) (past (token refl w) then level_early d)

  members_early : {n e : ℕ} {k : Kind} {a b : List Item} {ms : tree.Members} → Members k a b ms e → AreEarly n a → Reads n a b (members_begin ms)
  members_early (g.one d) w = member_early d w
  members_early (g.next ds d) w = becomes (λ p. (p.0.0, p.0.1 with p.1.1)) (past (members_early ds w) then member_early d)

  -- the first token begins before n where the one behind all does
  listed_early : {n e : ℕ} {k : Kind} {a b : List Item} {ms : tree.Members} {t : Bool} → Listed k a b ms t e → AreEarly n a → Gives n b ((start b < n → start a < n) × Early n (members_begin ms))
  listed_early g.nothing w = becomes (λ p. (λ h. h, p)) (nothing_read w)
  listed_early (g.some d) w = becomes (λ p. (λ h. p.0, p.1)) (members_early d w)
  listed_early (g.trailing d) w = becomes (λ p. (λ h. p.0, p.1)) (past (members_early d w))

  subscript_early : {n : ℕ} {a b : List Item} {s : tree.Subscript} → g.Subscript a b s → AreEarly n a → Gives n b (Early n (subscript_begins s))
  subscript_early (g.single d) w = becomes (λ p. p.1) (level_early d w)
  subscript_early (g.double d f) w = becomes (λ p. p.0.1 with p.1.1) (past (level_early d w) then level_early f)
  subscript_early (g.slice d f) w = becomes (λ p. p.0 with p.1 with no_more) (past (bound_early d w) then bound_early f)
  subscript_early (g.slice_step d f o) w = becomes (λ p. p.0.0 with p.0.1 with p.1) (past (past (bound_early d w) then bound_early f) then bound_early o)

  bound_early : {n : ℕ} {a b : List Item} {o : tree.Bound} → g.Bound a b o → AreEarly n a → Gives n b (Early n (bound_begins o))
  bound_early g.absent w = nothing_read w
  bound_early (g.present d) w = becomes (λ p. p.1) (level_early d w)

  for_early : {n : ℕ} {a b : List Item} {c : tree.Clause} → g.ForClause a b c → AreEarly n a → Gives n b (Early n (clause_begins c))
  for_early (g.for_in {d} {a} {ms} ds f) w = becomes (λ p. target_early (targeted ms (stretch (start a) d)) (targeted_early ms _ p.0.0 p.0.1) with p.1.1) (past (members_early ds (behind_token w)) then level_early f)

  clauses_early : {n : ℕ} {a b : List Item} {cs : tree.Clauses} → g.Clauses a b cs → AreEarly n a → Gives n b (Early n (clauses_begin cs))
  clauses_early (g.first d) w = for_early d w
  clauses_early (g.and_for d f) w = becomes (λ p. p.0 with p.1) (clauses_early d w then for_early f)
  clauses_early (g.and_if d f) w = becomes (λ p. p.0 with p.1.1) (past (clauses_early d w) then level_early f)

  pieces_early : {n : ℕ} {f : List ℕ} {a b : List Item} {ms : tree.Members} → g.Pieces a b f ms → AreEarly n a → Gives n b (Early n (members_begin ms))
  pieces_early g.no_piece w = nothing_read w
  pieces_early (g.text d) w = past (pieces_early d w)
  pieces_early (g.field d f) w = becomes (λ p. p.0 with p.1.1) (past (past (pieces_early d w) then level_early f))
  pieces_early (g.converted d f s) w = becomes (λ p. p.0 with p.1.1) (past (past (past (past (pieces_early d w) then level_early f))))

pub listing_early : {n e : ℕ} {k : Kind} {a b : List Item} {q : Expr} → Listing k a b q e → AreEarly n a → Reads n a b (expr_begins q)
listing_early (listing {ms} ds) w = becomes (λ p. (p.0, targeted_early ms _ p.0 p.1)) (members_early ds w)
