-- Expressions and lists are balanced.
use Rattle.std.proofs.Common.{ℕ, List, Bool, refl}
use Rattle.starlark_lexer.specs.Items.{Item}
use Rattle.starlark_ast.specs.Tree as tree
use Rattle.starlark_grammar.specs.Tables.{Kind}
use Rattle.starlark_grammar.specs.Expressions as g
use Rattle.starlark_joining.proofs.Classes.{beginning_is, suffix_is, closing_is}
use Rattle.starlark_joining.proofs.Balanced.{Balanced, still, compose, token, bracketed, in_fstring, joined_by}

mutual
  pub level : {n e : ℕ} {a b : List Item} {q : tree.Expr} → g.Level n a b q e → Balanced a b
  level (g.by_itself {x} h) = token (beginning_is x h)
  level (g.in_brackets {x} {p} h d) = bracketed (beginning_is x h) (closing_is p) (listed d)
  level (g.comprehend {x} {p} h c d cs) = bracketed (beginning_is x h) (closing_is p) (compose (member d) (clauses cs))
  level (g.format {x} h d) = in_fstring (beginning_is x h) refl (pieces d)
  level (g.attribute {x} h d) = joined_by (suffix_is x h) (level d) (token refl)
  level (g.subscript {x} h d s) = compose (level d) (bracketed (suffix_is x h) refl (subscript s))
  level (g.apply {x} h d ms) = compose (level d) (bracketed (suffix_is x h) refl (listed ms))
  level (g.sign {x} h d) = compose (token (beginning_is x h)) (level d)
  level (g.operate {x} h d e) = joined_by (suffix_is x h) (level d) (level e)
  level (g.not_in {x} h d e) = joined_by (suffix_is x h) (level d) (compose (token refl) (level e))
  level (g.ternary {x} h d e f) = joined_by (suffix_is x h) (level d) (joined_by refl (level e) (level f))
  level (g.abstraction {x} h ms d) = compose (token (beginning_is x h)) (joined_by refl (listed ms) (level d))
  level (g.above d) = level d

  pub member : {n : Kind} {e : ℕ} {a b : List Item} {m : tree.Member} → g.Member n a b m e → Balanced a b
  member (g.test d) = level d
  member (g.loose_test d) = level d
  member (g.target d) = level d
  member (g.entry d e) = joined_by refl (level d) (level e)
  member (g.plain d) = level d
  member (g.keyword d) = compose (token refl) (compose (token refl) (level d))
  member (g.spread d) = compose (token refl) (level d)
  member (g.spread_named d) = compose (token refl) (level d)
  member g.lone_slash = token refl
  member g.lone_star = token refl
  member g.star_name = compose (token refl) (token refl)
  member g.stars_name = compose (token refl) (token refl)
  member g.parameter = token refl
  member (g.default d) = compose (token refl) (compose (token refl) (level d))

  pub members : {n : Kind} {e : ℕ} {a b : List Item} {ms : tree.Members} → g.Members n a b ms e → Balanced a b
  members (g.one d) = member d
  members (g.next ds d) = joined_by refl (members ds) (member d)

  pub listed : {n : Kind} {e : ℕ} {a b : List Item} {ms : tree.Members} {t : Bool} → g.Listed n a b ms t e → Balanced a b
  listed g.nothing = still
  listed (g.some d) = members d
  listed (g.trailing d) = compose (members d) (token refl)

  pub subscript : {a b : List Item} {s : tree.Subscript} → g.Subscript a b s → Balanced a b
  subscript (g.single d) = level d
  subscript (g.double d e) = joined_by refl (level d) (level e)
  subscript (g.slice d e) = joined_by refl (bound d) (bound e)
  subscript (g.slice_step d e f) = joined_by refl (bound d) (joined_by refl (bound e) (bound f))

  pub bound : {a b : List Item} {o : tree.Bound} → g.Bound a b o → Balanced a b
  bound g.absent = still
  bound (g.present d) = level d

  pub for_clause : {a b : List Item} {m : tree.Clause} → g.ForClause a b m → Balanced a b
  for_clause (g.for_in ds e) = compose (token refl) (joined_by refl (members ds) (level e))

  pub clauses : {a b : List Item} {cs : tree.Clauses} → g.Clauses a b cs → Balanced a b
  clauses (g.first d) = for_clause d
  clauses (g.and_for d e) = compose (clauses d) (for_clause e)
  clauses (g.and_if d e) = joined_by refl (clauses d) (level e)

  pub pieces : {a b : List Item} {f : List ℕ} {ms : tree.Members} → g.Pieces a b f ms → Balanced a b
  pieces g.no_piece = still
  pieces (g.text d) = compose (pieces d) (token refl)
  pieces (g.field d e) = joined_by refl (pieces d) (compose (level e) (token refl))
  pieces (g.converted d e h) = joined_by refl (pieces d) (joined_by refl (level e) (compose (token refl) (token refl)))

pub listing : {n : Kind} {e : ℕ} {a b : List Item} {q : tree.Expr} → g.Listing n a b q e → Balanced a b
listing (g.listing ms) = members ms
