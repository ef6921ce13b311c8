-- An expression begins with a token that has bytes, and is read up to a later one.
use Rattle.std.proofs.Common.{ℕ, ◌≡◌, List, Bool, false, Some, refl}
use Rattle.starlark_lexer.specs.Items.{Lexeme, newline, indent, dedent, fstring_text, fstring_expr_start, fstring_expr_end, fstring_bang, fstring_end, Item}
use Rattle.starlark_ast.specs.Tree as tree
use Rattle.starlark_grammar.specs.Tables.{Beginning, beginning, Kind}
use Rattle.starlark_grammar.specs.Expressions as g
use Rattle.starlark_grammar.specs.Expressions.{Level, Member, Members, Listed, Listing, listing}
use Rattle.starlark_order.specs.Ordered.{is_inner}
use Rattle.starlark_grammar.proofs.Smalls.{begins_none}
use Rattle.starlark_order.proofs.Tokens.{Laid, Passes, Begun, passed, stays, skips, ◌>>◌, extends, leads, goes}

-- such a token begins no expression
no_inner : (x : Lexeme) {c : Beginning} → beginning x ≡ Some c → is_inner x ≡ false
no_inner newline h = begins_none h
no_inner indent h = begins_none h
no_inner dedent h = begins_none h
no_inner (fstring_text s) h = begins_none h
no_inner fstring_expr_start h = begins_none h
no_inner fstring_expr_end h = begins_none h
no_inner fstring_bang h = begins_none h
no_inner fstring_end h = begins_none h
no_inner _ h = refl

mutual
  pub level_begun : {text : List ℕ} {m k e : ℕ} {a b : List Item} {q : tree.Expr} → Level k a b q e → Laid text m a → Begun text m a b
  level_begun (g.by_itself {x} h) w = leads (no_inner x h) w stays
  level_begun (g.in_brackets {x} h ds) w = leads (no_inner x h) w (λ v. listed_passes ds v >> skips)
  level_begun (g.comprehend {x} h p d cs) w = leads (no_inner x h) w (λ v. passed (member_begun d v) >> clauses_pass cs >> skips)
  level_begun (g.format {x} h d) w = leads (no_inner x h) w (λ v. pieces_pass d v >> skips)
  level_begun (g.attribute h d) w = extends (level_begun d w) (λ v. skips v >> skips)
  level_begun (g.subscript h d s) w = extends (level_begun d w) (λ v. skips v >> subscript_passes s >> skips)
  level_begun (g.apply h d ms) w = extends (level_begun d w) (λ v. skips v >> listed_passes ms >> skips)
  level_begun (g.sign {x} h d) w = leads (no_inner x h) w (goes (level_begun d))
  level_begun (g.operate h d f) w = extends (level_begun d w) (λ v. skips v >> goes (level_begun f))
  level_begun (g.not_in h d f) w = extends (level_begun d w) (λ v. skips v >> skips >> goes (level_begun f))
  level_begun (g.ternary h d e f) w = extends (level_begun d w) (λ v. skips v >> goes (level_begun e) >> skips >> goes (level_begun f))
  level_begun (g.abstraction {x} h ms d) w = leads (no_inner x h) w (λ v. listed_passes ms v >> skips >> goes (level_begun d))
  level_begun (g.above d) w = level_begun d w

  member_begun : {text : List ℕ} {m e : ℕ} {k : Kind} {a b : List Item} {r : tree.Member} → Member k a b r e → Laid text m a → Begun text m a b
  member_begun (g.test d) w = level_begun d w
  member_begun (g.loose_test d) w = level_begun d w
  member_begun (g.target d) w = level_begun d w
  member_begun (g.entry d f) w = extends (level_begun d w) (λ v. skips v >> goes (level_begun f))
  member_begun (g.plain d) w = level_begun d w
  member_begun (g.keyword d) w = leads refl w (λ v. skips v >> goes (level_begun d))
  member_begun (g.spread d) w = leads refl w (goes (level_begun d))
  member_begun (g.spread_named d) w = leads refl w (goes (level_begun d))
  member_begun g.lone_slash w = leads refl w stays
  member_begun g.lone_star w = leads refl w stays
  member_begun g.star_name w = leads refl w skips
  member_begun g.stars_name w = leads refl w skips
  member_begun g.parameter w = leads refl w stays
  member_begun (g.default d) w = leads refl w (λ v. skips v >> goes (level_begun d))

  members_begun : {text : List ℕ} {m e : ℕ} {k : Kind} {a b : List Item} {ms : tree.Members} → Members k a b ms e → Laid text m a → Begun text m a b
  members_begun (g.one d) w = member_begun d w
  members_begun (g.next ds d) w = extends (members_begun ds w) (λ v. skips v >> goes (member_begun d))

  listed_passes : {text : List ℕ} {m e : ℕ} {k : Kind} {a b : List Item} {ms : tree.Members} {t : Bool} → Listed k a b ms t e → Laid text m a → Passes text m b
  listed_passes g.nothing w = stays w
  listed_passes (g.some d) w = passed (members_begun d w)
  listed_passes (g.trailing d) w = passed (members_begun d w) >> skips

  subscript_passes : {text : List ℕ} {m : ℕ} {a b : List Item} {s : tree.Subscript} → g.Subscript a b s → Laid text m a → Passes text m b
  subscript_passes (g.single d) w = passed (level_begun d w)
  subscript_passes (g.double d f) w = passed (level_begun d w) >> skips >> goes (level_begun f)
  subscript_passes (g.slice d f) w = bound_passes d w >> skips >> bound_passes f
  subscript_passes (g.slice_step d f o) w = bound_passes d w >> skips >> bound_passes f >> skips >> bound_passes o

  bound_passes : {text : List ℕ} {m : ℕ} {a b : List Item} {o : tree.Bound} → g.Bound a b o → Laid text m a → Passes text m b
  bound_passes g.absent w = stays w
  bound_passes (g.present d) w = passed (level_begun d w)

  for_passes : {text : List ℕ} {m : ℕ} {a b : List Item} {c : tree.Clause} → g.ForClause a b c → Laid text m a → Passes text m b
  for_passes (g.for_in ds f) w = skips w >> goes (members_begun ds) >> skips >> goes (level_begun f)

  clauses_pass : {text : List ℕ} {m : ℕ} {a b : List Item} {cs : tree.Clauses} → g.Clauses a b cs → Laid text m a → Passes text m b
  clauses_pass (g.first d) w = for_passes d w
  clauses_pass (g.and_for d f) w = clauses_pass d w >> for_passes f
  clauses_pass (g.and_if d f) w = clauses_pass d w >> skips >> goes (level_begun f)

  pieces_pass : {text : List ℕ} {m : ℕ} {f : List ℕ} {a b : List Item} {ms : tree.Members} → g.Pieces a b f ms → Laid text m a → Passes text m b
  pieces_pass g.no_piece w = stays w
  pieces_pass (g.text d) w = pieces_pass d w >> skips
  pieces_pass (g.field d f) w = pieces_pass d w >> skips >> goes (level_begun f) >> skips
  pieces_pass (g.converted d f s) w = pieces_pass d w >> skips >> goes (level_begun f) >> skips >> skips >> skips

pub level_passes : {text : List ℕ} {m k e : ℕ} {a b : List Item} {q : tree.Expr} → Level k a b q e → Laid text m a → Passes text m b
level_passes d w = passed (level_begun d w)

pub listing_begun : {text : List ℕ} {m e : ℕ} {k : Kind} {a b : List Item} {q : tree.Expr} → Listing k a b q e → Laid text m a → Begun text m a b
listing_begun (listing ds) w = members_begun ds w

pub listing_passes : {text : List ℕ} {m e : ℕ} {k : Kind} {a b : List Item} {q : tree.Expr} → Listing k a b q e → Laid text m a → Passes text m b
listing_passes d w = passed (listing_begun d w)
