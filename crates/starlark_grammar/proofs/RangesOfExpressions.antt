-- The same of expressions: those in one begin behind it.
use Rattle.std.proofs.Common.{ℕ, ◌≡◌, ◌≤◌, ◌∷◌, List, Bool, true, false, refl, ap, sym, subst, arith, length}
use Rattle.starlark_place.specs.Place.{Extent}
use Rattle.starlark_grammar.specs.Spans.{stretch}
use Rattle.starlark_lexer.specs.Items.{Lexeme, Item, item}
use Rattle.starlark_ast.specs.Tree as tree
use Rattle.starlark_ast.specs.Tree.{Expr, place}
use Rattle.starlark_grammar.specs.Nodes.{start, grouped, targeted}
use Rattle.starlark_grammar.specs.Sorts.{is_some}
use Rattle.starlark_grammar.specs.Tables.{round, square, curly, Kind, tests, loose, targets}
use Rattle.starlark_grammar.specs.Expressions as g
use Rattle.starlark_grammar.specs.Expressions.{Level, Member, Members, Listed, Listing, listing}
use Rattle.starlark_grammar.specs.Events.{looped}
use Rattle.starlark_grammar.specs.Marks.{Mark, marked, comma_mark, in_level, in_member, in_members, in_listed, in_subscript, in_bound, in_for, in_clauses, in_pieces, in_listing}
use Rattle.starlark_grammar.specs.Longer.{BeginsTest}
use Rattle.starlark_grammar.proofs.Ranges.{Limits, Laid, a_token, shape_marks, comma_marks, Passes, Begun, passed, stays, skips, ◌>>◌, leads, extends, lowers, ends_with}

-- from the first token of a on, what begins at p was read
pub record Stands (l : Limits) (m : ℕ) (a : List Item) (p e : ℕ) (b : List Item) (f : List Mark → List Mark) : Type 0 where
  pub first : m ≤ start a
  pub early : start a ≤ p
  pub begun : Begun l m p e b f

-- tokens were read, to some place
pub record Comes (l : Limits) (m : ℕ) (b : List Item) (f : List Mark → List Mark) : Type 0 where
  pub end : ℕ
  pub passes : Passes l m end b f

pub comes : {l : Limits} {m e : ℕ} {b : List Item} {f : List Mark → List Mark} → Passes l m e b f → Comes l m b f
comes {e} p = record { end = e; passes = p }

pub comes_on : {l : Limits} {m : ℕ} {b c : List Item} {f g : List Mark → List Mark} → Comes l m b f → ((k : ℕ) → Laid l k b → Comes l k c g) → Comes l m c (λ later. f (g later))
comes_on {l} {m} {c} {f} {g} p q = go (q p.end p.passes.rest)
  where
    go : Comes l p.end c g → Comes l m c (λ later. f (g later))
    go r = comes (p.passes >> (λ v. r.passes))

pub then_on : {l : Limits} {m e : ℕ} {b c : List Item} {f g : List Mark → List Mark} → Comes l m b f → ((k : ℕ) → Laid l k b → Passes l k e c g) → Passes l m e c (λ later. f (g later))
then_on p q = p.passes >> q p.end

pub to : {l : Limits} {m e : ℕ} {b c : List Item} {f g : List Mark → List Mark} → Passes l m e b f → (Laid l e b → Comes l e c g) → Comes l m c (λ later. f (g later))
to p q = comes (p >> (λ v. (q p.rest).passes))

leading : {l : Limits} {m i j e : ℕ} {x : Lexeme} {a b : List Item} {f : List Mark → List Mark} → Laid l m (item i x j ∷ a) → BeginsTest x → (Laid l j a → Passes l j e b f) → Stands l m (item i x j ∷ a) i e b f
leading (a_token u v w h) c q = record { first = u; early = omega arith; begun = leads (a_token u v w h) c q }

going : {l : Limits} {m p e k : ℕ} {a b c : List Item} {f g : List Mark → List Mark} → Stands l m a p e b f → (Laid l e b → Passes l e k c g) → Stands l m a p k c (λ later. f (g later))
going s q = record { first = s.first; early = s.early; begun = extends s.begun q }

lowered : {l : Limits} {m p e : ℕ} {a b : List Item} {f : List Mark → List Mark} → Stands l m a p e b f → Stands l m a (start a) e b f
lowered s = record { first = s.first; early = omega arith; begun = lowers s.first s.early s.begun }

within : {l : Limits} {m i j p e : ℕ} {x : Lexeme} {a b : List Item} {f : List Mark → List Mark} → Laid l m (item i x j ∷ a) → (Laid l j a → Stands l j a p e b f) → Stands l m (item i x j ∷ a) p e b f
within {l} {m} {i} {j} {p} {e} {x} {a} {b} {f} (a_token u v w h) q = go (q h)
  where
    go : Stands l j a p e b f → Stands l m (item i x j ∷ a) p e b f
    go s = let y = s.first in let z = s.early in record { first = u; early = omega (arith, v, y, z); begun = lowers (omega (arith, u, v, y, z)) (omega arith) s.begun }

across : {l : Limits} {m p e : ℕ} {a b : List Item} {f : List Mark → List Mark} → Stands l m a p e b f → Passes l m e b f
across s = passed s.begun

moved : {l : Limits} {m p r e : ℕ} {a b : List Item} {f : List Mark → List Mark} → p ≡ r → Stands l m a p e b f → Stands l m a r e b f
moved {l} {m} {e} {a} {b} {f} h s = subst (λ z. Stands l m a z e b f) h s

commas : {l : Limits} {m : ℕ} {b : List Item} (n : Kind) (k : ℕ) (s : Extent) → Laid l m b → Passes l m m b (λ later. marked k (comma_mark n s) later)
commas n k s h = record { le = omega arith; rest = h; marks = comma_marks n k s }

-- several members in brackets, or without
pub many_grouped : {n : Kind} {e : ℕ} {a b : List Item} {ms : tree.Members} → Members n a b ms e → (m : tree.Member) (t : Bool) (o s : Extent) → grouped (tree.more ms m) t o s ≡ tree.tuple (tree.more ms m) s
many_grouped (g.one d) m t o s = refl
many_grouped (g.next ds d) m t o s = refl

pub many_targeted : {n : Kind} {e : ℕ} {a b : List Item} {ms : tree.Members} → Members n a b ms e → (m : tree.Member) (s : Extent) → targeted (tree.more ms m) s ≡ tree.tuple (tree.more ms m) s
many_targeted (g.one d) m s = refl
many_targeted (g.next ds d) m s = refl

abbrev begin_at : Expr → ℕ
begin_at q = (place q).begin

-- members that are expressions
abbrev pub IsBare : Kind → Type 0
IsBare tests = Unit {0}
IsBare loose = Unit {0}
IsBare targets = Unit {0}
IsBare _ = ⊥

mutual
  pub level_stands : {l : Limits} {m n e : ℕ} {a b : List Item} {q : Expr} (d : Level n a b q e) → Laid l m a → Stands l m a (place q).begin e b (in_level d)
  level_stands (g.by_itself h) w = leading w (ap is_some h) stays
  level_stands (g.in_brackets {p = round} h ds) w = round_stands (ap is_some h) ds w
  level_stands (g.in_brackets {p = square} h ds) w = leading w (ap is_some h) (λ v. then_on (listed_comes ds v) (λ k. skips))
  level_stands (g.in_brackets {p = curly} h ds) w = leading w (ap is_some h) (λ v. then_on (listed_comes ds v) (λ k. skips))
  level_stands (g.comprehend h p d cs) w = leading w (ap is_some h) (λ v. then_on (to (member_passes d v) (clauses_comes cs)) (λ k. skips))
  level_stands (g.format h d) w = leading w (ap is_some h) (λ v. then_on (pieces_comes d v) (λ k. skips))
  level_stands (g.attribute h d) w = going (level_stands d w) (λ v. skips v >> skips)
  level_stands (g.subscript h d s) w = going (level_stands d w) (λ v. then_on (to (skips v) (subscript_comes s)) (λ k. skips))
  level_stands (g.apply h d ms) w = going (level_stands d w) (λ v. then_on (to (skips v) (listed_comes ms)) (λ k. skips))
  level_stands (g.sign h d) w = leading w (ap is_some h) (λ y. across (level_stands d y))
  level_stands (g.operate h d f) w = going (level_stands d w) (λ v. skips v >> (λ y. across (level_stands f y)))
  level_stands (g.not_in h d f) w = going (level_stands d w) (λ v. skips v >> skips >> (λ y. across (level_stands f y)))
  level_stands (g.ternary h d e f) w = going (level_stands d w) (λ v. skips v >> (λ y. across (level_stands e y)) >> skips >> (λ y. across (level_stands f y)))
  level_stands (g.abstraction h ms d) w = leading w (ap is_some h) (λ v. then_on (listed_comes ms v) (λ k y. skips y >> (λ y. across (level_stands d y))))
  level_stands (g.above d) w = level_stands d w

  round_stands : {l : Limits} {m i j u k e : ℕ} {x y : Lexeme} {a b : List Item} {ms : tree.Members} {t : Bool} → BeginsTest x → (ds : Listed tests a (item u y k ∷ b) ms t e) → Laid l m (item i x j ∷ a) → Stands l m (item i x j ∷ a) (place (grouped ms t (stretch i k) (stretch (start a) e))).begin k b (in_listed ds)
  round_stands h g.nothing w = leading w h skips
  round_stands h (g.some (g.one (g.test d))) w = within w (λ v. going (level_stands d v) skips)
  round_stands {l} {m} {i} {j} {k} {e} {x} {a} {b} h (g.some (g.next {n} {h = o} {a = c} {b = z} {m = r} ds d)) w = moved (ap begin_at (sym (many_grouped ds r false (stretch i k) (stretch (start a) e)))) (within w (λ v. going (members_stand tt ds v) (λ y. skips y >> commas n (length z) (stretch (start c) o) >> member_passes d >> skips)))
  round_stands h (g.trailing (g.one (g.test d))) w = within w (λ v. going (lowered (level_stands d v)) (λ y. skips y >> skips))
  round_stands {l} {m} {i} {j} {k} {e} {x} {a} {b} h (g.trailing (g.next {n} {h = o} {a = c} {b = z} {m = r} ds d)) w = moved (ap begin_at (sym (many_grouped ds r true (stretch i k) (stretch (start a) e)))) (within w (λ v. going (members_stand tt ds v) (λ y. skips y >> commas n (length z) (stretch (start c) o) >> member_passes d >> skips >> skips)))

  pub members_stand : {l : Limits} {m e : ℕ} {n : Kind} {a b : List Item} {ms : tree.Members} → IsBare n → (ds : Members n a b ms e) → Laid l m a → Stands l m a (start a) e b (in_members ds)
  members_stand i (g.one (g.test d)) w = lowered (level_stands d w)
  members_stand i (g.one (g.loose_test d)) w = lowered (level_stands d w)
  members_stand i (g.one (g.target d)) w = lowered (level_stands d w)
  members_stand i (g.one _) w = absurd i
  members_stand i (g.next {n} {h = o} {a = c} {b = z} ds d) w = going (members_stand i ds w) (λ y. skips y >> commas n (length z) (stretch (start c) o) >> member_passes d)

  -- a list without brackets
  pub targeted_stands : {l : Limits} {m e : ℕ} {n : Kind} {a b : List Item} {ms : tree.Members} → IsBare n → (ds : Members n a b ms e) → Laid l m a → Stands l m a (place (targeted ms (stretch (start a) e))).begin e b (in_members ds)
  targeted_stands i (g.one (g.test d)) w = level_stands d w
  targeted_stands i (g.one (g.loose_test d)) w = level_stands d w
  targeted_stands i (g.one (g.target d)) w = level_stands d w
  targeted_stands i (g.one _) w = absurd i
  targeted_stands {l} {m} {e} {a} {b} i (g.next {n} {h = o} {a = c} {b = z} {m = r} ds d) w = moved (ap begin_at (sym (many_targeted ds r (stretch (start a) e)))) (going (members_stand i ds w) (λ y. skips y >> commas n (length z) (stretch (start c) o) >> member_passes d))

  member_passes : {l : Limits} {m e : ℕ} {n : Kind} {a b : List Item} {r : tree.Member} (d : Member n a b r e) → Laid l m a → Passes l m e b (in_member d)
  member_passes (g.test d) w = across (level_stands d w)
  member_passes (g.loose_test d) w = across (level_stands d w)
  member_passes (g.target d) w = across (level_stands d w)
  member_passes (g.entry d f) w = across (level_stands d w) >> skips >> (λ y. across (level_stands f y))
  member_passes (g.plain d) w = across (level_stands d w)
  member_passes (g.keyword d) w = skips w >> skips >> (λ y. across (level_stands d y))
  member_passes (g.spread d) w = skips w >> (λ y. across (level_stands d y))
  member_passes (g.spread_named d) w = skips w >> (λ y. across (level_stands d y))
  member_passes g.lone_slash w = skips w
  member_passes g.lone_star w = skips w
  member_passes g.star_name w = skips w >> skips
  member_passes g.stars_name w = skips w >> skips
  member_passes g.parameter w = skips w
  member_passes (g.default d) w = skips w >> skips >> (λ y. across (level_stands d y))

  members_pass : {l : Limits} {m e : ℕ} {n : Kind} {a b : List Item} {ms : tree.Members} (ds : Members n a b ms e) → Laid l m a → Passes l m e b (in_members ds)
  members_pass (g.one d) w = member_passes d w
  members_pass (g.next {n} {h = o} {a = c} {b = z} ds d) w = members_pass ds w >> skips >> commas n (length z) (stretch (start c) o) >> member_passes d

  listed_comes : {l : Limits} {m e : ℕ} {n : Kind} {a b : List Item} {ms : tree.Members} {t : Bool} (ds : Listed n a b ms t e) → Laid l m a → Comes l m b (in_listed ds)
  listed_comes g.nothing w = comes (stays w)
  listed_comes (g.some d) w = comes (members_pass d w)
  listed_comes (g.trailing d) w = comes (members_pass d w >> skips)

  subscript_comes : {l : Limits} {m : ℕ} {a b : List Item} {s : tree.Subscript} (d : g.Subscript a b s) → Laid l m a → Comes l m b (in_subscript d)
  subscript_comes (g.single d) w = comes (across (level_stands d w))
  subscript_comes (g.double d f) w = comes (across (level_stands d w) >> skips >> (λ y. across (level_stands f y)))
  subscript_comes (g.slice d f) w = comes_on (bound_comes d w) (λ k v. to (skips v) (bound_comes f))
  subscript_comes (g.slice_step d f o) w = comes_on (comes_on (bound_comes d w) (λ k v. to (skips v) (bound_comes f))) (λ k v. to (skips v) (bound_comes o))

  bound_comes : {l : Limits} {m : ℕ} {a b : List Item} {o : tree.Bound} (d : g.Bound a b o) → Laid l m a → Comes l m b (in_bound d)
  bound_comes g.absent w = comes (stays w)
  bound_comes (g.present d) w = comes (across (level_stands d w))

  for_comes : {l : Limits} {m : ℕ} {a b : List Item} {c : tree.Clause} (d : g.ForClause a b c) → Laid l m a → Comes l m b (in_for d)
  for_comes (g.for_in {d} {a} {c} {ms} ds f) w = comes (skips w >> (λ v. ends_with (length c) (looped (targeted ms (stretch (start a) d))) refl (extends (targeted_stands tt ds v).begun (λ y. skips y >> (λ y. across (level_stands f y))))))

  clauses_comes : {l : Limits} {m : ℕ} {a b : List Item} {cs : tree.Clauses} (d : g.Clauses a b cs) → Laid l m a → Comes l m b (in_clauses d)
  clauses_comes (g.first d) w = for_comes d w
  clauses_comes (g.and_for d f) w = comes_on (clauses_comes d w) (λ k. for_comes f)
  clauses_comes (g.and_if d f) w = comes_on (clauses_comes d w) (λ k v. comes (skips v >> (λ y. across (level_stands f y))))

  pieces_comes : {l : Limits} {m : ℕ} {f : List ℕ} {a b : List Item} {ms : tree.Members} (d : g.Pieces a b f ms) → Laid l m a → Comes l m b (in_pieces d)
  pieces_comes g.no_piece w = comes (stays w)
  pieces_comes (g.text d) w = comes_on (pieces_comes d w) (λ k v. comes (skips v))
  pieces_comes (g.field d f) w = comes_on (pieces_comes d w) (λ k v. comes (skips v >> (λ y. across (level_stands f y)) >> skips))
  pieces_comes (g.converted d f s) w = comes_on (pieces_comes d w) (λ k v. comes (skips v >> (λ y. across (level_stands f y)) >> (λ y. record { le = omega arith; rest = y; marks = shape_marks _ _ _ }) >> skips >> skips >> skips))

pub level_passes : {l : Limits} {m n e : ℕ} {a b : List Item} {q : Expr} (d : Level n a b q e) → Laid l m a → Passes l m e b (in_level d)
level_passes d w = across (level_stands d w)

pub listing_begun : {l : Limits} {m e : ℕ} {n : Kind} {a b : List Item} {q : Expr} → IsBare n → (d : Listing n a b q e) → Laid l m a → Begun l m (place q).begin e b (in_listing d)
listing_begun i (listing ds) w = (targeted_stands i ds w).begun

pub listing_passes : {l : Limits} {m e : ℕ} {n : Kind} {a b : List Item} {q : Expr} → IsBare n → (d : Listing n a b q e) → Laid l m a → Passes l m e b (in_listing d)
listing_passes i d w = passed (listing_begun i d w)
