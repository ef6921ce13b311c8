-- The machine reads what the grammar derives of expressions, and meets the marks of the derivation.
use Rattle.std.proofs.Common.{ℕ, ◌≡◌, ◌≤◌, ◌∷◌, ◌++◌, [], suc, List, Some, None, Bool, true, false, refl, ap, arith, length}
use Rattle.starlark_grammar.specs.Spans.{stretch}
use Rattle.starlark_lexer.specs.Items.{keyword_for, colon, closing_round, closing_square, closing_curly, Item, item}
use Rattle.starlark_ast.specs.declared.ast.BinOp.TheVariants as op
use Rattle.starlark_ast.specs.Tree as tree
use Rattle.starlark_grammar.specs.Nodes.{from, start, targeted}
use Rattle.starlark_grammar.specs.Events.{looped}
use Rattle.starlark_grammar.specs.Tables.{Bracket, round, square, curly, sign_level, below, associates, left_of, grade_of, Kind, comprises}
use Rattle.starlark_grammar.specs.Expressions as g
use Rattle.starlark_grammar.specs.Marks.{marked, in_level, in_member, in_members, in_listed, in_subscript, in_bound, in_for, in_clauses, in_pieces}
use Rattle.starlark_grammar.specs.Points.{Place, brackets, behind, before_body, targets_in, a_value, an_argument, a_named, an_args, a_kwargs, a_parameter, Bounds, at_first, at_second, at_third, member, key, second, operand, behind_sign, condition, otherwise, body, over, filter, field, member_wanted, member_read, bound_wanted, clauses_read, piece_wanted, letter_read, Outcome, reach, on_some, first_at, next_bound, sliced}
use Rattle.starlark_grammar.specs.Frames.{Frames, tail, inside, State, wants, has, stands}
use Rattle.starlark_grammar.specs.Machine.{go, step}
use Rattle.starlark_grammar.specs.Runs.{met_at, met}
use Rattle.starlark_grammar.proofs.Steps.{first_grade}
use Rattle.starlark_grammar.proofs.Reading.{Reads, ◌>>◌, quietly, meets, reads, turns, level_first, goes_up, begins, drops, keeps, enters, room, room_of, whole_as}
use Rattle.starlark_grammar.proofs.Openings.{operate_reads, OfKind, k_round, k_square, k_curly, k_call, k_lambda, k_targets, of_bracket, Behind, b_comma, b_close, wide, unequal, name_first, off, opens_reads, rest_of, argument_begins}
use Rattle.starlark_grammar.proofs.Endings.{settled_member, settled_key, settled_second, settled_condition, settled_filter, settled_field, star_whole, name_whole, read_close, comma_is, first_stays, none_met, listed_at, listed_some, listed_trailing, point_as, met_as, read_as, listed_closes, sign_gap, clauses_begin, clauses_close, for_turn, over_is, bound_present, item_opens, closing_wide, for_wide, left_is, left_fits, room_up}

-- what is read of members
mutual
  -- the expression was read, and an operator of its level may follow
  pub level_read : {n e : ℕ} {a b : List Item} {q : tree.Expr} (d : g.Level n a b q e) → room n ≤ first_grade b → (k : Frames) → Reads (wants n k) a (in_level d) (has q e (tail n k)) b
  level_read (g.by_itself h) le k = begins h refl
  level_read (g.in_brackets {i} {g = u} {h = v} {e} {p} {a} {ms} {t} h d) le k = begins h refl >> listed_read d (of_bracket p i) b_close (tail 0 k) >> listed_closes ms t e (start a) u v (of_bracket p i) tt
  level_read (g.comprehend {i} {g = u} {h = v} {p} {c} {m} {cs} h o d es) le k =
      begins h refl >> member_reads d (of_bracket p i) (clauses_begin es) tree.none false 0 0 (tail 0 k)
      >> clauses_reads es (closing_wide p u v c) o (tail 0 k) >> turns (clauses_close p i m cs u v)
  level_read (g.format h d) le k = begins h refl >> pieces_reads d (tail 0 k) >> turns refl
  level_read (g.attribute h d) le k = level_read d (omega arith) k >> enters h refl >> turns refl
  level_read (g.subscript h d s) le k = level_read d (omega arith) k >> enters h refl >> subscript_reads s (tail 0 k)
  level_read (g.apply {g = u} {h = v} {e} {b} {ms} {t} h d o) le k = level_read d (omega arith) k >> enters h refl >> listed_read o k_call b_close (tail 0 k) >> listed_closes ms t e (start b) u v k_call tt
  level_read (g.sign {i} {s} {b} h d) le k = begins h refl >> whole_as (drops (sign_gap s b le) (level_read d le (inside (behind_sign s i) (tail (sign_level s) k)))) refl (λ x. refl) (λ x. refl)
  level_read (g.operate {x} {o} h d l) le k = operate_reads o (left_of (suc (below o))) (associates (suc (below o))) refl h (level_first d) (left_is o) (λ k. level_read d (left_fits o x h) k) (λ k. level_read l (room_of (below o) _ (room_up (below o) le)) k) le k
  level_read (g.not_in {b} {c} {l} h d o) le k =
      let w = ap grade_of h in
      goes_up (level_first d) >> drops (omega arith) (level_read d (omega arith) (tail 8 k)) >> enters h refl >> turns refl
      >> keeps (omega arith) (whole_as (drops (omega arith) (level_read o (omega arith) (inside (operand l op.NotIn) k))) refl (λ x. refl) (λ x. refl))
  level_read (g.ternary {t} {q} h d o p) le k =
      let w = ap grade_of h in
      goes_up (level_first d) >> drops (omega arith) (level_read d (omega arith) (tail 12 k)) >> enters h refl
      >> settled_condition (drops (omega arith) (level_read o (omega arith) (inside (condition t) k))) >> turns refl
      >> keeps (omega arith) (whole_as (drops (omega arith) (level_read p le (inside (otherwise t q) k))) refl (λ x. refl) (λ x. refl))
  level_read (g.abstraction {i} {g = u} {h = v} {d = y} {a} {ms} {t} h d o) le k =
      begins h refl >> listed_read d k_lambda b_close k >> listed_closes ms t y (start a) u v k_lambda tt
      >> keeps (omega arith) (whole_as (drops (omega arith) (level_read o le (inside (body ms i) k))) refl (λ x. refl) (λ x. refl))
  level_read (g.above {n} {b} d) le k = let w = room_up n le in goes_up (level_first d) >> drops w (level_read d (room_of n (first_grade b) w) (tail (suc n) k))

  pub listed_read : {n : Kind} {w : Place} {e : ℕ} {a b : List Item} {ms : tree.Members} {t : Bool} (d : g.Listed n a b ms t e) → OfKind w n → Behind w b → (k : Frames) → Reads (stands (member_wanted w tree.none false 0 0) k) a (in_listed d) (stands (listed_at w ms t e (start a)) k) b
  listed_read g.nothing o h k = quietly refl
  listed_read (g.some {e} {a} d) o h k = point_as (listed_some e (start a) d) (members_reads d o h k)
  listed_read (g.trailing {h = v} {a} d) o h k = point_as (listed_trailing v (start a) d) (members_reads d o b_comma k >> turns refl)

  pub members_reads : {n : Kind} {w : Place} {e : ℕ} {a b : List Item} {ms : tree.Members} (d : g.Members n a b ms e) → OfKind w n → Behind w b → (k : Frames) → Reads (stands (member_wanted w tree.none false 0 0) k) a (in_members d) (stands (member_read w ms e (start a)) k) b
  members_reads (g.one d) o h k = met_as (in_member d) (none_met false 0 0 o) (member_reads d o h tree.none false 0 0 k)
  members_reads (g.next {h = v} {a} {b} {ms} d e) o h k = members_reads d o b_comma k >> turns refl >> read_as (first_stays b d) (met_as (in_member e) (comma_is v (start a) o d) (member_reads e o h ms true v (start a) k))

  pub member_reads : {n : Kind} {w : Place} {e : ℕ} {a b : List Item} {m : tree.Member} (d : g.Member n a b m e) → OfKind w n → Behind w b → (ms : tree.Members) (t : Bool) (u f : ℕ) (k : Frames) → Reads (stands (member_wanted w ms t u f) k) a (λ l. marked (length a) (met_at (member_wanted w ms t u f)) (in_member d l)) (stands (member_read w (tree.more ms m) e (first_at ms f (start a))) k) b
  member_reads (g.test d) (k_round {u = v}) h ms t u f k = item_opens (level_first d) (λ x b i j h. ap (rest_of (member_wanted (brackets round v) ms t u f) k x i j) (off _ _ closing_round x (refl, refl) refl h)) (wide k_round h) (λ k. level_read d (wide k_round h) k)
  member_reads (g.test d) (k_square {u = v}) h ms t u f k = item_opens (level_first d) (λ x b i j h. ap (rest_of (member_wanted (brackets square v) ms t u f) k x i j) (off _ _ closing_square x (refl, refl) refl h)) (wide k_square h) (λ k. level_read d (wide k_square h) k)
  member_reads (g.loose_test d) o h ms t u f k = elim o [ ]
  member_reads (g.target {b} d) k_targets h ms t u f k = let w = wide k_targets h in item_opens (level_first d) (λ x b i j h. refl) w (λ k. level_read d (room_of 7 (first_grade b) w) k)
  member_reads (g.entry {i} {a} {q} d e) (k_curly {u = v}) h ms t u f k =
      opens_reads (λ i. key v ms (first_at ms f i) i) (level_first d) (λ x b i j h. ap (rest_of (member_wanted (brackets curly v) ms t u f) k x i j) (off _ _ closing_curly x (refl, refl) refl h))
      >> settled_key (drops (omega arith) (level_read d (omega arith) (inside (key v ms (first_at ms f (start a)) (start a)) k))) >> turns refl
      >> settled_member (drops (wide k_curly h) (level_read e (wide k_curly h) (inside (member (brackets curly v) ms (first_at ms f (start a)) (start a) (a_value q)) k)))
  member_reads (g.plain {a} {b} d) (k_call {q}) h ms t u f k = quietly (argument_begins q ms t u f k a (level_first d) (name_first d (unequal h))) >> settled_member (drops (wide k_call h) (level_read d (wide k_call h) (inside (member (behind q) ms (first_at ms f (start a)) (start a) an_argument) k)))
  member_reads (g.keyword {i} {j} {n} d) (k_call {q}) h ms t u f k = reads refl refl >> reads refl refl >> settled_member (drops (wide k_call h) (level_read d (wide k_call h) (inside (member (behind q) ms (first_at ms f i) i (a_named n (stretch i j))) k)))
  member_reads (g.spread {i} d) (k_call {q}) h ms t u f k = turns refl >> settled_member (drops (wide k_call h) (level_read d (wide k_call h) (inside (member (behind q) ms (first_at ms f i) i an_args) k)))
  member_reads (g.spread_named {i} d) (k_call {q}) h ms t u f k = turns refl >> settled_member (drops (wide k_call h) (level_read d (wide k_call h) (inside (member (behind q) ms (first_at ms f i) i a_kwargs) k)))
  member_reads g.lone_slash k_lambda h ms t u f k = turns refl
  member_reads g.lone_star k_lambda h ms t u f k = turns refl >> star_whole h
  member_reads g.star_name k_lambda h ms t u f k = turns refl >> turns refl
  member_reads g.stars_name k_lambda h ms t u f k = turns refl >> turns refl
  member_reads g.parameter k_lambda h ms t u f k = turns refl >> name_whole h
  member_reads (g.default {i} {j} {n} d) (k_lambda {u = v}) h ms t u f k = turns refl >> turns refl >> settled_member (drops (wide k_lambda h) (level_read d (wide k_lambda h) (inside (member (before_body v) ms (first_at ms f i) i (a_parameter n (stretch i j))) k)))

  pub clauses_reads : {p : Bracket} {u e f : ℕ} {a b : List Item} {m : tree.Member} {cs : tree.Clauses} (d : g.Clauses a b cs) → 12 ≤ first_grade b → comprises p ≡ true → (k : Frames) → Reads (stands (member_read (brackets p u) (tree.more tree.none m) e f) k) a (in_clauses d) (stands (clauses_read p u m cs) k) b
  clauses_reads {p} {u} {e} {f} {m} (g.first d) le o k = for_reads d le refl (λ i j. ap (rest_of (member_read (brackets p u) (tree.more tree.none m) e f) k keyword_for i j) (for_turn p u m e f i j o))
  clauses_reads (g.and_for d e) le o k = clauses_reads d (for_wide e) o k >> for_reads e le refl (λ i j. refl)
  clauses_reads {p} {u} {m} (g.and_if {cs} d e) le o k = clauses_reads d (omega arith) o k >> turns refl >> settled_filter (drops (omega arith) (level_read e (omega arith) (inside (filter p u m cs) k)))

  pub for_reads : {p : Bracket} {u : ℕ} {a b : List Item} {m : tree.Member} {cs : tree.Clauses} {c : tree.Clause} {s : State} {k : Frames} (d : g.ForClause a b c) → 12 ≤ first_grade b → met s (Some keyword_for) ≡ None → ((i j : ℕ) → step s (item i keyword_for j) ≡ Some (stands (member_wanted (targets_in p u m cs) tree.none false 0 0) k)) → Reads s a (in_for d) (stands (clauses_read p u m (tree.and_clause cs c)) k) b
  for_reads {p} {u} {m} {cs} {k} (g.for_in {i} {j} {g = v} {h = w} {d} {e} {a} {c} {ms} {q} ds o) le f h =
      reads f (h i j) >> members_reads ds k_targets b_close k >> turns (read_close ms d (start a) v w k_targets)
      >> drops (omega arith) (level_read o (omega arith) (inside (over p u m cs (targeted ms (stretch (start a) d))) k))
      >> meets (Some (looped (targeted ms (stretch (start a) d)))) (over_is p u m cs (targeted ms (stretch (start a) d)) q e k c)

  pub pieces_reads : {i : ℕ} {a b : List Item} {f : List ℕ} {ms : tree.Members} (d : g.Pieces a b f ms) → (k : Frames) → Reads (stands (piece_wanted i [] tree.none) k) a (in_pieces d) (stands (piece_wanted i f ms) k) b
  pieces_reads g.no_piece k = quietly refl
  pieces_reads (g.text d) k = pieces_reads d k >> turns refl
  pieces_reads {i = u} (g.field {f} {ms} d e) k = pieces_reads d k >> turns refl >> settled_field (drops (omega arith) (level_read e (omega arith) (inside (field u f ms) k))) >> turns refl
  pieces_reads {i = u} (g.converted {f} {ms} {q} d e h) k =
      pieces_reads d k >> turns refl >> settled_field (drops (omega arith) (level_read e (omega arith) (inside (field u f ms) k))) >> turns refl
      >> turns (ap (λ o. on_some o (λ s. Some (reach (letter_read u (f ++ s) (tree.more ms (tree.item q))))) None) h) >> turns refl

  pub colon_reads : {i j : ℕ} {a b : List Item} {o : tree.Bound} (d : g.Bound a (item i colon j ∷ b) o) (q : tree.Expr) (bs : Bounds) (k : Frames) (p : Outcome) → next_bound q bs o ≡ Some p → Reads (stands (bound_wanted q bs) k) a (in_bound d) (go k p) b
  colon_reads g.absent q bs k p h = turns h
  colon_reads (g.present d) q bs k p h = bound_present (level_first d) (omega arith) (level_read d (omega arith)) >> turns h

  pub end_reads : {i j : ℕ} {a b : List Item} {o : tree.Bound} (d : g.Bound a (item i closing_square j ∷ b) o) (q : tree.Expr) (bs : Bounds) (k : Frames) (p : Outcome) → sliced q bs o j ≡ Some p → Reads (stands (bound_wanted q bs) k) a (in_bound d) (go k p) b
  end_reads g.absent q bs k p h = turns h
  end_reads (g.present d) q bs k p h = bound_present (level_first d) (omega arith) (level_read d (omega arith)) >> turns h

  pub subscript_reads : {i j : ℕ} {a b : List Item} {q : tree.Expr} {s : tree.Subscript} (d : g.Subscript a (item i closing_square j ∷ b) s) → (k : Frames) → Reads (stands (bound_wanted q at_first) k) a (in_subscript d) (has (tree.index q s (from q j)) j k) b
  subscript_reads (g.single d) k = bound_present (level_first d) (omega arith) (level_read d (omega arith)) >> turns refl
  subscript_reads {q = t} (g.double {q} d e) k =
      bound_present (level_first d) (omega arith) (level_read d (omega arith)) >> turns refl
      >> settled_second (drops (omega arith) (level_read e (omega arith) (inside (second t q) k))) >> turns refl
  subscript_reads {q} (g.slice {o} d e) k = colon_reads d q at_first k _ refl >> end_reads e q (at_second o) k _ refl
  subscript_reads {q} (g.slice_step {o} {p} d e f) k = colon_reads d q at_first k _ refl >> colon_reads e q (at_second o) k _ refl >> end_reads f q (at_third o p) k _ refl
