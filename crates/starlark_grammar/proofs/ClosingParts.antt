-- What has begun of an expression can be ended.
use Rattle.std.proofs.Common.{ℕ, ◌≡◌, ◌<◌, ◌∷◌, ◌∙◌, [], List, Some, None, Bool, true, refl, ap, sym, arith}
use Rattle.starlark_rulebook.specs.Targets.{target_of}
use Rattle.starlark_grammar.specs.Spans.{stretch}
use Rattle.starlark_lexer.specs.Items.{Lexeme, Item, item}
use Rattle.starlark_ast.specs.declared.ast.BinOp.TheVariants as op
use Rattle.starlark_ast.specs.Tree as tree
use Rattle.starlark_grammar.specs.Nodes.{from, operated, targeted}
use Rattle.starlark_grammar.specs.Events.{looped}
use Rattle.starlark_grammar.specs.Tables.{Bracket, round, square, curly, suffix, grade_of, closing_bracket}
use Rattle.starlark_grammar.specs.Expressions as g
use Rattle.starlark_grammar.specs.Marks.{Mark}
use Rattle.starlark_grammar.specs.Points.{Place, brackets, behind, before_body, targets_in, an_item, at_first, at_second, at_third, Frame, member, key, bound, second, operand, behind_sign, condition, otherwise, body, over, filter, field, Point, member_wanted, member_read, key_read, star_read, stars_read, name_read, bound_wanted, bound_read, second_read, attribute_wanted, not_read, condition_read, clauses_read, piece_wanted, field_read, letter_wanted, letter_read, first_at}
use Rattle.starlark_grammar.specs.Frames.{Frames, inside, State, wants, has, stands}
use Rattle.starlark_grammar.specs.Runs.{bottom, run}
use Rattle.starlark_grammar.specs.Completion.{some_name, place_end, point_end, frame_end, spelled}
use Rattle.starlark_grammar.proofs.Steps.{same, first_grade}
use Rattle.starlark_grammar.proofs.Sound.{raise}
use Rattle.starlark_grammar.proofs.Reading.{Reads, ◌>>◌, quietly, meets, turns, starts, drops, room_of}
use Rattle.starlark_grammar.proofs.Openings.{k_targets, of_bracket, opens_reads}
use Rattle.starlark_grammar.proofs.Endings.{settled_member, settled_key, settled_second, settled_condition, settled_filter, settled_field, settled_bound, read_close, wanted_close, clauses_close, over_is}
use Rattle.starlark_grammar.proofs.Expressions.{level_read}

-- the next token goes on with no expression
pub data NoSuffix : List Item → Type 0 where
  no_suffix : {i j : ℕ} {x : Lexeme} {xs : List Item} → suffix x ≡ None → NoSuffix (item i x j ∷ xs)

pub stop_grade : {ts : List Item} → NoSuffix ts → first_grade ts ≡ 13
stop_grade (no_suffix h) = ap grade_of h

-- the machine comes from the state at some tokens behind an expression at others
pub record Arrives (s : State) (a : List Item) (k : Frames) (ts : List Item) : Type 0 where
  pub tree : tree.Expr
  pub end : ℕ
  pub same : bottom (run s a) ≡ bottom (run (has tree end k) ts)

pub arrives : {s : State} {a ts : List Item} {f : List Mark → List Mark} {q : tree.Expr} {e : ℕ} {k : Frames} → Reads s a f (has q e k) ts → Arrives s a k ts
arrives {q} {e} p = record { tree = q; end = e; same = p.end }

pub on_by : {s u : State} {a b ts : List Item} {f : List Mark → List Mark} {k : Frames} → Reads s a f u b → Arrives u b k ts → Arrives s a k ts
on_by p h = record { tree = h.tree; end = h.end; same = p.end ∙ h.same }

-- an identifier alone
pub name_reads : (i : ℕ) → {k : Frames} {ts : List Item} (n : ℕ) → n < first_grade ts → (l : g.Level n (item i some_name i ∷ ts) ts (tree.leaf (tree.name (120 ∷ [])) (stretch i i) (stretch i i)) i) → Arrives (wants n k) (item i some_name i ∷ ts) k ts
name_reads i {k} {ts} n h l = arrives (drops h (level_read l (room_of n (first_grade ts) h) k))

pub whole_name : (i : ℕ) → {k : Frames} {ts : List Item} → NoSuffix ts → Arrives (wants 12 k) (item i some_name i ∷ ts) k ts
whole_name i h = name_reads i 12 (let w = stop_grade h in omega arith) (raise 12 (omega arith) (g.by_itself refl))

-- and then
pub then_by : {s : State} {a b ts : List Item} {j k : Frames} → Arrives s a j b → ((q : tree.Expr) (e : ℕ) → Arrives (has q e j) b k ts) → Arrives s a k ts
then_by p f = let h = f p.tree p.end in record { tree = h.tree; end = h.end; same = p.same ∙ h.same }

-- an expression makes the frame whole
pub becomes_one : {q : tree.Expr} {e : ℕ} {f : Frame} {k : Frames} {ts : List Item} (s : tree.Expr) → run (has q e (inside f k)) ts ≡ run (has s e k) ts → Arrives (has q e (inside f k)) ts k ts
becomes_one {e} s h = record { tree = s; end = e; same = ap bottom h }

pub body_arrives : (i : ℕ) → {ms : tree.Members} {b : ℕ} {k : Frames} {ts : List Item} → NoSuffix ts → Arrives (wants 12 (inside (body ms b) k)) (item i some_name i ∷ ts) k ts
body_arrives i {ms} {b} {k} {ts} h = then_by (whole_name i h) (λ q e. becomes_one (tree.lambda ms q (stretch b e)) (same (has q e (inside (body ms b) k)) (has (tree.lambda ms q (stretch b e)) e k) refl (λ x. refl) (λ x. refl) ts))

pub closing_grade : (p : Bracket) → suffix (closing_bracket p) ≡ None
closing_grade round = refl
closing_grade square = refl
closing_grade curly = refl

pub close_arrives : (i : ℕ) → (p : Bracket) (b : ℕ) (m : tree.Member) (cs : tree.Clauses) (k : Frames) (ts : List Item) → Arrives (stands (clauses_read p b m cs) k) (item i (closing_bracket p) i ∷ ts) k ts
close_arrives i p b m cs k ts = arrives (turns (clauses_close p b m cs i i))

pub targets_arrive : (i : ℕ) → (p : Bracket) (b : ℕ) (m : tree.Member) (cs : tree.Clauses) (ms : tree.Members) (t : Bool) (e f : ℕ) (k : Frames) (ts : List Item) → Arrives (stands (member_wanted (targets_in p b m cs) ms t e f) k) (spelled i (point_end (member_wanted (targets_in p b m cs) ms t e f)) ts) k ts
targets_arrive i p b m cs ms t e f k ts =
    on_by (opens_reads (λ u. member (targets_in p b m cs) ms (first_at ms f u) u an_item) (starts refl (omega arith)) (λ x c u v h. refl))
    (then_by (name_reads i 7 (omega arith) (raise 7 (omega arith) (g.by_itself refl)))
    (λ q u. let o = first_at ms f i in let ns = tree.more ms (tree.item q) in let z = targeted ns (stretch o u) in
    on_by (settled_member (quietly refl) >> turns (read_close ns u o i i k_targets))
    (then_by (name_reads i 11 (let w : 13 ≡ grade_of (suffix (closing_bracket p)) = sym (ap grade_of (closing_grade p)) in omega arith) (raise 11 (omega arith) (g.by_itself refl)))
    (λ s v. on_by (meets (Some (looped z)) (over_is p b m cs z s v k (item i (closing_bracket p) i ∷ ts))) (close_arrives i p b m (tree.and_clause cs (tree.for_clause (target_of z) s)) k ts)))))

pub place_arrives : (i : ℕ) → (w : Place) (ms : tree.Members) (e f : ℕ) (k : Frames) (ts : List Item) → NoSuffix ts → Arrives (stands (member_read w ms e f) k) (spelled i (place_end w) ts) k ts
place_arrives i (brackets p b) ms e f k ts h = arrives (turns (read_close ms e f i i (of_bracket p b)))
place_arrives i (behind q) ms e f k ts h = arrives (turns refl)
place_arrives i (before_body b) ms e f k ts h = on_by (turns refl) (body_arrives i h)
place_arrives i (targets_in p b m cs) ms e f k ts h = on_by (turns refl) (targets_arrive i p b m cs ms true i f k ts)

pub point_arrives : (i : ℕ) → (p : Point) (k : Frames) (ts : List Item) → NoSuffix ts → Arrives (stands p k) (spelled i (point_end p) ts) k ts
point_arrives i (member_wanted (targets_in p b m cs) ms t e f) k ts h = targets_arrive i p b m cs ms t e f k ts
point_arrives i (member_wanted (brackets p b) ms t e f) k ts h = arrives (turns (wanted_close ms t e f i i (of_bracket p b) tt))
point_arrives i (member_wanted (behind q) ms t e f) k ts h = arrives (turns refl)
point_arrives i (member_wanted (before_body b) ms t e f) k ts h = on_by (turns refl) (body_arrives i h)
point_arrives i (member_read w ms e f) k ts h = place_arrives i w ms e f k ts h
point_arrives i (key_read b ms f g q) k ts h = on_by (turns refl) (then_by (whole_name i (no_suffix refl)) (λ s e. arrives (settled_member (quietly refl) >> turns refl)))
point_arrives i (star_read b ms f g u) k ts h = on_by (turns refl) (body_arrives i h)
point_arrives i (stars_read b ms f g) k ts h = on_by (turns refl >> turns refl) (body_arrives i h)
point_arrives i (name_read b ms f n g u) k ts h = on_by (turns refl) (body_arrives i h)
point_arrives i (bound_wanted q at_first) k ts h = arrives (turns refl >> turns refl)
point_arrives i (bound_wanted q (at_second o)) k ts h = arrives (turns refl)
point_arrives i (bound_wanted q (at_third o p)) k ts h = arrives (turns refl)
point_arrives i (bound_read q at_first s) k ts h = arrives (turns refl)
point_arrives i (bound_read q (at_second o) s) k ts h = arrives (turns refl)
point_arrives i (bound_read q (at_third o p) s) k ts h = arrives (turns refl)
point_arrives i (second_read q s t) k ts h = arrives (turns refl)
point_arrives i (attribute_wanted q) k ts h = arrives (turns refl)
point_arrives i (not_read l) k ts h = on_by (turns refl) (then_by (name_reads i 7 (let w = stop_grade h in omega arith) (raise 7 (omega arith) (g.by_itself refl))) (λ q e. becomes_one (operated l op.NotIn q) (same (has q e (inside (operand l op.NotIn) k)) (has (operated l op.NotIn q) e k) refl (λ x. refl) (λ x. refl) ts)))
point_arrives i (condition_read t c) k ts h = on_by (turns refl) (then_by (whole_name i h) (λ q e. becomes_one (tree.choice c t q (from t e)) (same (has q e (inside (otherwise t c) k)) (has (tree.choice c t q (from t e)) e k) refl (λ x. refl) (λ x. refl) ts)))
point_arrives i (clauses_read p b m cs) k ts h = arrives (turns (clauses_close p b m cs i i))
point_arrives i (piece_wanted b f ms) k ts h = arrives (turns refl)
point_arrives i (field_read b f ms q) k ts h = arrives (turns refl >> turns refl)
point_arrives i (letter_wanted b f ms q g u) k ts h = arrives (turns refl >> turns refl >> turns refl)
point_arrives i (letter_read b f ms) k ts h = arrives (turns refl >> turns refl)

pub frame_arrives : (i : ℕ) → (f : Frame) (q : tree.Expr) (e : ℕ) (k : Frames) (ts : List Item) → NoSuffix ts → Arrives (has q e (inside f k)) (spelled i (frame_end f) ts) k ts
frame_arrives i (member w ms f b o) q e k ts h = on_by (settled_member (quietly refl)) (place_arrives i w _ e f k ts h)
frame_arrives i (key b ms f g) q e k ts h = on_by (settled_key (quietly refl)) (point_arrives i (key_read b ms f g q) k ts h)
frame_arrives i (bound l bs) q e k ts h = on_by (settled_bound (quietly refl)) (point_arrives i (bound_read l bs q) k ts h)
frame_arrives i (second l s) q e k ts h = on_by (settled_second (quietly refl)) (point_arrives i (second_read l s q) k ts h)
frame_arrives i (operand l o) q e k ts h = becomes_one (operated l o q) (same (has q e (inside (operand l o) k)) (has (operated l o q) e k) refl (λ x. refl) (λ x. refl) ts)
frame_arrives i (behind_sign s b) q e k ts h = becomes_one (tree.signed s q (stretch b e)) (same (has q e (inside (behind_sign s b) k)) (has (tree.signed s q (stretch b e)) e k) refl (λ x. refl) (λ x. refl) ts)
frame_arrives i (condition t) q e k ts h = on_by (settled_condition (quietly refl)) (point_arrives i (condition_read t q) k ts h)
frame_arrives i (otherwise t c) q e k ts h = becomes_one (tree.choice c t q (from t e)) (same (has q e (inside (otherwise t c) k)) (has (tree.choice c t q (from t e)) e k) refl (λ x. refl) (λ x. refl) ts)
frame_arrives i (body ms b) q e k ts h = becomes_one (tree.lambda ms q (stretch b e)) (same (has q e (inside (body ms b) k)) (has (tree.lambda ms q (stretch b e)) e k) refl (λ x. refl) (λ x. refl) ts)
frame_arrives i (over p b m cs t) q e k ts h = on_by (meets (Some (looped t)) (over_is p b m cs t q e k _)) (point_arrives i (clauses_read p b m (tree.and_clause cs (tree.for_clause (target_of t) q))) k ts h)
frame_arrives i (filter p b m cs) q e k ts h = on_by (settled_filter (quietly refl)) (point_arrives i (clauses_read p b m (tree.and_clause cs (tree.if_clause q))) k ts h)
frame_arrives i (field b f ms) q e k ts h = on_by (settled_field (quietly refl)) (point_arrives i (field_read b f ms q) k ts h)

-- what ends begins with no suffix and no operator
pub place_stop : (i : ℕ) → (w : Place) (ts : List Item) → NoSuffix (spelled i (place_end w) ts)
place_stop i (brackets p b) ts = no_suffix (closing_grade p)
place_stop i (behind q) ts = no_suffix refl
place_stop i (before_body b) ts = no_suffix refl
place_stop i (targets_in p b m cs) ts = no_suffix refl

pub frame_stop : (i : ℕ) → (f : Frame) {ts : List Item} → NoSuffix ts → NoSuffix (spelled i (frame_end f) ts)
frame_stop i (member w ms f b o) h = place_stop i w _
frame_stop i (key b ms f g) h = no_suffix refl
frame_stop i (bound l bs) h = no_suffix refl
frame_stop i (second l s) h = no_suffix refl
frame_stop i (condition t) h = no_suffix refl
frame_stop i (over p b m cs t) h = no_suffix (closing_grade p)
frame_stop i (filter p b m cs) h = no_suffix (closing_grade p)
frame_stop i (field b f ms) h = no_suffix refl
frame_stop i _ h = h
