-- Where none goes on longer each construct has ended.
use Rattle.std.proofs.Common.{ℕ, ◌≡◌, ◌<◌, ◌≤◌, ◌∷◌, ◌++◌, ◌∙◌, zero, suc, inr, List, Option, Some, None, Bool, true, false, nat_eq, cond, refl, ap, sym, subst, arith, length}
use Rattle.starlark_grammar.specs.Spans.{stretch}
use Rattle.starlark_lexer.specs.Items.{Lexeme, keyword_else, comma, Item, item}
use Rattle.starlark_lexer.specs.declared.dialect.Dialect.{Dialect}
use Rattle.starlark_ast.specs.declared.ast.BinOp.{BinOp}
use Rattle.starlark_ast.specs.declared.ast.BinOp.TheVariants as op
use Rattle.starlark_ast.specs.Tree as tree
use Rattle.starlark_ast.specs.Tree.{Expr, Members, name_at, place}
use Rattle.starlark_grammar.specs.Nodes.{from, operated}
use Rattle.starlark_grammar.specs.Events.{Event, after_comma, looped, shaped, typed}
use Rattle.starlark_grammar.specs.Tables.{Suffix, dotted, indexed, called, joined, negated, chosen, suffix, below, associates, grade, grade_of}
use Rattle.starlark_grammar.specs.Expressions as g
use Rattle.starlark_grammar.specs.Expressions.{Level}
use Rattle.starlark_grammar.specs.Marks.{Mark, mark, marked, in_level, marks_in, Has}
use Rattle.starlark_grammar.specs.Points.{operand, behind_sign, condition, otherwise, body, over}
use Rattle.starlark_grammar.specs.Frames.{Spots, annotation, param_type, result_type, Lists, right, Frames, tail, inside, listed, spot, State, wants, has, stands, wants_next, behind_for, load_equal}
use Rattle.starlark_grammar.specs.Machine.{enter, goes_on, feed, step}
use Rattle.starlark_grammar.specs.Runs.{ended_by, list_ended_by, operates, ends, met_at, met, marks_of, run, initial}
use Rattle.starlark_grammar.specs.Completion.{some_name, small_rest, closing, completion_at}
use Rattle.starlark_grammar.specs.Verdicts.{next_lexeme}
use Rattle.starlark_grammar.specs.Language.{IsViable, HasEnded}
use Rattle.starlark_grammar.specs.Longer.{sort_of, begin_of, GoesLonger}
use Rattle.starlark_grammar.proofs.Steps.{same, first_grade}
use Rattle.starlark_grammar.proofs.Reading.{Reads, ◌>>◌, quietly, turns, starts, drops, room_of}
use Rattle.starlark_grammar.proofs.Endings.{settled_condition}
use Rattle.starlark_grammar.proofs.Expressions.{level_read}
use Rattle.starlark_grammar.proofs.Smalls.{next_begins}
use Rattle.starlark_grammar.proofs.Alike.{step_ends}
use Rattle.starlark_grammar.proofs.ClosingParts.{NoSuffix, no_suffix}
use Rattle.starlark_grammar.proofs.Closing.{closing_stop, name_tree, small_grade, completion_at_ends}
use Rattle.starlark_grammar.proofs.Meeting.{no_some, ends_end, row_met, closing_met, met_end}
use Rattle.starlark_grammar.proofs.Dead.{beyond, stopped}
use Rattle.starlark_grammar.proofs.Behind.{has_append, token_marks, few, marks_now, Past, marks_are, accepted, derived, met_there, has_ended}
use Rattle.starlark_grammar.proofs.Refusals.{come_to}
use Rattle.starlark_grammar.proofs.Placed.{completion_order}

-- an event of that kind and beginning
record Similar (e : Event) (o : Option Event) : Type 0 where
  event : Event
  is : o ≡ Some event
  sort : sort_of event ≡ sort_of e
  begin : begin_of event ≡ begin_of e

itself : {e : Event} {o : Option Event} → o ≡ Some e → Similar e o
itself {e} h = record { event = e; is = h; sort = refl; begin = refl }

a_typed : {e : Event} (q s : Expr) → (place s).begin ≡ (place q).begin → Some (typed q) ≡ Some e → Similar e (Some (typed s))
a_typed {e} q s b h = let w : typed q ≡ e = cc in subst (λ z. Similar z (Some (typed s))) w (record { event = typed s; is = refl; sort = refl; begin = b })

-- behind another expression that begins where the first one does, the construct is met too
spot_alike : (k : Spots) (q s : Expr) (e : Event) → (place s).begin ≡ (place q).begin → ended_by k q ≡ Some e → Similar e (ended_by k s)
spot_alike (annotation l p k) q s e b h = a_typed q s b h
spot_alike (param_type f ps y n p) q s e b h = a_typed q s b h
spot_alike (result_type f ps) q s e b h = a_typed q s b h
spot_alike _ q s e b h = no_some e h

frames_alike : (k : Frames) (q s : Expr) (u v : ℕ) (e : Event) → (place s).begin ≡ (place q).begin → ends k q u None ≡ Some e → Similar e (ends k s v None)
frames_alike (tail n k) q s u v e b h = frames_alike k q s u v e b h
frames_alike (inside (over p i m cs t) k) q s u v e b h = itself h
frames_alike (inside (operand l o) k) q s u v e b h = frames_alike k (operated l o q) (operated l o s) u v e refl h
frames_alike (inside (behind_sign o i) k) q s u v e b h = frames_alike k (tree.signed o q (stretch i u)) (tree.signed o s (stretch i v)) u v e refl h
frames_alike (inside (otherwise t c) k) q s u v e b h = frames_alike k (tree.choice c t q (from t u)) (tree.choice c t s (from t v)) u v e refl h
frames_alike (inside (body ms i) k) q s u v e b h = frames_alike k (tree.lambda ms q (stretch i u)) (tree.lambda ms s (stretch i v)) u v e refl h
frames_alike (inside f k) q s u v e b h = no_some e h
frames_alike (listed ms p k) q s u v e b h = itself h
frames_alike (spot k) q s u v e b h = spot_alike k q s e b h

-- a state comes to such an event
record Pending (e : Event) (u : State) (i : ℕ) : Type 0 where
  event : Event
  left : ℕ
  is_mark : Has (mark left event) (marks_of (run u (completion_at i u)))
  sort : sort_of event ≡ sort_of e
  begin : begin_of event ≡ begin_of e

-- it reads up to an expression that begins where the first one does
pend_reading : (q : Expr) (d : ℕ) (k : Frames) {s : Expr} {v : ℕ} {e : Event} {u : State} {i : ℕ} → Reads u (completion_at i u) (λ l. l) (has s v k) (closing i k) → (place s).begin ≡ (place q).begin → ends k q d None ≡ Some e → Pending e u i
pend_reading q d k {s} {v} {e} {u} {i} p b h =
    let a = frames_alike k q s d v e b h in
    record {
      event = a.event;
      left = length (closing i k);
      is_mark = subst (Has (mark (length (closing i k)) a.event)) (sym p.marks) (marks_now (has s v k) (closing i k) a.event (closing_met i k s v ∙ a.is));
      sort = a.sort;
      begin = a.begin;
    }

-- a name_at, and no mark
abbrev name_level : (n i : ℕ) (a : List Item) → Level n (item i some_name i ∷ a) a (name_tree i) i
name_level zero i a = g.by_itself refl
name_level (suc n) i a = g.above (name_level n i a)

unmarked : (n i : ℕ) (a : List Item) (l : List Mark) → in_level (name_level n i a) l ≡ l
unmarked zero i a l = refl
unmarked (suc n) i a l = unmarked n i a l

reads_name : (n i : ℕ) (k : Frames) (a : List Item) → n < first_grade a → Reads (wants n k) (item i some_name i ∷ a) (λ l. l) (has (name_tree i) i k) a
reads_name n i k a h = let p = drops h (level_read (name_level n i a) (room_of n (first_grade a) h) k) in record { end = p.end; marks = p.marks ∙ unmarked n i a _ }

wide : {ts : List Item} (n : ℕ) → n ≤ 12 → NoSuffix ts → n < first_grade ts
wide n le (no_suffix {x} h) = let w : grade_of (suffix x) ≡ 13 = ap grade_of h in omega arith

below_low : (o : BinOp) → below o ≤ 12
below_low op.Or = omega arith
below_low _ = omega arith

-- behind a suffix or an operator
joined_pends : (o : BinOp) (z : Bool) (m : ℕ) (q : Expr) (d : ℕ) (k : Frames) (e : Event) (i : ℕ) → ends k q d None ≡ Some e → Pending e (wants (below o) (inside (operand q o) (cond z (tail m k) k))) i
joined_pends o true m q d k e i h = pend_reading q d (tail m k) (reads_name (below o) i (inside (operand q o) (tail m k)) (closing i k) (wide (below o) (below_low o) (closing_stop i k)) >> quietly (same (has (name_tree i) i (inside (operand q o) (tail m k))) (has (operated q o (name_tree i)) i (tail m k)) refl (λ x. refl) (λ x. refl) (closing i k))) refl h
joined_pends o false m q d k e i h = pend_reading q d k (reads_name (below o) i (inside (operand q o) k) (closing i k) (wide (below o) (below_low o) (closing_stop i k)) >> quietly (same (has (name_tree i) i (inside (operand q o) k)) (has (operated q o (name_tree i)) i k) refl (λ x. refl) (λ x. refl) (closing i k))) refl h

enter_pends : (s : Suffix) (q : Expr) (d : ℕ) (k : Frames) (e : Event) (i : ℕ) → ends k q d None ≡ Some e → Pending e (enter s q k) i
enter_pends dotted q d k e i h = pend_reading q d (tail 0 k) (turns refl) refl h
enter_pends indexed q d k e i h = pend_reading q d (tail 0 k) (turns refl >> turns refl) refl h
enter_pends called q d k e i h = pend_reading q d (tail 0 k) (turns refl) refl h
enter_pends (joined o) q d k e i h = joined_pends o (associates (suc (below o))) (suc (below o)) q d k e i h
enter_pends negated q d k e i h = pend_reading q d k (turns refl >> reads_name 7 i (inside (operand q op.NotIn) k) (closing i k) (wide 7 (omega arith) (closing_stop i k)) >> quietly (same (has (name_tree i) i (inside (operand q op.NotIn) k)) (has (operated q op.NotIn (name_tree i)) i k) refl (λ x. refl) (λ x. refl) (closing i k))) refl h
enter_pends chosen q d k e i h = pend_reading q d k (settled_condition (reads_name 11 i (inside (condition q) k) (item i keyword_else i ∷ item i some_name i ∷ closing i k) (omega arith)) >> turns refl >> reads_name 12 i (inside (otherwise q (name_tree i)) k) (closing i k) (wide 12 (omega arith) (closing_stop i k)) >> quietly (same (has (name_tree i) i (inside (otherwise q (name_tree i)) k)) (has (tree.choice (name_tree i) q (name_tree i) (from q i)) i k) refl (λ x. refl) (λ x. refl) (closing i k))) refl h

-- behind a comma of a right side
next_pends : (k : Lists) (ms : Members) (p m : ℕ) (e : Event) (i : ℕ) → list_ended_by k ≡ Some e → Pending e (wants_next ms p m k) i
next_pends (right l t o f k) ms p m e i h =
    let u : State = wants_next ms p m (right l t o f k) in
    let a = small_rest i k in
    let v = has (name_tree i) i (listed ms p (right l t o f k)) in
    let x : Reads u (item i some_name i ∷ a) (λ l. mark (suc (length a)) (shaped after_comma (stretch p m)) ∷ l) v a = next_begins ms p m (right l t o f k) refl (starts refl (omega arith)) >> reads_name 12 i (listed ms p (right l t o f k)) a (small_grade i k) in
    record {
      event = e;
      left = length a;
      is_mark = subst (Has (mark (length a) e)) (sym x.marks) (inr (marks_now v a e (row_met i l t o f k ms p (name_tree i) i ∙ h)));
      sort = refl;
      begin = refl;
    }
next_pends _ ms p m e i h = no_some e h

both : {P : Type 0} (o : Option Event) (e : Event) → o ≡ Some e → o ≡ None → P
both o e h g = no_some e (sym g ∙ h)

tail_pends : (o : Option Suffix) (n : ℕ) (q : Expr) (d : ℕ) (k : Frames) (x : Lexeme) (w : Option State) (u : State) (e : Event) (i : ℕ) → ends k q d None ≡ Some e → cond (operates o n) None (ends k q d (Some x)) ≡ None → goes_on o n q k w ≡ Some u → (ends k q d (Some x) ≡ None → w ≡ Some u → Pending e u i) → Pending e u i
tail_pends None n q d k x w u e i h g f z = z g f
tail_pends (Some s) n q d k x w u e i h g f z = go (nat_eq (grade s) n) g f
  where
    go : (b : Bool) → cond b None (ends k q d (Some x)) ≡ None → cond b (Some (enter s q k)) w ≡ Some u → Pending e u i
    go true g f = let y : enter s q k ≡ u = cc in subst (λ v. Pending e v i) y (enter_pends s q d k e i h)
    go false g f = z g f

pending : (k : Frames) (q : Expr) (d : ℕ) (x : Lexeme) (a b : ℕ) (u : State) (e : Event) (i : ℕ) → ends k q d None ≡ Some e → ends k q d (Some x) ≡ None → feed k q d x a b ≡ Some u → Pending e u i
pending (tail n k) q d x a b u e i h g f = tail_pends (suffix x) n q d k x (feed k q d x a b) u e i h g f (λ y z. pending k q d x a b u e i h y z)
pending (inside (over p j m cs t) k) q d x a b u e i h g f = no_some (looped t) (sym g)
pending (inside (operand l o) k) q d x a b u e i h g f = pending k _ d x a b u e i h g f
pending (inside (behind_sign o j) k) q d x a b u e i h g f = pending k _ d x a b u e i h g f
pending (inside (otherwise t c) k) q d x a b u e i h g f = pending k _ d x a b u e i h g f
pending (inside (body ms j) k) q d x a b u e i h g f = pending k _ d x a b u e i h g f
pending (inside y k) q d x a b u e i h g f = no_some e h
pending (listed ms p k) q d comma a b u e i h g f = let y : wants_next (tree.more ms (tree.item q)) p b k ≡ u = cc in subst (λ v. Pending e v i) y (next_pends k (tree.more ms (tree.item q)) p b e i h)
pending (listed ms p k) q d x a b u e i h g f = both (list_ended_by k) e h g
pending (spot k) q d x a b u e i h g f = both (ended_by k q) e h g

pending_state : (s : State) (x : Item) (u : State) (y : Option Lexeme) (e : Event) (i : ℕ) → met s y ≡ Some e → met s (Some x.lexeme) ≡ None → step s x ≡ Some u → Pending e u i
pending_state (has q d k) x u y e i h g f = pending k q d x.lexeme x.begin x.end u e i (ends_end k q d y e h) g f
pending_state (stands p k) x u y e i h g f = both (met_at p) e h g
pending_state (wants_next ms p m k) x u y e i h g f = both _ e h g
pending_state (load_equal p m ss (name_at n s) k) x u y e i h g f = both _ e h g
pending_state (behind_for l k d) x u y e i h g f = both _ e h g
pending_state s x u y e i h g f = no_some e h

-- where no construct goes on longer each has ended
same_event : (s : State) (y z : Option Lexeme) (e d : Event) → met s y ≡ Some e → met s z ≡ Some d → d ≡ e
same_event s y z e d h g = let n : Some d ≡ Some e = sym (met_end s z d g) ∙ met_end s y e h in (cc)

goes_longer : {c : Dialect} {w : List Item} (a : Past c initial w) (x : Item) (u : State) (y : Option Lexeme) (e : Event) → met a.state y ≡ Some e → met a.state (Some x.lexeme) ≡ None → step a.state x ≡ Some u → GoesLonger w x e
goes_longer {c} {w} a x u y e h g f =
    let p = pending_state a.state x u y e x.end h g f in
    let more = completion_at x.end u in
    let n = step_ends a.state u x more f (completion_at_ends x.end u) in
    let d = derived a (x ∷ more) n.raw n.ends in
    record {
      more = more;
      raw = n.raw;
      derives = d;
      in_order = completion_order x.end u;
      longer = p.event;
      left = p.left;
      is_mark = subst (Has (mark p.left p.event)) (sym (marks_are a (x ∷ more) n.raw d ∙ ap (λ ms. a.prefix (x ∷ more) ++ ms) (token_marks a.state x more ∙ ap (λ m. marked (suc (length more)) m (marks_of (beyond x more (step a.state x)))) g ∙ ap (λ o. marks_of (beyond x more o)) f))) (has_append (mark p.left p.event) (a.prefix (x ∷ more)) (marks_of (run u more)) p.is_mark);
      behind = few more u p.left p.event p.is_mark;
      same_sort = p.sort;
      same_begin = p.begin;
    }

ended_at : {c : Dialect} {w : List Item} (a : Past c initial w) (x : Item) (xs : List Item) (y : Option Lexeme) (e : Event) → met a.state y ≡ Some e → (GoesLonger w x e → ⊥) → HasEnded w (x ∷ xs) e
ended_at {c} {w} a x xs y e h f = go (step a.state x) refl (met a.state (Some x.lexeme)) refl
  where
    go : (o : Option State) → step a.state x ≡ o → (m : Option Event) → met a.state (Some x.lexeme) ≡ m → HasEnded w (x ∷ xs) e
    go None q m g = λ more raw d. absurd (stopped a.state (x ∷ more) raw q (accepted a (x ∷ more) raw d))
    go (Some u) q None g = absurd (f (goes_longer a x u y e h g q))
    go (Some u) q (Some d) g = has_ended a (x ∷ xs) e (g ∙ ap Some (same_event a.state y (Some x.lexeme) e d h g))

pub ended_unless_longer : (c : Dialect) (w : List Item) (x : Item) (xs : List Item) (v : IsViable c w) (e : Event) → Has (mark (length v.rest) e) (marks_in v.derives) → (GoesLonger w x e → ⊥) → HasEnded w (x ∷ xs) e
ended_unless_longer c w x xs v e h f = let a = come_to v in ended_at a x xs (next_lexeme v.rest) e (met_there a v.rest v.raw v.derives e h) f
