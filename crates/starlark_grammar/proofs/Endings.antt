-- What the machine does where a part of an expression ends.
use Rattle.std.proofs.Common.{ℕ, ◌≡◌, ◌≢◌, ◌-◌, ◌<◌, ◌≤◌, ◌∷◌, ◌∙◌, [], suc, List, Option, Some, None, Bool, true, false, cond, refl, ap, sym, subst, arith, length}
use Rattle.starlark_rulebook.specs.Targets.{target_of}
use Rattle.starlark_grammar.specs.Spans.{stretch}
use Rattle.starlark_lexer.specs.Items.{Lexeme, keyword_for, comma, colon, closing_square, Item, item}
use Rattle.starlark_ast.specs.declared.ast.BinOp.{BinOp}
use Rattle.starlark_ast.specs.declared.ast.BinOp.TheVariants as op
use Rattle.starlark_ast.specs.Tree as tree
use Rattle.starlark_grammar.specs.Nodes.{start}
use Rattle.starlark_grammar.specs.Events.{Event, looped}
use Rattle.starlark_grammar.specs.Tables.{Bracket, round, square, curly, Beginning, beginning, sign_level, Suffix, dotted, indexed, called, joined, negated, chosen, suffix, below, associates, left_of, grade_of, closing_bracket, Kind, comprises}
use Rattle.starlark_grammar.specs.Expressions as g
use Rattle.starlark_grammar.specs.Marks.{Mark, marked, comma_mark}
use Rattle.starlark_grammar.specs.Points.{Place, brackets, before_body, targets_in, close_of, Part, an_item, member_of, Bounds, member, key, bound, second, condition, over, filter, field, Point, member_wanted, member_read, key_read, star_read, name_read, bound_wanted, bound_read, second_read, condition_read, clauses_read, field_read, Outcome, reach, made, first_at, closed, turn}
use Rattle.starlark_grammar.specs.Frames.{Frames, tail, inside, State, wants, has, stands}
use Rattle.starlark_grammar.specs.Machine.{go, begin_with, move, step}
use Rattle.starlark_grammar.specs.Runs.{met_at, note, run}
use Rattle.starlark_grammar.proofs.Steps.{arrive, runs, runs_end, first_grade}
use Rattle.starlark_grammar.proofs.Reading.{Reads, ◌>>◌, quietly, turns, First, drops, room, room_ge, or_none, settles}
use Rattle.starlark_grammar.proofs.Openings.{left_room, OfKind, k_round, k_square, k_curly, k_call, k_lambda, k_targets, Behind, b_comma, b_close, b_for, off, opens_reads, rest_of}

-- the argument of a member, and a construct that it ends
pub settled_member : {s : State} {ts b : List Item} {f : List Mark → List Mark} {w : Place} {ms : tree.Members} {u v e : ℕ} {o : Part} {q : tree.Expr} {k : Frames} → Reads s ts f (has q e (inside (member w ms u v o) k)) b → Reads s ts f (stands (member_read w (tree.more ms (member_of o q (stretch v e))) e u) k) b
settled_member p = p >> settles refl (λ x. refl) (λ x. refl) refl (λ x i j. refl)

pub settled_key : {v : State} {ts b : List Item} {h : List Mark → List Mark} {e : ℕ} {q : tree.Expr} {k : Frames} {u f g : ℕ} {ms : tree.Members} → Reads v ts h (has q e (inside (key u ms f g) k)) b → Reads v ts h (stands (key_read u ms f g q) k) b
settled_key p = p >> settles refl (λ x. refl) (λ x. refl) refl (λ x i j. refl)

pub settled_second : {v : State} {ts b : List Item} {h : List Mark → List Mark} {e : ℕ} {q : tree.Expr} {k : Frames} {l s : tree.Expr} → Reads v ts h (has q e (inside (second l s) k)) b → Reads v ts h (stands (second_read l s q) k) b
settled_second p = p >> settles refl (λ x. refl) (λ x. refl) refl (λ x i j. refl)

pub settled_condition : {v : State} {ts b : List Item} {h : List Mark → List Mark} {e : ℕ} {q : tree.Expr} {k : Frames} {t : tree.Expr} → Reads v ts h (has q e (inside (condition t) k)) b → Reads v ts h (stands (condition_read t q) k) b
settled_condition p = p >> settles refl (λ x. refl) (λ x. refl) refl (λ x i j. refl)

pub settled_filter : {v : State} {ts b : List Item} {h : List Mark → List Mark} {e : ℕ} {q : tree.Expr} {k : Frames} {p : Bracket} {u : ℕ} {m : tree.Member} {cs : tree.Clauses} → Reads v ts h (has q e (inside (filter p u m cs) k)) b → Reads v ts h (stands (clauses_read p u m (tree.and_clause cs (tree.if_clause q))) k) b
settled_filter p = p >> settles refl (λ x. refl) (λ x. refl) refl (λ x i j. refl)

pub settled_field : {v : State} {ts b : List Item} {h : List Mark → List Mark} {e : ℕ} {q : tree.Expr} {k : Frames} {u : ℕ} {f : List ℕ} {ms : tree.Members} → Reads v ts h (has q e (inside (field u f ms) k)) b → Reads v ts h (stands (field_read u f ms q) k) b
settled_field p = p >> settles refl (λ x. refl) (λ x. refl) refl (λ x i j. refl)

pub settled_bound : {v : State} {ts b : List Item} {h : List Mark → List Mark} {e : ℕ} {q : tree.Expr} {k : Frames} {l : tree.Expr} {bs : Bounds} → Reads v ts h (has q e (inside (bound l bs) k)) b → Reads v ts h (stands (bound_read l bs q) k) b
settled_bound p = p >> settles refl (λ x. refl) (λ x. refl) refl (λ x i j. refl)

-- whether `*` and a name among parameters are whole
pub star_whole : {u f g h : ℕ} {ms : tree.Members} {k : Frames} {b : List Item} → Behind (before_body u) b → Reads (stands (star_read u ms f g h) k) b (λ l. l) (stands (member_read (before_body u) (tree.more ms (tree.no_args (stretch g h))) h f) k) b
star_whole {u} {f} {g} {h} {ms} {k} (b_comma {i} {j} {xs}) = quietly (runs (stands (star_read u ms f g h) k) (item i comma j) xs ∙ sym (runs (stands (member_read (before_body u) (tree.more ms (tree.no_args (stretch g h))) h f) k) (item i comma j) xs))
star_whole {u} {f} {g} {h} {ms} {k} (b_close {i} {j} {xs}) = quietly (runs (stands (star_read u ms f g h) k) (item i colon j) xs ∙ sym (runs (stands (member_read (before_body u) (tree.more ms (tree.no_args (stretch g h))) h f) k) (item i colon j) xs))
star_whole {u} {f} {g} {h} {ms} {k} (b_for {i} {j} {xs}) = quietly (runs (stands (star_read u ms f g h) k) (item i keyword_for j) xs ∙ sym (runs (stands (member_read (before_body u) (tree.more ms (tree.no_args (stretch g h))) h f) k) (item i keyword_for j) xs))

pub name_whole : {u f g h : ℕ} {n : List ℕ} {ms : tree.Members} {k : Frames} {b : List Item} → Behind (before_body u) b → Reads (stands (name_read u ms f n g h) k) b (λ l. l) (stands (member_read (before_body u) (tree.more ms (tree.parameter tree.plain n (stretch g h) tree.untyped tree.absent (stretch g h))) h f) k) b
name_whole {u} {f} {g} {h} {n} {ms} {k} (b_comma {i} {j} {xs}) = quietly (runs (stands (name_read u ms f n g h) k) (item i comma j) xs ∙ sym (runs (stands (member_read (before_body u) (tree.more ms (tree.parameter tree.plain n (stretch g h) tree.untyped tree.absent (stretch g h))) h f) k) (item i comma j) xs))
name_whole {u} {f} {g} {h} {n} {ms} {k} (b_close {i} {j} {xs}) = quietly (runs (stands (name_read u ms f n g h) k) (item i colon j) xs ∙ sym (runs (stands (member_read (before_body u) (tree.more ms (tree.parameter tree.plain n (stretch g h) tree.untyped tree.absent (stretch g h))) h f) k) (item i colon j) xs))
name_whole {u} {f} {g} {h} {n} {ms} {k} (b_for {i} {j} {xs}) = quietly (runs (stands (name_read u ms f n g h) k) (item i keyword_for j) xs ∙ sym (runs (stands (member_read (before_body u) (tree.more ms (tree.parameter tree.plain n (stretch g h) tree.untyped tree.absent (stretch g h))) h f) k) (item i keyword_for j) xs))

-- the end of members
pub read_close : {n : Kind} {w : Place} (ms : tree.Members) (e f i j : ℕ) → OfKind w n → turn (member_read w ms e f) (close_of w) i j ≡ Some (closed w ms false e f j)
read_close ms e f i j k_round = refl
read_close ms e f i j k_square = refl
read_close ms e f i j k_curly = refl
read_close ms e f i j k_call = refl
read_close ms e f i j k_lambda = refl
read_close ms e f i j k_targets = refl

-- not of targets, behind which a comma is no end
abbrev pub MayTrail : Place → Type 0
MayTrail (targets_in p u m cs) = ⊥
MayTrail w = Unit {0}

pub wanted_close : {n : Kind} {w : Place} (ms : tree.Members) (t : Bool) (e f i j : ℕ) → OfKind w n → MayTrail w → turn (member_wanted w ms t e f) (close_of w) i j ≡ Some (closed w ms t e f j)
wanted_close ms t e f i j k_round h = refl
wanted_close ms t e f i j k_square h = refl
wanted_close ms t e f i j k_curly h = refl
wanted_close ms t e f i j k_call h = refl
wanted_close ms t e f i j k_lambda h = refl
wanted_close ms t e f i j k_targets h = elim h [ ]

pub none_closed : {n : Kind} {w : Place} (t : Bool) (e f j : ℕ) → OfKind w n → MayTrail w → closed w tree.none false 0 0 j ≡ closed w tree.none t e f j
none_closed t e f j k_round h = refl
none_closed t e f j k_square h = refl
none_closed t e f j k_curly h = refl
none_closed t e f j k_call h = refl
none_closed t e f j k_lambda h = refl
none_closed t e f j k_targets h = elim h [ ]

-- a comma between targets is met
pub comma_is : {n : Kind} {w : Place} {a b : List Item} {ms : tree.Members} {e : ℕ} (h f : ℕ) → OfKind w n → g.Members n a b ms e → met_at (member_wanted w ms true h f) ≡ comma_mark n (stretch f h)
comma_is h f k_round d = refl
comma_is h f k_square d = refl
comma_is h f k_curly d = refl
comma_is h f k_call d = refl
comma_is h f k_lambda d = refl
comma_is h f k_targets (g.one d) = refl
comma_is h f k_targets (g.next d e) = refl

pub first_stays : {n : Kind} {a b : List Item} {ms : tree.Members} {e : ℕ} (c : List Item) → g.Members n a b ms e → first_at ms (start a) (start c) ≡ start a
first_stays c (g.one d) = refl
first_stays c (g.next d e) = refl

pub none_met : {n : Kind} {w : Place} (t : Bool) (e f : ℕ) → OfKind w n → met_at (member_wanted w tree.none t e f) ≡ None
none_met t e f k_round = refl
none_met t e f k_square = refl
none_met t e f k_curly = refl
none_met t e f k_call = refl
none_met t e f k_lambda = refl
none_met t e f k_targets = refl

pub trail_met : {n : Kind} {w : Place} (ms : tree.Members) (t : Bool) (e f : ℕ) → OfKind w n → MayTrail w → met_at (member_wanted w ms t e f) ≡ None
trail_met ms t e f k_round h = refl
trail_met ms t e f k_square h = refl
trail_met ms t e f k_curly h = refl
trail_met ms t e f k_call h = refl
trail_met ms t e f k_lambda h = refl
trail_met ms t e f k_targets h = elim h [ ]

-- where such members come to
abbrev pub listed_at : Place → tree.Members → Bool → ℕ → ℕ → Point
listed_at w tree.none t e f = member_wanted w tree.none false 0 0
listed_at w (tree.more ms m) false e f = member_read w (tree.more ms m) e f
listed_at w (tree.more ms m) true e f = member_wanted w (tree.more ms m) true e f

pub listed_met : {n : Kind} {w : Place} (ms : tree.Members) (t : Bool) (e f : ℕ) → OfKind w n → MayTrail w → met_at (listed_at w ms t e f) ≡ None
listed_met tree.none t e f o h = none_met false 0 0 o
listed_met (tree.more ms m) false e f o h = refl
listed_met (tree.more ms m) true e f o h = trail_met (tree.more ms m) true e f o h

pub listed_close : {n : Kind} {w : Place} (ms : tree.Members) (t : Bool) (e f i j : ℕ) → OfKind w n → MayTrail w → turn (listed_at w ms t e f) (close_of w) i j ≡ Some (closed w ms t e f j)
listed_close tree.none t e f i j o h = wanted_close tree.none false 0 0 i j o h ∙ ap Some (none_closed t e f j o h)
listed_close (tree.more ms m) false e f i j o h = read_close (tree.more ms m) e f i j o
listed_close (tree.more ms m) true e f i j o h = wanted_close (tree.more ms m) true e f i j o h

pub listed_some : {n : Kind} {w : Place} {a b : List Item} {ms : tree.Members} {e : ℕ} (u f : ℕ) → g.Members n a b ms e → member_read w ms u f ≡ listed_at w ms false u f
listed_some u f (g.one d) = refl
listed_some u f (g.next d e) = refl

pub listed_trailing : {n : Kind} {w : Place} {a b : List Item} {ms : tree.Members} {e : ℕ} (u f : ℕ) → g.Members n a b ms e → member_wanted w ms true u f ≡ listed_at w ms true u f
listed_trailing u f (g.one d) = refl
listed_trailing u f (g.next d e) = refl

pub point_as : {s : State} {p q : Point} {k : Frames} {a b : List Item} {h : List Mark → List Mark} → p ≡ q → Reads s a h (stands p k) b → Reads s a h (stands q k) b
point_as {s} {k} {a} {b} {h} e p = subst (λ z. Reads s a h (stands z k) b) e p

pub turns_as : {p : Point} {k : Frames} {x : Lexeme} {i j : ℕ} {xs : List Item} {m : Option Event} {o : Outcome} → met_at p ≡ m → turn p x i j ≡ Some o → Reads (stands p k) (item i x j ∷ xs) (marked (suc (length xs)) m) (go k o) xs
turns_as {p} {k} {x} {i} {j} {xs} {o} h e = subst (λ m. Reads (stands p k) (item i x j ∷ xs) (marked (suc (length xs)) m) (go k o) xs) h (turns e)

pub met_as : {s u : State} {a b : List Item} {m n : Option Event} (f : List Mark → List Mark) → m ≡ n → Reads s a (λ l. marked (length a) m (f l)) u b → Reads s a (λ l. marked (length a) n (f l)) u b
met_as {s} {u} {a} {b} f h p = subst (λ m. Reads s a (λ l. marked (length a) m (f l)) u b) h p

pub read_as : {s : State} {w : Place} {ms : tree.Members} {e f g : ℕ} {k : Frames} {a b : List Item} {h : List Mark → List Mark} → f ≡ g → Reads s a h (stands (member_read w ms e f) k) b → Reads s a h (stands (member_read w ms e g) k) b
read_as {s} {w} {ms} {e} {k} {a} {b} {h} q p = subst (λ z. Reads s a h (stands (member_read w ms e z) k) b) q p

pub listed_closes : {n : Kind} {w : Place} {k : Frames} {xs : List Item} (ms : tree.Members) (t : Bool) (e f i j : ℕ) → OfKind w n → MayTrail w → Reads (stands (listed_at w ms t e f) k) (item i (close_of w) j ∷ xs) (λ l. l) (go k (closed w ms t e f j)) xs
listed_closes ms t e f i j o h = turns_as (listed_met ms t e f o h) (listed_close ms t e f i j o h)

-- no suffix has the level of a sign
pub gap : (o : BinOp) → (below o ≢ 0) × (below o ≢ 8)
gap op.Or = ((λ h. absurd (let v : 10 ≡ 0 = h in omega arith)), (λ h. absurd (let v : 10 ≡ 8 = h in omega arith)))
gap _ = ((λ h. absurd (omega arith)), (λ h. absurd (omega arith)))

pub suffix_gap : (o : Option Suffix) (s : tree.Sign) → sign_level s ≤ grade_of o → sign_level s < grade_of o
suffix_gap None tree.Not le = omega arith
suffix_gap None _ le = omega arith
suffix_gap (Some (joined o)) tree.Not le = let w = (gap o).1 in omega arith
suffix_gap (Some (joined o)) tree.Minus le = let w = (gap o).0 in omega arith
suffix_gap (Some (joined o)) tree.Plus le = let w = (gap o).0 in omega arith
suffix_gap (Some (joined o)) tree.BitNot le = let w = (gap o).0 in omega arith
suffix_gap (Some dotted) tree.Not le = omega arith
suffix_gap (Some dotted) _ le = omega arith
suffix_gap (Some indexed) tree.Not le = omega arith
suffix_gap (Some indexed) _ le = omega arith
suffix_gap (Some called) tree.Not le = omega arith
suffix_gap (Some called) _ le = omega arith
suffix_gap (Some negated) tree.Not le = omega arith
suffix_gap (Some negated) _ le = omega arith
suffix_gap (Some chosen) tree.Not le = omega arith
suffix_gap (Some chosen) _ le = omega arith

pub sign_gap : (s : tree.Sign) (ts : List Item) → room (sign_level s) ≤ first_grade ts → sign_level s < first_grade ts
sign_gap tree.Not [] le = omega arith
sign_gap _ [] le = omega arith
sign_gap s (x ∷ xs) le = suffix_gap (suffix x.lexeme) s (let w : sign_level s ≤ room (sign_level s) = room_ge (sign_level s) in omega arith)

-- comprehensions
pub clauses_begin : {w : Place} {a b : List Item} {cs : tree.Clauses} → g.Clauses a b cs → Behind w a
clauses_begin (g.first (g.for_in ds d)) = b_for
clauses_begin (g.and_for d e) = clauses_begin d
clauses_begin (g.and_if d e) = clauses_begin d

pub clauses_close : (p : Bracket) (b : ℕ) (m : tree.Member) (cs : tree.Clauses) (i j : ℕ) → turn (clauses_read p b m cs) (closing_bracket p) i j ≡ Some (made (tree.comprehension m cs (stretch b j)) j)
clauses_close round b m cs i j = refl
clauses_close square b m cs i j = refl
clauses_close curly b m cs i j = refl

pub for_turn : (p : Bracket) (u : ℕ) (m : tree.Member) (e f i j : ℕ) → comprises p ≡ true → turn (member_read (brackets p u) (tree.more tree.none m) e f) keyword_for i j ≡ Some (reach (member_wanted (targets_in p u m tree.no_clauses) tree.none false 0 0))
for_turn round u m e f i j h = absurd (let w : false ≡ true = h in (cc))
for_turn square u m e f i j h = refl
for_turn curly u m e f i j h = refl

pub over_is : (p : Bracket) (u : ℕ) (m : tree.Member) (cs : tree.Clauses) (t q : tree.Expr) (e : ℕ) (k : Frames) (ts : List Item) → run (has q e (inside (over p u m cs t) k)) ts ≡ note ts (Some (looped t)) (run (stands (clauses_read p u m (tree.and_clause cs (tree.for_clause (target_of t) q))) k) ts)
over_is p u m cs t q e k [] = runs_end (has q e (inside (over p u m cs t) k)) ∙ ap (note [] (Some (looped t))) (sym (runs_end (stands (clauses_read p u m (tree.and_clause cs (tree.for_clause (target_of t) q))) k)))
over_is p u m cs t q e k (x ∷ xs) =
    let s = has q e (inside (over p u m cs t) k) in
    let v = stands (clauses_read p u m (tree.and_clause cs (tree.for_clause (target_of t) q))) k in
    runs s x xs ∙ ap (arrive x xs (Some (looped t))) (sym (or_none (step s x))) ∙ ap (note (x ∷ xs) (Some (looped t))) (sym (runs v x xs))

-- a bound that is there
pub bound_present : {a b : List Item} {q s : tree.Expr} {bs : Bounds} {e : ℕ} {f : List Mark → List Mark} {k : Frames} → First 12 a → 13 ≤ first_grade b → ((k : Frames) → Reads (wants 12 k) a f (has s e (tail 12 k)) b) → Reads (stands (bound_wanted q bs) k) a f (stands (bound_read q bs s) k) b
bound_present {q} {bs} {k} h le p =
    opens_reads (λ i. bound q bs) h (λ x b i j h. ap (rest_of (bound_wanted q bs) k x i j) (off _ _ colon x (refl, refl) refl h ∙ off _ _ closing_square x (refl, refl) refl h))
    >> drops (omega arith) (p (inside (bound q bs) k)) >> settles refl (λ x. refl) (λ x. refl) refl (λ x i j. refl)

-- an item of brackets or of targets, and an argument
pub item_opens : {w : Place} {n : ℕ} {a b : List Item} {s : tree.Expr} {ms : tree.Members} {t : Bool} {u f e : ℕ} {g : List Mark → List Mark} {k : Frames} → First n a → ((x : Lexeme) (c : Beginning) (i j : ℕ) → beginning x ≡ Some c → move (stands (member_wanted w ms t u f) k) x i j ≡ begin_with (beginning x) n i j (inside (member w ms (first_at ms f i) i an_item) k)) → n < first_grade b → ((k : Frames) → Reads (wants n k) a g (has s e (tail n k)) b) → Reads (stands (member_wanted w ms t u f) k) a (λ l. marked (length a) (met_at (member_wanted w ms t u f)) (g l)) (stands (member_read w (tree.more ms (tree.item s)) e (first_at ms f (start a))) k) b
item_opens {w} {a} {ms} {f} {k} h o le p = opens_reads (λ i. member w ms (first_at ms f i) i an_item) h o >> settled_member (drops le (p (inside (member w ms (first_at ms f (start a)) (start a) an_item) k)))

pub closing_wide : (p : Bracket) (i j : ℕ) (xs : List Item) → 12 ≤ first_grade (item i (closing_bracket p) j ∷ xs)
closing_wide round i j xs = omega arith
closing_wide square i j xs = omega arith
closing_wide curly i j xs = omega arith

pub for_wide : {a b : List Item} {c : tree.Clause} → g.ForClause a b c → 12 ≤ first_grade a
for_wide (g.for_in ds d) = omega arith

pub left_is : (o : BinOp) → left_of (suc (below o)) ≡ cond (associates (suc (below o))) (suc (below o)) (below o)
left_is o = ap (λ z. cond (associates (suc (below o))) (suc (below o)) z) (let w : suc (below o) - 1 ≡ below o = omega arith in w)

pub left_fits : (o : BinOp) (x : Lexeme) → suffix x ≡ Some (joined o) → room (left_of (suc (below o))) ≤ grade_of (suffix x)
left_fits o x h = subst (λ z. room (left_of (suc (below o))) ≤ grade_of z) (sym h) (left_room (below o))

pub room_up : (n : ℕ) {m : ℕ} → room (suc n) ≤ m → n < m
room_up n le = let w : suc n ≤ room (suc n) = room_ge (suc n) in omega arith
