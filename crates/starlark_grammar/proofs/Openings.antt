-- What the machine does where a part of an expression begins.
use Rattle.std.proofs.Common.{ℕ, ◌≡◌, ◌≢◌, ◌-◌, ◌<◌, ◌≤◌, ◌∷◌, ◌∙◌, [], zero, suc, List, Option, Some, None, Bool, true, false, nat_eq, cond, refl, ap, sym, subst, arith, length}
use Rattle.starlark_grammar.specs.Spans.{stretch}
use Rattle.starlark_lexer.specs.Items.{Lexeme, identifier, keyword_for, comma, equal, star, star_star, closing_round, Item, item}
use Rattle.starlark_ast.specs.declared.ast.BinOp.{BinOp}
use Rattle.starlark_ast.specs.Tree as tree
use Rattle.starlark_grammar.specs.Nodes.{operated, start}
use Rattle.starlark_grammar.specs.Events.{Event}
use Rattle.starlark_grammar.specs.Sorts.{sort, name_of}
use Rattle.starlark_grammar.specs.Tables.{Bracket, round, square, curly, Beginning, leaf, beginning, Suffix, joined, suffix, below, associates, left_of, grade_of, Kind, tests, pairs, arguments, parameters, targets, kind_in}
use Rattle.starlark_grammar.specs.Expressions as g
use Rattle.starlark_grammar.specs.Marks.{Mark, marked}
use Rattle.starlark_grammar.specs.Points.{Place, brackets, behind, before_body, targets_in, close_of, an_argument, a_named, Frame, member, operand, Point, member_wanted, Outcome, on, first_at, opens}
use Rattle.starlark_grammar.specs.Frames.{Frames, tail, inside, State, wants, has, stands, perhaps_named}
use Rattle.starlark_grammar.specs.Machine.{tails, goes, begin_with, opened, else_state, some_state, perhaps, move, step}
use Rattle.starlark_grammar.specs.Runs.{operates, ends, met_at, note, run}
use Rattle.starlark_grammar.proofs.Sorts.{Plain, same_sort}
use Rattle.starlark_grammar.proofs.Steps.{arrive, runs, runs_end, first_grade}
use Rattle.starlark_grammar.proofs.Reading.{Reads, ◌>>◌, meets, First, starts, goes_up, drops, keeps, enters, room, room_le, room_ge, whole_as}

-- the operands of an operator
pub left_room : (n : ℕ) → room (left_of (suc n)) ≤ suc n
left_room n = go (associates (suc n)) refl
  where
    go : (b : Bool) → associates (suc n) ≡ b → room (cond b (suc n) (suc n - 1)) ≤ suc n
    go true e = let w : room (suc n) ≡ suc n = ap (λ z. cond z (suc n) (suc (suc n))) e in omega arith
    go false e = let w : suc n - 1 ≡ n = omega arith in subst (λ z. room z ≤ suc n) (sym w) (room_le n)

pub operate_reads : {i j d e : ℕ} {x : Lexeme} {a b c : List Item} {l q : tree.Expr} {f g : List Mark → List Mark} (o : BinOp) (n : ℕ) (z : Bool) → associates (suc (below o)) ≡ z → suffix x ≡ Some (joined o) → First n a → n ≡ cond z (suc (below o)) (below o) → ((k : Frames) → Reads (wants n k) a f (has l d (tail n k)) (item i x j ∷ b)) → ((k : Frames) → Reads (wants (below o) k) b g (has q e (tail (below o) k)) c) → room (suc (below o)) ≤ first_grade c → (k : Frames) → Reads (wants (suc (below o)) k) a (λ l. f (g l)) (has (operated l o q) e (tail (suc (below o)) k)) c
operate_reads {i} {j} {d} {x} {a} {b} {c} {l} {f} o n true e h p w read_left read_right le k =
    let m = suc (below o) in
    let high : m ≤ first_grade c = let v : m ≤ room m = room_ge m in omega arith in
    subst (λ z. Reads (wants z k) a f (has l d (tail z k)) (item i x j ∷ b)) w (read_left k)
    >> subst (λ z. Reads (has l d (tail m k)) (item i x j ∷ b) (λ l. l) (wants (below o) (inside (operand l o) (cond z (tail m k) k))) b) e (enters h refl)
    >> whole_as (drops high (read_right (inside (operand l o) (tail m k)))) refl (λ x. refl) (λ x. refl)
operate_reads {i} {j} {d} {x} {a} {b} {c} {l} {f} o n false e h p w read_left read_right le k =
    let m = suc (below o) in
    let high : m < first_grade c = let v : room m ≡ suc m = ap (λ z. cond z m (suc m)) e in omega arith in
    goes_up (subst (λ z. First z a) w p)
    >> drops (let v : m ≡ first_grade (item i x j ∷ b) = sym (ap grade_of h) in omega arith) (subst (λ z. Reads (wants z (tail m k)) a f (has l d (tail z (tail m k))) (item i x j ∷ b)) w (read_left (tail m k)))
    >> subst (λ z. Reads (has l d (tail m k)) (item i x j ∷ b) (λ l. l) (wants (below o) (inside (operand l o) (cond z (tail m k) k))) b) e (enters h refl)
    >> keeps high (whole_as (drops (omega arith) (read_right (inside (operand l o) k))) refl (λ x. refl) (λ x. refl))

-- which members stand in a place
pub data OfKind : Place → Kind → Type 0 where
  k_round : {u : ℕ} → OfKind (brackets round u) tests
  k_square : {u : ℕ} → OfKind (brackets square u) tests
  k_curly : {u : ℕ} → OfKind (brackets curly u) pairs
  k_call : {q : tree.Expr} → OfKind (behind q) arguments
  k_lambda : {u : ℕ} → OfKind (before_body u) parameters
  k_targets : {p : Bracket} {u : ℕ} {m : tree.Member} {cs : tree.Clauses} → OfKind (targets_in p u m cs) targets

pub of_bracket : (p : Bracket) (u : ℕ) → OfKind (brackets p u) (kind_in p)
of_bracket round u = k_round
of_bracket square u = k_square
of_bracket curly u = k_curly

-- what stands behind a member
pub data Behind (w : Place) : List Item → Type 0 where
  b_comma : {i j : ℕ} {xs : List Item} → Behind w (item i comma j ∷ xs)
  b_close : {i j : ℕ} {xs : List Item} → Behind w (item i (close_of w) j ∷ xs)
  b_for : {i j : ℕ} {xs : List Item} → Behind w (item i keyword_for j ∷ xs)

abbrev pub width : Kind → ℕ
width targets = 8
width _ = 13

pub wide : {w : Place} {n : Kind} {b : List Item} → OfKind w n → Behind w b → width n ≤ first_grade b
wide k_round b_comma = omega arith
wide k_round b_close = omega arith
wide k_round b_for = omega arith
wide k_square b_comma = omega arith
wide k_square b_close = omega arith
wide k_square b_for = omega arith
wide k_curly b_comma = omega arith
wide k_curly b_close = omega arith
wide k_curly b_for = omega arith
wide k_call b_comma = omega arith
wide k_call b_close = omega arith
wide k_call b_for = omega arith
wide k_lambda b_comma = omega arith
wide k_lambda b_close = omega arith
wide k_lambda b_for = omega arith
wide k_targets b_comma = omega arith
wide k_targets b_close = omega arith
wide k_targets b_for = omega arith

-- the next token is no `=`
abbrev pub Unequal : List Item → Type 0
Unequal [] = Unit {0}
Unequal (x ∷ xs) = nat_eq (sort equal) (sort x.lexeme) ≡ false

pub unequal : {q : tree.Expr} {b : List Item} → Behind (behind q) b → Unequal b
unequal b_comma = refl
unequal b_close = refl
unequal b_for = refl

pub unequal_suffix : (x : Lexeme) {s : Suffix} → suffix x ≡ Some s → nat_eq (sort equal) (sort x) ≡ false
unequal_suffix x {s} h = go (nat_eq (sort equal) (sort x)) refl
  where
    go : (b : Bool) → nat_eq (sort equal) (sort x) ≡ b → nat_eq (sort equal) (sort x) ≡ false
    go false e = e
    go true e = absurd (let w : None ≡ Some s = sym (ap suffix (same_sort equal x (refl, refl) e)) ∙ h in (cc))

-- behind an identifier that begins an expression stands no `=`
abbrev pub NameFirst : List Item → Type 0
NameFirst [] = Unit {0}
NameFirst (x ∷ xs) = (n : List ℕ) → x.lexeme ≡ identifier n → Unequal xs

pub other_first : {P : Type 0} {x : Lexeme} {b : Beginning} (n : List ℕ) → beginning x ≡ Some b → ((l : _) → b ≢ leaf l) → x ≡ identifier n → P
other_first {x} {b} n h f w = absurd (f (tree.name n) (let v : Some b ≡ Some (leaf (tree.name n)) = sym h ∙ ap beginning w in (cc)))

pub name_first : {n e : ℕ} {a b : List Item} {q : tree.Expr} → g.Level n a b q e → Unequal b → NameFirst a
name_first (g.by_itself h) u = λ n w. u
name_first (g.in_brackets h d) u = λ n w. other_first n h (λ l v. absurd (cc)) w
name_first (g.comprehend h o d cs) u = λ n w. other_first n h (λ l v. absurd (cc)) w
name_first (g.format h d) u = λ n w. other_first n h (λ l v. absurd (cc)) w
name_first (g.attribute {x} h d) u = name_first d (unequal_suffix x h)
name_first (g.subscript {x} h d s) u = name_first d (unequal_suffix x h)
name_first (g.apply {x} h d ms) u = name_first d (unequal_suffix x h)
name_first (g.sign h d) u = λ n w. other_first n h (λ l v. absurd (cc)) w
name_first (g.operate {x} h d l) u = name_first d (unequal_suffix x h)
name_first (g.not_in {x} h d l) u = name_first d (unequal_suffix x h)
name_first (g.ternary {x} h d l t) u = name_first d (unequal_suffix x h)
name_first (g.abstraction h ms d) u = λ n w. other_first n h (λ l v. absurd (cc)) w
name_first (g.above d) u = name_first d u

-- a token that begins an expression is no other
pub off : {b : Beginning} (here other : Option Outcome) (y x : Lexeme) → Plain y → beginning y ≡ None → beginning x ≡ Some b → on y x here other ≡ other
off {b} here other y x p n h = ap (λ z. cond z here other) (go (nat_eq (sort y) (sort x)) refl)
  where
    go : (z : Bool) → nat_eq (sort y) (sort x) ≡ z → nat_eq (sort y) (sort x) ≡ false
    go false e = e
    go true e = absurd (let w : None ≡ Some b = sym n ∙ sym (ap beginning (same_sort y x p e)) ∙ h in (cc))

-- an expression that opens at a point
pub opens_reads : {n : ℕ} {p : Point} {k : Frames} {a : List Item} (f : ℕ → Frame) → First n a → ((x : Lexeme) (b : Beginning) (i j : ℕ) → beginning x ≡ Some b → move (stands p k) x i j ≡ begin_with (beginning x) n i j (inside (f i) k)) → Reads (stands p k) a (marked (length a) (met_at p)) (wants n (inside (f (start a)) k)) a
opens_reads {n} {p} {k} f (starts {i} {j} {x} {b} {xs} h le) e = meets (met_at p) (runs (stands p k) (item i x j) xs ∙ ap (arrive (item i x j) xs (met_at p)) (e x b i j h) ∙ ap (note (item i x j ∷ xs) (met_at p)) (sym (runs (wants n (inside (f i) k)) (item i x j) xs)))

-- what is behind the turn at a point
abbrev pub rest_of : Point → Frames → Lexeme → ℕ → ℕ → Option Outcome → Option State
rest_of p k x i j o = else_state (goes k o) (else_state (perhaps p x i j k) (opened (opens p i) x i j k))

-- a positional argument, which may begin with an identifier
pub either_none : (b : Bool) (m : Option Event) → m ≡ None → cond b None m ≡ None
either_none true m h = refl
either_none false m h = h

pub quiet_tails : (c n : ℕ) (f : Frame) (k : Frames) (q : tree.Expr) (e : ℕ) (x : Option Lexeme) → ends (inside f k) q e x ≡ None → ends (tails c n (inside f k)) q e x ≡ None
quiet_tails zero n f k q e x h = h
quiet_tails (suc c) n f k q e None h = quiet_tails c (suc n) f k q e None h
quiet_tails (suc c) n f k q e (Some x) h = either_none (operates (suffix x) n) (ends (tails c (suc n) (inside f k)) q e (Some x)) (quiet_tails c (suc n) f k q e (Some x) h)

pub named_tail : (q : tree.Expr) (ms : tree.Members) (f : ℕ) (n : List ℕ) (i j : ℕ) (k : Frames) (ts : List Item) → Unequal ts → run (perhaps_named q ms f n i j k) ts ≡ run (has (tree.leaf (tree.name n) (stretch i j) (stretch i j)) j (tails 13 0 (inside (member (behind q) ms f i an_argument) k))) ts
named_tail q ms f n i j k [] u = runs_end (perhaps_named q ms f n i j k) ∙ sym (runs_end (has (tree.leaf (tree.name n) (stretch i j) (stretch i j)) j (tails 13 0 (inside (member (behind q) ms f i an_argument) k))))
named_tail q ms f n i j k (x ∷ xs) u =
    let t = has (tree.leaf (tree.name n) (stretch i j) (stretch i j)) j (tails 13 0 (inside (member (behind q) ms f i an_argument) k)) in
    runs (perhaps_named q ms f n i j k) x xs
    ∙ ap (arrive x xs None) (ap (λ z. cond z (Some (wants 12 (inside (member (behind q) ms f i (a_named n (stretch i j))) k))) (step t x)) u)
    ∙ ap (λ m. arrive x xs m (step t x)) (sym (quiet_tails 13 0 (member (behind q) ms f i an_argument) k (tree.leaf (tree.name n) (stretch i j) (stretch i j)) j (Some x.lexeme) refl))
    ∙ sym (runs t x xs)

pub data Named : Lexeme → Type 0 where
  is_name : {n : List ℕ} → Named (identifier n)
  no_name : {x : Lexeme} → name_of x ≡ None → Named x

pub is_named : (x : Lexeme) → Named x
is_named (identifier n) = is_name
is_named _ = no_name refl

pub argument_begins : (q : tree.Expr) (ms : tree.Members) (t : Bool) (e f : ℕ) (k : Frames) (a : List Item) → First 12 a → NameFirst a → run (stands (member_wanted (behind q) ms t e f) k) a ≡ run (wants 12 (inside (member (behind q) ms (first_at ms f (start a)) (start a) an_argument) k)) a
argument_begins q ms t e f k a (starts {i} {j} {x} {b} {xs} h le) u =
    runs (stands (member_wanted (behind q) ms t e f) k) (item i x j) xs ∙ go x (is_named x) h u ∙ sym (runs (wants 12 (inside (member (behind q) ms (first_at ms f i) i an_argument) k)) (item i x j) xs)
  where
    go : (y : Lexeme) → Named y → beginning y ≡ Some b → ((n : List ℕ) → y ≡ identifier n → Unequal xs) → arrive (item i y j) xs None (step (stands (member_wanted (behind q) ms t e f) k) (item i y j)) ≡ arrive (item i y j) xs None (step (wants 12 (inside (member (behind q) ms (first_at ms f i) i an_argument) k)) (item i y j))
    go y (is_name {n}) h u = named_tail q ms (first_at ms f i) n i j k xs (u n refl)
    go y (no_name w) h u = ap (λ o. arrive (item i y j) xs None o) (
        ap (rest_of (member_wanted (behind q) ms t e f) k y i j) (off _ _ closing_round y (refl, refl) refl h ∙ off _ _ star y (refl, refl) refl h ∙ off _ _ star_star y (refl, refl) refl h)
        ∙ ap (λ o. else_state (some_state o (λ n. perhaps_named q ms (first_at ms f i) n i j k)) (begin_with (beginning y) 12 i j (inside (member (behind q) ms (first_at ms f i) i an_argument) k))) w)
