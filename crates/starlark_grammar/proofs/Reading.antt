-- What the machine reads, and which marks it meets on the way.
use Rattle.std.proofs.Common.{ℕ, ◌≡◌, ◌≢◌, ◌-◌, ◌<◌, ◌≤◌, ◌∷◌, ◌∙◌, [], zero, suc, List, Option, Some, None, Bool, true, false, nat_eq, cond, refl, ap, sym, arith, length}
use Rattle.starlark_lexer.specs.Items.{Lexeme, Item, item}
use Rattle.starlark_ast.specs.Tree as tree
use Rattle.starlark_grammar.specs.Events.{Event}
use Rattle.starlark_grammar.specs.Tables.{Beginning, beginning, begins_at, Suffix, suffix, below, associates, grade}
use Rattle.starlark_grammar.specs.Expressions as g
use Rattle.starlark_grammar.specs.Marks.{Mark, mark, marked}
use Rattle.starlark_grammar.specs.Points.{Point, Outcome, turn, opens}
use Rattle.starlark_grammar.specs.Frames.{Frames, tail, State, wants, has, stands}
use Rattle.starlark_grammar.specs.Machine.{go, goes, enter, goes_on, begun, begin, begin_with, feed, opened, else_state, perhaps, step}
use Rattle.starlark_grammar.specs.Runs.{operates, ends, met_at, met, Trace, Stuck, Note, bottom, marks_of, note, finish, run}
use Rattle.starlark_grammar.proofs.Steps.{arrive, runs, same, first_grade, past}
use Rattle.starlark_grammar.proofs.Sound.{bottom_note, left_le}

pub marks_note : (ts : List Item) (m : Option Event) (v : Trace) → marks_of (note ts m v) ≡ marked (length ts) m (marks_of v)
marks_note ts None v = refl
marks_note ts (Some e) v = refl

-- from s at the tokens ts the machine comes to u at the tokens us, and meets the marks that f puts before later ones
pub record Reads (s : State) (ts : List Item) (f : List Mark → List Mark) (u : State) (us : List Item) : Type 0 where
  pub end : bottom (run s ts) ≡ bottom (run u us)
  pub marks : marks_of (run s ts) ≡ f (marks_of (run u us))

infixl 5 ◌>>◌
pub ◌>>◌ : {s t u : State} {a b c : List Item} {f g : List Mark → List Mark} → Reads s a f t b → Reads t b g u c → Reads s a (λ l. f (g l)) u c
◌>>◌ {f} p q = record { end = p.end ∙ q.end; marks = p.marks ∙ ap f q.marks }

pub quietly : {s t : State} {a b : List Item} → run s a ≡ run t b → Reads s a (λ l. l) t b
quietly e = record { end = ap bottom e; marks = ap marks_of e }

-- what is met before the first token, and then
pub meets : {s t : State} {a b : List Item} (m : Option Event) → run s a ≡ note a m (run t b) → Reads s a (marked (length a) m) t b
meets {t} {a} {b} m e = record { end = ap bottom e ∙ bottom_note a m (run t b); marks = ap marks_of e ∙ marks_note a m (run t b) }

-- one token
pub steps : {s s' : State} {x : Item} {xs : List Item} {m : Option Event} → met s (Some x.lexeme) ≡ m → step s x ≡ Some s' → Reads s (x ∷ xs) (marked (suc (length xs)) m) s' xs
steps {s} {s'} {x} {xs} {m} f e =
    let is : run s (x ∷ xs) ≡ note (x ∷ xs) m (run s' xs) = runs s x xs ∙ ap (λ o. arrive x xs o (step s x)) f ∙ ap (arrive x xs m) e in
    record { end = ap bottom is ∙ bottom_note (x ∷ xs) m (run s' xs); marks = ap marks_of is ∙ marks_note (x ∷ xs) m (run s' xs) }

pub reads : {s s' : State} {x : Item} {xs : List Item} → met s (Some x.lexeme) ≡ None → step s x ≡ Some s' → Reads s (x ∷ xs) (λ l. l) s' xs
reads f e = steps f e

-- the next token goes on with the construct
pub turns : {p : Point} {k : Frames} {x : Lexeme} {i j : ℕ} {xs : List Item} {o : Outcome} → turn p x i j ≡ Some o → Reads (stands p k) (item i x j ∷ xs) (marked (suc (length xs)) (met_at p)) (go k o) xs
turns {p} {k} {x} {i} {j} e = steps refl (ap (λ z. else_state (goes k z) (else_state (perhaps p x i j k) (opened (opens p i) x i j k))) e)

-- the first token begins an expression of that level or below
pub data First (n : ℕ) : List Item → Type 0 where
  starts : {i j : ℕ} {x : Lexeme} {b : Beginning} {xs : List Item} → beginning x ≡ Some b → begins_at b ≤ n → First n (item i x j ∷ xs)

pub higher : {n m : ℕ} {a : List Item} → n ≤ m → First n a → First m a
higher le (starts h l) = starts h (omega arith)

pub level_first : {n e : ℕ} {a b : List Item} {q : tree.Expr} → g.Level n a b q e → First n a
level_first (g.by_itself h) = starts h (omega arith)
level_first (g.in_brackets h d) = starts h (omega arith)
level_first (g.comprehend h o d cs) = starts h (omega arith)
level_first (g.format h d) = starts h (omega arith)
level_first (g.attribute h d) = level_first d
level_first (g.subscript h d s) = level_first d
level_first (g.apply h d ms) = level_first d
level_first (g.sign h d) = starts h (omega arith)
level_first (g.operate {o} h d l) = higher (left_le (suc (below o))) (level_first d)
level_first (g.not_in h d l) = higher (omega arith) (level_first d)
level_first (g.ternary h d l t) = higher (omega arith) (level_first d)
level_first (g.abstraction h ms d) = starts h (omega arith)
level_first (g.above d) = higher (omega arith) (level_first d)

pub eq_true : (n : ℕ) → nat_eq n n ≡ true
eq_true n = grind arith

pub ne_false : (n m : ℕ) → n ≢ m → nat_eq n m ≡ false
ne_false n m h = grind arith

-- a level up
pub goes_up : {n : ℕ} {k : Frames} {a : List Item} → First n a → Reads (wants (suc n) k) a (λ l. l) (wants n (tail (suc n) k)) a
goes_up {n} {k} (starts {i} {j} {x} {b} {xs} h le) = quietly (runs (wants (suc n) k) (item i x j) xs ∙ ap (arrive (item i x j) xs None) up ∙ sym (runs (wants n (tail (suc n) k)) (item i x j) xs))
  where
    up : begin_with (beginning x) (suc n) i j k ≡ begin_with (beginning x) n i j (tail (suc n) k)
    up = ap (λ o. begin_with o (suc n) i j k) h ∙ ap (λ z. cond z (Some (begun b i j k)) (begin n b i j (tail (suc n) k))) (ne_false (begins_at b) (suc n) (λ w. absurd (let v : begins_at b ≡ suc n = w in omega arith))) ∙ sym (ap (λ o. begin_with o n i j (tail (suc n) k)) h)

-- an expression begins at its level
pub begins_here : (n : ℕ) (b : Beginning) (i j : ℕ) (k : Frames) → begins_at b ≡ n → begin n b i j k ≡ Some (begun b i j k)
begins_here zero b i j k h = ap (λ z. cond (nat_eq z 0) (Some (begun b i j k)) None) h
begins_here (suc n) b i j k h = ap (λ z. cond z (Some (begun b i j k)) (begin n b i j (tail (suc n) k))) (ap (λ z. nat_eq z (suc n)) h ∙ eq_true (suc n))

pub begins : {n i j : ℕ} {k : Frames} {x : Lexeme} {b : Beginning} {xs : List Item} → beginning x ≡ Some b → begins_at b ≡ n → Reads (wants n k) (item i x j ∷ xs) (λ l. l) (begun b i j k) xs
begins {n} {i} {j} {k} {b} h e = reads refl (ap (λ o. begin_with o n i j k) h ∙ begins_here n b i j k e)

-- no suffix and no operator follows
pub drops : {s : State} {ts b : List Item} {f : List Mark → List Mark} {n e : ℕ} {q : tree.Expr} {k : Frames} → n < first_grade b → Reads s ts f (has q e (tail n k)) b → Reads s ts f (has q e k) b
drops {b} {n} {e} {q} {k} h p = p >> quietly (past n q e k b (λ w. absurd (let v : first_grade b ≡ n = w in omega arith)))

-- and back
pub keeps : {s : State} {ts b : List Item} {f : List Mark → List Mark} {n e : ℕ} {q : tree.Expr} {k : Frames} → n < first_grade b → Reads s ts f (has q e k) b → Reads s ts f (has q e (tail n k)) b
keeps {b} {n} {e} {q} {k} h p = p >> quietly (sym (past n q e k b (λ w. absurd (let v : first_grade b ≡ n = w in omega arith))))

-- a suffix or an operator
pub enters : {n e i j : ℕ} {q : tree.Expr} {k : Frames} {x : Lexeme} {s : Suffix} {xs : List Item} → suffix x ≡ Some s → grade s ≡ n → Reads (has q e (tail n k)) (item i x j ∷ xs) (λ l. l) (enter s q k) xs
enters {n} {e} {i} {j} {q} {k} {x} {s} h w =
    reads (ap (λ o. cond (operates o n) None (ends k q e (Some x))) h ∙ ap (λ z. cond z None (ends k q e (Some x))) same_grade)
    (ap (λ o. goes_on o n q k (feed k q e x i j)) h ∙ ap (λ z. cond z (Some (enter s q k)) (feed k q e x i j)) same_grade)
  where
    same_grade : nat_eq (grade s) n ≡ true
    same_grade = ap (λ z. nat_eq z n) w ∙ eq_true n

-- how great the grade of what follows has to be, where the expression ends
abbrev pub room : ℕ → ℕ
room n = cond (associates n) n (suc n)

pub room_le : (n : ℕ) → room n ≤ suc n
room_le n = go (associates n)
  where
    go : (b : Bool) → cond b n (suc n) ≤ suc n
    go true = omega arith
    go false = omega arith

pub room_ge : (n : ℕ) → n ≤ room n
room_ge n = go (associates n)
  where
    go : (b : Bool) → n ≤ cond b n (suc n)
    go true = omega arith
    go false = omega arith

pub room_of : (n m : ℕ) → suc n ≤ m → room n ≤ m
room_of n m h = let w : room n ≤ suc n = room_le n in omega arith

-- a construct that has come behind an expression
pub or_none : (o : Option State) → else_state o None ≡ o
or_none None = refl
or_none (Some s) = refl

pub settles : {s : State} {p : Point} {k : Frames} {ts : List Item} → finish s ≡ Stuck [] → ((x : Item) → step s x ≡ goes k (turn p x.lexeme x.begin x.end)) → ((x : Option Lexeme) → met s x ≡ None) → met_at p ≡ None → ((x : Lexeme) (i j : ℕ) → else_state (perhaps p x i j k) (opened (opens p i) x i j k) ≡ None) → Reads s ts (λ l. l) (stands p k) ts
settles {s} {p} {k} {ts} e f g h o = quietly (same s (stands p k) e (λ x. f x ∙ sym (or_none (goes k (turn p x.lexeme x.begin x.end))) ∙ ap (else_state (goes k (turn p x.lexeme x.begin x.end))) (sym (o x.lexeme x.begin x.end))) (λ x. g x ∙ sym h) ts)

-- another state that does the same
pub whole_as : {s u v : State} {a b : List Item} {f : List Mark → List Mark} → Reads s a f u b → finish u ≡ finish v → ((x : Item) → step u x ≡ step v x) → ((x : Option Lexeme) → met u x ≡ met v x) → Reads s a f v b
whole_as {u} {v} {b} p e f g = p >> quietly (same u v e f g b)

-- no token, at certain tokens
pub shifts : {s s' : State} {x : Item} {xs : List Item} → met s (Some x.lexeme) ≡ met s' (Some x.lexeme) → step s x ≡ step s' x → Reads s (x ∷ xs) (λ l. l) s' (x ∷ xs)
shifts {s} {s'} {x} {xs} m e = quietly (runs s x xs ∙ ap (arrive x xs (met s (Some x.lexeme))) e ∙ ap (λ o. arrive x xs o (step s' x)) m ∙ sym (runs s' x xs))

-- the same where something is met in the one state alone
pub settles_at : {s s' : State} {x : Item} {xs : List Item} {m : Event} → met s (Some x.lexeme) ≡ Some m → met s' (Some x.lexeme) ≡ None → step s x ≡ step s' x → Reads s (x ∷ xs) (λ l. mark (suc (length xs)) m ∷ l) s' (x ∷ xs)
settles_at {s} {s'} {x} {xs} {m} f g e =
    let is : run s (x ∷ xs) ≡ Note (x ∷ xs) m (arrive x xs None (step s' x)) = runs s x xs ∙ ap (λ o. arrive x xs o (step s x)) f ∙ ap (λ o. Note (x ∷ xs) m (arrive x xs None o)) e in
    let other : run s' (x ∷ xs) ≡ arrive x xs None (step s' x) = runs s' x xs ∙ ap (λ o. arrive x xs o (step s' x)) g in
    record { end = ap bottom is ∙ sym (ap bottom other); marks = ap marks_of is ∙ ap (λ v. mark (suc (length xs)) m ∷ marks_of v) (sym other) }
