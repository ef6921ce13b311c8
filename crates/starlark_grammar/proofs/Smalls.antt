-- The machine reads what the grammar derives of small statements, and meets the marks of the derivation.
use Rattle.std.proofs.Common.{ℕ, ◌≡◌, ◌+◌, ◌≤◌, ◌∷◌, suc, List, Option, Some, None, refl, ap, subst, arith, length}
use Rattle.starlark_rulebook.specs.Targets.{target_of}
use Rattle.starlark_grammar.specs.Spans.{stretch}
use Rattle.starlark_lexer.specs.Items.{Lexeme, newline, keyword_break, keyword_continue, keyword_in, keyword_load, keyword_pass, keyword_return, comma, semicolon, colon, equal, plus_equal, minus_equal, star_equal, slash_equal, slash_slash_equal, percent_equal, ampersand_equal, pipe_equal, caret_equal, less_less_equal, greater_greater_equal, Item, item}
use Rattle.starlark_ast.specs.declared.ast.AssignOp.{AssignOp}
use Rattle.starlark_ast.specs.Tree as tree
use Rattle.starlark_ast.specs.Tree.{Expr, Members, Name, Sequence, Statement, Symbol, Symbols, add_statement, assign, expression, load, name_at, no_statements, no_symbols, return, Annotation}
use Rattle.starlark_grammar.specs.Nodes.{block_of, start, targeted, type_at}
use Rattle.starlark_grammar.specs.Events.{after_comma, assigned, shaped}
use Rattle.starlark_grammar.specs.Tables.{Beginning, beginning, suffix, grade_of, Kind, loose, targets, level_of, assigner}
use Rattle.starlark_grammar.specs.Expressions as g
use Rattle.starlark_grammar.specs.Expressions.{Level, Listing, listing}
use Rattle.starlark_grammar.specs.Loads.{OneSymbol, own_name, other_name, SomeSymbols, no_symbol, next_symbol, Load, alone, with_comma, without_comma}
use Rattle.starlark_grammar.specs.Simple.{Small, returns, returns_it, breaks_off, continues, passes, loads, evaluates, assigns, annotates, Smalls, one_small, next_small, Simple, row, row_semicolon}
use Rattle.starlark_grammar.specs.Marks.{mark, in_level, in_members, in_listing, in_symbol, in_symbols, in_load, in_small, in_smalls, in_simple}
use Rattle.starlark_grammar.specs.Frames.{Blocks, Rows, Line, line, first, annotation, source, Lists, left, right, returned, target, kind_listed, Frames, listed, spot, State, wants, has, wants_list, wants_next, behind_small, wants_small, behind_return, load_opens, load_symbol, load_behind}
use Rattle.starlark_grammar.specs.Machine.{end_row, begin_with, begin_right, accept, list_of, step}
use Rattle.starlark_grammar.specs.Runs.{met, initial}
use Rattle.starlark_grammar.proofs.Steps.{first_grade}
use Rattle.starlark_grammar.proofs.Reading.{Reads, ◌>>◌, quietly, steps, reads, First, starts, level_first, drops, room_of, shifts, settles_at}
use Rattle.starlark_grammar.proofs.Expressions.{level_read}

-- an expression, and nothing of it follows
pub test_read : {n e : ℕ} {a b : List Item} {q : Expr} (d : Level n a b q e) → (k : Frames) → n + 1 ≤ first_grade b → Reads (wants n k) a (in_level d) (has q e k) b
test_read {n} {b} d k h = let w : suc n ≤ first_grade b = omega (arith, h) in drops w (level_read d (room_of n (first_grade b) w) k)

-- lists without brackets
pub data Loose : Kind → Type 0 where
  is_loose : Loose loose
  is_targets : Loose targets

member_first : {n : Kind} {a b : List Item} {m : tree.Member} {e : ℕ} → Loose n → g.Member n a b m e → First (level_of n) a
member_first is_loose (g.loose_test d) = level_first d
member_first is_targets (g.target d) = level_first d

members_first : {n : Kind} {a b : List Item} {ms : Members} {e : ℕ} → Loose n → g.Members n a b ms e → First (level_of n) a
members_first l (g.one d) = member_first l d
members_first l (g.next ms d) = members_first l ms

pub list_begins : {n : Kind} (k : Lists) → kind_listed k ≡ n → {ts : List Item} → First (level_of n) ts → Reads (wants_list k) ts (λ l. l) (wants (level_of n) (listed tree.none (start ts) k)) ts
list_begins k w (starts {i} {j} {x} h le) = shifts refl (ap (λ z. begin_with (beginning x) (level_of z) i j (listed tree.none i k)) w)

pub next_begins : {n : Kind} (ms : Members) (p m : ℕ) (k : Lists) → kind_listed k ≡ n → {ts : List Item} → First (level_of n) ts → Reads (wants_next ms p m k) ts (λ l. mark (length ts) (shaped after_comma (stretch p m)) ∷ l) (wants (level_of n) (listed ms p k)) ts
next_begins ms p m k w (starts {i} {j} {x} h le) = settles_at refl refl (ap (λ z. begin_with (beginning x) (level_of z) i j (listed ms p k)) w)

-- behind the last of them
abbrev pub last_of : Members → ℕ → ℕ → Lists → State
last_of (tree.more ms (tree.item q)) e p k = has q e (listed ms p k)
last_of _ e p k = initial

pub data Last : Members → Type 0 where
  last : {ms : Members} {q : Expr} → Last (tree.more ms (tree.item q))

pub has_last : {n : Kind} {a b : List Item} {ms : Members} {e : ℕ} → Loose n → g.Members n a b ms e → Last ms
has_last is_loose (g.one (g.loose_test d)) = last
has_last is_targets (g.one (g.target d)) = last
has_last is_loose (g.next ms (g.loose_test d)) = last
has_last is_targets (g.next ms (g.target d)) = last

list_comma : {ms : Members} → Last ms → (e p : ℕ) (k : Lists) (i j : ℕ) (ts : List Item) → Reads (last_of ms e p k) (item i comma j ∷ ts) (λ l. l) (wants_next ms p j k) ts
list_comma last e p k i j ts = reads refl refl

pub list_read : {n : Kind} {e : ℕ} {a b : List Item} {ms : Members} → Loose n → (d : g.Members n a b ms e) → (k : Lists) → kind_listed k ≡ n → level_of n + 1 ≤ first_grade b → Reads (wants_list k) a (in_members d) (last_of ms e (start a) k) b
list_read is_loose (g.one (g.loose_test {a} d)) k w h = list_begins k w (level_first d) >> test_read d (listed tree.none (start a) k) h
list_read is_targets (g.one (g.target {a} d)) k w h = list_begins k w (level_first d) >> test_read d (listed tree.none (start a) k) h
list_read is_loose (g.next {g = u} {h = j} {d = y} {a} {b} {ms} ts (g.loose_test d)) k w h = list_read is_loose ts k w (omega arith) >> list_comma (has_last is_loose ts) y (start a) k u j b >> next_begins ms (start a) j k w (level_first d) >> test_read d (listed ms (start a) k) h
list_read is_targets (g.next {g = u} {h = j} {d = y} {a} {b} {ms} ts (g.target d)) k w h = list_read is_targets ts k w (omega arith) >> list_comma (has_last is_targets ts) y (start a) k u j b >> next_begins ms (start a) j k w (level_first d) >> test_read d (listed ms (start a) k) h

pub target_ends : {ms : Members} → Last ms → (e p i u v : ℕ) (k : Blocks) (ts : List Item) → Reads (last_of ms e p (target i k)) (item u keyword_in v ∷ ts) (λ l. l) (wants 12 (spot (source (targeted ms (stretch p e)) i k))) ts
target_ends last e p i u v k ts = reads refl refl

-- a load
symbol_read : {a b : List Item} {s : Symbol} (d : OneSymbol a b s) → (p : ℕ) (m : Name) (ss : Symbols) (k : Line) → Reads (load_symbol p m ss k) a (in_symbol d) (load_behind p m ss s k) b
symbol_read own_name p m ss k = reads refl refl
symbol_read other_name p m ss k = reads refl refl >> steps refl refl >> reads refl refl

symbols_read : {a b : List Item} {ss : Symbols} (d : SomeSymbols a b ss) → (p : ℕ) (m : Name) (k : Line) → Reads (load_symbol p m no_symbols k) a (in_symbols d) (load_symbol p m ss k) b
symbols_read no_symbol p m k = quietly refl
symbols_read (next_symbol {ss} ds d) p m k = symbols_read ds p m k >> symbol_read d p m ss k >> reads refl refl

load_read : {e : ℕ} {a b : List Item} {m : Name} {ss : Symbols} (d : Load a b m ss e) → (p : ℕ) (k : Line) → Reads (load_opens p k) a (in_load d) (behind_small (load m ss (stretch p e)) k) b
load_read alone p k = reads refl refl >> reads refl refl >> reads refl refl
load_read (with_comma {n} {i} {j} ds) p k = reads refl refl >> reads refl refl >> reads refl refl >> symbols_read ds p (name_at n (stretch i j)) k >> reads refl refl
load_read (without_comma {n} {i} {j} {ss} ds d) p k = reads refl refl >> reads refl refl >> reads refl refl >> symbols_read ds p (name_at n (stretch i j)) k >> symbol_read d p (name_at n (stretch i j)) ss k >> reads refl refl

-- what a small statement begins with, and what ends it
pub data SmallFirst : List Item → Type 0 where
  is_return : {i j : ℕ} {a : List Item} → SmallFirst (item i keyword_return j ∷ a)
  is_break : {i j : ℕ} {a : List Item} → SmallFirst (item i keyword_break j ∷ a)
  is_continue : {i j : ℕ} {a : List Item} → SmallFirst (item i keyword_continue j ∷ a)
  is_pass : {i j : ℕ} {a : List Item} → SmallFirst (item i keyword_pass j ∷ a)
  is_load : {i j : ℕ} {a : List Item} → SmallFirst (item i keyword_load j ∷ a)
  is_test : {a : List Item} → First 12 a → SmallFirst a

pub data EndsSmall : List Item → Type 0 where
  by_semicolon : {i j : ℕ} {a : List Item} → EndsSmall (item i semicolon j ∷ a)
  by_newline : {i j : ℕ} {a : List Item} → EndsSmall (item i newline j ∷ a)

list_first : {a b : List Item} {q : Expr} {e : ℕ} → Listing loose a b q e → First 12 a
list_first (listing ms) = members_first is_loose ms

small_starts : {e : ℕ} {a b : List Item} {s : Statement} → Small a b s e → SmallFirst a
small_starts returns = is_return
small_starts (returns_it d) = is_return
small_starts breaks_off = is_break
small_starts continues = is_continue
small_starts passes = is_pass
small_starts (loads d) = is_load
small_starts (evaluates d) = is_test (level_first d)
small_starts (assigns d h f) = is_test (list_first d)
small_starts (annotates d k h f) = is_test (list_first d)

smalls_starts : {e : ℕ} {a b : List Item} {ss : Sequence} → Smalls a b ss e → SmallFirst a
smalls_starts (one_small d) = small_starts d
smalls_starts (next_small ds d) = smalls_starts ds

pub simple_starts : {e : ℕ} {a b : List Item} {s : Statement} → Simple a b s e → SmallFirst a
simple_starts (row ds) = smalls_starts ds
simple_starts (row_semicolon ds) = smalls_starts ds

-- a token that begins no expression
pub begins_none : {P : Type 0} {b : Beginning} → None ≡ Some b → P
begins_none {b} h = absurd (let n : None ≡ Some b = h in (cc))

-- the left side of an assignment, from the beginning of a small statement
abbrev pub last_left : Members → ℕ → ℕ → Line → State
last_left (tree.more tree.none (tree.item q)) e p k = has q e (spot (first p k))
last_left (tree.more (tree.more ms m) (tree.item q)) e p k = has q e (listed (tree.more ms m) p (left p k))
last_left _ e p k = initial

left_comma : {e : ℕ} {a b : List Item} {ms : Members} → g.Members loose a b ms e → (p : ℕ) (k : Line) (i j : ℕ) (ts : List Item) → Reads (last_left ms e p k) (item i comma j ∷ ts) (λ l. l) (wants_next ms p j (left p k)) ts
left_comma (g.one (g.loose_test d)) p k i j ts = reads refl refl
left_comma (g.next (g.one d) (g.loose_test f)) p k i j ts = reads refl refl
left_comma (g.next (g.next ms d) (g.loose_test f)) p k i j ts = reads refl refl

left_last : {d : ℕ} {a b : List Item} {ms : Members} → g.Members loose a b ms d → (q : Expr) (e p : ℕ) (k : Line) → has q e (listed ms p (left p k)) ≡ last_left (tree.more ms (tree.item q)) e p k
left_last (g.one d) q e p k = refl
left_last (g.next ms d) q e p k = refl

first_begins : (done : Sequence) (k : Rows) {ts : List Item} → First 12 ts → Reads (wants_small (line done k)) ts (λ l. l) (wants 12 (spot (first (start ts) (line done k)))) ts
first_begins done k (starts {i} {j} {x} {b} h le) = shifts refl (go x i j h)
  where
    go : (y : Lexeme) (i j : ℕ) → beginning y ≡ Some b → step (wants_small (line done k)) (item i y j) ≡ step (wants 12 (spot (first i (line done k)))) (item i y j)
    go newline i j h = begins_none h
    go keyword_return i j h = begins_none h
    go keyword_break i j h = begins_none h
    go keyword_continue i j h = begins_none h
    go keyword_pass i j h = begins_none h
    go keyword_load i j h = begins_none h
    go _ i j h = refl

left_read : {e : ℕ} {a b : List Item} {ms : Members} (ts : g.Members loose a b ms e) → (done : Sequence) (k : Rows) → 13 ≤ first_grade b → Reads (wants_small (line done k)) a (in_members ts) (last_left ms e (start a) (line done k)) b
left_read (g.one (g.loose_test {a} d)) done k h = first_begins done k (level_first d) >> test_read d (spot (first (start a) (line done k))) h
left_read (g.next {g = u} {h = j} {e} {a} {b} {c} {ms} ts (g.loose_test {q} d)) done k h =
    let l : Line = line done k in
    subst (λ s. Reads (wants_small l) a (in_members (g.next {h = j} ts (g.loose_test d))) s c) (left_last ts q e (start a) l)
    (left_read ts done k (omega arith) >> left_comma ts (start a) l u j b >> next_begins ms (start a) j (left (start a) l) refl (level_first d) >> test_read d (listed ms (start a) (left (start a) l)) h)

-- at a colon, and at an operator that assigns
left_colon : {d i j : ℕ} {a b : List Item} {l : Expr} (ds : Listing loose a (item i colon j ∷ b) l d) → (done : Sequence) (k : Rows) → Reads (wants_small (line done k)) a (in_listing ds) (wants 12 (spot (annotation l (start a) (line done k)))) b
left_colon (listing {e} {a} ms) done k = left_read ms done k (omega arith) >> at_colon ms e (start a) (line done k)
  where
    at_colon : {d i j : ℕ} {a b : List Item} {ms : Members} → g.Members loose a (item i colon j ∷ b) ms d → (e p : ℕ) (k : Line) → Reads (last_left ms e p k) (item i colon j ∷ b) (λ l. l) (wants 12 (spot (annotation (targeted ms (stretch p e)) p k))) b
    at_colon (g.one (g.loose_test d)) e p k = reads refl refl
    at_colon (g.next (g.one d) (g.loose_test f)) e p k = reads refl refl
    at_colon (g.next (g.next ms d) (g.loose_test f)) e p k = reads refl refl

assigner_grade : (x : Lexeme) (o : Option AssignOp) → assigner x ≡ Some o → 13 ≤ grade_of (suffix x)
assigner_grade equal o h = omega arith
assigner_grade plus_equal o h = omega arith
assigner_grade minus_equal o h = omega arith
assigner_grade star_equal o h = omega arith
assigner_grade slash_equal o h = omega arith
assigner_grade slash_slash_equal o h = omega arith
assigner_grade percent_equal o h = omega arith
assigner_grade ampersand_equal o h = omega arith
assigner_grade pipe_equal o h = omega arith
assigner_grade caret_equal o h = omega arith
assigner_grade less_less_equal o h = omega arith
assigner_grade greater_greater_equal o h = omega arith
assigner_grade _ o h = absurd (let n : None ≡ Some o = h in (cc))

first_assigns : (x : Lexeme) (o : Option AssignOp) → assigner x ≡ Some o → (q : Expr) (e p j : ℕ) (k : Line) → accept (first p k) q e x j ≡ Some (wants_list (right q tree.untyped o p k))
first_assigns comma o h q e p j k = absurd (let n : None ≡ Some o = h in (cc))
first_assigns colon o h q e p j k = absurd (let n : None ≡ Some o = h in (cc))
first_assigns semicolon o h q e p j k = absurd (let n : None ≡ Some o = h in (cc))
first_assigns newline o h q e p j k = absurd (let n : None ≡ Some o = h in (cc))
first_assigns _ o h q e p j k = ap (λ z. begin_right z q tree.untyped p k) h

left_assigns : (x : Lexeme) (o : Option AssignOp) → assigner x ≡ Some o → (ms : Members) (q : Expr) (e p i j : ℕ) (k : Line) → (met (has q e (listed ms p (left p k))) (Some x) ≡ None) × (step (has q e (listed ms p (left p k))) (item i x j) ≡ Some (wants_list (right (list_of ms q p e) tree.untyped o p k)))
left_assigns comma o h ms q e p i j k = absurd (let n : None ≡ Some o = h in (cc))
left_assigns colon o h ms q e p i j k = absurd (let n : None ≡ Some o = h in (cc))
left_assigns _ o h ms q e p i j k = (refl, ap (λ z. begin_right z (list_of ms q p e) tree.untyped p k) h)

left_assign : {d i j : ℕ} {x : Lexeme} {o : Option AssignOp} {a b : List Item} {l : Expr} (ds : Listing loose a (item i x j ∷ b) l d) → assigner x ≡ Some o → (done : Sequence) (k : Rows) → Reads (wants_small (line done k)) a (in_listing ds) (wants_list (right l tree.untyped o (start a) (line done k))) b
left_assign {x} {o} (listing {e} {a} ms) h done k = left_read ms done k (assigner_grade x o h) >> at_assigner ms h e (start a) (line done k)
  where
    at_assigner : {d i j : ℕ} {x : Lexeme} {o : Option AssignOp} {a b : List Item} {ms : Members} → g.Members loose a (item i x j ∷ b) ms d → assigner x ≡ Some o → (e p : ℕ) (k : Line) → Reads (last_left ms e p k) (item i x j ∷ b) (λ l. l) (wants_list (right (targeted ms (stretch p e)) tree.untyped o p k)) b
    at_assigner {j} {x} {o} (g.one (g.loose_test {q} d)) h e p k = reads refl (first_assigns x o h q e p j k)
    at_assigner {i} {j} {x} {o} (g.next {ms} (g.one d) (g.loose_test {q} f)) h e p k = let w = left_assigns x o h ms q e p i j k in reads w.0 w.1
    at_assigner {i} {j} {x} {o} (g.next {ms} (g.next ts d) (g.loose_test {q} f)) h e p k = let w = left_assigns x o h ms q e p i j k in reads w.0 w.1

-- what ends a small statement ends an expression
ends_grade : {b : List Item} → EndsSmall b → 13 ≤ first_grade b
ends_grade by_semicolon = omega arith
ends_grade by_newline = omega arith

pub first_ends : {b : List Item} → EndsSmall b → (q : Expr) (e p : ℕ) (done : Sequence) (k : Rows) → Reads (has q e (spot (first p (line done k)))) b (λ l. l) (behind_small (expression q (stretch p e)) (line done k)) b
first_ends by_semicolon q e p done k = shifts refl refl
first_ends by_newline q e p done k = shifts refl refl

pub right_ends : {b : List Item} {ms : Members} → EndsSmall b → Last ms → (l : Expr) (t : Annotation) (o : Option AssignOp) (e p i : ℕ) (done : Sequence) (k : Rows) → Reads (last_of ms e i (right l t o p (line done k))) b (λ m. mark (length b) (assigned l t o) ∷ m) (behind_small (assign (target_of l) t o (targeted ms (stretch i e)) (stretch p e)) (line done k)) b
right_ends by_semicolon last l t o e p i done k = settles_at refl refl refl
right_ends by_newline last l t o e p i done k = settles_at refl refl refl

pub returned_ends : {b : List Item} {ms : Members} → EndsSmall b → Last ms → (e p i : ℕ) (done : Sequence) (k : Rows) → Reads (last_of ms e i (returned p (line done k))) b (λ l. l) (behind_small (return (Some (targeted ms (stretch i e))) (stretch p e)) (line done k)) b
returned_ends by_semicolon last e p i done k = shifts refl refl
returned_ends by_newline last e p i done k = shifts refl refl

pub return_ends : {b : List Item} → EndsSmall b → (p e : ℕ) (done : Sequence) (k : Rows) → Reads (behind_return p e (line done k)) b (λ l. l) (behind_small (return None (stretch p e)) (line done k)) b
return_ends by_semicolon p e done k = shifts refl refl
return_ends by_newline p e done k = shifts refl refl

return_begins : (p e : ℕ) (k : Line) {ts : List Item} → First 12 ts → Reads (behind_return p e k) ts (λ l. l) (wants_list (returned p k)) ts
return_begins p e k (starts {i} {j} {x} {b} h le) = shifts refl (go x i j h)
  where
    go : (y : Lexeme) (i j : ℕ) → beginning y ≡ Some b → step (behind_return p e k) (item i y j) ≡ step (wants_list (returned p k)) (item i y j)
    go semicolon i j h = begins_none h
    go newline i j h = begins_none h
    go _ i j h = refl

small_read : {e : ℕ} {a b : List Item} {s : Statement} (d : Small a b s e) → EndsSmall b → (done : Sequence) (k : Rows) → Reads (wants_small (line done k)) a (in_small d) (behind_small s (line done k)) b
small_read (returns {i} {j} {a}) h done k = reads refl refl >> return_ends h i j done k
small_read (returns_it {i} {j} {e} (listing {a} ms)) h done k = reads refl refl >> return_begins i j (line done k) (members_first is_loose ms) >> list_read is_loose ms (returned i (line done k)) refl (ends_grade h) >> returned_ends h (has_last is_loose ms) e i (start a) done k
small_read breaks_off h done k = reads refl refl
small_read continues h done k = reads refl refl
small_read passes h done k = reads refl refl
small_read (loads {i} d) h done k = reads refl refl >> load_read d i (line done k)
small_read (evaluates {e} {a} {r = q} d) h done k = first_begins done k (level_first d) >> test_read d (spot (first (start a) (line done k))) (ends_grade h) >> first_ends h q e (start a) done k
small_read (assigns {e} {o} {a} {b = z} {l} d q (listing {a = y} f)) h done k = left_assign d q done k >> list_read is_loose f (right l tree.untyped o (start a) (line done k)) refl (ends_grade h) >> right_ends h (has_last is_loose f) l tree.untyped o e (start a) (start y) done k
small_read (annotates {e} {x} {o} {a} {l} {t} d w q (listing {a = y} f)) h done k = left_colon d done k >> test_read w (spot (annotation l (start a) (line done k))) (assigner_grade x o q) >> steps refl (ap (λ z. begin_right z l (type_at t) (start a) (line done k)) q) >> list_read is_loose f (right l (type_at t) o (start a) (line done k)) refl (ends_grade h) >> right_ends h (has_last is_loose f) l (type_at t) o e (start a) (start y) done k

-- small statements in a row
abbrev pub last_small : Sequence → Rows → State
last_small no_statements k = initial
last_small (add_statement ss s) k = behind_small s (line ss k)

pub row_semicolon_read : {e : ℕ} {a b : List Item} {ss : Sequence} → Smalls a b ss e → (k : Rows) (i j : ℕ) (ts : List Item) → Reads (last_small ss k) (item i semicolon j ∷ ts) (λ l. l) (wants_small (line ss k)) ts
row_semicolon_read (one_small d) k i j ts = reads refl refl
row_semicolon_read (next_small ds d) k i j ts = reads refl refl

pub row_newline_read : {e : ℕ} {a b : List Item} {ss : Sequence} → Smalls a b ss e → (k : Rows) (i j : ℕ) (ts : List Item) → Reads (last_small ss k) (item i newline j ∷ ts) (λ l. l) (end_row k (block_of ss j) j) ts
row_newline_read (one_small d) k i j ts = reads refl refl
row_newline_read (next_small ds d) k i j ts = reads refl refl

pub smalls_read : {e : ℕ} {a b : List Item} {ss : Sequence} (ds : Smalls a b ss e) → EndsSmall b → (k : Rows) → Reads (wants_small (line no_statements k)) a (in_smalls ds) (last_small ss k) b
smalls_read (one_small d) h k = small_read d h no_statements k
smalls_read (next_small {i} {j} {b} {ss} ds d) h k = smalls_read ds by_semicolon k >> row_semicolon_read ds k i j b >> small_read d h ss k

pub simple_read : {e : ℕ} {a b : List Item} {s : Statement} (d : Simple a b s e) → (k : Rows) → Reads (wants_small (line no_statements k)) a (in_simple d) (end_row k s e) b
simple_read (row {i} {j} {b} ds) k = smalls_read ds by_newline k >> row_newline_read ds k i j b
simple_read (row_semicolon {g} {h} {i} {j} {b} ds) k = smalls_read ds by_semicolon k >> row_semicolon_read ds k g h (item i newline j ∷ b) >> reads refl refl
