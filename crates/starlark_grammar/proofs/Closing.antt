-- What has begun can be ended.
use Rattle.std.proofs.Common.{ℕ, ◌≡◌, ◌<◌, ◌∷◌, ◌∙◌, [], zero, suc, List, Option, Some, None, refl, ap, sym, arith}
use Rattle.starlark_rulebook.specs.Targets.{target_of}
use Rattle.starlark_grammar.specs.Spans.{stretch}
use Rattle.starlark_lexer.specs.Items.{newline, indent, dedent, string, keyword_in, keyword_pass, comma, colon, equal, opening_round, closing_round, Item, item}
use Rattle.starlark_ast.specs.declared.ast.AssignOp.{AssignOp}
use Rattle.starlark_ast.specs.Tree as tree
use Rattle.starlark_ast.specs.Tree.{Expr, Members, Name, Stars, Statement, add_statement, assign, define, either, expression, name_at, no_statements, pass, repeat, return, when, Annotation}
use Rattle.starlark_grammar.specs.Nodes.{type_at, block_of}
use Rattle.starlark_grammar.specs.Tables.{level_of}
use Rattle.starlark_grammar.specs.Expressions as g
use Rattle.starlark_grammar.specs.Marks.{Mark}
use Rattle.starlark_grammar.specs.Frames.{Blocks, outer, inner, Ifs, at_if, at_elif, Suites, of_if, of_else, of_for, of_def, Head, head, Rows, at_block, at_suite, Line, line, Spots, first, annotation, test, source, param_type, param_default, result_type, Lists, left, right, returned, target, kind_listed, Frames, tail, inside, listed, spot, State, wants, has, stands, perhaps_named, wants_list, wants_next, at_line, behind_for, behind_if, wants_colon, wants_suite, wants_indent, behind_small, wants_small, behind_return, load_opens, load_module, load_named, load_symbol, load_equal, load_other, load_behind, def_name, def_opens, wants_param, behind_star, behind_stars, behind_name, behind_param, wants_result}
use Rattle.starlark_grammar.specs.Machine.{push, settled, close, end_row, goes_on, list_of, feed, step}
use Rattle.starlark_grammar.specs.Runs.{met, bottom, run}
use Rattle.starlark_grammar.specs.Completion.{some_name, put_name, put_row, block_rest, if_rest, suite_rest, head_rest, line_rest, row_rest, small_rest, result_rest, spot_rest, list_rest, more_rest, closing, completion_at, completion}
use Rattle.starlark_grammar.proofs.Steps.{arrive, runs, first_grade}
use Rattle.starlark_grammar.proofs.Sound.{bottom_note, raise}
use Rattle.starlark_grammar.proofs.Reading.{Reads, starts, goes_up}
use Rattle.starlark_grammar.proofs.Smalls.{list_begins, next_begins, last, by_newline, first_ends, right_ends, returned_ends, return_ends}
use Rattle.starlark_grammar.proofs.Complete.{NoElse, no_else, for_ends}
use Rattle.starlark_grammar.proofs.Alike.{Ends, ends_now, step_ends}
use Rattle.starlark_grammar.proofs.ClosingParts.{NoSuffix, no_suffix, Arrives, name_reads, whole_name, point_arrives, frame_arrives, frame_stop}

-- from another state
from_state : {s u : State} {ts : List Item} → bottom (run s ts) ≡ bottom (run u ts) → Ends u ts → Ends s ts
from_state e h = record { raw = h.raw; ends = e ∙ h.ends }

-- behind a statement of a block, behind an `if`, behind a suite
no_else_block : (i : ℕ) (k : Blocks) → NoElse (block_rest i k)
no_else_block i (outer ss) = tt
no_else_block i (inner ss k) = tt

no_else_if : (i : ℕ) (k : Ifs) → NoElse (if_rest i k)
no_else_if i (at_if k) = no_else_block i k
no_else_if i (at_elif q r p k) = no_else_if i k

mutual
  block_ends : (i : ℕ) (k : Blocks) (s : Statement) (e : ℕ) → Ends (at_line (push k s) e) (block_rest i k)
  block_ends i (outer ss) s e = ends_now _ _ refl
  block_ends i (inner ss k) s e = step_ends _ _ (item i dedent i) (suite_rest i k) refl (suite_ends i k (block_of (add_statement ss s) e) i)

  if_ends : (i : ℕ) (k : Ifs) (s : Statement) (e : ℕ) → Ends (at_line (settled k s e) e) (if_rest i k)
  if_ends i (at_if k) s e = block_ends i k s e
  if_ends i (at_elif q r p k) s e = if_ends i k (either q r s (stretch p e)) e

  suite_ends : (i : ℕ) (k : Suites) (s : Statement) (e : ℕ) → Ends (close k s e) (suite_rest i k)
  suite_ends i (of_if q p k) s e = from_state (ap bottom (no_else q s p e k (if_rest i k) (no_else_if i k))) (if_ends i k (when q s (stretch p e)) e)
  suite_ends i (of_else q r p k) s e = if_ends i k (either q r s (stretch p e)) e
  suite_ends i (of_for l q p k) s e = let w = for_ends l (push k (repeat (target_of l) q s (stretch p e))) e (block_rest i k) in from_state w.end (block_ends i k (repeat (target_of l) q s (stretch p e)) e)
  suite_ends i (of_def (head p n k) ps t) s e = block_ends i k (define n ps t s (stretch p e)) e

row_ends : (i : ℕ) (k : Rows) (s : Statement) (e : ℕ) → Ends (end_row k s e) (row_rest i k)
row_ends i (at_block k) s e = block_ends i k s e
row_ends i (at_suite k) s e = suite_ends i k s e

-- behind a small statement
small_ends : (i : ℕ) (k : Line) (s : Statement) → Ends (behind_small s k) (small_rest i k)
small_ends i (line done k) s = step_ends _ _ (item i newline i) (row_rest i k) refl (row_ends i k (block_of (add_statement done s) i) i)

first_end : (i : ℕ) (k : Line) (r : Expr) (e p : ℕ) → Ends (has r e (spot (first p k))) (small_rest i k)
first_end i (line done k) r e p = let w = first_ends by_newline r e p done k in from_state w.end (small_ends i (line done k) (expression r (stretch p e)))

right_end : (i : ℕ) (k : Line) (l : Expr) (t : Annotation) (o : Option AssignOp) (ms : Members) (q : Expr) (e p f : ℕ) → Ends (has q e (listed ms f (right l t o p k))) (small_rest i k)
right_end i (line done k) l t o ms q e p f = let w = right_ends by_newline (last {ms = ms} {q = q}) l t o e p f done k in from_state w.end (small_ends i (line done k) (assign (target_of l) t o (list_of ms q f e) (stretch p e)))

returned_end : (i : ℕ) (k : Line) (ms : Members) (q : Expr) (e p f : ℕ) → Ends (has q e (listed ms f (returned p k))) (small_rest i k)
returned_end i (line done k) ms q e p f = let w = returned_ends by_newline (last {ms = ms} {q = q}) e p f done k in from_state w.end (small_ends i (line done k) (return (Some (list_of ms q f e)) (stretch p e)))

return_end : (i : ℕ) (k : Line) (p e : ℕ) → Ends (behind_return p e k) (small_rest i k)
return_end i (line done k) p e = let w = return_ends by_newline p e done k in from_state w.end (small_ends i (line done k) (return None (stretch p e)))

-- a line `pass`, at a line's beginning and in a suite
suite_row : (i : ℕ) (k : Suites) → Ends (wants_suite k) (put_row i (suite_rest i k))
suite_row i k = step_ends _ _ (item i keyword_pass i) (small_rest i (line no_statements (at_suite k))) refl (small_ends i (line no_statements (at_suite k)) (pass (stretch i i)))

line_row : (i : ℕ) (k : Suites) (e : ℕ) → Ends (at_line (inner no_statements k) e) (line_rest i (inner no_statements k))
line_row i k e = step_ends _ _ (item i keyword_pass i) (small_rest i (line no_statements (at_block (inner no_statements k)))) refl (small_ends i (line no_statements (at_block (inner no_statements k))) (pass (stretch i i)))

line_ends : (i : ℕ) (k : Blocks) (e : ℕ) → Ends (at_line k e) (line_rest i k)
line_ends i (outer ss) e = ends_now _ _ refl
line_ends i (inner no_statements k) e = line_row i k e
line_ends i (inner (add_statement ss s) k) e = block_ends i (inner ss k) s e

for_end : (i : ℕ) (l : Expr) (k : Blocks) (e : ℕ) → Ends (behind_for l k e) (line_rest i k)
for_end i l k e = let w = for_ends l k e (line_rest i k) in from_state w.end (line_ends i k e)

-- what ends begins with no suffix and no operator
small_stop : (i : ℕ) (k : Line) → NoSuffix (small_rest i k)
small_stop i (line done k) = no_suffix refl

spot_stop : (i : ℕ) (k : Spots) → NoSuffix (spot_rest i k)
spot_stop i (first p k) = small_stop i k
spot_stop i (annotation l p k) = no_suffix refl
spot_stop i (test p k) = no_suffix refl
spot_stop i (source l p k) = no_suffix refl
spot_stop i (param_type h ps y n p) = no_suffix refl
spot_stop i (param_default h ps n t p) = no_suffix refl
spot_stop i (result_type h ps) = no_suffix refl

more_stop : (i : ℕ) (k : Lists) → NoSuffix (more_rest i k)
more_stop i (left p k) = no_suffix refl
more_stop i (right l t o p k) = small_stop i k
more_stop i (returned p k) = small_stop i k
more_stop i (target p k) = no_suffix refl

pub closing_stop : (i : ℕ) (k : Frames) → NoSuffix (closing i k)
closing_stop i (tail n k) = closing_stop i k
closing_stop i (inside f k) = frame_stop i f (closing_stop i k)
closing_stop i (listed ms p k) = more_stop i k
closing_stop i (spot k) = spot_stop i k

abbrev pub name_tree : ℕ → Expr
name_tree i = tree.leaf (tree.name (120 ∷ [])) (stretch i i) (stretch i i)

abbrev pub name_item : ℕ → Item
name_item i = item i some_name i

over_tail : {n e : ℕ} {q : Expr} {k : Frames} {ts : List Item} → NoSuffix ts → Ends (has q e k) ts → Ends (has q e (tail n k)) ts
over_tail {n} {e} {q} {k} (no_suffix {i} {j} {x} {xs} w) h =
    let y = item i x j in
    from_state (ap bottom (runs (has q e (tail n k)) y xs) ∙ bottom_note (y ∷ xs) (met (has q e (tail n k)) (Some x)) _ ∙ ap (λ o. bottom (arrive y xs None o)) (ap (λ o. goes_on o n q k (feed k q e x i j)) w) ∙ sym (ap bottom (runs (has q e k) y xs) ∙ bottom_note (y ∷ xs) (met (has q e k) (Some x)) _)) h

-- by what was read
by_reading : {s u : State} {a b : List Item} {f : List Mark → List Mark} → Reads s a f u b → Ends u b → Ends s a
by_reading p h = record { raw = h.raw; ends = p.end ∙ h.ends }

by_arriving : {s : State} {a b : List Item} {k : Frames} → Arrives s a k b → ((q : Expr) (e : ℕ) → Ends (has q e k) b) → Ends s a
by_arriving p f = let h = f p.tree p.end in record { raw = h.raw; ends = p.same ∙ h.ends }

-- a name_at stands for an expression, and for a list
list_ends : (i : ℕ) (k : Lists) (ts : List Item) → level_of (kind_listed k) < first_grade ts → ((ms : Members) (q : Expr) (e p : ℕ) → Ends (has q e (listed ms p k)) ts) → Ends (wants_list k) (put_name i ts)
list_ends i k ts le f = by_reading (list_begins k refl (starts refl (omega arith))) (by_arriving (name_reads i (level_of (kind_listed k)) le (raise (level_of (kind_listed k)) (omega arith) (g.by_itself refl))) (λ q e. f tree.none q e i))

next_ends : (i : ℕ) (ms : Members) (p m : ℕ) (k : Lists) (ts : List Item) → level_of (kind_listed k) < first_grade ts → ((q : Expr) (e : ℕ) → Ends (has q e (listed ms p k)) ts) → Ends (wants_next ms p m k) (put_name i ts)
next_ends i ms p m k ts le f = by_reading (next_begins ms p m k refl (starts refl (omega arith))) (by_arriving (name_reads i (level_of (kind_listed k)) le (raise (level_of (kind_listed k)) (omega arith) (g.by_itself refl))) f)

-- an assignment, a `for` statement, a `def`
pub small_grade : (i : ℕ) (k : Line) → 12 < first_grade (small_rest i k)
small_grade i (line done k) = omega arith

equal_ends : (i : ℕ) (s : State) (l : Expr) (t : Annotation) (p : ℕ) (k : Line) → step s (item i equal i) ≡ Some (wants_list (right l t None p k)) → Ends s (item i equal i ∷ put_name i (small_rest i k))
equal_ends i s l t p k e = step_ends s _ (item i equal i) (put_name i (small_rest i k)) e (list_ends i (right l t None p k) (small_rest i k) (small_grade i k) (λ ms q u f. right_end i k l t None ms q u p f))

source_end : (i : ℕ) (l : Expr) (p : ℕ) (k : Blocks) (q : Expr) (e : ℕ) → Ends (has q e (spot (source l p k))) (spot_rest i (source l p k))
source_end i l p k q e = step_ends _ _ (item i colon i) (put_row i (block_rest i k)) refl (suite_row i (of_for l q p k))

result_end : (i : ℕ) (h : Head) (ps : Members) → Ends (wants_result h ps) (result_rest i h)
result_end i h ps = step_ends _ _ (item i colon i) (put_row i (head_rest i h)) refl (suite_row i (of_def h ps tree.untyped))

spot_ends : (i : ℕ) (k : Spots) (q : Expr) (e : ℕ) → Ends (has q e (spot k)) (spot_rest i k)
spot_ends i (first p k) q e = first_end i k q e p
spot_ends i (annotation l p k) q e = equal_ends i _ l (type_at q) p k refl
spot_ends i (test p k) q e = step_ends _ _ (item i colon i) (put_row i (if_rest i k)) refl (suite_row i (of_if q p k))
spot_ends i (source l p k) q e = source_end i l p k q e
spot_ends i (param_type h ps y n p) q e = step_ends _ _ (item i closing_round i) (result_rest i h) refl (result_end i h _)
spot_ends i (param_default h ps n t p) q e = step_ends _ _ (item i closing_round i) (result_rest i h) refl (result_end i h _)
spot_ends i (result_type h ps) q e = step_ends _ _ (item i colon i) (put_row i (head_rest i h)) refl (suite_row i (of_def h ps (type_at q)))

list_end : (i : ℕ) (k : Lists) (ms : Members) (q : Expr) (e f : ℕ) → Ends (has q e (listed ms f k)) (list_rest i k)
list_end i (left p k) ms q e f = equal_ends i _ (list_of ms q f e) tree.untyped p k refl
list_end i (right l t o p k) ms q e f = right_end i k l t o ms q e p f
list_end i (returned p k) ms q e f = returned_end i k ms q e p f
list_end i (target p k) ms q e f = step_ends _ _ (item i keyword_in i) (put_name i (spot_rest i (source (list_of ms q f e) p k))) refl (by_arriving (whole_name i (spot_stop i (source (list_of ms q f e) p k))) (λ s u. source_end i (list_of ms q f e) p k s u))

list_grade : (i : ℕ) (k : Lists) → level_of (kind_listed k) < first_grade (list_rest i k)
list_grade i (left p k) = omega arith
list_grade i (right l t o p k) = small_grade i k
list_grade i (returned p k) = small_grade i k
list_grade i (target p k) = omega arith

more_end : (i : ℕ) (k : Lists) (ms : Members) (q : Expr) (e f : ℕ) → Ends (has q e (listed ms f k)) (more_rest i k)
more_end i (left p k) ms q e f = list_end i (left p k) ms q e f
more_end i (right l t o p k) ms q e f = list_end i (right l t o p k) ms q e f
more_end i (returned p k) ms q e f = list_end i (returned p k) ms q e f
more_end i (target p k) ms q e f = step_ends _ _ (item i comma i) (put_name i (list_rest i (target p k))) refl (next_ends i (tree.more ms (tree.item q)) f i (target p k) (list_rest i (target p k)) (list_grade i (target p k)) (λ s u. list_end i (target p k) (tree.more ms (tree.item q)) s u f))

pub closing_ends : (i : ℕ) (k : Frames) (q : Expr) (e : ℕ) → Ends (has q e k) (closing i k)
closing_ends i (tail n k) q e = over_tail (closing_stop i k) (closing_ends i k q e)
closing_ends i (inside f k) q e = by_arriving (frame_arrives i f q e k (closing i k) (closing_stop i k)) (λ s u. closing_ends i k s u)
closing_ends i (listed ms p k) q e = more_end i k ms q e p
closing_ends i (spot k) q e = spot_ends i k q e

wants_ends : (i n : ℕ) (k : Frames) {ts : List Item} → NoSuffix ts → Ends (has (name_tree i) i k) ts → Ends (wants n k) (put_name i ts)
wants_ends i zero k {ts} h p = step_ends (wants 0 k) (has (name_tree i) i (tail 0 k)) (name_item i) ts refl (over_tail h p)
wants_ends i (suc n) k {ts} h p = by_reading (goes_up (starts refl (omega arith))) (wants_ends i n (tail (suc n) k) h (over_tail h p))

-- a load
load_end : (i : ℕ) (s : State) (k : Line) (r : Statement) → step s (item i closing_round i) ≡ Some (behind_small r k) → Ends s (item i closing_round i ∷ small_rest i k)
load_end i s k r e = step_ends s _ (item i closing_round i) (small_rest i k) e (small_ends i k r)

name_end : (i : ℕ) (h : Head) (ps : Members) (y : Stars) (n : Name) (p e : ℕ) → Ends (behind_name h ps y n p e) (item i closing_round i ∷ result_rest i h)
name_end i h ps y n p e = step_ends _ _ (item i closing_round i) (result_rest i h) refl (result_end i h _)

opens_end : (i : ℕ) (h : Head) → Ends (def_opens h) (item i opening_round i ∷ item i closing_round i ∷ result_rest i h)
opens_end i h = step_ends _ _ (item i opening_round i) (item i closing_round i ∷ result_rest i h) refl (step_ends _ _ (item i closing_round i) (result_rest i h) refl (result_end i h _))

module_end : (i : ℕ) (p : ℕ) (k : Line) → Ends (load_module p k) (item i (string []) i ∷ item i closing_round i ∷ small_rest i k)
module_end i p k = step_ends _ _ (item i (string []) i) (item i closing_round i ∷ small_rest i k) refl (load_end i _ k _ refl)

-- each state goes on to a program
pub completion_at_ends : (i : ℕ) (s : State) → Ends s (completion_at i s)
completion_at_ends i (wants n k) = wants_ends i n k (closing_stop i k) (closing_ends i k (name_tree i) i)
completion_at_ends i (has q e k) = closing_ends i k q e
completion_at_ends i (stands p k) = by_arriving (point_arrives i p k (closing i k) (closing_stop i k)) (λ q e. closing_ends i k q e)
completion_at_ends i (perhaps_named q ms f n u v k) = step_ends _ _ (item i closing_round i) (closing i k) refl (closing_ends i k _ _)
completion_at_ends i (wants_list k) = list_ends i k (list_rest i k) (list_grade i k) (λ ms q e f. list_end i k ms q e f)
completion_at_ends i (wants_next ms p m k) = next_ends i ms p m k (list_rest i k) (list_grade i k) (λ q e. list_end i k ms q e p)
completion_at_ends i (at_line k e) = line_ends i k e
completion_at_ends i (behind_for l k e) = for_end i l k e
completion_at_ends i (behind_if q s p e k) = from_state (ap bottom (no_else q s p e k (if_rest i k) (no_else_if i k))) (if_ends i k (when q s (stretch p e)) e)
completion_at_ends i (wants_colon k) = step_ends _ _ (item i colon i) (put_row i (suite_rest i k)) refl (suite_row i k)
completion_at_ends i (wants_suite k) = suite_row i k
completion_at_ends i (wants_indent k) = step_ends _ _ (item i indent i) (line_rest i (inner no_statements k)) refl (line_row i k 0)
completion_at_ends i (behind_small s k) = small_ends i k s
completion_at_ends i (wants_small (line done k)) = step_ends _ _ (item i keyword_pass i) (small_rest i (line done k)) refl (small_ends i (line done k) (pass (stretch i i)))
completion_at_ends i (behind_return p e k) = return_end i k p e
completion_at_ends i (load_opens p k) = step_ends _ _ (item i opening_round i) _ refl (module_end i p k)
completion_at_ends i (load_module p k) = module_end i p k
completion_at_ends i (load_named p m k) = load_end i _ k _ refl
completion_at_ends i (load_symbol p m ss k) = load_end i _ k _ refl
completion_at_ends i (load_equal p m ss n k) = step_ends _ _ (item i equal i) _ refl (step_ends _ _ (item i (string []) i) _ refl (load_end i _ k _ refl))
completion_at_ends i (load_other p m ss n k) = step_ends _ _ (item i (string []) i) _ refl (load_end i _ k _ refl)
completion_at_ends i (load_behind p m ss s k) = load_end i _ k _ refl
completion_at_ends i (def_name p k) = step_ends _ _ (name_item i) _ refl (opens_end i (head p (name_at (120 ∷ []) (stretch i i)) k))
completion_at_ends i (def_opens h) = opens_end i h
completion_at_ends i (wants_param h ps) = step_ends _ _ (item i closing_round i) (result_rest i h) refl (result_end i h _)
completion_at_ends i (behind_star h ps p e) = step_ends _ _ (item i closing_round i) (result_rest i h) refl (result_end i h _)
completion_at_ends i (behind_stars h ps p) = step_ends _ _ (name_item i) _ refl (name_end i h ps _ _ _ _)
completion_at_ends i (behind_name h ps y n p e) = name_end i h ps y n p e
completion_at_ends i (behind_param h ps) = step_ends _ _ (item i closing_round i) (result_rest i h) refl (result_end i h _)
completion_at_ends i (wants_result h ps) = result_end i h ps

pub completion_ends : (s : State) → Ends s (completion s)
completion_ends s = completion_at_ends 0 s
