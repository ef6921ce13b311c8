-- What the grammar derives the machine accepts, and it meets the marks of the derivation.
use Rattle.std.proofs.Common.{ℕ, ◌≡◌, ◌≤◌, ◌∷◌, ◌∙◌, [], List, Some, refl, ap, sym, subst, arith, length}
use Rattle.starlark_rulebook.specs.Targets.{target_of}
use Rattle.starlark_grammar.specs.Spans.{stretch}
use Rattle.starlark_lexer.specs.Items.{Lexeme, newline, dedent, keyword_def, keyword_elif, keyword_else, keyword_for, keyword_if, comma, closing_round, Item, item}
use Rattle.starlark_ast.specs.Tree as tree
use Rattle.starlark_ast.specs.Tree.{Expr, Member, Members, Name, Sequence, Stars, Statement, add_statement, name_at, no_statements, plain, repeat, when, Annotation}
use Rattle.starlark_grammar.specs.Nodes.{start, named, type_at}
use Rattle.starlark_grammar.specs.Events.{looped, typed}
use Rattle.starlark_grammar.specs.Tables.{beginning}
use Rattle.starlark_grammar.specs.Expressions.{listing}
use Rattle.starlark_grammar.specs.Parameters.{Naming, by_itself, named_behind_star, named_behind_stars, Parameter, a_slash, a_star, a_name, a_type, a_default, a_type_default, SomeParams, no_param, next_param, Parameters, with_last_comma, without_last_comma, Result, untyped, a_result}
use Rattle.starlark_grammar.specs.Grammar.{Lines, no_line, a_line, Stmt, simple, branches, loops, defines, Tail, only, or_else, or_if, Suite, same_line, indented, Statements, nothing, blank, next_stmt, Derives, whole}
use Rattle.starlark_grammar.specs.Marks.{mark, in_parameter, in_params, in_parameters, in_result, in_stmt, in_tail, in_suite, in_statements, marks_in}
use Rattle.starlark_grammar.specs.Frames.{Blocks, outer, inner, Ifs, at_if, at_elif, Suites, of_if, of_else, of_for, of_def, Head, head, at_block, at_suite, line, test, source, param_type, param_default, result_type, target, spot, wants, has, at_line, behind_for, behind_if, wants_suite, wants_indent, wants_small, wants_param, behind_star, behind_name, behind_param, wants_result}
use Rattle.starlark_grammar.specs.Machine.{push, settled, close, step}
use Rattle.starlark_grammar.specs.Runs.{met, Accepts, bottom, marks_of, run, initial}
use Rattle.starlark_grammar.proofs.Steps.{runs_end, at_token, first_grade}
use Rattle.starlark_grammar.proofs.Reading.{Reads, ◌>>◌, quietly, steps, reads, starts, shifts, settles_at}
use Rattle.starlark_grammar.proofs.Smalls.{test_read, is_targets, has_last, list_read, target_ends, SmallFirst, is_return, is_break, is_continue, is_pass, is_load, is_test, simple_starts, begins_none, simple_read}

-- parameters
pub data EndsParam : List Item → Type 0 where
  by_comma : {i j : ℕ} {a : List Item} → EndsParam (item i comma j ∷ a)
  by_closing : {i j : ℕ} {a : List Item} → EndsParam (item i closing_round j ∷ a)

param_grade : {b : List Item} → EndsParam b → 13 ≤ first_grade b
param_grade by_comma = omega arith
param_grade by_closing = omega arith

naming_read : {p e : ℕ} {a b : List Item} {y : Stars} {n : Name} → Naming a b y n p e → (h : Head) (ps : Members) → Reads (wants_param h ps) a (λ l. l) (behind_name h ps y n p e) b
naming_read by_itself h ps = reads refl refl
naming_read named_behind_star h ps = reads refl refl >> reads refl refl
naming_read named_behind_stars h ps = reads refl refl >> reads refl refl

star_ends : {b : List Item} → EndsParam b → (h : Head) (ps : Members) (p e : ℕ) → Reads (behind_star h ps p e) b (λ l. l) (behind_param h (tree.more ps (tree.no_args (stretch p e)))) b
star_ends by_comma h ps p e = shifts refl refl
star_ends by_closing h ps p e = shifts refl refl

name_ends : {b : List Item} → EndsParam b → (h : Head) (ps : Members) (y : Stars) (n : Name) (p e : ℕ) → Reads (behind_name h ps y n p e) b (λ l. l) (behind_param h (tree.more ps (named y n tree.untyped tree.absent (stretch p e)))) b
name_ends by_comma h ps y n p e = shifts refl refl
name_ends by_closing h ps y n p e = shifts refl refl

type_ends : {b : List Item} → EndsParam b → (t : Expr) (e : ℕ) (h : Head) (ps : Members) (y : Stars) (n : Name) (p : ℕ) → Reads (has t e (spot (param_type h ps y n p))) b (λ l. mark (length b) (typed t) ∷ l) (behind_param h (tree.more ps (named y n (type_at t) tree.absent (stretch p e)))) b
type_ends by_comma t e h ps y n p = settles_at refl refl refl
type_ends by_closing t e h ps y n p = settles_at refl refl refl

default_ends : {b : List Item} → EndsParam b → (r : Expr) (e : ℕ) (h : Head) (ps : Members) (n : Name) (t : Annotation) (p : ℕ) → Reads (has r e (spot (param_default h ps n t p))) b (λ l. l) (behind_param h (tree.more ps (named plain n t (tree.present r) (stretch p e)))) b
default_ends by_comma r e h ps n t p = shifts refl refl
default_ends by_closing r e h ps n t p = shifts refl refl

parameter_read : {a b : List Item} {p : Member} (d : Parameter a b p) → EndsParam b → (h : Head) (ps : Members) → Reads (wants_param h ps) a (in_parameter d) (behind_param h (tree.more ps p)) b
parameter_read a_slash w h ps = reads refl refl
parameter_read (a_star {i} {j}) w h ps = reads refl refl >> star_ends w h ps i j
parameter_read (a_name {p} {e} {k} {n} d) w h ps = naming_read d h ps >> name_ends w h ps k n p e
parameter_read (a_type {p} {e} {k} {n} {t} d f) w h ps = naming_read d h ps >> reads refl refl >> test_read f (spot (param_type h ps k n p)) (param_grade w) >> type_ends w t e h ps k n p
parameter_read (a_default {p} {e} {n} {r} d f) w h ps = naming_read d h ps >> reads refl refl >> test_read f (spot (param_default h ps n tree.untyped p)) (param_grade w) >> default_ends w r e h ps n tree.untyped p
parameter_read (a_type_default {p} {e} {n} {t} {r} d f g) w h ps = naming_read d h ps >> reads refl refl >> test_read f (spot (param_type h ps plain n p)) (omega arith) >> steps refl refl >> test_read g (spot (param_default h ps n (type_at t) p)) (param_grade w) >> default_ends w r e h ps n (type_at t) p

params_read : {a b : List Item} {ps : Members} (ds : SomeParams a b ps) → (h : Head) → Reads (wants_param h tree.none) a (in_params ds) (wants_param h ps) b
params_read no_param h = quietly refl
params_read (next_param {ps} ds d) h = params_read ds h >> parameter_read d by_comma h ps >> reads refl refl

parameters_read : {a b : List Item} {ps : Members} (d : Parameters a b ps) → (h : Head) → Reads (wants_param h tree.none) a (in_parameters d) (wants_result h ps) b
parameters_read (with_last_comma ds) h = params_read ds h >> reads refl refl
parameters_read (without_last_comma {ps} ds d) h = params_read ds h >> parameter_read d by_closing h ps >> reads refl refl

result_read : {a b : List Item} {t : Annotation} (d : Result a b t) → (h : Head) (ps : Members) → Reads (wants_result h ps) a (in_result d) (wants_suite (of_def h ps t)) b
result_read untyped h ps = reads refl refl
result_read (a_result d) h ps = reads refl refl >> test_read d (spot (result_type h ps)) (omega arith) >> steps refl refl

-- what may follow a statement: no `else`, no `elif`
abbrev pub NoElseBy : Lexeme → Type 0
NoElseBy keyword_else = ⊥
NoElseBy keyword_elif = ⊥
NoElseBy _ = Unit {0}

abbrev pub NoElse : List Item → Type 0
NoElse [] = Unit {0}
NoElse (x ∷ xs) = NoElseBy x.lexeme

pub no_else : (q : Expr) (s : Statement) (p e : ℕ) (k : Ifs) (ts : List Item) → NoElse ts → run (behind_if q s p e k) ts ≡ run (at_line (settled k (when q s (stretch p e)) e) e) ts
no_else q s p e k ts h = at_token _ _ ts refl refl (λ x xs w. go x.lexeme x.begin x.end (subst NoElse w h))
  where
    go : (y : Lexeme) (i j : ℕ) → NoElseBy y → (step (behind_if q s p e k) (item i y j) ≡ step (at_line (settled k (when q s (stretch p e)) e) e) (item i y j)) × (met (behind_if q s p e k) (Some y) ≡ met (at_line (settled k (when q s (stretch p e)) e) e) (Some y))
    go keyword_else i j h = elim h [ ]
    go keyword_elif i j h = elim h [ ]
    go _ i j h = (refl, refl)

small_no_else : {a : List Item} → SmallFirst a → NoElse a
small_no_else is_return = tt
small_no_else is_break = tt
small_no_else is_continue = tt
small_no_else is_pass = tt
small_no_else is_load = tt
small_no_else (is_test (starts {x} {b} h le)) = go x h
  where
    go : (y : Lexeme) → beginning y ≡ Some b → NoElseBy y
    go keyword_else h = begins_none h
    go keyword_elif h = begins_none h
    go _ h = tt

stmt_starts : {e : ℕ} {a b : List Item} {s : Statement} → Stmt a b s e → NoElse a
stmt_starts (simple d) = small_no_else (simple_starts d)
stmt_starts (branches d) = tt
stmt_starts (loops d q s) = tt
stmt_starts (defines ps t s) = tt

-- small statements at a line's beginning, and in a suite
line_begins : (k : Blocks) (e : ℕ) {ts : List Item} → SmallFirst ts → Reads (at_line k e) ts (λ l. l) (wants_small (line no_statements (at_block k))) ts
line_begins k e is_return = shifts refl refl
line_begins k e is_break = shifts refl refl
line_begins k e is_continue = shifts refl refl
line_begins k e is_pass = shifts refl refl
line_begins k e is_load = shifts refl refl
line_begins k e (is_test (starts {i} {j} {x} {b} h le)) = shifts refl (go x i j h)
  where
    go : (y : Lexeme) (i j : ℕ) → beginning y ≡ Some b → step (at_line k e) (item i y j) ≡ step (wants_small (line no_statements (at_block k))) (item i y j)
    go newline i j h = begins_none h
    go dedent i j h = begins_none h
    go keyword_if i j h = begins_none h
    go keyword_for i j h = begins_none h
    go keyword_def i j h = begins_none h
    go _ i j h = refl

suite_begins : (k : Suites) {ts : List Item} → SmallFirst ts → Reads (wants_suite k) ts (λ l. l) (wants_small (line no_statements (at_suite k))) ts
suite_begins k is_return = shifts refl refl
suite_begins k is_break = shifts refl refl
suite_begins k is_continue = shifts refl refl
suite_begins k is_pass = shifts refl refl
suite_begins k is_load = shifts refl refl
suite_begins k (is_test (starts {i} {j} {x} {b} h le)) = shifts refl (go x i j h)
  where
    go : (y : Lexeme) (i j : ℕ) → beginning y ≡ Some b → step (wants_suite k) (item i y j) ≡ step (wants_small (line no_statements (at_suite k))) (item i y j)
    go newline i j h = begins_none h
    go _ i j h = refl

-- behind a `for` statement
pub for_ends : (l : Expr) (k : Blocks) (e : ℕ) (ts : List Item) → Reads (behind_for l k e) ts (λ m. mark (length ts) (looped l) ∷ m) (at_line k e) ts
for_ends l k e [] = record {
  end = ap bottom (runs_end (behind_for l k e)) ∙ sym (ap bottom (runs_end (at_line k e)));
  marks = ap marks_of (runs_end (behind_for l k e)) ∙ ap (λ v. mark 0 (looped l) ∷ marks_of v) (sym (runs_end (at_line k e)));
}
for_ends l k e (x ∷ xs) = settles_at refl refl refl

lines_read : {a b : List Item} → Lines a b → (k : Suites) → Reads (wants_indent k) a (λ l. l) (wants_indent k) b
lines_read no_line k = quietly refl
lines_read (a_line d) k = lines_read d k >> reads refl refl

-- where statements stand
pub data Home : Type 0 where
  of_module : Home
  of_block : Suites → Home

abbrev pub filled : Home → Sequence → Blocks
filled of_module ss = outer ss
filled (of_block k) ss = inner ss k

push_filled : (p : Home) (ss : Sequence) (s : Statement) → push (filled p ss) s ≡ filled p (add_statement ss s)
push_filled of_module ss s = refl
push_filled (of_block k) ss s = refl

mutual
  pub stmt_read : {e : ℕ} {a b : List Item} {s : Statement} (d : Stmt a b s e) → NoElse b → (k : Blocks) (f : ℕ) → Reads (at_line k f) a (in_stmt d) (at_line (push k s) e) b
  stmt_read (simple d) h k f = line_begins k f (simple_starts d) >> simple_read d (at_block k)
  stmt_read (branches {i} d) h k f = reads refl refl >> tail_read d h (at_if k)
  stmt_read (loops {i} {j} {g = u} {h = v} {e} {a} {b} {z} {l} {q} {s} (listing {e = y} ms) w t) h k f = reads refl refl >> list_read is_targets ms (target i k) refl (omega arith) >> target_ends (has_last is_targets ms) y (start a) i u v k b >> test_read w (spot (source l i k)) (omega arith) >> reads refl refl >> suite_read t (of_for l q i k) >> for_ends l (push k (repeat (target_of l) q s (stretch i e))) e z
  stmt_read (defines {n} {i} {g} {h = u} {ps} {t} ds w v) h k f = reads refl refl >> reads refl refl >> reads refl refl >> parameters_read ds (head i (name_at n (stretch g u)) k) >> result_read w (head i (name_at n (stretch g u)) k) ps >> suite_read v (of_def (head i (name_at n (stretch g u)) k) ps t)

  tail_read : {p e : ℕ} {a b : List Item} {s : Statement} (d : Tail p a b s e) → NoElse b → (k : Ifs) → Reads (wants 12 (spot (test p k))) a (in_tail d) (at_line (settled k s e) e) b
  tail_read (only {p} {e} {c} {q} {s} d t) h k = test_read d (spot (test p k)) (omega arith) >> reads refl refl >> suite_read t (of_if q p k) >> quietly (no_else q s p e k c h)
  tail_read (or_else {p} {q} {s} d t u) h k = test_read d (spot (test p k)) (omega arith) >> reads refl refl >> suite_read t (of_if q p k) >> reads refl refl >> reads refl refl >> suite_read u (of_else q s p k)
  tail_read (or_if {p} {q} {s} d t u) h k = test_read d (spot (test p k)) (omega arith) >> reads refl refl >> suite_read t (of_if q p k) >> reads refl refl >> tail_read u h (at_elif q s p k)

  pub suite_read : {e : ℕ} {a b : List Item} {s : Statement} (d : Suite a b s e) → (k : Suites) → Reads (wants_suite k) a (in_suite d) (close k s e) b
  suite_read (same_line d) k = suite_begins k (simple_starts d) >> simple_read d (at_suite k)
  suite_read (indented l ds) k = reads refl refl >> lines_read l k >> reads refl refl >> statements_read ds tt (of_block k) >> reads refl refl

  pub statements_read : {e : ℕ} {a b : List Item} {ss : Sequence} (ds : Statements a b ss e) → NoElse b → (p : Home) → Reads (at_line (filled p no_statements) 0) a (in_statements ds) (at_line (filled p ss) e) b
  statements_read nothing h p = quietly refl
  statements_read (blank ds) h p = statements_read ds tt p >> reads refl refl
  statements_read (next_stmt {d = f} {e} {a} {c} {ss} {s} ds d) h p = subst (λ k. Reads (at_line (filled p no_statements) 0) a (in_statements (next_stmt ds d)) (at_line k e) c) (push_filled p ss s) (statements_read ds (stmt_starts d) p >> stmt_read d h (filled p ss) f)

-- what is of Module the machine accepts, with that tree, and it meets the derivation's marks
pub complete : (ts : List Item) (raw : Statement) (d : Derives ts raw) → (bottom (run initial ts) ≡ Accepts raw) × (marks_of (run initial ts) ≡ marks_in d)
complete ts raw (whole {e} {ss} ds) =
    let p = statements_read ds tt of_module in
    (p.end ∙ ap bottom (runs_end (at_line (outer ss) e)), p.marks ∙ ap (λ v. in_statements ds (marks_of v)) (runs_end (at_line (outer ss) e)))
