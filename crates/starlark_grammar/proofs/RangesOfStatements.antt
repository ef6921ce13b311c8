-- The same of statements.
use Rattle.std.proofs.Common.{ℕ, ◌∷◌, [], suc, List, refl, arith, length}
use Rattle.starlark_lexer.specs.Items.{Item}
use Rattle.starlark_ast.specs.Tree as tree
use Rattle.starlark_ast.specs.Tree.{Annotation, Expr, Member, Members, Name, Sequence, Stars, Statement, Symbol, Symbols}
use Rattle.starlark_grammar.specs.Nodes.{type_at}
use Rattle.starlark_grammar.specs.Expressions.{Level}
use Rattle.starlark_grammar.specs.Loads.{OneSymbol, own_name, other_name, SomeSymbols, no_symbol, next_symbol, Load, alone, with_comma, without_comma}
use Rattle.starlark_grammar.specs.Simple.{Small, returns, returns_it, breaks_off, continues, passes, loads, evaluates, assigns, annotates, Smalls, one_small, next_small, Simple, row, row_semicolon}
use Rattle.starlark_grammar.specs.Parameters.{Naming, by_itself, named_behind_star, named_behind_stars, Parameter, a_slash, a_star, a_name, a_type, a_default, a_type_default, SomeParams, no_param, next_param, Parameters, with_last_comma, without_last_comma, Result, untyped, a_result}
use Rattle.starlark_grammar.specs.Grammar.{Lines, no_line, a_line, Stmt, simple, branches, loops, defines, Tail, only, or_else, or_if, Suite, same_line, indented, Statements, nothing, blank, next_stmt, Derives, whole}
use Rattle.starlark_grammar.specs.Events.{typed, assigned, looped}
use Rattle.starlark_grammar.specs.Marks.{mark, in_level, in_symbol, in_symbols, in_load, in_small, in_smalls, in_simple, in_parameter, in_params, in_parameters, in_result, in_stmt, in_tail, in_suite, in_statements, marks_in}
use Rattle.starlark_grammar.proofs.Ranges.{Limits, Laid, Unique, shape_marks, Passes, stays, skips, ◌>>◌, extends, ends_with}
use Rattle.starlark_grammar.proofs.RangesOfExpressions.{Comes, comes, comes_on, then_on, to, level_stands, level_passes, listing_begun, listing_passes}

symbol_comes : {l : Limits} {m : ℕ} {a b : List Item} {s : Symbol} (d : OneSymbol a b s) → Laid l m a → Comes l m b (in_symbol d)
symbol_comes own_name w = comes (skips w)
symbol_comes other_name w = comes (skips w >> (λ y. record { le = omega arith; rest = y; marks = shape_marks _ _ _ }) >> skips >> skips)

symbols_comes : {l : Limits} {m : ℕ} {a b : List Item} {ss : Symbols} (d : SomeSymbols a b ss) → Laid l m a → Comes l m b (in_symbols d)
symbols_comes no_symbol w = comes (stays w)
symbols_comes (next_symbol ds d) w = comes_on (comes_on (symbols_comes ds w) (λ k. symbol_comes d)) (λ k v. comes (skips v))

load_passes : {l : Limits} {m e : ℕ} {a b : List Item} {n : Name} {ss : Symbols} (d : Load a b n ss e) → Laid l m a → Passes l m e b (in_load d)
load_passes alone w = skips w >> skips >> skips
load_passes (with_comma ds) w = then_on (to (skips w >> skips >> skips) (symbols_comes ds)) (λ k. skips)
load_passes (without_comma ds d) w = then_on (comes_on (to (skips w >> skips >> skips) (symbols_comes ds)) (λ k. symbol_comes d)) (λ k. skips)

-- a type, with its mark
type_passes : {l : Limits} {m n e : ℕ} {a b : List Item} {t : Expr} (k : ℕ) (d : Level n a b t e) → Laid l m a → Passes l m e b (λ later. in_level d (mark k (typed t) ∷ later))
type_passes {t} k d w = ends_with k (typed t) refl (level_stands d w).begun

small_passes : {l : Limits} {m e : ℕ} {a b : List Item} {s : Statement} (d : Small a b s e) → Laid l m a → Passes l m e b (in_small d)
small_passes returns w = skips w
small_passes (returns_it d) w = skips w >> listing_passes tt d
small_passes breaks_off w = skips w
small_passes continues w = skips w
small_passes passes w = skips w
small_passes (loads d) w = skips w >> load_passes d
small_passes (evaluates d) w = level_passes d w
small_passes (assigns {o} {c} {l} d h f) w = ends_with (length c) (assigned l tree.untyped o) refl (extends (listing_begun tt d w) (λ y. skips y >> listing_passes tt f))
small_passes (annotates {o} {c} {z} {l} {t} d k h f) w = ends_with (length z) (assigned l (type_at t) o) refl (extends (listing_begun tt d w) (λ y. skips y >> type_passes (suc (length c)) k >> skips >> listing_passes tt f))

smalls_pass : {l : Limits} {m e : ℕ} {a b : List Item} {ss : Sequence} (d : Smalls a b ss e) → Laid l m a → Passes l m e b (in_smalls d)
smalls_pass (one_small d) w = small_passes d w
smalls_pass (next_small ds d) w = smalls_pass ds w >> skips >> small_passes d

simple_passes : {l : Limits} {m e : ℕ} {a b : List Item} {s : Statement} (d : Simple a b s e) → Laid l m a → Passes l m e b (in_simple d)
simple_passes (row ds) w = smalls_pass ds w >> skips
simple_passes (row_semicolon ds) w = smalls_pass ds w >> skips >> skips

naming_passes : {l : Limits} {m p e : ℕ} {a b : List Item} {k : Stars} {n : Name} → Naming a b k n p e → Laid l m a → Passes l m e b (λ later. later)
naming_passes by_itself w = skips w
naming_passes named_behind_star w = skips w >> skips
naming_passes named_behind_stars w = skips w >> skips

parameter_comes : {l : Limits} {m : ℕ} {a b : List Item} {p : Member} (d : Parameter a b p) → Laid l m a → Comes l m b (in_parameter d)
parameter_comes a_slash w = comes (skips w)
parameter_comes a_star w = comes (skips w)
parameter_comes (a_name n) w = comes (naming_passes n w)
parameter_comes (a_type {c} n d) w = comes (naming_passes n w >> skips >> type_passes (length c) d)
parameter_comes (a_default n d) w = comes (naming_passes n w >> skips >> level_passes d)
parameter_comes (a_type_default {c} n d f) w = comes (naming_passes n w >> skips >> type_passes (suc (length c)) d >> skips >> level_passes f)

params_come : {l : Limits} {m : ℕ} {a b : List Item} {ps : Members} (d : SomeParams a b ps) → Laid l m a → Comes l m b (in_params d)
params_come no_param w = comes (stays w)
params_come (next_param ds d) w = comes_on (comes_on (params_come ds w) (λ k. parameter_comes d)) (λ k v. comes (skips v))

parameters_come : {l : Limits} {m : ℕ} {a b : List Item} {ps : Members} (d : Parameters a b ps) → Laid l m a → Comes l m b (in_parameters d)
parameters_come (with_last_comma ds) w = comes_on (params_come ds w) (λ k v. comes (skips v))
parameters_come (without_last_comma ds d) w = comes_on (comes_on (params_come ds w) (λ k. parameter_comes d)) (λ k v. comes (skips v))

result_comes : {l : Limits} {m : ℕ} {a b : List Item} {t : Annotation} (d : Result a b t) → Laid l m a → Comes l m b (in_result d)
result_comes untyped w = comes (skips w)
result_comes (a_result {b} d) w = comes (skips w >> type_passes (suc (length b)) d >> skips)

lines_come : {l : Limits} {m : ℕ} {a b : List Item} → Lines a b → Laid l m a → Comes l m b (λ later. later)
lines_come no_line w = comes (stays w)
lines_come (a_line d) w = comes_on (lines_come d w) (λ k v. comes (skips v))

mutual
  stmt_passes : {l : Limits} {m e : ℕ} {a b : List Item} {s : Statement} (d : Stmt a b s e) → Laid l m a → Passes l m e b (in_stmt d)
  stmt_passes (simple d) w = simple_passes d w
  stmt_passes (branches d) w = skips w >> tail_passes d
  stmt_passes (loops {z} {l} d q s) w = skips w >> (λ v. ends_with (length z) (looped l) refl (extends (listing_begun tt d v) (λ y. skips y >> level_passes q >> skips >> suite_passes s)))
  stmt_passes (defines ps t s) w = then_on (comes_on (to (skips w >> skips >> skips) (parameters_come ps)) (λ k. result_comes t)) (λ k. suite_passes s)

  tail_passes : {l : Limits} {m p e : ℕ} {a b : List Item} {s : Statement} (d : Tail p a b s e) → Laid l m a → Passes l m e b (in_tail d)
  tail_passes (only q s) w = level_passes q w >> skips >> suite_passes s
  tail_passes (or_else q s r) w = level_passes q w >> skips >> suite_passes s >> skips >> skips >> suite_passes r
  tail_passes (or_if q s r) w = level_passes q w >> skips >> suite_passes s >> skips >> tail_passes r

  suite_passes : {l : Limits} {m e : ℕ} {a b : List Item} {s : Statement} (d : Suite a b s e) → Laid l m a → Passes l m e b (in_suite d)
  suite_passes (same_line d) w = simple_passes d w
  suite_passes (indented ls ds) w = then_on (comes_on (to (skips w) (lines_come ls)) (λ k v. to (skips v) (statements_come ds))) (λ k. skips)

  statements_come : {l : Limits} {m e : ℕ} {a b : List Item} {ss : Sequence} (d : Statements a b ss e) → Laid l m a → Comes l m b (in_statements d)
  statements_come nothing w = comes (stays w)
  statements_come (blank ds) w = comes_on (statements_come ds w) (λ k v. comes (skips v))
  statements_come (next_stmt ds d) w = comes_on (statements_come ds w) (λ k v. comes (stmt_passes d v))

-- no two constructs of a derivation begin at one place
pub all_unique : {l : Limits} {m : ℕ} {u : List Item} {raw : Statement} (d : Derives u raw) → Laid l m u → Unique l (marks_in d)
all_unique (whole ds) w = (statements_come ds w).passes.marks.single [] (λ n e c k h. elim h [ ]) (λ n m d e c k h g x y. elim x [ ])
