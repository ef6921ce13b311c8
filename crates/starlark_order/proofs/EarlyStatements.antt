-- The same of statements.
use Rattle.std.proofs.Common.{ℕ, ◌<◌, ◌++◌, List, refl}
use Rattle.starlark_place.specs.Place.{Extent}
use Rattle.starlark_lexer.specs.Items.{Item}
use Rattle.starlark_ast.specs.Tree as tree
use Rattle.starlark_ast.specs.Tree.{Annotation, Bound, Member, Members, Name, Sequence, Stars, Statement, Symbol, Symbols, statement_place}
use Rattle.starlark_grammar.specs.Nodes.{named, first_begin, block_of}
use Rattle.starlark_grammar.specs.Loads.{OneSymbol, own_name, other_name, SomeSymbols, no_symbol, next_symbol, Load, alone, with_comma, without_comma}
use Rattle.starlark_grammar.specs.Simple.{Small, returns, returns_it, breaks_off, continues, passes, loads, evaluates, assigns, annotates, Smalls, one_small, next_small, Simple, row, row_semicolon}
use Rattle.starlark_grammar.specs.Parameters.{Naming, by_itself, named_behind_star, named_behind_stars, Parameter, a_slash, a_star, a_name, a_type, a_default, a_type_default, SomeParams, no_param, next_param, Parameters, with_last_comma, without_last_comma, Result, untyped, a_result}
use Rattle.starlark_grammar.specs.Grammar.{Lines, no_line, a_line, Stmt, simple, branches, loops, defines, Tail, only, or_else, or_if, Suite, same_line, indented, Statements, nothing, blank, next_stmt, Derives, whole}
use Rattle.starlark_order.specs.Beginnings.{member_begins, members_begin, bound_begins, annotation_begins, name_begins, symbol_begins, symbols_begin, statement_begins, sequence_begins, tree_begins}
use Rattle.starlark_order.proofs.Early.{Early, no_more, and_more, ◌with◌, first_of, left_of, AreEarly, behind_token, Gives, becomes, ◌then◌, token, past, nothing_read}
use Rattle.starlark_order.proofs.EarlyExpressions.{target_early, typed_early, level_early, listing_early}

-- ---- loads

symbol_early : {n : ℕ} {a b : List Item} {s : Symbol} → OneSymbol a b s → AreEarly n a → Gives n b (Early n (symbol_begins s))
symbol_early own_name w = becomes (λ p. and_more p (and_more p no_more)) (token refl w)
symbol_early other_name w = becomes (λ p. and_more p.0 (and_more p.1 no_more)) (past (token refl w) then token refl)

symbols_early : {n : ℕ} {a b : List Item} {ss : Symbols} → SomeSymbols a b ss → AreEarly n a → Gives n b (Early n (symbols_begin ss))
symbols_early no_symbol w = nothing_read w
symbols_early (next_symbol ds d) w = becomes (λ p. p.0.0 with p.0.1 with and_more p.1 no_more) (symbols_early ds w then symbol_early d then token refl)

load_early : {n f : ℕ} {a b : List Item} {m : Name} {ss : Symbols} → Load a b m ss f → AreEarly n a → Gives n b (Early n (name_begins m ++ symbols_begin ss))
load_early alone w = becomes (λ p. and_more p no_more) (past (token refl (behind_token w)))
load_early (with_comma ds) w = becomes (λ p. and_more p.0 p.1) (past (past (token refl (behind_token w)) then symbols_early ds))
load_early (without_comma ds d) w = becomes (λ p. and_more p.0.0 (p.0.1 with p.1 with no_more)) (past (past (token refl (behind_token w)) then symbols_early ds then symbol_early d))

-- ---- statements on one line

small_early : {n f : ℕ} {a b : List Item} {s : Statement} → Small a b s f → AreEarly n a → Gives n b (Early n (statement_begins s))
small_early returns w = becomes (λ p. and_more p no_more) (token refl w)
small_early (returns_it d) w = becomes (λ p. and_more p.0 p.1.1) (token refl w then listing_early d)
small_early breaks_off w = becomes (λ p. and_more p no_more) (token refl w)
small_early continues w = becomes (λ p. and_more p no_more) (token refl w)
small_early passes w = becomes (λ p. and_more p no_more) (token refl w)
small_early (loads d) w = becomes (λ p. and_more p.0 p.1) (token refl w then load_early d)
small_early (evaluates d) w = becomes (λ p. and_more p.0 p.1) (level_early d w)
small_early (assigns {l = x} d h f) w = becomes (λ p. and_more p.0.0 (target_early x p.0.1 with no_more with p.1.1)) (past (listing_early d w) then listing_early f)
small_early (annotates {l = x} {t} d k h f) w = becomes (λ p. and_more p.0.0.0 (target_early x p.0.0.1 with typed_early t p.0.1.1 with p.1.1)) (past (past (listing_early d w) then level_early k) then listing_early f)

-- a statement begins before its parts
first_place : {n : ℕ} (s : Statement) → Early n (statement_begins s) → (statement_place s).begin < n
first_place (tree.block ss s) h = first_of h
first_place _ h = first_of h

first_early : {n : ℕ} (ss : Sequence) (s : Statement) → Early n (sequence_begins (tree.add_statement ss s)) → first_begin (tree.add_statement ss s) < n
first_early tree.no_statements s h = first_place s h
first_early (tree.add_statement ss r) s h = first_early ss r (left_of (sequence_begins (tree.add_statement ss r)) (statement_begins s) h)

-- statements in a row begin where the first of them does
block_early : {n : ℕ} (ss : Sequence) (s : Statement) (e : ℕ) → Early n (sequence_begins (tree.add_statement ss s)) → Early n (statement_begins (block_of (tree.add_statement ss s) e))
block_early tree.no_statements s e h = h
block_early (tree.add_statement ss r) s e h = and_more (first_early ss r (left_of (sequence_begins (tree.add_statement ss r)) (statement_begins s) h)) h

smalls_early : {n f : ℕ} {a b : List Item} {ss : Sequence} → Smalls a b ss f → AreEarly n a → Gives n b (Early n (sequence_begins ss))
smalls_early (one_small d) w = small_early d w
smalls_early (next_small ds d) w = becomes (λ p. p.0 with p.1) (past (smalls_early ds w) then small_early d)

row_early : {n f : ℕ} {a b : List Item} {ss : Sequence} → Smalls a b ss f → (e : ℕ) → Early n (sequence_begins ss) → Early n (statement_begins (block_of ss e))
row_early (one_small {s} d) e h = block_early tree.no_statements s e h
row_early (next_small {ss} {s} ds d) e h = block_early ss s e h

simple_early : {n f : ℕ} {a b : List Item} {s : Statement} → Simple a b s f → AreEarly n a → Gives n b (Early n (statement_begins s))
simple_early (row {j} ds) w = becomes (row_early ds j) (past (smalls_early ds w))
simple_early (row_semicolon {j} ds) w = becomes (row_early ds j) (past (past (smalls_early ds w)))

-- ---- parameters

naming_early : {n p f : ℕ} {a b : List Item} {k : Stars} {m : Name} → Naming a b k m p f → AreEarly n a → Gives n b ((p < n) × Early n (name_begins m))
naming_early by_itself w = becomes (λ p. (p, and_more p no_more)) (token refl w)
naming_early named_behind_star w = becomes (λ p. (p.0, and_more p.1 no_more)) (token refl w then token refl)
naming_early named_behind_stars w = becomes (λ p. (p.0, and_more p.1 no_more)) (token refl w then token refl)

named_early : {n : ℕ} (k : Stars) (m : Name) (t : Annotation) (d : Bound) (s : Extent) → s.begin < n → Early n (name_begins m) → Early n (annotation_begins t) → Early n (bound_begins d) → Early n (member_begins (named k m t d s))
named_early k (tree.name_at m u) t d s a b c h = and_more a (and_more (first_of b) (c with h))

parameter_early : {n : ℕ} {a b : List Item} {r : Member} → Parameter a b r → AreEarly n a → Gives n b (Early n (member_begins r))
parameter_early a_slash w = becomes (λ p. and_more p no_more) (token refl w)
parameter_early a_star w = becomes (λ p. and_more p no_more) (token refl w)
parameter_early (a_name {k} {n = m} x) w = becomes (λ p. named_early k m _ _ _ p.0 p.1 no_more no_more) (naming_early x w)
parameter_early (a_type {k} {n = m} {t} x d) w = becomes (λ p. named_early k m _ _ _ p.0.0 p.0.1 (typed_early t p.1.1) no_more) (past (naming_early x w) then level_early d)
parameter_early (a_default {n = m} x d) w = becomes (λ p. named_early tree.plain m _ _ _ p.0.0 p.0.1 no_more p.1.1) (past (naming_early x w) then level_early d)
parameter_early (a_type_default {n = m} {t} x d f) w = becomes (λ p. named_early tree.plain m _ _ _ p.0.0.0 p.0.0.1 (typed_early t p.0.1.1) p.1.1) (past (past (naming_early x w) then level_early d) then level_early f)

params_early : {n : ℕ} {a b : List Item} {ps : Members} → SomeParams a b ps → AreEarly n a → Gives n b (Early n (members_begin ps))
params_early no_param w = nothing_read w
params_early (next_param ds d) w = becomes (λ p. p.0 with p.1) (past (params_early ds w then parameter_early d))

parameters_early : {n : ℕ} {a b : List Item} {ps : Members} → Parameters a b ps → AreEarly n a → Gives n b (Early n (members_begin ps))
parameters_early (with_last_comma ds) w = past (params_early ds w)
parameters_early (without_last_comma ds d) w = becomes (λ p. p.0 with p.1) (past (params_early ds w then parameter_early d))

result_early : {n : ℕ} {a b : List Item} {t : Annotation} → Result a b t → AreEarly n a → Gives n b (Early n (annotation_begins t))
result_early untyped w = past (nothing_read w)
result_early (a_result {t} d) w = becomes (λ p. typed_early t p.1) (past (level_early d (behind_token w)))

-- ---- suites

lines_read : {n : ℕ} {a b : List Item} → Lines a b → AreEarly n a → AreEarly n b
lines_read no_line w = w
lines_read (a_line d) w = behind_token (lines_read d w)

mutual
  stmt_early : {n f : ℕ} {a b : List Item} {s : Statement} → Stmt a b s f → AreEarly n a → Gives n b (Early n (statement_begins s))
  stmt_early (simple d) w = simple_early d w
  stmt_early (branches d) w = becomes (λ p. p.1 p.0) (token refl w then tail_early d)
  stmt_early (loops {l = x} d q s) w =
      becomes (λ p. and_more p.0.0.0 (target_early x p.0.0.1.1 with p.0.1.1 with p.1))
      (past (past (token refl w then listing_early d) then level_early q) then suite_early s)
  stmt_early (defines ps t s) w =
      becomes (λ p. and_more p.0.0.0.0 (and_more p.0.0.0.1 (p.0.0.1 with p.0.1 with p.1)))
      (past (token refl w then token refl) then parameters_early ps then result_early t then suite_early s)

  -- of an `if` or `elif` that begins there
  tail_early : {n p f : ℕ} {a b : List Item} {s : Statement} → Tail p a b s f → AreEarly n a → Gives n b (p < n → Early n (statement_begins s))
  tail_early (only q s) w = becomes (λ p i. and_more i (p.0.1 with p.1)) (past (level_early q w) then suite_early s)
  tail_early (or_else q s r) w = becomes (λ p i. and_more i (p.0.0.1 with p.0.1 with p.1)) (past (past (past (level_early q w) then suite_early s)) then suite_early r)
  tail_early (or_if q s d) w = becomes (λ p i. and_more i (p.0.0.0.1 with p.0.0.1 with p.1 p.0.1)) (past (level_early q w) then suite_early s then token refl then tail_early d)

  suite_early : {n f : ℕ} {a b : List Item} {s : Statement} → Suite a b s f → AreEarly n a → Gives n b (Early n (statement_begins s))
  suite_early (same_line d) w = simple_early d w
  suite_early (indented {e} {ss} {s} ls ds) w = becomes (block_early ss s e) (past (statements_early ds (behind_token (lines_read ls (behind_token w)))))

  statements_early : {n f : ℕ} {a b : List Item} {ss : Sequence} → Statements a b ss f → AreEarly n a → Gives n b (Early n (sequence_begins ss))
  statements_early nothing w = nothing_read w
  statements_early (blank ds) w = past (statements_early ds w)
  statements_early (next_stmt ds d) w = becomes (λ p. p.0 with p.1) (statements_early ds w then stmt_early d)

-- ---- a whole tree

alone_early : {n : ℕ} (s : Statement) → Early n (statement_begins s) → Early n (tree_begins s)
alone_early (tree.block ss s) (and_more k h) = h
alone_early _ h = h

all_early : {n : ℕ} (ss : Sequence) (e : ℕ) → Early n (sequence_begins ss) → Early n (tree_begins (block_of ss e))
all_early tree.no_statements e h = h
all_early (tree.add_statement tree.no_statements s) e h = alone_early s h
all_early (tree.add_statement (tree.add_statement ss r) s) e h = h

pub derived_early : {n : ℕ} {u : List Item} {raw : Statement} → Derives u raw → AreEarly n u → Early n (tree_begins raw)
derived_early (whole {e} {ss} ds) w = all_early ss e (statements_early ds w).is
