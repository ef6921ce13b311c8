-- The tree of a text is one line or a list of lines, and each statement at its top has a word.
use Rattle.std.proofs.Common.{◌≡◌, ℕ, List, [], ◌∷◌, None, Some, false, refl}
use Rattle.std.specs.Prelude.{IsSome}
use Rattle.std.specs.List.{All}
use Rattle.std.proofs.lemmas.List.Elements.{All-nil, All-cons, All-append}
use Rattle.starlark_lexer.specs.Items.{Item}
use Rattle.starlark_lexer.specs.declared.dialect.Dialect.{Dialect}
use Rattle.starlark_ast.specs.Tree as t
use Rattle.starlark_ast.specs.Tree.{Statement, Sequence}
use Rattle.starlark_rulebook.specs.Kept.{kept_rules}
use Rattle.starlark_rulebook.specs.Late.{at_top_level, expressions_rules, late_rules, sequence_rules, statement_rules}
use Rattle.starlark_grammar.specs.Events.{end_finding}
use Rattle.starlark_grammar.specs.Grammar.{Derives, Statements, Stmt, Tail, whole, nothing, blank, next_stmt, simple, branches, loops, defines, only, or_else, or_if}
use Rattle.starlark_grammar.specs.Nodes.{block_of}
use Rattle.starlark_grammar.specs.Simple.{Simple, Small, Smalls, returns, returns_it, breaks_off, continues, passes, loads, evaluates, assigns, annotates, one_small, next_small, row, row_semicolon}
use Rattle.starlark_grammar.proofs.CleanEnds.{both_empty, first_empty}
use Rattle.starlark_parts.specs.Flat.{AllIn, AreRows, AreWorded, IsFlat, IsRow, is_list}
use Rattle.starlark_parts.specs.Tops.{all_top, top_level, word_of}

abbrev Single : Statement → Type 0
Single s = is_list s ≡ false

single_row : (s : Statement) → is_list s ≡ false → IsRow s
single_row (t.block ss s) h = absurd (cc)
single_row (t.break s) h = tt
single_row (t.continue s) h = tt
single_row (t.pass s) h = tt
single_row (t.return x s) h = tt
single_row (t.load m ss s) h = tt
single_row (t.expression x s) h = tt
single_row (t.assign x a o y s) h = tt
single_row (t.when x a s) h = tt
single_row (t.either x a b s) h = tt
single_row (t.repeat x y a s) h = tt
single_row (t.define n ps a b s) h = tt

singles_rows : (ss : Sequence) → AllIn Single ss → AllIn IsRow ss
singles_rows t.no_statements h = tt
singles_rows (t.add_statement ss a) h = (singles_rows ss h.0, single_row a h.1)

row_rows : (s : Statement) → IsRow s → AreRows s
row_rows (t.block ss s) h = singles_rows ss h
row_rows (t.break s) h = tt
row_rows (t.continue s) h = tt
row_rows (t.pass s) h = tt
row_rows (t.return x s) h = tt
row_rows (t.load m ss s) h = tt
row_rows (t.expression x s) h = tt
row_rows (t.assign x a o y s) h = tt
row_rows (t.when x a s) h = tt
row_rows (t.either x a b s) h = tt
row_rows (t.repeat x y a s) h = tt
row_rows (t.define n ps a b s) h = tt

block_row : (ss : Sequence) (e : ℕ) → AllIn Single ss → IsRow (block_of ss e)
block_row t.no_statements e h = h
block_row (t.add_statement t.no_statements s) e h = single_row s h.1
block_row (t.add_statement (t.add_statement ss r) s) e h = h

block_rows : (ss : Sequence) (e : ℕ) → AllIn IsRow ss → AreRows (block_of ss e)
block_rows t.no_statements e h = h
block_rows (t.add_statement t.no_statements s) e h = row_rows s h.1
block_rows (t.add_statement (t.add_statement ss r) s) e h = h

small : {e : ℕ} {a b : List Item} {s : Statement} → Small a b s e → is_list s ≡ false
small returns = refl
small (returns_it l) = refl
small breaks_off = refl
small continues = refl
small passes = refl
small (loads l) = refl
small (evaluates l) = refl
small (assigns l o r) = refl
small (annotates l y o r) = refl

smalls : {e : ℕ} {a b : List Item} {ss : Sequence} → Smalls a b ss e → AllIn Single ss
smalls (one_small h) = (tt, small h)
smalls (next_small h k) = (smalls h, small k)

line : {e : ℕ} {a b : List Item} {s : Statement} → Simple a b s e → IsRow s
line (row h) = block_row _ _ (smalls h)
line (row_semicolon h) = block_row _ _ (smalls h)

branch : {p e : ℕ} {a b : List Item} {s : Statement} → Tail p a b s e → IsRow s
branch (only q h) = tt
branch (or_else q h k) = tt
branch (or_if q h k) = tt

statement : {e : ℕ} {a b : List Item} {s : Statement} → Stmt a b s e → IsRow s
statement (simple h) = line h
statement (branches h) = branch h
statement (loops l q h) = tt
statement (defines p r h) = tt

statements : {e : ℕ} {a b : List Item} {ss : Sequence} → Statements a b ss e → AllIn IsRow ss
statements nothing = tt
statements (blank h) = statements h
statements (next_stmt h k) = (statements h, statement k)

pub flat : {u : List Item} {tree : Statement} → Derives u tree → IsFlat tree
flat (whole h) = record { rows = block_rows _ _ (statements h) }

-- ---- words

abbrev Worded : Statement → Type 0
Worded s = IsSome (word_of s)

one : (s : Statement) → Worded s → All Worded (s ∷ [])
one s h = All-cons Worded s [] h (All-nil Worded)

mutual
  worded : (d : Dialect) (s : Statement) → statement_rules d at_top_level s ≡ [] → All Worded (top_level s)
  worded d (t.break s) h = absurd (cc)
  worded d (t.continue s) h = absurd (cc)
  worded d (t.return x s) h = absurd (cc)
  worded d (t.pass s) h = one (t.pass s) refl
  worded d (t.load m ss s) h = one (t.load m ss s) refl
  worded d (t.expression x s) h = one (t.expression x s) refl
  worded d (t.assign x a None y s) h = one (t.assign x a None y s) refl
  worded d (t.assign x a (Some o) y s) h = one (t.assign x a (Some o) y s) refl
  worded d (t.when x a s) h = one (t.when x a s) refl
  worded d (t.either x a b s) h = one (t.either x a b s) refl
  worded d (t.repeat x y a s) h = one (t.repeat x y a s) refl
  worded d (t.define n ps a b s) h = one (t.define n ps a b s) refl
  worded d (t.block ss s) h = worded_all d ss h

  worded_all : (d : Dialect) (ss : Sequence) → sequence_rules d at_top_level ss ≡ [] → All Worded (all_top ss)
  worded_all d t.no_statements h = All-nil Worded
  worded_all d (t.add_statement ss a) h = All-append Worded (all_top ss) (top_level a) (worded_all d ss (both_empty (sequence_rules d at_top_level ss) (statement_rules d at_top_level a) h).0) (worded d a (both_empty (sequence_rules d at_top_level ss) (statement_rules d at_top_level a) h).1)

pub are_worded : (d : Dialect) (tree : Statement) → end_finding d tree ≡ None → AreWorded tree
are_worded d tree h =
    let late : late_rules d tree ≡ [] = (first_empty (kept_rules d tree) (late_rules d tree) h).1 in
    record { words = worded d tree (both_empty (statement_rules d at_top_level tree) (expressions_rules d tree) late).0 }
