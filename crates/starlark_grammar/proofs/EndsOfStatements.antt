-- The places in a statement begin and end where tokens do.
use Rattle.std.proofs.Common.{ℕ, List}
use Rattle.starlark_place.specs.Place.{Extent}
use Rattle.starlark_grammar.specs.Spans.{stretch}
use Rattle.starlark_lexer.specs.Items.{Item}
use Rattle.starlark_ast.specs.Tree as tree
use Rattle.starlark_ast.specs.Tree.{Annotation, Member, Members, Name, Sequence, Stars, Statement, Symbol, Symbols, statement_place}
use Rattle.starlark_grammar.specs.Nodes.{named, first_begin, block_of}
use Rattle.starlark_grammar.specs.Loads.{OneSymbol, own_name, other_name, SomeSymbols, no_symbol, next_symbol, Load, alone, with_comma, without_comma}
use Rattle.starlark_grammar.specs.Simple.{Small, returns, returns_it, breaks_off, continues, passes, loads, evaluates, assigns, annotates, Smalls, one_small, next_small, Simple, row, row_semicolon}
use Rattle.starlark_grammar.specs.Parameters.{Naming, by_itself, named_behind_star, named_behind_stars, Parameter, a_slash, a_star, a_name, a_type, a_default, a_type_default, SomeParams, no_param, next_param, Parameters, with_last_comma, without_last_comma, Result, untyped, a_result}
use Rattle.starlark_grammar.specs.Grammar.{Lines, no_line, a_line, Stmt, simple, branches, loops, defines, Tail, only, or_else, or_if, Suite, same_line, indented, Statements, nothing, blank, next_stmt, Derives, whole}
use Rattle.starlark_grammar.specs.Ends.{At, MemberAt, MembersAt, BoundAt, AnnotationAt, NameAt, SymbolAt, SymbolsAt, StatementAt, SequenceAt}
use Rattle.starlark_grammar.proofs.EndsOfExpressions.{Known, Gives, Reads, no_parts, a_token, ◌then◌, becomes}
use Rattle.starlark_grammar.proofs.EndsOfExpressions as e

module _ (B : ℕ → Type 0) (nought : B 0) where
  runs : {i j : ℕ} → B i → B j → At B (stretch i j)
  runs h k = e.stretched B nought h k

  -- ---- loads

  pub symbol_at : {n : ℕ} {a b : List Item} {s : Symbol} → OneSymbol a b s → Known B n a → Gives B n a b (SymbolAt B s)
  symbol_at own_name w = becomes (λ p. (runs p.0 p.1, runs p.0 p.1)) (a_token w)
  symbol_at other_name w = becomes (λ p. (runs p.0.0.0 p.0.0.1, runs p.1.0 p.1.1)) (a_token w then a_token then a_token)

  pub symbols_at : {n : ℕ} {a b : List Item} {ss : Symbols} → SomeSymbols a b ss → Known B n a → Gives B n a b (SymbolsAt B ss)
  symbols_at no_symbol w = no_parts w
  symbols_at (next_symbol ds d) w = becomes (λ p. (p.0.0, p.0.1, runs p.1.0 p.1.1)) (symbols_at ds w then symbol_at d then a_token)

  load_at : {n f : ℕ} {a b : List Item} {m : Name} {ss : Symbols} → Load a b m ss f → Known B n a → Gives B n a b (B f × NameAt B m × SymbolsAt B ss)
  load_at alone w = becomes (λ p. (p.1.1, runs p.0.1.0 p.0.1.1, tt)) (a_token w then a_token then a_token)
  load_at (with_comma ds) w = becomes (λ p. (p.1.1, runs p.0.0.0.1.0 p.0.0.0.1.1, p.0.1)) (a_token w then a_token then a_token then symbols_at ds then a_token)
  load_at (without_comma ds d) w = becomes (λ p. (p.1.1, runs p.0.0.0.0.1.0 p.0.0.0.0.1.1, (p.0.0.1, p.0.1, tt))) (a_token w then a_token then a_token then symbols_at ds then symbol_at d then a_token)

  -- ---- small statements

  pub small_at : {n f : ℕ} {a b : List Item} {s : Statement} → Small a b s f → Known B n a → Reads B n a b f (StatementAt B s)
  small_at returns w = becomes (λ p. (p.0, p.1, (runs p.0 p.1, tt))) (a_token w)
  small_at (returns_it d) w = becomes (λ p. (p.0.0, p.1.1, (runs p.0.0 p.1.1, p.1.2))) (a_token w then e.listing_at B nought d)
  small_at breaks_off w = becomes (λ p. (p.0, p.1, runs p.0 p.1)) (a_token w)
  small_at continues w = becomes (λ p. (p.0, p.1, runs p.0 p.1)) (a_token w)
  small_at passes w = becomes (λ p. (p.0, p.1, runs p.0 p.1)) (a_token w)
  small_at (loads d) w = becomes (λ p. (p.0.0, p.1.0, (runs p.0.0 p.1.0, p.1.1, p.1.2))) (a_token w then load_at d)
  small_at (evaluates d) w = becomes (λ p. (p.0, p.1, (runs p.0 p.1, p.2))) (e.level_at B nought d w)
  small_at (assigns {l = x} d h f) w = becomes (λ p. (p.0.0.0, p.1.1, (runs p.0.0.0 p.1.1, e.target_at B nought x p.0.0.2, tt, p.1.2))) (e.listing_at B nought d w then a_token then e.listing_at B nought f)
  small_at (annotates {l = x} {t} d k h f) w =
      becomes (λ p. (p.0.0.0.0.0, p.1.1, (runs p.0.0.0.0.0 p.1.1, e.target_at B nought x p.0.0.0.0.2, e.typed_at B nought t p.0.0.1.2, p.1.2)))
      (e.listing_at B nought d w then a_token then e.level_at B nought k then a_token then e.listing_at B nought f)

  -- ---- statements in a row

  statement_place_at : (s : Statement) → StatementAt B s → At B (statement_place s)
  statement_place_at (tree.break s) h = h
  statement_place_at (tree.continue s) h = h
  statement_place_at (tree.pass s) h = h
  statement_place_at (tree.return x s) h = h.0
  statement_place_at (tree.load m ss s) h = h.0
  statement_place_at (tree.expression x s) h = h.0
  statement_place_at (tree.assign x a o y s) h = h.0
  statement_place_at (tree.when x a s) h = h.0
  statement_place_at (tree.either x a b s) h = h.0
  statement_place_at (tree.repeat x y a s) h = h.0
  statement_place_at (tree.define n ps a b s) h = h.0
  statement_place_at (tree.block ss s) h = h.0

  first_at : (ss : Sequence) → SequenceAt B ss → B (first_begin ss)
  first_at tree.no_statements h = nought
  first_at (tree.add_statement tree.no_statements s) h = (statement_place_at s h.1).0
  first_at (tree.add_statement (tree.add_statement ss r) s) h = first_at (tree.add_statement ss r) h.0

  block_at : (ss : Sequence) (f : ℕ) → B f → SequenceAt B ss → StatementAt B (block_of ss f)
  block_at tree.no_statements f k h = (runs k k, tt)
  block_at (tree.add_statement tree.no_statements s) f k h = h.1
  block_at (tree.add_statement (tree.add_statement ss r) s) f k h = (runs (first_at (tree.add_statement ss r) h.0) k, h)

  pub smalls_at : {n f : ℕ} {a b : List Item} {ss : Sequence} → Smalls a b ss f → Known B n a → Gives B n a b (B f × SequenceAt B ss)
  smalls_at (one_small d) w = becomes (λ p. (p.1, (tt, p.2))) (small_at d w)
  smalls_at (next_small ds d) w = becomes (λ p. (p.1.1, (p.0.0.1, p.1.2))) (smalls_at ds w then a_token then small_at d)

  pub simple_at : {n f : ℕ} {a b : List Item} {s : Statement} → Simple a b s f → Known B n a → Gives B n a b (B f × StatementAt B s)
  simple_at (row {j} {ss} ds) w = becomes (λ p. (p.1.1, block_at ss j p.1.1 p.0.1)) (smalls_at ds w then a_token)
  simple_at (row_semicolon {j} {ss} ds) w = becomes (λ p. (p.1.1, block_at ss j p.1.1 p.0.0.1)) (smalls_at ds w then a_token then a_token)

  -- ---- parameters

  pub naming_at : {n p f : ℕ} {a b : List Item} {k : Stars} {m : Name} → Naming a b k m p f → Known B n a → Gives B n a b (B p × B f × NameAt B m)
  naming_at by_itself w = becomes (λ p. (p.0, p.1, runs p.0 p.1)) (a_token w)
  naming_at named_behind_star w = becomes (λ p. (p.0.0, p.1.1, runs p.1.0 p.1.1)) (a_token w then a_token)
  naming_at named_behind_stars w = becomes (λ p. (p.0.0, p.1.1, runs p.1.0 p.1.1)) (a_token w then a_token)

  named_at : (k : Stars) (m : Name) (t : Annotation) (d : tree.Bound) (s : Extent) → At B s → NameAt B m → AnnotationAt B t → BoundAt B d → MemberAt B (named k m t d s)
  named_at k (tree.name_at m u) t d s a b c h = (a, b, c, h)

  pub parameter_at : {n : ℕ} {a b : List Item} {r : Member} → Parameter a b r → Known B n a → Gives B n a b (MemberAt B r)
  parameter_at a_slash w = becomes (λ p. runs p.0 p.1) (a_token w)
  parameter_at a_star w = becomes (λ p. runs p.0 p.1) (a_token w)
  parameter_at (a_name {k} {n = m} x) w = becomes (λ p. named_at k m _ _ _ (runs p.0 p.1) p.2 tt tt) (naming_at x w)
  parameter_at (a_type {k} {n = m} {t} x d) w = becomes (λ p. named_at k m _ _ _ (runs p.0.0.0 p.1.1) p.0.0.2 (e.typed_at B nought t p.1.2) tt) (naming_at x w then a_token then e.level_at B nought d)
  parameter_at (a_default {n = m} x d) w = becomes (λ p. named_at tree.plain m _ _ _ (runs p.0.0.0 p.1.1) p.0.0.2 tt p.1.2) (naming_at x w then a_token then e.level_at B nought d)
  parameter_at (a_type_default {n = m} {t} x d f) w =
      becomes (λ p. named_at tree.plain m _ _ _ (runs p.0.0.0.0.0 p.1.1) p.0.0.0.0.2 (e.typed_at B nought t p.0.0.1.2) p.1.2) (naming_at x w then a_token then e.level_at B nought d then a_token then e.level_at B nought f)

  pub params_at : {n : ℕ} {a b : List Item} {ps : Members} → SomeParams a b ps → Known B n a → Gives B n a b (MembersAt B ps)
  params_at no_param w = no_parts w
  params_at (next_param ds d) w = becomes (λ p. p.0) (params_at ds w then parameter_at d then a_token)

  pub parameters_at : {n : ℕ} {a b : List Item} {ps : Members} → Parameters a b ps → Known B n a → Gives B n a b (MembersAt B ps)
  parameters_at (with_last_comma ds) w = becomes (λ p. p.0) (params_at ds w then a_token)
  parameters_at (without_last_comma ds d) w = becomes (λ p. p.0) (params_at ds w then parameter_at d then a_token)

  pub result_at : {n : ℕ} {a b : List Item} {t : Annotation} → Result a b t → Known B n a → Gives B n a b (AnnotationAt B t)
  result_at untyped w = becomes (λ p. tt) (a_token w)
  result_at (a_result {t} d) w = becomes (λ p. e.typed_at B nought t p.0.1.2) (a_token w then e.level_at B nought d then a_token)

  -- ---- suites

  pub lines_at : {n : ℕ} {a b : List Item} → Lines a b → Known B n a → Gives B n a b (Unit {0})
  lines_at no_line w = no_parts w
  lines_at (a_line d) w = becomes (λ p. tt) (lines_at d w then a_token)

  mutual
    pub stmt_at : {n f : ℕ} {a b : List Item} {s : Statement} → Stmt a b s f → Known B n a → Gives B n a b (B f × StatementAt B s)
    stmt_at (simple d) w = simple_at d w
    stmt_at (branches d) w = becomes (λ p. p.1 p.0.0) (a_token w then tail_at d)
    stmt_at (loops {l = x} d q s) w =
        becomes (λ p. (p.1.0, (runs p.0.0.0.0.0.0 p.1.0, e.target_at B nought x p.0.0.0.0.1.2, p.0.0.1.2, p.1.1)))
        (a_token w then e.listing_at B nought d then a_token then e.level_at B nought q then a_token then suite_at s)
    stmt_at (defines ps t s) w =
        becomes (λ p. (p.1.0, (runs p.0.0.0.0.0.0 p.1.0, runs p.0.0.0.0.1.0 p.0.0.0.0.1.1, p.0.0.1, p.0.1, p.1.1)))
        (a_token w then a_token then a_token then parameters_at ps then result_at t then suite_at s)

    -- of an `if` or `elif` that begins there
    pub tail_at : {n p f : ℕ} {a b : List Item} {s : Statement} → Tail p a b s f → Known B n a → Gives B n a b (B p → B f × StatementAt B s)
    tail_at (only q s) w = becomes (λ p i. (p.1.0, (runs i p.1.0, p.0.0.2, p.1.1))) (e.level_at B nought q w then a_token then suite_at s)
    tail_at (or_else q s r) w =
        becomes (λ p i. (p.1.0, (runs i p.1.0, p.0.0.0.0.0.2, p.0.0.0.1.1, p.1.1))) (e.level_at B nought q w then a_token then suite_at s then a_token then a_token then suite_at r)
    tail_at (or_if q s d) w =
        becomes (λ p i. let r = p.1 p.0.1.0 in (r.0, (runs i r.0, p.0.0.0.0.2, p.0.0.1.1, r.1))) (e.level_at B nought q w then a_token then suite_at s then a_token then tail_at d)

    pub suite_at : {n f : ℕ} {a b : List Item} {s : Statement} → Suite a b s f → Known B n a → Gives B n a b (B f × StatementAt B s)
    suite_at (same_line d) w = simple_at d w
    suite_at (indented {e = f} {ss} {s = r} ls ds) w = becomes (λ p. (p.1.1, block_at (tree.add_statement ss r) f p.0.1.0 p.0.1.1)) (a_token w then lines_at ls then a_token then statements_at ds then a_token)

    pub statements_at : {n f : ℕ} {a b : List Item} {ss : Sequence} → Statements a b ss f → Known B n a → Gives B n a b (B f × SequenceAt B ss)
    statements_at nothing w = becomes (λ p. (nought, tt)) (no_parts w)
    statements_at (blank ds) w = becomes (λ p. (p.1.1, p.0.1)) (statements_at ds w then a_token)
    statements_at (next_stmt ds d) w = becomes (λ p. (p.1.0, (p.0.1, p.1.1))) (statements_at ds w then stmt_at d)

  -- a whole tree
  pub derived_at : {u : List Item} {raw : Statement} → Derives u raw → Known B 0 u → StatementAt B raw
  derived_at (whole {e = f} {ss} ds) w = let p = (statements_at ds w).is (e.none 0) in block_at ss f p.0 p.1
