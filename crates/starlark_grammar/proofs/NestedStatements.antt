-- The places in statements lie in one another.
use Rattle.std.proofs.Common.{ℕ, ◌≡◌, ◌≤◌, ◌∷◌, [], List, refl, sym, subst, arith}
use Rattle.starlark_place.specs.Place.{Extent}
use Rattle.starlark_grammar.specs.Spans.{stretch}
use Rattle.starlark_lexer.specs.Items.{Lexeme, Item, item}
use Rattle.starlark_ast.specs.Tree as tree
use Rattle.starlark_ast.specs.Tree.{Annotation, Expr, Member, Members, Name, Sequence, Stars, Statement, Symbol, Symbols, statement_place}
use Rattle.starlark_grammar.specs.Nodes.{type_at, named, first_begin, block_of}
use Rattle.starlark_grammar.specs.Loads.{OneSymbol, own_name, other_name, SomeSymbols, no_symbol, next_symbol, Load, alone, with_comma, without_comma}
use Rattle.starlark_grammar.specs.Simple.{Small, returns, returns_it, breaks_off, continues, passes, loads, evaluates, assigns, annotates, Smalls, one_small, next_small, Simple, row, row_semicolon}
use Rattle.starlark_grammar.specs.Parameters.{Naming, by_itself, named_behind_star, named_behind_stars, Parameter, a_slash, a_star, a_name, a_type, a_default, a_type_default, SomeParams, no_param, next_param, Parameters, with_last_comma, without_last_comma, Result, untyped, a_result}
use Rattle.starlark_grammar.specs.Grammar.{Lines, no_line, a_line, Stmt, simple, branches, loops, defines, Tail, only, or_else, or_if, Suite, same_line, indented, Statements, nothing, blank, next_stmt, Derives, whole}
use Rattle.starlark_grammar.specs.Nested.{Lies, ExprIn, NameIn, SymbolsIn, SymbolIn, AnnotationIn, BoundIn, MemberIn, StatementIn, InnerStatement, SequenceIn}
use Rattle.starlark_grammar.proofs.Ranges.{Limits, Laid, no_tokens, a_token}
use Rattle.starlark_grammar.proofs.NestedExpressions.{Gives, Ends, ends, no_parts, a_place, ◌then◌, ◌on◌, becomes, behind, before, closed, prefix, tight, from_first, itself, AreIn, first_of, level_in, listing_in, listing_first, target_lies, target_in}

symbol_in : {l : Limits} {m : ℕ} {a b : List Item} {s : Symbol} (d : OneSymbol a b s) → Laid l m a → Ends l m b (λ o. SymbolIn o s)
symbol_in own_name w = ends (becomes (λ o p. (p, p)) (a_place w))
symbol_in other_name w = ends (a_place w then (λ v. behind v a_place))

symbols_in : {l : Limits} {m : ℕ} {a b : List Item} {ss : Symbols} (d : SomeSymbols a b ss) → Laid l m a → Ends l m b (λ o. SymbolsIn o ss)
symbols_in no_symbol w = ends (no_parts w)
symbols_in (next_symbol ds d) w = ends (becomes (λ o p. (p.0.0, p.0.1, p.1)) ((symbols_in ds w on (λ k. symbol_in d)).gives then a_place))

load_in : {l : Limits} {m e : ℕ} {a b : List Item} {n : Name} {ss : Symbols} (d : Load a b n ss e) → Laid l m a → Gives l m e b (λ o. NameIn o n × SymbolsIn o ss)
load_in alone w = becomes (λ o p. (p, tt)) (behind w (λ v. before (a_place v)))
load_in (with_comma ds) w = behind w (λ v. closed (ends (before (a_place v)) on (λ k. symbols_in ds)))
load_in (without_comma ds d) w = becomes (λ o p. (p.0.0, (p.0.1, p.1, tt))) (behind w (λ v. closed (ends (before (a_place v)) on (λ k. symbols_in ds) on (λ k. symbol_in d))))

typed_in : {o : Extent} (t : Expr) → ExprIn o t → AnnotationIn o (type_at t)
typed_in t p = (p.0, itself p.0, p.1)

abbrev IsStatement : Statement → Extent → Type 0
IsStatement s o = StatementIn o s

small_in : {l : Limits} {m e : ℕ} {a b : List Item} {s : Statement} (d : Small a b s e) → Laid l m a → Gives l m e b (IsStatement s)
small_in returns w = becomes (λ o p. (p, tt)) (a_place w)
small_in (returns_it d) w = becomes (λ o p. (p.0, p.2)) (prefix w (listing_in tt d))
small_in breaks_off w = becomes (λ o p. (p, tt)) (a_place w)
small_in continues w = becomes (λ o p. (p, tt)) (a_place w)
small_in passes w = becomes (λ o p. (p, tt)) (a_place w)
small_in (loads d) w = becomes (λ o p. (p.0, p.2)) (prefix w (load_in d))
small_in (evaluates d) w = from_first (first_of d w) (level_in d (tight w))
small_in (assigns {l = x} d h f) w = becomes (λ o p. (p.0, ((target_lies x p.1.0.0, target_in x p.1.0.1), tt, p.1.1))) (from_first (listing_first tt d w) (before (listing_in tt d (tight w)) then listing_in tt f))
small_in (annotates {l = x} {t} d k h f) w = becomes (λ o p. (p.0, ((target_lies x p.1.0.0.0, target_in x p.1.0.0.1), typed_in t p.1.0.1, p.1.1))) (from_first (listing_first tt d w) (before (before (listing_in tt d (tight w)) then level_in k) then listing_in tt f))

-- ---- statements in a row: none, or some from the first one's begin to e

data Rows (l : Limits) (m : ℕ) (b : List Item) : Sequence → ℕ → Type 0 where
  no_rows : {k e : ℕ} → m ≤ k → e ≤ k → Laid l k b → Rows l m b tree.no_statements e
  some_rows : {ss : Sequence} {s : Statement} {e : ℕ} → m ≤ first_begin (tree.add_statement ss s) → first_begin (tree.add_statement ss s) ≤ e → Laid l e b → ((o : Extent) → o.begin ≤ first_begin (tree.add_statement ss s) → e ≤ o.end → SequenceIn o (tree.add_statement ss s)) → Rows l m b (tree.add_statement ss s) e

skip_row : {l : Limits} {m i j e : ℕ} {x : Lexeme} {b : List Item} {ss : Sequence} → Rows l m (item i x j ∷ b) ss e → Rows l m b ss j
skip_row (no_rows u v (a_token x y z h)) = no_rows (omega (arith, u, x, y)) (omega arith) h
skip_row (some_rows u v (a_token x y z h) f) = some_rows u (omega (arith, v, x, y)) h (λ o p q. f o p (omega (arith, x, y, q)))

add_row : {l : Limits} {m d e : ℕ} {b c : List Item} {ss : Sequence} (s : Statement) → Rows l m b ss d → ((k : ℕ) → Laid l k b → Gives l k e c (IsStatement s)) → Rows l m c (tree.add_statement ss s) e
add_row {l} {m} {e} {c} s (no_rows {k} u v w) f = go (f k w)
  where
    go : Gives l k e c (IsStatement s) → Rows l m c (tree.add_statement tree.no_statements s) e
    go r =
        let a = r.le in
        let x = r.inside (stretch k e) (omega arith) (omega arith) in
        let y = x.0.from in
        let z = x.0.runs in
        let t = x.0.to in
        some_rows (omega (arith, u, y)) (omega (arith, z, t)) r.rest (λ o p q. (tt, record { from = p; runs = z; to = omega (arith, t, q) }, x.1))
add_row {l} {m} {d} {e} {c} s (some_rows {ss} {s = n} u v w h) f = go (f d w)
  where
    go : Gives l d e c (IsStatement s) → Rows l m c (tree.add_statement (tree.add_statement ss n) s) e
    go r =
        let a = r.le in
        let x = r.inside (stretch d e) (omega arith) (omega arith) in
        let y = x.0.from in
        let z = x.0.runs in
        let t = x.0.to in
        some_rows u (omega (arith, v, a)) r.rest (λ o p q. (h o p (omega (arith, a, q)), record { from = omega (arith, p, v, y); runs = z; to = omega (arith, t, q) }, x.1))

rows_block : {l : Limits} {m e : ℕ} {b : List Item} {ss : Sequence} {s : Statement} → Rows l m b (tree.add_statement ss s) e → Gives l m e b (IsStatement (block_of (tree.add_statement ss s) e))
rows_block {e} {s} (some_rows {ss = tree.no_statements} u v w h) =
    let x = h (stretch (statement_place s).begin e) (omega arith) (omega arith) in
    let y = x.1.runs in
    let z = x.1.to in
    record { le = omega (arith, u, v); rest = w; inside = λ o p q. (record { from = omega (arith, p, u); runs = y; to = omega (arith, z, q) }, x.2) }
rows_block {e} (some_rows {ss = tree.add_statement ss n} u v w h) = record { le = omega (arith, u, v); rest = w; inside = λ o p q. (record { from = omega (arith, p, u); runs = omega (arith, v); to = omega (arith, v, q) }, h (stretch (first_begin (tree.add_statement ss n)) e) (omega arith) (omega arith)) }

smalls_in : {l : Limits} {m e : ℕ} {a b : List Item} {ss : Sequence} (d : Smalls a b ss e) → Laid l m a → Rows l m b ss e
smalls_in (one_small {s} d) w = add_row s (no_rows {e = 0} (omega arith) (omega arith) w) (λ k. small_in d)
smalls_in (next_small {s} ds d) w = add_row s (skip_row (smalls_in ds w)) (λ k. small_in d)

simple_in : {l : Limits} {m e : ℕ} {a b : List Item} {s : Statement} (d : Simple a b s e) → Laid l m a → Gives l m e b (IsStatement s)
simple_in (row (one_small d)) w = rows_block (skip_row (smalls_in (one_small d) w))
simple_in (row (next_small ds d)) w = rows_block (skip_row (smalls_in (next_small ds d) w))
simple_in (row_semicolon (one_small d)) w = rows_block (skip_row (skip_row (smalls_in (one_small d) w)))
simple_in (row_semicolon (next_small ds d)) w = rows_block (skip_row (skip_row (smalls_in (next_small ds d) w)))

-- ---- parameters

record IsNamed (l : Limits) (m p e : ℕ) (b : List Item) (n : Name) : Type 0 where
  low : m ≤ p
  runs : p ≤ e
  rest : Laid l e b
  inside : (o : Extent) → o.begin ≤ p → e ≤ o.end → NameIn o n

naming_in : {l : Limits} {m p e : ℕ} {a b : List Item} {k : Stars} {n : Name} → Naming a b k n p e → Laid l m a → IsNamed l m p e b n
naming_in by_itself (a_token u v w h) = record { low = u; runs = v; rest = h; inside = λ o y z. record { from = y; runs = omega (arith, v); to = omega (arith, v, z) } }
naming_in named_behind_star (a_token u v w (a_token x y z h)) = record { low = u; runs = omega (arith, v, x, y); rest = h; inside = λ o s t. record { from = omega (arith, s, v, x); runs = omega (arith, y); to = omega (arith, y, t) } }
naming_in named_behind_stars (a_token u v w (a_token x y z h)) = record { low = u; runs = omega (arith, v, x, y); rest = h; inside = λ o s t. record { from = omega (arith, s, v, x); runs = omega (arith, y); to = omega (arith, y, t) } }

named_and : {l : Limits} {m p d e : ℕ} {b c : List Item} {P : Extent → Type 0} (n : Name) → IsNamed l m p d b n → (Laid l d b → Gives l d e c P) → Gives l m e c (λ o. Lies o (stretch p e) × NameIn (stretch p e) n × P (stretch p e))
named_and {l} {m} {p} {d} {e} {c} {P} n x f = go x.low x.runs (f x.rest)
  where
    go : m ≤ p → p ≤ d → Gives l d e c P → Gives l m e c (λ o. Lies o (stretch p e) × NameIn (stretch p e) n × P (stretch p e))
    go u v r = let a = r.le in record { le = omega (arith, u, v, a); rest = r.rest; inside = λ o y z. (record { from = omega (arith, u, y); runs = omega (arith, v, a); to = omega (arith, v, a, z) }, x.inside (stretch p e) (omega arith) (omega (arith, a)), r.inside (stretch p e) v (omega arith)) }

named_in : (k : Stars) (n : Name) (t : Annotation) (d : tree.Bound) (s o : Extent) → Lies o s → NameIn s n → AnnotationIn s t → BoundIn s d → MemberIn o (named k n t d s)
named_in k (tree.name_at n u) t d s o a b c h = (a, b, c, h)

parameter_in : {l : Limits} {m : ℕ} {a b : List Item} {p : Member} (d : Parameter a b p) → Laid l m a → Ends l m b (λ o. MemberIn o p)
parameter_in a_slash w = ends (a_place w)
parameter_in a_star w = ends (a_place w)
parameter_in (a_name {k} {n} x) w = ends (becomes (λ o p. named_in k n _ _ _ o p.0 p.1 tt tt) (named_and n (naming_in x w) no_parts))
parameter_in (a_type {k} {n} {t} x d) w = ends (becomes (λ o p. named_in k n _ _ _ o p.0 p.1 (typed_in t p.2) tt) (named_and n (naming_in x w) (λ v. behind v (level_in d))))
parameter_in (a_default {n} x d) w = ends (becomes (λ o p. named_in tree.plain n _ _ _ o p.0 p.1 tt p.2) (named_and n (naming_in x w) (λ v. behind v (level_in d))))
parameter_in (a_type_default {n} {t} x d f) w = ends (becomes (λ o p. named_in tree.plain n _ _ _ o p.0 p.1 (typed_in t p.2.0) p.2.1) (named_and n (naming_in x w) (λ v. behind v (λ y. before (level_in d y) then level_in f))))

params_in : {l : Limits} {m : ℕ} {a b : List Item} {ps : Members} (d : SomeParams a b ps) → Laid l m a → Ends l m b (AreIn ps)
params_in no_param w = ends (no_parts w)
params_in (next_param ds d) w = ends (closed (params_in ds w on (λ k. parameter_in d)))

parameters_in : {l : Limits} {m : ℕ} {a b : List Item} {ps : Members} (d : Parameters a b ps) → Laid l m a → Ends l m b (AreIn ps)
parameters_in (with_last_comma ds) w = ends (closed (params_in ds w))
parameters_in (without_last_comma ds d) w = ends (closed (params_in ds w on (λ k. parameter_in d)))

result_in : {l : Limits} {m : ℕ} {a b : List Item} {t : Annotation} (d : Result a b t) → Laid l m a → Ends l m b (λ o. AnnotationIn o t)
result_in untyped w = ends (becomes (λ o p. tt) (a_place w))
result_in (a_result {t} d) w = ends (becomes (λ o p. typed_in t p) (behind w (λ v. before (level_in d v))))

lines_in : {l : Limits} {m : ℕ} {a b : List Item} → Lines a b → Laid l m a → Ends l m b (λ o. Unit {0})
lines_in no_line w = ends (no_parts w)
lines_in (a_line d) w = ends (closed (lines_in d w))

-- ---- suites

-- an `if` or `elif` that begins at p, before its test
record IsTail (l : Limits) (p m e : ℕ) (b : List Item) (s : Statement) : Type 0 where
  le : m ≤ e
  rest : Laid l e b
  placed : statement_place s ≡ stretch p e
  inner : InnerStatement s

tailed : {l : Limits} {m i j e : ℕ} {x : Lexeme} {b c : List Item} (s : Statement) → Laid l m (item i x j ∷ b) → (i ≤ j → Laid l j b → IsTail l i j e c s) → Gives l m e c (IsStatement s)
tailed {l} {m} {i} {j} {e} {c} s (a_token u v w h) f = go (f v h)
  where
    go : IsTail l i j e c s → Gives l m e c (IsStatement s)
    go r = let k = r.le in record { le = omega (arith, u, v, k); rest = r.rest; inside = λ o y z. (subst (Lies o) (sym r.placed) (record { from = omega (arith, u, y); runs = omega (arith, v, k); to = omega (arith, v, k, z) }), r.inner) }

mutual
  stmt_in : {l : Limits} {m e : ℕ} {a b : List Item} {s : Statement} (d : Stmt a b s e) → Laid l m a → Gives l m e b (IsStatement s)
  stmt_in (simple d) w = simple_in d w
  stmt_in (branches {s} d) w = tailed s w (λ p y. tail_in d p y)
  stmt_in (loops {l = x} d q s) w = becomes (λ o p. (p.0, ((target_lies x p.2.0.0.0, target_in x p.2.0.0.1), p.2.0.1, p.2.1.0, p.2.1.1))) (prefix w (λ v. before (before (listing_in tt d v) then level_in q) then suite_in s))
  stmt_in (defines ps t s) w = becomes (λ o p. (p.0, (p.2.0.0.0, p.2.0.0.1, p.2.0.1, p.2.1.0, p.2.1.1))) (prefix w (λ v. (ends (before (a_place v)) on (λ k. parameters_in ps) on (λ k. result_in t)).gives then suite_in s))

  tail_in : {l : Limits} {m p e : ℕ} {a b : List Item} {s : Statement} (d : Tail p a b s e) → p ≤ m → Laid l m a → IsTail l p m e b s
  tail_in {p} {e} (only q s) h w =
      let r = before (level_in q w) then suite_in s in
      let x = r.inside (stretch p e) h (omega arith) in
      record { le = r.le; rest = r.rest; placed = refl; inner = (x.0, x.1.0, x.1.1) }
  tail_in {p} {e} (or_else q s t) h w =
      let r = before (before (before (level_in q w) then suite_in s)) then suite_in t in
      let x = r.inside (stretch p e) h (omega arith) in
      record { le = r.le; rest = r.rest; placed = refl; inner = (x.0.0, x.0.1.0, x.0.1.1, x.1.0, x.1.1) }
  tail_in {p} {e} (or_if {r = t} q s d) h w =
      let r = before (level_in q w) then suite_in s then (λ v. tailed t v (λ y z. tail_in d y z)) in
      let x = r.inside (stretch p e) h (omega arith) in
      record { le = r.le; rest = r.rest; placed = refl; inner = (x.0.0, x.0.1.0, x.0.1.1, x.1.0, x.1.1) }

  suite_in : {l : Limits} {m e : ℕ} {a b : List Item} {s : Statement} (d : Suite a b s e) → Laid l m a → Gives l m e b (IsStatement s)
  suite_in (same_line d) w = simple_in d w
  suite_in (indented ls ds) w = becomes (λ o p. p.1) (behind w (λ v. closed (lines_in ls v) then (λ y. before (rows_block (statements_in ds y)))))

  statements_in : {l : Limits} {m e : ℕ} {a b : List Item} {ss : Sequence} (d : Statements a b ss e) → Laid l m a → Rows l m b ss e
  statements_in nothing w = no_rows (omega arith) (omega arith) w
  statements_in (blank ds) w = skip_row (statements_in ds w)
  statements_in (next_stmt {s} ds d) w = add_row s (statements_in ds w) (λ k v. stmt_in d v)

-- a whole tree
module_in : {l : Limits} {e : ℕ} {ss : Sequence} → Rows l 0 [] ss e → StatementIn (stretch 0 l.last) (block_of ss e)
module_in (no_rows u v (no_tokens h)) = (record { from = omega arith; runs = omega arith; to = omega (arith, v, h) }, tt)
module_in {l} (some_rows u v (no_tokens h) f) = (rows_block {l = l} (some_rows u v (no_tokens h) f)).inside _ (omega arith) (omega (arith, h))

pub derived_in : {l : Limits} {u : List Item} {raw : Statement} → Derives u raw → Laid l 0 u → StatementIn (stretch 0 l.last) raw
derived_in (whole ds) w = module_in (statements_in ds w)
