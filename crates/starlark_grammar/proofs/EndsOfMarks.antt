-- The constructs of a derivation stand at places that begin and end where tokens do.
use Rattle.std.proofs.Common.{ℕ, ◌≤◌, ◌∷◌, [], suc, inl, inr, List, Bool, length, sym, subst}
use Rattle.starlark_place.specs.Place.{Extent}
use Rattle.starlark_grammar.specs.Spans.{stretch}
use Rattle.starlark_lexer.specs.Items.{Item}
use Rattle.starlark_lexer.specs.declared.dialect.Dialect.{Dialect}
use Rattle.starlark_ast.specs.Tree as tree
use Rattle.starlark_ast.specs.Tree.{Annotation, Expr, Member, Members, Name, Sequence, Statement, Symbol, Symbols}
use Rattle.starlark_grammar.specs.Nodes.{start, targeted, type_at}
use Rattle.starlark_grammar.specs.Events.{Event, after_bang, after_symbol, assigned, looped, shaped, typed, breaks_at_once}
use Rattle.starlark_grammar.specs.Tables.{Kind, tests, pairs, arguments, parameters, loose, targets}
use Rattle.starlark_grammar.specs.Expressions as g
use Rattle.starlark_grammar.specs.Expressions.{Listing, listing}
use Rattle.starlark_grammar.specs.Loads.{OneSymbol, own_name, other_name, SomeSymbols, no_symbol, next_symbol, Load, alone, with_comma, without_comma}
use Rattle.starlark_grammar.specs.Simple.{Small, returns, returns_it, breaks_off, continues, passes, loads, evaluates, assigns, annotates, Smalls, one_small, next_small, Simple, row, row_semicolon}
use Rattle.starlark_grammar.specs.Parameters.{Parameter, a_slash, a_star, a_name, a_type, a_default, a_type_default, SomeParams, no_param, next_param, Parameters, with_last_comma, without_last_comma, Result, untyped, a_result}
use Rattle.starlark_grammar.specs.Grammar.{Stmt, simple, branches, loops, defines, Tail, only, or_else, or_if, Suite, same_line, indented, Statements, nothing, blank, next_stmt, Derives, whole}
use Rattle.starlark_grammar.specs.Marks.{Mark, mark, marked, comma_mark, Has, in_level, in_member, in_members, in_listed, in_subscript, in_bound, in_for, in_clauses, in_pieces, in_listing, in_symbol, in_symbols, in_load, in_small, in_smalls, in_simple, in_parameter, in_params, in_parameters, in_result, in_stmt, in_tail, in_suite, in_statements, marks_in}
use Rattle.starlark_grammar.specs.Ends.{At, ExprAt, AnnotationAt}
use Rattle.starlark_grammar.proofs.EndsOfExpressions.{Known, a_token, ◌then◌}
use Rattle.starlark_grammar.proofs.EndsOfExpressions as e
use Rattle.starlark_grammar.proofs.EndsOfStatements as s
use Rattle.starlark_grammar.proofs.EndsOfRules.{FoundAt}
use Rattle.starlark_grammar.proofs.EndsOfRules as r

abbrev pub EventAt : (ℕ → Type 0) → Event → Type 0
EventAt B (typed x) = ExprAt B x
EventAt B (assigned x t o) = ExprAt B x × AnnotationAt B t
EventAt B (looped x) = ExprAt B x
EventAt B (shaped k u) = At B u

-- a construct that does not end within the last n tokens
abbrev pub MarkAt : (ℕ → Type 0) → ℕ → Mark → Type 0
MarkAt B n (mark m x) = n ≤ m → EventAt B x

abbrev pub MarksAt : (ℕ → Type 0) → ℕ → List Mark → Type 0
MarksAt B n [] = Unit {0}
MarksAt B n (m ∷ ms) = MarkAt B n m × MarksAt B n ms

pub has_at : (B : ℕ → Type 0) (n m : ℕ) (x : Event) (ms : List Mark) → MarksAt B n ms → Has (mark m x) ms → n ≤ m → EventAt B x
has_at B n m x [] h k = absurd k
has_at B n m x (y ∷ ms) h (inl q) = subst (MarkAt B n) (sym q) h.0
has_at B n m x (y ∷ ms) h (inr q) = has_at B n m x ms h.1 q

-- marks that are put before others
record Adds (B : ℕ → Type 0) (n : ℕ) (f : List Mark → List Mark) : Type 0 where
  adds : (later : List Mark) → MarksAt B n later → MarksAt B n (f later)

module _ {B : ℕ → Type 0} {n : ℕ} where
  no_marks : Adds B n (λ later. later)
  no_marks = record { adds = λ later h. h }

  one_mark : (m : ℕ) (x : Event) → (n ≤ m → EventAt B x) → Adds B n (λ later. mark m x ∷ later)
  one_mark m x f = record { adds = λ later h. (f, h) }

  infixr 5 ◌and◌
  ◌and◌ : {f g : List Mark → List Mark} → Adds B n f → Adds B n g → Adds B n (λ later. f (g later))
  ◌and◌ {f} {g} p q = record { adds = λ later h. p.adds (g later) (q.adds later h) }

module _ (B : ℕ → Type 0) (nought : B 0) where
  runs : {i j : ℕ} → B i → B j → At B (stretch i j)
  runs h k = e.stretched B nought h k

  comma_marked : {n : ℕ} (k : Kind) (m : ℕ) (u : Extent) → (n ≤ m → At B u) → Adds B n (marked m (comma_mark k u))
  comma_marked loose m u h = one_mark m _ h
  comma_marked targets m u h = one_mark m _ h
  comma_marked tests m u h = no_marks
  comma_marked pairs m u h = no_marks
  comma_marked arguments m u h = no_marks
  comma_marked parameters m u h = no_marks

  -- ---- expressions

  mutual
    level_marks : {n m f : ℕ} {a b : List Item} {q : Expr} (d : g.Level m a b q f) → Known B n a → Adds B n (in_level d)
    level_marks (g.by_itself h) w = no_marks
    level_marks (g.in_brackets h d) w = listed_marks d w.1
    level_marks (g.comprehend h p d cs) w = member_marks d w.1 and clauses_marks cs (e.member_at B nought d w.1).rest
    level_marks (g.format h d) w = pieces_marks d w.1
    level_marks (g.attribute h d) w = level_marks d w
    level_marks (g.subscript h d b) w = level_marks d w and subscript_marks b (e.level_at B nought d w).rest.1
    level_marks (g.apply h d ms) w = level_marks d w and listed_marks ms (e.level_at B nought d w).rest.1
    level_marks (g.sign h d) w = level_marks d w.1
    level_marks (g.operate h d f) w = level_marks d w and level_marks f (e.level_at B nought d w).rest.1
    level_marks (g.not_in h d f) w = level_marks d w and level_marks f (e.level_at B nought d w).rest.1.1
    level_marks (g.ternary h d f k) w = let v = (e.level_at B nought d w).rest.1 in level_marks d w and level_marks f v and level_marks k (e.level_at B nought f v).rest.1
    level_marks (g.abstraction h ms d) w = listed_marks ms w.1 and level_marks d (e.listed_at B nought ms w.1).rest.1
    level_marks (g.above d) w = level_marks d w

    member_marks : {n f : ℕ} {k : Kind} {a b : List Item} {m : tree.Member} (d : g.Member k a b m f) → Known B n a → Adds B n (in_member d)
    member_marks (g.test d) w = level_marks d w
    member_marks (g.loose_test d) w = level_marks d w
    member_marks (g.target d) w = level_marks d w
    member_marks (g.entry d f) w = level_marks d w and level_marks f (e.level_at B nought d w).rest.1
    member_marks (g.plain d) w = level_marks d w
    member_marks (g.keyword d) w = level_marks d w.1.1
    member_marks (g.spread d) w = level_marks d w.1
    member_marks (g.spread_named d) w = level_marks d w.1
    member_marks g.lone_slash w = no_marks
    member_marks g.lone_star w = no_marks
    member_marks g.star_name w = no_marks
    member_marks g.stars_name w = no_marks
    member_marks g.parameter w = no_marks
    member_marks (g.default d) w = level_marks d w.1.1

    members_marks : {n f : ℕ} {k : Kind} {a b : List Item} {ms : tree.Members} (d : g.Members k a b ms f) → Known B n a → Adds B n (in_members d)
    members_marks (g.one d) w = member_marks d w
    members_marks (g.next {n = k} {h} {a} {b} d f) w =
        let p = e.members_at B nought d w then a_token in
        members_marks d w and comma_marked k (length b) (stretch (start a) h) (λ le. let q = p.is le in runs q.0.0 q.1.1) and member_marks f p.rest

    listed_marks : {n f : ℕ} {k : Kind} {a b : List Item} {ms : tree.Members} {t : Bool} (d : g.Listed k a b ms t f) → Known B n a → Adds B n (in_listed d)
    listed_marks g.nothing w = no_marks
    listed_marks (g.some d) w = members_marks d w
    listed_marks (g.trailing d) w = members_marks d w

    subscript_marks : {n : ℕ} {a b : List Item} {u : tree.Subscript} (d : g.Subscript a b u) → Known B n a → Adds B n (in_subscript d)
    subscript_marks (g.single d) w = level_marks d w
    subscript_marks (g.double d f) w = level_marks d w and level_marks f (e.level_at B nought d w).rest.1
    subscript_marks (g.slice d f) w = bound_marks d w and bound_marks f (e.bound_at B nought d w).rest.1
    subscript_marks (g.slice_step d f k) w = let v = (e.bound_at B nought d w).rest.1 in bound_marks d w and bound_marks f v and bound_marks k (e.bound_at B nought f v).rest.1

    bound_marks : {n : ℕ} {a b : List Item} {o : tree.Bound} (d : g.Bound a b o) → Known B n a → Adds B n (in_bound d)
    bound_marks g.absent w = no_marks
    bound_marks (g.present d) w = level_marks d w

    for_marks : {n : ℕ} {a b : List Item} {c : tree.Clause} (d : g.ForClause a b c) → Known B n a → Adds B n (in_for d)
    for_marks (g.for_in {d} {a} {c} {ms} ds f) w =
        let p = e.members_at B nought ds w.1 then a_token in
        members_marks ds w.1 and level_marks f p.rest and one_mark (length c) (looped (targeted ms (stretch (start a) d))) (λ le. let q = ((p then e.level_at B nought f).is le).0.0 in e.targeted_at B nought ms _ (runs q.0 q.1) q.2)

    clauses_marks : {n : ℕ} {a b : List Item} {cs : tree.Clauses} (d : g.Clauses a b cs) → Known B n a → Adds B n (in_clauses d)
    clauses_marks (g.first d) w = for_marks d w
    clauses_marks (g.and_for d f) w = clauses_marks d w and for_marks f (e.clauses_at B nought d w).rest
    clauses_marks (g.and_if d f) w = clauses_marks d w and level_marks f (e.clauses_at B nought d w).rest.1

    pieces_marks : {n : ℕ} {a b : List Item} {u : List ℕ} {ms : tree.Members} (d : g.Pieces a b u ms) → Known B n a → Adds B n (in_pieces d)
    pieces_marks g.no_piece w = no_marks
    pieces_marks (g.text d) w = pieces_marks d w
    pieces_marks (g.field d f) w = pieces_marks d w and level_marks f (e.pieces_at B nought d w).rest.1
    pieces_marks (g.converted {g = i} {h = j} {c} d f x) w =
        let v = (e.pieces_at B nought d w).rest.1 in
        pieces_marks d w and level_marks f v and one_mark (suc (suc (length c))) (shaped after_bang (stretch i j)) (λ le. let q = (e.level_at B nought f v).rest.0 le in runs q.0 q.1)

  listing_marks : {n f : ℕ} {k : Kind} {a b : List Item} {q : Expr} (d : Listing k a b q f) → Known B n a → Adds B n (in_listing d)
  listing_marks (listing ms) w = members_marks ms w

  -- ---- statements on a line

  symbol_marks : {n : ℕ} {a b : List Item} {u : Symbol} (d : OneSymbol a b u) → Known B n a → Adds B n (in_symbol d)
  symbol_marks own_name w = no_marks
  symbol_marks (other_name {g = i} {h = j} {a}) w = one_mark (suc (suc (length a))) (shaped after_symbol (stretch i j)) (λ le. let q = w.0 le in runs q.0 q.1)

  symbols_marks : {n : ℕ} {a b : List Item} {ss : Symbols} (d : SomeSymbols a b ss) → Known B n a → Adds B n (in_symbols d)
  symbols_marks no_symbol w = no_marks
  symbols_marks (next_symbol ds d) w = symbols_marks ds w and symbol_marks d (s.symbols_at B nought ds w).rest

  load_marks : {n f : ℕ} {a b : List Item} {m : Name} {ss : Symbols} (d : Load a b m ss f) → Known B n a → Adds B n (in_load d)
  load_marks alone w = no_marks
  load_marks (with_comma ds) w = symbols_marks ds w.1.1.1
  load_marks (without_comma ds d) w = symbols_marks ds w.1.1.1 and symbol_marks d (s.symbols_at B nought ds w.1.1.1).rest

  small_marks : {n f : ℕ} {a b : List Item} {u : Statement} (d : Small a b u f) → Known B n a → Adds B n (in_small d)
  small_marks returns w = no_marks
  small_marks (returns_it d) w = listing_marks d w.1
  small_marks breaks_off w = no_marks
  small_marks continues w = no_marks
  small_marks passes w = no_marks
  small_marks (loads d) w = load_marks d w.1
  small_marks (evaluates d) w = level_marks d w
  small_marks (assigns {o} {c} {l} d h f) w =
      let p = e.listing_at B nought d w then a_token in
      listing_marks d w and listing_marks f p.rest and one_mark (length c) (assigned l tree.untyped o) (λ le. (((p then e.listing_at B nought f).is le).0.0.2, tt))
  small_marks (annotates {o} {c} {z} {l} {t} d k h f) w =
      let p = e.listing_at B nought d w then a_token in
      let q = p then e.level_at B nought k in
      let v = q.rest.1 in
      listing_marks d w and level_marks k p.rest and one_mark (suc (length c)) (typed t) (λ le. (q.is le).1.2) and listing_marks f v
      and one_mark (length z) (assigned l (type_at t) o) (λ le. let x = ((q then a_token then e.listing_at B nought f).is le).0.0 in (x.0.0.2, e.typed_at B nought t x.1.2))

  smalls_marks : {n f : ℕ} {a b : List Item} {ss : Sequence} (d : Smalls a b ss f) → Known B n a → Adds B n (in_smalls d)
  smalls_marks (one_small d) w = small_marks d w
  smalls_marks (next_small ds d) w = smalls_marks ds w and small_marks d (s.smalls_at B nought ds w).rest.1

  simple_marks : {n f : ℕ} {a b : List Item} {u : Statement} (d : Simple a b u f) → Known B n a → Adds B n (in_simple d)
  simple_marks (row ds) w = smalls_marks ds w
  simple_marks (row_semicolon ds) w = smalls_marks ds w

  -- ---- parameters

  parameter_marks : {n : ℕ} {a b : List Item} {u : Member} (d : Parameter a b u) → Known B n a → Adds B n (in_parameter d)
  parameter_marks a_slash w = no_marks
  parameter_marks a_star w = no_marks
  parameter_marks (a_name x) w = no_marks
  parameter_marks (a_type {c} {t} x d) w = let v = (s.naming_at B nought x w).rest.1 in level_marks d v and one_mark (length c) (typed t) (λ le. ((e.level_at B nought d v).is le).2)
  parameter_marks (a_default x d) w = level_marks d (s.naming_at B nought x w).rest.1
  parameter_marks (a_type_default {c} {t} x d f) w =
      let p = e.level_at B nought d (s.naming_at B nought x w).rest.1 in level_marks d (s.naming_at B nought x w).rest.1 and one_mark (suc (length c)) (typed t) (λ le. (p.is le).2) and level_marks f p.rest.1

  params_marks : {n : ℕ} {a b : List Item} {ps : Members} (d : SomeParams a b ps) → Known B n a → Adds B n (in_params d)
  params_marks no_param w = no_marks
  params_marks (next_param ds d) w = params_marks ds w and parameter_marks d (s.params_at B nought ds w).rest

  parameters_marks : {n : ℕ} {a b : List Item} {ps : Members} (d : Parameters a b ps) → Known B n a → Adds B n (in_parameters d)
  parameters_marks (with_last_comma ds) w = params_marks ds w
  parameters_marks (without_last_comma ds d) w = params_marks ds w and parameter_marks d (s.params_at B nought ds w).rest

  result_marks : {n : ℕ} {a b : List Item} {t : Annotation} (d : Result a b t) → Known B n a → Adds B n (in_result d)
  result_marks untyped w = no_marks
  result_marks (a_result {b} {t} d) w = level_marks d w.1 and one_mark (suc (length b)) (typed t) (λ le. ((e.level_at B nought d w.1).is le).2)

  -- ---- suites

  mutual
    stmt_marks : {n f : ℕ} {a b : List Item} {u : Statement} (d : Stmt a b u f) → Known B n a → Adds B n (in_stmt d)
    stmt_marks (simple d) w = simple_marks d w
    stmt_marks (branches d) w = tail_marks d w.1
    stmt_marks (loops {z} {l} d q u) w =
        let p = e.listing_at B nought d w.1 then a_token in
        let k = p then e.level_at B nought q then a_token in
        listing_marks d w.1 and level_marks q p.rest and suite_marks u k.rest and one_mark (length z) (looped l) (λ le. ((k then s.suite_at B nought u).is le).0.0.0.0.2)
    stmt_marks (defines ps t u) w =
        let p = s.parameters_at B nought ps w.1.1.1 in parameters_marks ps w.1.1.1 and result_marks t p.rest and suite_marks u (s.result_at B nought t p.rest).rest

    tail_marks : {n p f : ℕ} {a b : List Item} {u : Statement} (d : Tail p a b u f) → Known B n a → Adds B n (in_tail d)
    tail_marks (only q u) w = level_marks q w and suite_marks u (e.level_at B nought q w).rest.1
    tail_marks (or_else q u r) w =
        let v = (e.level_at B nought q w).rest.1 in level_marks q w and suite_marks u v and suite_marks r (s.suite_at B nought u v).rest.1.1
    tail_marks (or_if q u d) w =
        let v = (e.level_at B nought q w).rest.1 in level_marks q w and suite_marks u v and tail_marks d (s.suite_at B nought u v).rest.1

    suite_marks : {n f : ℕ} {a b : List Item} {u : Statement} (d : Suite a b u f) → Known B n a → Adds B n (in_suite d)
    suite_marks (same_line d) w = simple_marks d w
    suite_marks (indented ls ds) w = statements_marks ds (s.lines_at B nought ls w.1).rest.1

    statements_marks : {n f : ℕ} {a b : List Item} {ss : Sequence} (d : Statements a b ss f) → Known B n a → Adds B n (in_statements d)
    statements_marks nothing w = no_marks
    statements_marks (blank ds) w = statements_marks ds w
    statements_marks (next_stmt ds d) w = statements_marks ds w and stmt_marks d (s.statements_at B nought ds w).rest

  pub marks_at : (n : ℕ) {u : List Item} {raw : Statement} (d : Derives u raw) → Known B n u → MarksAt B n (marks_in d)
  marks_at n (whole ds) w = (statements_marks ds w).adds [] tt

  -- what a construct breaks at once
  pub at_once_at : (d : Dialect) (x : Event) → EventAt B x → FoundAt B (breaks_at_once d x)
  at_once_at d (typed x) h = r.type_fault_at B nought d x h
  at_once_at d (assigned x t o) h = r.assignment_fault_at B nought x t o h.0 h.1
  at_once_at d (looped x) h = r.target_fault_at B nought x h
  at_once_at d (shaped k u) h = tt
