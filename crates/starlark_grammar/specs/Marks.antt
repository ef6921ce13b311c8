-- What a derivation has besides its tree: the constructs that rules look at, and the places that want a certain token next, each with the number of tokens behind its last token, in the order of their last tokens.
use Rattle.std.specs.Prelude.{ℕ, ◌≡◌, ◌≤◌, ◌⊎◌, ◌∷◌, [], suc, List, Option, Some, None, Bool, length}
use Rattle.starlark_place.specs.Place.{Extent}
use Rattle.starlark_grammar.specs.Spans.{stretch}
use Rattle.starlark_lexer.specs.Items.{Item}
use Rattle.starlark_lexer.specs.declared.dialect.Dialect.{Dialect}
use Rattle.starlark_ast.specs.Tree as tree
use Rattle.starlark_ast.specs.Tree.{Annotation, Expr, Member, Members, Name, Sequence, Statement, Symbol, Symbols}
use Rattle.starlark_grammar.specs.Nodes.{start, targeted, type_at}
use Rattle.starlark_grammar.specs.Events.{Event, after_bang, after_comma, after_symbol, assigned, breaks_at_once, looped, shaped, typed}
use Rattle.starlark_grammar.specs.Tables.{Kind, loose, targets}
use Rattle.starlark_grammar.specs.Expressions as g
use Rattle.starlark_grammar.specs.Expressions.{Listing, listing}
use Rattle.starlark_grammar.specs.Loads.{OneSymbol, own_name, other_name, SomeSymbols, no_symbol, next_symbol, Load, alone, with_comma, without_comma}
use Rattle.starlark_grammar.specs.Simple.{Small, returns, returns_it, breaks_off, continues, passes, loads, evaluates, assigns, annotates, Smalls, one_small, next_small, Simple, row, row_semicolon}
use Rattle.starlark_grammar.specs.Parameters.{Parameter, a_slash, a_star, a_name, a_type, a_default, a_type_default, SomeParams, no_param, next_param, Parameters, with_last_comma, without_last_comma, Result, untyped, a_result}
use Rattle.starlark_grammar.specs.Grammar.{Stmt, simple, branches, loops, defines, Tail, only, or_else, or_if, Suite, same_line, indented, Statements, nothing, blank, next_stmt, Derives, whole}

pub data Mark : Type 0 where
  mark : ℕ → Event → Mark

abbrev pub marked : ℕ → Option Event → List Mark → List Mark
marked n None later = later
marked n (Some e) later = mark n e ∷ later

-- a comma in a list without brackets
abbrev pub comma_mark : Kind → Extent → Option Event
comma_mark loose s = Some (shaped after_comma s)
comma_mark targets s = Some (shaped after_comma s)
comma_mark _ s = None

-- those of a derivation, before later ones
abbrev mutual
  pub in_level : {n e : ℕ} {a b : List Item} {q : tree.Expr} → g.Level n a b q e → List Mark → List Mark
  in_level (g.by_itself h) later = later
  in_level (g.in_brackets h d) later = in_listed d later
  in_level (g.comprehend h p d cs) later = in_member d (in_clauses cs later)
  in_level (g.format h d) later = in_pieces d later
  in_level (g.attribute h d) later = in_level d later
  in_level (g.subscript h d s) later = in_level d (in_subscript s later)
  in_level (g.apply h d ms) later = in_level d (in_listed ms later)
  in_level (g.sign h d) later = in_level d later
  in_level (g.operate h d e) later = in_level d (in_level e later)
  in_level (g.not_in h d e) later = in_level d (in_level e later)
  in_level (g.ternary h d e f) later = in_level d (in_level e (in_level f later))
  in_level (g.abstraction h ms d) later = in_listed ms (in_level d later)
  in_level (g.above d) later = in_level d later

  pub in_member : {n : Kind} {e : ℕ} {a b : List Item} {m : tree.Member} → g.Member n a b m e → List Mark → List Mark
  in_member (g.test d) later = in_level d later
  in_member (g.loose_test d) later = in_level d later
  in_member (g.target d) later = in_level d later
  in_member (g.entry d e) later = in_level d (in_level e later)
  in_member (g.plain d) later = in_level d later
  in_member (g.keyword d) later = in_level d later
  in_member (g.spread d) later = in_level d later
  in_member (g.spread_named d) later = in_level d later
  in_member (g.default d) later = in_level d later
  in_member _ later = later

  pub in_members : {n : Kind} {e : ℕ} {a b : List Item} {ms : tree.Members} → g.Members n a b ms e → List Mark → List Mark
  in_members (g.one d) later = in_member d later
  in_members (g.next {n} {h} {a} {b} d e) later = in_members d (marked (length b) (comma_mark n (stretch (start a) h)) (in_member e later))

  pub in_listed : {n : Kind} {e : ℕ} {a b : List Item} {ms : tree.Members} {t : Bool} → g.Listed n a b ms t e → List Mark → List Mark
  in_listed g.nothing later = later
  in_listed (g.some d) later = in_members d later
  in_listed (g.trailing d) later = in_members d later

  pub in_subscript : {a b : List Item} {s : tree.Subscript} → g.Subscript a b s → List Mark → List Mark
  in_subscript (g.single d) later = in_level d later
  in_subscript (g.double d e) later = in_level d (in_level e later)
  in_subscript (g.slice d e) later = in_bound d (in_bound e later)
  in_subscript (g.slice_step d e f) later = in_bound d (in_bound e (in_bound f later))

  pub in_bound : {a b : List Item} {o : tree.Bound} → g.Bound a b o → List Mark → List Mark
  in_bound g.absent later = later
  in_bound (g.present d) later = in_level d later

  -- the target's rule is looked at behind the clause
  pub in_for : {a b : List Item} {m : tree.Clause} → g.ForClause a b m → List Mark → List Mark
  in_for (g.for_in {d} {a} {c} {ms} ds e) later = in_members ds (in_level e (mark (length c) (looped (targeted ms (stretch (start a) d))) ∷ later))

  pub in_clauses : {a b : List Item} {cs : tree.Clauses} → g.Clauses a b cs → List Mark → List Mark
  in_clauses (g.first d) later = in_for d later
  in_clauses (g.and_for d e) later = in_clauses d (in_for e later)
  in_clauses (g.and_if d e) later = in_clauses d (in_level e later)

  pub in_pieces : {a b : List Item} {f : List ℕ} {ms : tree.Members} → g.Pieces a b f ms → List Mark → List Mark
  in_pieces g.no_piece later = later
  in_pieces (g.text d) later = in_pieces d later
  in_pieces (g.field d e) later = in_pieces d (in_level e later)
  in_pieces (g.converted {g = i} {h = j} {c} d e s) later = in_pieces d (in_level e (mark (suc (suc (length c))) (shaped after_bang (stretch i j)) ∷ later))

abbrev pub in_listing : {n : Kind} {e : ℕ} {a b : List Item} {q : Expr} → Listing n a b q e → List Mark → List Mark
in_listing (listing ms) later = in_members ms later

abbrev pub in_symbol : {a b : List Item} {s : Symbol} → OneSymbol a b s → List Mark → List Mark
in_symbol own_name later = later
in_symbol (other_name {g} {h} {a}) later = mark (suc (suc (length a))) (shaped after_symbol (stretch g h)) ∷ later

abbrev pub in_symbols : {a b : List Item} {ss : Symbols} → SomeSymbols a b ss → List Mark → List Mark
in_symbols no_symbol later = later
in_symbols (next_symbol ds d) later = in_symbols ds (in_symbol d later)

abbrev pub in_load : {e : ℕ} {a b : List Item} {m : Name} {ss : Symbols} → Load a b m ss e → List Mark → List Mark
in_load alone later = later
in_load (with_comma ds) later = in_symbols ds later
in_load (without_comma ds d) later = in_symbols ds (in_symbol d later)

abbrev pub in_small : {e : ℕ} {a b : List Item} {s : Statement} → Small a b s e → List Mark → List Mark
in_small returns later = later
in_small (returns_it d) later = in_listing d later
in_small breaks_off later = later
in_small continues later = later
in_small passes later = later
in_small (loads d) later = in_load d later
in_small (evaluates d) later = in_level d later
in_small (assigns {o} {c} {l} d h f) later = in_listing d (in_listing f (mark (length c) (assigned l tree.untyped o) ∷ later))
in_small (annotates {o} {c} {z} {l} {t} d k h f) later = in_listing d (in_level k (mark (suc (length c)) (typed t) ∷ in_listing f (mark (length z) (assigned l (type_at t) o) ∷ later)))

abbrev pub in_smalls : {e : ℕ} {a b : List Item} {ss : Sequence} → Smalls a b ss e → List Mark → List Mark
in_smalls (one_small d) later = in_small d later
in_smalls (next_small ds d) later = in_smalls ds (in_small d later)

abbrev pub in_simple : {e : ℕ} {a b : List Item} {s : Statement} → Simple a b s e → List Mark → List Mark
in_simple (row ds) later = in_smalls ds later
in_simple (row_semicolon ds) later = in_smalls ds later

abbrev pub in_parameter : {a b : List Item} {p : Member} → Parameter a b p → List Mark → List Mark
in_parameter a_slash later = later
in_parameter a_star later = later
in_parameter (a_name n) later = later
in_parameter (a_type {c} {t} n d) later = in_level d (mark (length c) (typed t) ∷ later)
in_parameter (a_default n d) later = in_level d later
in_parameter (a_type_default {c} {t} n d f) later = in_level d (mark (suc (length c)) (typed t) ∷ in_level f later)

abbrev pub in_params : {a b : List Item} {ps : Members} → SomeParams a b ps → List Mark → List Mark
in_params no_param later = later
in_params (next_param ds d) later = in_params ds (in_parameter d later)

abbrev pub in_parameters : {a b : List Item} {ps : Members} → Parameters a b ps → List Mark → List Mark
in_parameters (with_last_comma ds) later = in_params ds later
in_parameters (without_last_comma ds d) later = in_params ds (in_parameter d later)

abbrev pub in_result : {a b : List Item} {t : Annotation} → Result a b t → List Mark → List Mark
in_result untyped later = later
in_result (a_result {b} {t} d) later = in_level d (mark (suc (length b)) (typed t) ∷ later)

abbrev mutual
  pub in_stmt : {e : ℕ} {a b : List Item} {s : Statement} → Stmt a b s e → List Mark → List Mark
  in_stmt (simple d) later = in_simple d later
  in_stmt (branches d) later = in_tail d later
  in_stmt (loops {z} {l} d q s) later = in_listing d (in_level q (in_suite s (mark (length z) (looped l) ∷ later)))
  in_stmt (defines ps t s) later = in_parameters ps (in_result t (in_suite s later))

  pub in_tail : {p e : ℕ} {a b : List Item} {s : Statement} → Tail p a b s e → List Mark → List Mark
  in_tail (only q s) later = in_level q (in_suite s later)
  in_tail (or_else q s r) later = in_level q (in_suite s (in_suite r later))
  in_tail (or_if q s r) later = in_level q (in_suite s (in_tail r later))

  pub in_suite : {e : ℕ} {a b : List Item} {s : Statement} → Suite a b s e → List Mark → List Mark
  in_suite (same_line d) later = in_simple d later
  in_suite (indented l ds) later = in_statements ds later

  pub in_statements : {e : ℕ} {a b : List Item} {ss : Sequence} → Statements a b ss e → List Mark → List Mark
  in_statements nothing later = later
  in_statements (blank ds) later = in_statements ds later
  in_statements (next_stmt ds d) later = in_statements ds (in_stmt d later)

abbrev pub marks_in : {u : List Item} {raw : Statement} → Derives u raw → List Mark
marks_in (whole ds) = in_statements ds []

abbrev pub Has : Mark → List Mark → Type 0
Has m [] = ⊥
Has m (x ∷ xs) = (m ≡ x) ⊎ Has m xs

-- every construct that breaks a rule has at most so many tokens behind it
abbrev pub Late : Dialect → ℕ → List Mark → Type 0
Late d n [] = Unit {0}
Late d n (mark m e ∷ ms) = ((breaks_at_once d e ≡ None) ⊎ (m ≤ n)) × Late d n ms

-- no construct breaks a rule
abbrev pub Clean : Dialect → List Mark → Type 0
Clean d [] = Unit {0}
Clean d (mark m e ∷ ms) = (breaks_at_once d e ≡ None) × Clean d ms
