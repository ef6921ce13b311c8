-- The statements at the top of a derivation begin one behind the other.
use Rattle.std.proofs.Common.{ℕ, ◌≡◌, ◌<◌, ◌≤◌, ◌∷◌, ◌++◌, [], suc, List, length, refl, subst, arith}
use Rattle.std.specs.Prelude.{slice_index}
use Rattle.starlark_lexer.specs.Items.{Lexeme, Item, item}
use Rattle.starlark_ast.specs.Tree as tree
use Rattle.starlark_ast.specs.Tree.{Annotation, Member, Members, Name, Sequence, Stars, Statement, Symbol, Symbols, statement_place}
use Rattle.starlark_grammar.specs.Nodes.{start, block_of}
use Rattle.starlark_grammar.specs.Loads.{OneSymbol, own_name, other_name, SomeSymbols, no_symbol, next_symbol, Load, alone, with_comma, without_comma}
use Rattle.starlark_grammar.specs.Simple.{Small, returns, returns_it, breaks_off, continues, passes, loads, evaluates, assigns, annotates, Smalls, one_small, next_small, Simple, row, row_semicolon}
use Rattle.starlark_grammar.specs.Parameters.{Naming, by_itself, named_behind_star, named_behind_stars, Parameter, a_slash, a_star, a_name, a_type, a_default, a_type_default, SomeParams, no_param, next_param, Parameters, with_last_comma, without_last_comma, Result, untyped, a_result}
use Rattle.starlark_grammar.specs.Grammar.{Lines, no_line, a_line, Stmt, simple, branches, loops, defines, Tail, only, or_else, or_if, Suite, same_line, indented, Statements, nothing, blank, next_stmt, Derives, whole}
use Rattle.starlark_parts.specs.Tops.{top_level, all_top}
use Rattle.starlark_order.proofs.Tokens.{Laid, no_tokens, Passes, Begun, stays, skips, ◌>>◌, extends, leads}
use Rattle.starlark_order.proofs.Expressions.{level_begun, level_passes, listing_begun, listing_passes}

-- statements begin one behind the other, from a place on and before the other one, each at an ASCII byte
pub data Rising (text : List ℕ) (end : ℕ) : ℕ → List Statement → Type 0 where
  no_more : {m : ℕ} → m ≤ end → Rising text end m []
  and_more : {m : ℕ} {s : Statement} {ss : List Statement} → m ≤ (statement_place s).begin → slice_index text (statement_place s).begin < 128 → Rising text end (suc (statement_place s).begin) ss → Rising text end m (s ∷ ss)

-- tokens were read, which hold these statements
pub record Holds (text : List ℕ) (m : ℕ) (ss : List Statement) (b : List Item) : Type 0 where
  pub end : ℕ
  pub rising : Rising text end m ss
  pub rest : Laid text end b

pub sooner : {text : List ℕ} {end m k : ℕ} {ss : List Statement} → k ≤ m → Rising text end m ss → Rising text end k ss
sooner h (no_more u) = no_more (omega (arith, h, u))
sooner h (and_more u a r) = and_more (omega (arith, h, u)) a r

wider : {text : List ℕ} {end last m : ℕ} {ss : List Statement} → end ≤ last → Rising text end m ss → Rising text last m ss
wider h (no_more u) = no_more (omega (arith, h, u))
wider h (and_more u a r) = and_more u a (wider h r)

joined : {text : List ℕ} {end last m : ℕ} {ss ts : List Statement} → Rising text end m ss → Rising text last end ts → Rising text last m (ss ++ ts)
joined (no_more u) q = sooner u q
joined (and_more u a r) q = and_more u a (joined r q)

pub ordered : {text : List ℕ} {end m : ℕ} {ss : List Statement} → Rising text end m ss → m ≤ end
ordered (no_more u) = u
ordered (and_more u a r) = let v = ordered r in omega (arith, u, v)

-- one statement, which begins with the first of the tokens
single : {text : List ℕ} {m : ℕ} {a b : List Item} (s : Statement) → start a ≡ (statement_place s).begin → Begun text m a b → Holds text m (s ∷ []) b
single {text} s e p =
    let u = p.from in
    let v = p.firm in
    record { end = p.end; rising = and_more (omega (arith, e, u)) (subst (λ i. slice_index text i < 128) e p.first) (no_more (omega (arith, e, v))); rest = p.rest }

over : {text : List ℕ} {m : ℕ} {ss : List Statement} {b : List Item} → Holds text m ss b → Passes text m b
over p = record { end = p.end; far = ordered p.rising; rest = p.rest }

goes_on : {text : List ℕ} {m : ℕ} {ss : List Statement} {b c : List Item} (p : Holds text m ss b) → (Laid text p.end b → Passes text p.end c) → Holds text m ss c
goes_on p q = let r = q p.rest in record { end = r.end; rising = wider r.far p.rising; rest = r.rest }

and_then : {text : List ℕ} {m : ℕ} {ss ts : List Statement} {b c : List Item} (p : Holds text m ss b) → (Laid text p.end b → Holds text p.end ts c) → Holds text m (ss ++ ts) c
and_then p q = let r = q p.rest in record { end = r.end; rising = joined p.rising r.rising; rest = r.rest }

-- ---- what stands in statements

symbol_passes : {text : List ℕ} {m : ℕ} {a b : List Item} {s : Symbol} → OneSymbol a b s → Laid text m a → Passes text m b
symbol_passes own_name w = skips w
symbol_passes other_name w = skips w >> skips >> skips

symbols_pass : {text : List ℕ} {m : ℕ} {a b : List Item} {ss : Symbols} → SomeSymbols a b ss → Laid text m a → Passes text m b
symbols_pass no_symbol w = stays w
symbols_pass (next_symbol ds d) w = symbols_pass ds w >> symbol_passes d >> skips

load_passes : {text : List ℕ} {m e : ℕ} {a b : List Item} {r : Name} {ss : Symbols} → Load a b r ss e → Laid text m a → Passes text m b
load_passes alone w = skips w >> skips >> skips
load_passes (with_comma ds) w = skips w >> skips >> skips >> symbols_pass ds >> skips
load_passes (without_comma ds d) w = skips w >> skips >> skips >> symbols_pass ds >> symbol_passes d >> skips

naming_passes : {text : List ℕ} {m p e : ℕ} {a b : List Item} {k : Stars} {r : Name} → Naming a b k r p e → Laid text m a → Passes text m b
naming_passes by_itself w = skips w
naming_passes named_behind_star w = skips w >> skips
naming_passes named_behind_stars w = skips w >> skips

parameter_passes : {text : List ℕ} {m : ℕ} {a b : List Item} {p : Member} → Parameter a b p → Laid text m a → Passes text m b
parameter_passes a_slash w = skips w
parameter_passes a_star w = skips w
parameter_passes (a_name r) w = naming_passes r w
parameter_passes (a_type r d) w = naming_passes r w >> skips >> level_passes d
parameter_passes (a_default r d) w = naming_passes r w >> skips >> level_passes d
parameter_passes (a_type_default r d f) w = naming_passes r w >> skips >> level_passes d >> skips >> level_passes f

params_pass : {text : List ℕ} {m : ℕ} {a b : List Item} {ps : Members} → SomeParams a b ps → Laid text m a → Passes text m b
params_pass no_param w = stays w
params_pass (next_param ds d) w = params_pass ds w >> parameter_passes d >> skips

parameters_pass : {text : List ℕ} {m : ℕ} {a b : List Item} {ps : Members} → Parameters a b ps → Laid text m a → Passes text m b
parameters_pass (with_last_comma ds) w = params_pass ds w >> skips
parameters_pass (without_last_comma ds d) w = params_pass ds w >> parameter_passes d >> skips

result_passes : {text : List ℕ} {m : ℕ} {a b : List Item} {t : Annotation} → Result a b t → Laid text m a → Passes text m b
result_passes untyped w = skips w
result_passes (a_result d) w = skips w >> level_passes d >> skips

lines_pass : {text : List ℕ} {m : ℕ} {a b : List Item} → Lines a b → Laid text m a → Passes text m b
lines_pass no_line w = stays w
lines_pass (a_line d) w = lines_pass d w >> skips

-- ---- statements on one line

small_holds : {text : List ℕ} {m e : ℕ} {a b : List Item} {s : Statement} → Small a b s e → Laid text m a → Holds text m (top_level s) b
small_holds returns w = single _ refl (leads refl w stays)
small_holds (returns_it d) w = single _ refl (leads refl w (λ v. listing_passes d v))
small_holds breaks_off w = single _ refl (leads refl w stays)
small_holds continues w = single _ refl (leads refl w stays)
small_holds passes w = single _ refl (leads refl w stays)
small_holds (loads d) w = single _ refl (leads refl w (λ v. load_passes d v))
small_holds (evaluates d) w = single _ refl (level_begun d w)
small_holds (assigns d h f) w = single _ refl (extends (listing_begun d w) (λ v. skips v >> listing_passes f))
small_holds (annotates d k h f) w = single _ refl (extends (listing_begun d w) (λ v. skips v >> level_passes k >> skips >> listing_passes f))

smalls_hold : {text : List ℕ} {m e : ℕ} {a b : List Item} {ss : Sequence} → Smalls a b ss e → Laid text m a → Holds text m (all_top ss) b
smalls_hold (one_small d) w = small_holds d w
smalls_hold (next_small ds d) w = and_then (goes_on (smalls_hold ds w) skips) (λ v. small_holds d v)

-- a list has the statements in it
block_top : (ss : Sequence) (e : ℕ) → all_top ss ≡ top_level (block_of ss e)
block_top tree.no_statements e = refl
block_top (tree.add_statement tree.no_statements s) e = refl
block_top (tree.add_statement (tree.add_statement ss r) s) e = refl

listed : {text : List ℕ} {m : ℕ} {b : List Item} (ss : Sequence) (e : ℕ) → Holds text m (all_top ss) b → Holds text m (top_level (block_of ss e)) b
listed {text} {m} {b} ss e p = subst (λ xs. Holds text m xs b) (block_top ss e) p

simple_holds : {text : List ℕ} {m e : ℕ} {a b : List Item} {s : Statement} → Simple a b s e → Laid text m a → Holds text m (top_level s) b
simple_holds (row {j} {ss} ds) w = listed ss j (goes_on (smalls_hold ds w) skips)
simple_holds (row_semicolon {j} {ss} ds) w = listed ss j (goes_on (smalls_hold ds w) (λ v. skips v >> skips))

-- ---- suites

mutual
  stmt_holds : {text : List ℕ} {m e : ℕ} {a b : List Item} {s : Statement} → Stmt a b s e → Laid text m a → Holds text m (top_level s) b
  stmt_holds (simple d) w = simple_holds d w
  stmt_holds (branches d) w = of_tail d (leads refl w (λ v. tail_passes d v))
  stmt_holds (loops d q s) w = single _ refl (leads refl w (λ v. listing_passes d v >> skips >> level_passes q >> skips >> suite_passes s))
  stmt_holds (defines ps t s) w = single _ refl (leads refl w (λ v. skips v >> skips >> parameters_pass ps >> result_passes t >> suite_passes s))

  of_tail : {text : List ℕ} {m i j e : ℕ} {x : Lexeme} {a b : List Item} {s : Statement} → Tail i a b s e → Begun text m (item i x j ∷ a) b → Holds text m (top_level s) b
  of_tail (only q s) p = single _ refl p
  of_tail (or_else q s r) p = single _ refl p
  of_tail (or_if q s r) p = single _ refl p

  tail_passes : {text : List ℕ} {m p e : ℕ} {a b : List Item} {s : Statement} → Tail p a b s e → Laid text m a → Passes text m b
  tail_passes (only q s) w = level_passes q w >> skips >> suite_passes s
  tail_passes (or_else q s r) w = level_passes q w >> skips >> suite_passes s >> skips >> skips >> suite_passes r
  tail_passes (or_if q s r) w = level_passes q w >> skips >> suite_passes s >> skips >> tail_passes r

  suite_passes : {text : List ℕ} {m e : ℕ} {a b : List Item} {s : Statement} → Suite a b s e → Laid text m a → Passes text m b
  suite_passes (same_line d) w = over (simple_holds d w)
  suite_passes (indented ls ds) w = skips w >> lines_pass ls >> skips >> (λ v. over (statements_hold ds v)) >> skips

  statements_hold : {text : List ℕ} {m e : ℕ} {a b : List Item} {ss : Sequence} → Statements a b ss e → Laid text m a → Holds text m (all_top ss) b
  statements_hold {m} nothing w = record { end = m; rising = no_more (omega arith); rest = w }
  statements_hold (blank ds) w = goes_on (statements_hold ds w) skips
  statements_hold (next_stmt ds d) w = and_then (statements_hold ds w) (λ v. stmt_holds d v)

at_end : {text : List ℕ} {m : ℕ} → Laid text m [] → m ≤ length text
at_end (no_tokens h) = h

pub derived_rising : {text : List ℕ} {m : ℕ} {u : List Item} {raw : Statement} → Derives u raw → Laid text m u → Rising text (length text) m (top_level raw)
derived_rising {text} {m} (whole {e} {ss} ds) w = go (listed ss e (statements_hold ds w))
  where
    go : {xs : List Statement} → Holds text m xs [] → Rising text (length text) m xs
    go p = wider (at_end p.rest) p.rising
