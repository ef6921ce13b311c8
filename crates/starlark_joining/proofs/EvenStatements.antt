-- Statements, suites and programs are balanced.
use Rattle.std.proofs.Common.{ℕ, List, [], ◌∷◌, refl}
use Rattle.starlark_lexer.specs.Items.{Item, item, opening_round}
use Rattle.starlark_ast.specs.Tree.{Annotation, Member, Members, Name, Sequence, Stars, Statement, Symbol, Symbols}
use Rattle.starlark_grammar.specs.Loads as l
use Rattle.starlark_grammar.specs.Simple as s
use Rattle.starlark_grammar.specs.Parameters as p
use Rattle.starlark_grammar.specs.Grammar as g
use Rattle.starlark_joining.proofs.Classes.{assigner_is}
use Rattle.starlark_joining.proofs.Balanced.{Balanced, still, compose, token, bracketed, joined_by}
use Rattle.starlark_joining.proofs.EvenExpressions.{level, listing}

one_symbol : {a b : List Item} {m : Symbol} → l.OneSymbol a b m → Balanced a b
one_symbol l.own_name = token refl
one_symbol l.other_name = compose (token refl) (compose (token refl) (token refl))

some_symbols : {a b : List Item} {ms : Symbols} → l.SomeSymbols a b ms → Balanced a b
some_symbols l.no_symbol = still
some_symbols (l.next_symbol ds d) = compose (some_symbols ds) (compose (one_symbol d) (token refl))

load : {e : ℕ} {a b : List Item} {m : Name} {ms : Symbols} → l.Load a b m ms e → Balanced a b
load l.alone = bracketed refl refl (token refl)
load (l.with_comma ds) = bracketed refl refl (compose (token refl) (compose (token refl) (some_symbols ds)))
load (l.without_comma ds d) = bracketed refl refl (compose (token refl) (compose (token refl) (compose (some_symbols ds) (one_symbol d))))

small : {e : ℕ} {a b : List Item} {r : Statement} → s.Small a b r e → Balanced a b
small s.returns = token refl
small (s.returns_it d) = compose (token refl) (listing d)
small s.breaks_off = token refl
small s.continues = token refl
small s.passes = token refl
small (s.loads d) = compose (token refl) (load d)
small (s.evaluates d) = level d
small (s.assigns {x} d h e) = joined_by (assigner_is x h) (listing d) (listing e)
small (s.annotates {x} d t h e) = joined_by refl (listing d) (joined_by (assigner_is x h) (level t) (listing e))

smalls : {e : ℕ} {a b : List Item} {ss : Sequence} → s.Smalls a b ss e → Balanced a b
smalls (s.one_small d) = small d
smalls (s.next_small ds d) = joined_by refl (smalls ds) (small d)

simple : {e : ℕ} {a b : List Item} {r : Statement} → s.Simple a b r e → Balanced a b
simple (s.row ds) = compose (smalls ds) (token refl)
simple (s.row_semicolon ds) = compose (smalls ds) (compose (token refl) (token refl))

naming : {a b : List Item} {k : Stars} {n : Name} {i e : ℕ} → p.Naming a b k n i e → Balanced a b
naming p.by_itself = token refl
naming p.named_behind_star = compose (token refl) (token refl)
naming p.named_behind_stars = compose (token refl) (token refl)

parameter : {a b : List Item} {m : Member} → p.Parameter a b m → Balanced a b
parameter p.a_slash = token refl
parameter p.a_star = token refl
parameter (p.a_name n) = naming n
parameter (p.a_type n d) = joined_by refl (naming n) (level d)
parameter (p.a_default n d) = joined_by refl (naming n) (level d)
parameter (p.a_type_default n d e) = joined_by refl (naming n) (joined_by refl (level d) (level e))

some_params : {a b : List Item} {ms : Members} → p.SomeParams a b ms → Balanced a b
some_params p.no_param = still
some_params (p.next_param ds d) = compose (some_params ds) (compose (parameter d) (token refl))

-- with the bracket before them
parameters : {i j : ℕ} {a b : List Item} {ms : Members} → p.Parameters a b ms → Balanced (item i opening_round j ∷ a) b
parameters (p.with_last_comma ds) = bracketed refl refl (some_params ds)
parameters (p.without_last_comma ds d) = bracketed refl refl (compose (some_params ds) (parameter d))

result : {a b : List Item} {t : Annotation} → p.Result a b t → Balanced a b
result p.untyped = token refl
result (p.a_result d) = compose (token refl) (compose (level d) (token refl))

lines : {a b : List Item} → g.Lines a b → Balanced a b
lines g.no_line = still
lines (g.a_line d) = compose (lines d) (token refl)

mutual
  stmt : {e : ℕ} {a b : List Item} {r : Statement} → g.Stmt a b r e → Balanced a b
  stmt (g.simple d) = simple d
  stmt (g.branches d) = compose (token refl) (tail d)
  stmt (g.loops d q r) = compose (token refl) (joined_by refl (listing d) (joined_by refl (level q) (suite r)))
  stmt (g.defines ps t r) = compose (token refl) (compose (token refl) (compose (parameters ps) (compose (result t) (suite r))))

  tail : {i e : ℕ} {a b : List Item} {r : Statement} → g.Tail i a b r e → Balanced a b
  tail (g.only q r) = joined_by refl (level q) (suite r)
  tail (g.or_else q r t) = joined_by refl (level q) (compose (suite r) (compose (token refl) (compose (token refl) (suite t))))
  tail (g.or_if q r t) = joined_by refl (level q) (joined_by refl (suite r) (tail t))

  suite : {e : ℕ} {a b : List Item} {r : Statement} → g.Suite a b r e → Balanced a b
  suite (g.same_line d) = simple d
  suite (g.indented ls ds) = compose (token refl) (joined_by refl (lines ls) (compose (statements ds) (token refl)))

  pub statements : {e : ℕ} {a b : List Item} {ss : Sequence} → g.Statements a b ss e → Balanced a b
  statements g.nothing = still
  statements (g.blank ds) = compose (statements ds) (token refl)
  statements (g.next_stmt ds d) = compose (statements ds) (stmt d)

pub program : {u : List Item} {raw : Statement} → g.Derives u raw → Balanced u []
program (g.whole ds) = statements ds
