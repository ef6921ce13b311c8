-- The grammar of suites and modules (docs/LANGUAGE.md, Grammar). What the relations and letters stand for: Expressions.
use Rattle.std.specs.Prelude.{ℕ, List, [], ◌∷◌}
use Rattle.starlark_rulebook.specs.Targets.{target_of}
use Rattle.starlark_grammar.specs.Spans.{stretch}
use Rattle.starlark_lexer.specs.Items.{Item, item, newline, indent, dedent, identifier, keyword_def, keyword_elif, keyword_else, keyword_for, keyword_if, keyword_in, colon, opening_round}
use Rattle.starlark_ast.specs.Tree.{Annotation, Expr, Members, Sequence, Statement, add_statement, define, either, name_at, no_statements, repeat, when}
use Rattle.starlark_grammar.specs.Nodes.{block_of}
use Rattle.starlark_grammar.specs.Tables.{targets}
use Rattle.starlark_grammar.specs.Expressions.{Level, Listing}
use Rattle.starlark_grammar.specs.Simple.{Simple}
use Rattle.starlark_grammar.specs.Parameters.{Parameters, Result}

-- Newline*
pub data Lines : List Item → List Item → Type 0 where
  no_line : {a : List Item} → Lines a a
  a_line : {i j : ℕ} {a b : List Item} → Lines a (item i newline j ∷ b) → Lines a b

mutual
  -- Def | If | For | Simple
  pub data Stmt : List Item → List Item → Statement → ℕ → Type 0 where
    simple : {e : ℕ} {a b : List Item} {s : Statement} → Simple a b s e → Stmt a b s e
    branches : {i j e : ℕ} {a b : List Item} {s : Statement} → Tail i a b s e → Stmt (item i keyword_if j ∷ a) b s e
    -- "for" ExprList "in" Test ":" Suite
    loops : {i j g h m n d f e : ℕ} {a b c z : List Item} {l q : Expr} {s : Statement} → Listing targets a (item g keyword_in h ∷ b) l d → Level 12 b (item m colon n ∷ c) q f → Suite c z s e → Stmt (item i keyword_for j ∷ a) z (repeat (target_of l) q s (stretch i e)) e
    -- "def" Ident "(" [Param ("," Param)* [","]] ")" ["->" Test] ":" Suite
    defines : {n : List ℕ} {i j g h m p e : ℕ} {a b c z : List Item} {ps : Members} {t : Annotation} {s : Statement} → Parameters a b ps → Result b c t → Suite c z s e → Stmt (item i keyword_def j ∷ item g (identifier n) h ∷ item m opening_round p ∷ a) z (define (name_at n (stretch g h)) ps t s (stretch i e)) e

  -- Test ":" Suite ["elif" Tail | "else" ":" Suite], of an `if` or `elif` that begins there
  pub data Tail : ℕ → List Item → List Item → Statement → ℕ → Type 0 where
    only : {p i j d e : ℕ} {a b c : List Item} {q : Expr} {s : Statement} → Level 12 a (item i colon j ∷ b) q d → Suite b c s e → Tail p a c (when q s (stretch p e)) e
    or_else : {p i j g h m n d f e : ℕ} {a b c z : List Item} {q : Expr} {s r : Statement} → Level 12 a (item i colon j ∷ b) q d → Suite b (item g keyword_else h ∷ item m colon n ∷ c) s f → Suite c z r e → Tail p a z (either q s r (stretch p e)) e
    or_if : {p i j g h d f e : ℕ} {a b c z : List Item} {q : Expr} {s r : Statement} → Level 12 a (item i colon j ∷ b) q d → Suite b (item g keyword_elif h ∷ c) s f → Tail g c z r e → Tail p a z (either q s r (stretch p e)) e

  -- Simple | Newline+ Indent Newline* (Stmt Newline*)+ Dedent
  pub data Suite : List Item → List Item → Statement → ℕ → Type 0 where
    same_line : {e : ℕ} {a b : List Item} {s : Statement} → Simple a b s e → Suite a b s e
    indented : {i j g h m n e : ℕ} {a b c : List Item} {ss : Sequence} {s : Statement} → Lines a (item g indent h ∷ b) → Statements b (item m dedent n ∷ c) (add_statement ss s) e → Suite (item i newline j ∷ a) c (block_of (add_statement ss s) e) n

  -- Newline* (Stmt Newline*)*
  pub data Statements : List Item → List Item → Sequence → ℕ → Type 0 where
    nothing : {a : List Item} → Statements a a no_statements 0
    blank : {i j e : ℕ} {a b : List Item} {ss : Sequence} → Statements a (item i newline j ∷ b) ss e → Statements a b ss j
    next_stmt : {d e : ℕ} {a b c : List Item} {ss : Sequence} {s : Statement} → Statements a b ss d → Stmt b c s e → Statements a c (add_statement ss s) e

-- the tokens are of Module, with that tree
pub data Derives (u : List Item) : Statement → Type 0 where
  whole : {e : ℕ} {ss : Sequence} → Statements u [] ss e → Derives u (block_of ss e)
