-- The grammar of statements on one line (docs/LANGUAGE.md, Grammar). What the relations and letters stand for: Expressions.
use Rattle.std.specs.Prelude.{◌≡◌, ℕ, List, ◌∷◌, Option, Some, None}
use Rattle.starlark_rulebook.specs.Targets.{target_of}
use Rattle.starlark_grammar.specs.Spans.{stretch}
use Rattle.starlark_lexer.specs.Items.{Lexeme, Item, item, newline, keyword_break, keyword_continue, keyword_load, keyword_pass, keyword_return, semicolon, colon}
use Rattle.starlark_ast.specs.declared.ast.AssignOp.{AssignOp}
use Rattle.starlark_ast.specs.Tree as tree
use Rattle.starlark_ast.specs.Tree.{Expr, Name, Sequence, Statement, Symbols, add_statement, assign, break, continue, expression, load, no_statements, pass, return}
use Rattle.starlark_grammar.specs.Nodes.{block_of, start, type_at}
use Rattle.starlark_grammar.specs.Tables.{loose, assigner}
use Rattle.starlark_grammar.specs.Expressions.{Level, Listing}
use Rattle.starlark_grammar.specs.Loads.{Load}

-- "return" [TestList] | "break" | "continue" | "pass" | Load | Test | TestList [":" Test] AssignOp TestList
pub data Small : List Item → List Item → Statement → ℕ → Type 0 where
  returns : {i j : ℕ} {a : List Item} → Small (item i keyword_return j ∷ a) a (return None (stretch i j)) j
  returns_it : {i j e : ℕ} {a b : List Item} {r : Expr} → Listing loose a b r e → Small (item i keyword_return j ∷ a) b (return (Some r) (stretch i e)) e
  breaks_off : {i j : ℕ} {a : List Item} → Small (item i keyword_break j ∷ a) a (break (stretch i j)) j
  continues : {i j : ℕ} {a : List Item} → Small (item i keyword_continue j ∷ a) a (continue (stretch i j)) j
  passes : {i j : ℕ} {a : List Item} → Small (item i keyword_pass j ∷ a) a (pass (stretch i j)) j
  loads : {i j e : ℕ} {a b : List Item} {m : Name} {ss : Symbols} → Load a b m ss e → Small (item i keyword_load j ∷ a) b (load m ss (stretch i e)) e
  evaluates : {e : ℕ} {a b : List Item} {r : Expr} → Level 12 a b r e → Small a b (expression r (stretch (start a) e)) e
  assigns : {i j d e : ℕ} {x : Lexeme} {o : Option AssignOp} {a b c : List Item} {l r : Expr} → Listing loose a (item i x j ∷ b) l d → assigner x ≡ Some o → Listing loose b c r e → Small a c (assign (target_of l) tree.untyped o r (stretch (start a) e)) e
  annotates : {g h i j d f e : ℕ} {x : Lexeme} {o : Option AssignOp} {a b c z : List Item} {l t r : Expr} → Listing loose a (item g colon h ∷ b) l d → Level 12 b (item i x j ∷ c) t f → assigner x ≡ Some o → Listing loose c z r e → Small a z (assign (target_of l) (type_at t) o r (stretch (start a) e)) e

-- Small (";" Small)*
pub data Smalls : List Item → List Item → Sequence → ℕ → Type 0 where
  one_small : {e : ℕ} {a b : List Item} {s : Statement} → Small a b s e → Smalls a b (add_statement no_statements s) e
  next_small : {i j d e : ℕ} {a b c : List Item} {ss : Sequence} {s : Statement} → Smalls a (item i semicolon j ∷ b) ss d → Small b c s e → Smalls a c (add_statement ss s) e

-- Small (";" Small)* [";"] Newline
pub data Simple : List Item → List Item → Statement → ℕ → Type 0 where
  row : {i j e : ℕ} {a b : List Item} {ss : Sequence} → Smalls a (item i newline j ∷ b) ss e → Simple a b (block_of ss j) j
  row_semicolon : {g h i j e : ℕ} {a b : List Item} {ss : Sequence} → Smalls a (item g semicolon h ∷ item i newline j ∷ b) ss e → Simple a b (block_of ss j) j
