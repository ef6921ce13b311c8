-- The places of a tree lie in one another, over tokens in order and in texts.
use Rattle.std.proofs.Common.{ℕ, ◌≤◌, ◌∷◌, [], List, Option, Some, None, Bool, true, false, cond, arith, length}
use Rattle.starlark_grammar.specs.Spans.{stretch}
use Rattle.starlark_lexer.specs.Items.{Item, Stop, Lexed}
use Rattle.starlark_lexer.specs.Order.{InOrder}
use Rattle.starlark_lexer.specs.Lex.{Lex, start}
use Rattle.starlark_lexer.specs.declared.dialect.Dialect.{Dialect}
use Rattle.starlark_ast.specs.Tree.{Statement}
use Rattle.starlark_grammar.specs.Language.{is_comment, without_comments, Language, last_end}
use Rattle.starlark_grammar.specs.Grammar.{Derives}
use Rattle.starlark_grammar.specs.Longer.{InOrder as IsOrder}
use Rattle.starlark_grammar.specs.Nested.{StatementIn}
use Rattle.starlark_grammar.proofs.Ranges.{Limits, Laid, no_tokens, a_token}
use Rattle.starlark_grammar.proofs.NotLonger.{limits, laid_behind}
use Rattle.starlark_grammar.proofs.NestedStatements.{derived_in}

-- the tokens of a text stand in order
abbrev in_text : ℕ → Limits
in_text n = record { firm = 0; last = n }

from_there : {l : Limits} {m k : ℕ} {xs : List Item} → m ≤ k → Laid l k xs → Laid l m xs
from_there h (no_tokens u) = no_tokens (omega (arith, h, u))
from_there h (a_token u v w x) = a_token (omega (arith, h, u)) v w x

laid_text : {n i : ℕ} (xs : List Item) (f : Option Stop) → InOrder i n xs f → Laid (in_text n) i (without_comments xs)
laid_text [] None h = no_tokens h
laid_text [] (Some s) h = no_tokens h.0
laid_text {n} {i} (x ∷ xs) f h = go (is_comment x.lexeme) (laid_text xs f h.2)
  where
    go : (b : Bool) → Laid (in_text n) x.end (without_comments xs) → Laid (in_text n) i (cond b (without_comments xs) (x ∷ without_comments xs))
    go true w = from_there (omega (arith, h.0, h.1)) w
    go false w = a_token h.0 h.1 (λ c d. omega (arith, d)) w

abbrev pub AreOrdered : Type 0
AreOrdered = (text : List ℕ) (l : Lexed) → Lex start text l → InOrder 0 (length text) l.items l.fault

pub places_in : AreOrdered → (dialect : Dialect) (text : List ℕ) (tree : Statement) → Language dialect text tree → StatementIn (stretch 0 (length text)) tree
places_in order dialect text tree h = derived_in {l = in_text (length text)} h.program.derives (laid_text h.lexed.items h.lexed.fault (order text h.lexed h.lexes))

-- over tokens in order
pub tree_in : (u : List Item) (raw : Statement) → IsOrder 0 u → Derives u raw → StatementIn (stretch 0 (last_end 0 u)) raw
tree_in u raw o d = derived_in {l = limits 0 (last_end 0 u)} d (laid_behind (omega arith) (omega arith) o)
