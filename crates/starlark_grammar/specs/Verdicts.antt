-- The answer to what the machine meets.
use Rattle.std.specs.Prelude.{not, ◌∷◌, [], if◌then◌else◌, ℕ, List, Option, Some, None, Bool, false, nat_eq, length}
use Rattle.starlark_lexer.specs.Items.{Lexeme, equal, Item}
use Rattle.starlark_lexer.specs.declared.dialect.Dialect.{Dialect}
use Rattle.starlark_ast.specs.Tree.{Statement}
use Rattle.starlark_rulebook.specs.Rules.{Finding}
use Rattle.starlark_grammar.specs.Events.{Event, Shape, after_bang, after_comma, after_symbol, end_finding, breaks_at_once, shape_finding, shaped}
use Rattle.starlark_grammar.specs.Sorts.{sort, name_of, is_some}
use Rattle.starlark_grammar.specs.Tables.{beginning, conversion}
use Rattle.starlark_grammar.specs.Runs.{Trace, Accepts, Stuck, Note}

-- the tokens begin a Test
abbrev pub begins_test : List Item → Bool
begins_test [] = false
begins_test (x ∷ xs) = is_some (beginning x.lexeme)

abbrev pub begins_equal : List Item → Bool
begins_equal [] = false
begins_equal (x ∷ xs) = nat_eq (sort equal) (sort x.lexeme)

-- they begin with `s` or `r`
abbrev pub some_converts : Option (List ℕ) → Bool
some_converts None = false
some_converts (Some n) = is_some (conversion n)

abbrev pub converts : List Item → Bool
converts [] = false
converts (x ∷ xs) = some_converts (name_of x.lexeme)

-- what a shape wants does not follow
abbrev pub lacks : Shape → List Item → Bool
lacks after_comma xs = not (begins_test xs)
lacks after_symbol xs = not (begins_equal xs)
lacks after_bang xs = not (converts xs)

-- the rule that is broken there, with these tokens behind
abbrev pub broken_at : Dialect → Event → List Item → Option Finding
broken_at d (shaped k s) xs = if lacks k xs then Some (shape_finding k s xs) else None
broken_at d e xs = breaks_at_once d e

-- The answer, where what was met first goes first.
pub data Verdict : Type 0 where
  Fine : Statement → Verdict
  Unexpected : List Item → Verdict
  -- with so many tokens still to be read
  Broken : Finding → ℕ → Verdict
  -- the tokens are of Module, and what counts at the end breaks a rule
  Spoilt : Statement → Finding → Verdict

abbrev pub settle : Statement → Option Finding → Verdict
settle raw None = Fine raw
settle raw (Some f) = Spoilt raw f

abbrev pub answer : Option Finding → ℕ → Verdict → Verdict
answer None n v = v
answer (Some f) n v = Broken f n

abbrev pub judge : Dialect → Trace → Verdict
judge d (Accepts raw) = settle raw (end_finding d raw)
judge d (Stuck xs) = Unexpected xs
judge d (Note xs e v) = answer (broken_at d e xs) (length xs) (judge d v)

-- the first token
abbrev pub next_lexeme : List Item → Option Lexeme
next_lexeme [] = None
next_lexeme (x ∷ xs) = Some x.lexeme
