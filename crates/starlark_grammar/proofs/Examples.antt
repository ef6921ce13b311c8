-- What small texts come to, cut into tokens by hand.
use Rattle.std.proofs.Common.{ℕ, List, Option, Some, None, Result, Ok, Err}
use Rattle.starlark_lexer.specs.declared.dialect.Dialect.{Dialect}
use Rattle.starlark_lexer.specs.declared.token.LexemeError.{LexemeError}
use Rattle.starlark_lexer.specs.Items.{Item, Stop, Lexed}
use Rattle.starlark_ast.specs.Tree.{Statement}
use Rattle.starlark_grammar.specs.Runs.{run, initial}
use Rattle.starlark_grammar.specs.Verdicts.{Verdict, Fine, judge}
use Rattle.starlark_grammar.specs.Language.{Fault, unexpected_end, last_end, uncommented}
use Rattle.starlark_grammar.proofs.Refusals.{told}

-- a fault behind the tokens
abbrev pub stop : ℕ → LexemeError → ℕ → Stop
stop i e j = record { begin = i; error = e; end = j }

abbrev pub outcome : Verdict → Option Fault → Result Statement Fault
outcome v (Some f) = Err f
outcome (Fine raw) None = Ok raw
outcome v None = Err (unexpected_end 0)

abbrev pub read_of : Dialect → Lexed → Result Statement Fault
read_of d l = outcome (judge d (run initial l.items)) (told (judge d (run initial l.items)) l.fault (last_end 0 l.items))

-- the tree of the tokens without comments, or the reason why they are refused
abbrev pub reading : Dialect → List Item → Option Stop → Result Statement Fault
reading d u s = read_of d (uncommented (record { items = u; fault = s }))
