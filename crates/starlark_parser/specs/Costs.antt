-- What the reading of a text costs.
use Rattle.std.specs.Prelude.{◌≡◌, ◌≤◌, ◌+◌, ◌*◌, ℕ, suc, List, length, Result, Ok, Err}
use Rattle.starlark_lexer.specs.Items.{Lexed}
use Rattle.starlark_lexer.specs.Lex.{Lex, start}
use Rattle.starlark_lexer.specs.declared.dialect.Dialect.{Dialect}
use Rattle.starlark_grammar.specs.Language.{uncommented}
use Rattle.starlark_read.specs.Stops.{asked, reached}
use Rattle.starlark_read.specs.declared.cost.Cost.{Cost}
use Rattle.starlark_parser.specs.declared.fault.EvalException.{EvalException}
use Rattle.starlark_parser.specs.declared.fault.EvalException.TheVariants as exception
use Rattle.starlark_parser.specs.declared.module.AstModule.{AstModule}

-- The text was read to its end: one ask for each lexeme and one for the end, and each byte was looked at, 16 times at most and 16 times more.
pub record IsWhole (text : List ℕ) (c : Cost) : Type 0 where
  pub lexed : Lexed
  pub lexes : Lex start text lexed
  pub asks : c.asks ≡ suc (length lexed.items)
  pub few : c.asks ≤ 2 * length text + 2
  pub reads : length text ≤ c.reads
  pub bounded : c.reads ≤ 16 * length text + 16

-- It was read until it was refused: the lexer was asked until it gave what stands ahead where the reason is found, a token, its fault or the end, and for nothing behind that. The looks reach the end of that token, or of the last one where all were read.
pub record IsPartly (d : Dialect) (text : List ℕ) (c : Cost) : Type 0 where
  pub lexed : Lexed
  pub lexes : Lex start text lexed
  pub asks : c.asks ≡ asked d lexed
  pub few : c.asks ≤ 2 * length text + 2
  pub reads : reached d (uncommented lexed).items ≤ c.reads
  pub bounded : c.reads ≤ 16 * length text + 16

-- Memory ran out: what was spent until then is no more than such a text takes.
pub record IsBounded (text : List ℕ) (c : Cost) : Type 0 where
  pub few : c.asks ≤ 2 * length text + 2
  pub bounded : c.reads ≤ 16 * length text + 16

-- the cost of a reading with that answer
abbrev pub Costs : Dialect → List ℕ → Result AstModule EvalException → Cost → Type 0
Costs d text (Ok m) c = IsWhole text c
Costs d text (Err (exception.Fault w)) c = IsPartly d text c
Costs d text (Err exception.TooLong) c = c ≡ record { reads = 0; asks = 0 }
Costs d text (Err exception.Memory) c = IsBounded text c
