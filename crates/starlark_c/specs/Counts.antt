-- How many tokens a text is cut into, and how many bytes they span.
use Rattle.std.specs.Prelude.{◌≡◌, ℕ, ◌-◌, List, length, sum_by}
use Rattle.starlark_lexer.specs.Items.{Item, Lexed}
use Rattle.starlark_lexer.specs.Lex.{Lex, start}
use Rattle.starlark_c.specs.declared.lexing.Tally.{Tally}

-- how many bytes tokens span
abbrev pub widths : List Item → ℕ
widths xs = sum_by (λ x. x.end - x.begin) xs

-- the text is cut into so many tokens before its end or its first fault
pub record HasTokens (text : List ℕ) (n : ℕ) : Type 0 where
  pub lexed : Lexed
  pub cut : Lex start text lexed
  pub tokens : n ≡ length lexed.items

-- those tokens span so many bytes
pub record HasBytes (text : List ℕ) (n : ℕ) : Type 0 where
  pub lexed : Lexed
  pub cut : Lex start text lexed
  pub bytes : n ≡ widths lexed.items

-- both
pub record IsTally (text : List ℕ) (tally : Tally) : Type 0 where
  pub tokens : HasTokens text tally.tokens
  pub bytes : HasBytes text tally.bytes
