-- How tokens go on to a program within a line, whatever is open there.
use Rattle.std.specs.Prelude.{ℕ, ◌≡◌, ◌+◌, List, ◌∷◌, ◌++◌, count_by}
use Rattle.starlark_lexer.specs.Items.{newline, dedent, Item}
use Rattle.starlark_lexer.specs.Joining.{dedent_item}
use Rattle.starlark_grammar.specs.Language.{bare}
use Rattle.starlark_cutting.specs.Cutting.{indent_item}
use Rattle.starlark_cutting.specs.Opened.{Nest, outside, Way, Put, put_lexemes}
use Rattle.starlark_completion.specs.Ending.{copies, Goes}

-- Tokens within a line go on to a program: what is put behind them closes what is open, and a line end and as many Dedents as blocks are open end it.
pub record CanClose (w : List Item) : Type 0 where
  pub depth : ℕ
  pub blocks : count_by indent_item w ≡ depth + count_by dedent_item w
  pub nest : Nest
  pub way : Way (outside 0) (bare w) nest
  pub puts : List Put
  pub closes : Way nest (put_lexemes puts) (outside 0)
  pub goes : (n : ℕ) → Goes (bare w ++ (put_lexemes puts ++ newline ∷ (copies n newline ++ copies depth dedent)))
