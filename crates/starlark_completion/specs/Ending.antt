-- How tokens go on to a program.
use Rattle.std.specs.Prelude.{ℕ, ◌≡◌, ◌+◌, List, ◌∷◌, ◌++◌, [], zero, suc, Bool, true, false, count_by}
use Rattle.starlark_lexer.specs.Items.{Lexeme, newline, indent, dedent, keyword_pass, Item}
use Rattle.starlark_lexer.specs.Joining.{dedent_item, IsEven}
use Rattle.starlark_ast.specs.Tree.{Statement}
use Rattle.starlark_grammar.specs.Grammar.{Derives}
use Rattle.starlark_grammar.specs.Language.{bare}
use Rattle.starlark_cutting.specs.Cutting.{indent_item}

-- what stands last
pub data Last : Type 0 where
  no_token a_line_end a_dedent an_indent another : Last

abbrev pub kind_of : Lexeme → Last
kind_of newline = a_line_end
kind_of dedent = a_dedent
kind_of indent = an_indent
kind_of x = another

abbrev pub last_of : Last → List Item → Last
last_of l [] = l
last_of l (x ∷ xs) = last_of (kind_of x.lexeme) xs

-- behind that a line goes on
abbrev pub goes_on_line : Last → Bool
goes_on_line another = true
goes_on_line l = false

-- behind that a line begins, no block's first
abbrev pub at_beginning_of_line : Last → Bool
at_beginning_of_line no_token = true
at_beginning_of_line a_line_end = true
at_beginning_of_line a_dedent = true
at_beginning_of_line l = false

-- behind that a block's first line begins
abbrev pub begins_block : Last → Bool
begins_block a_line_end = true
begins_block an_indent = true
begins_block l = false

-- so many of them
abbrev pub copies : ℕ → Lexeme → List Lexeme
copies zero x = []
copies (suc n) x = x ∷ copies n x

-- tokens with those lexemes are of Module, wherever they stand
abbrev pub Goes : List Lexeme → Type 0
Goes xs = (u : List Item) → bare u ≡ xs → (raw : Statement) × Derives u raw

-- Where so many blocks are open and no f-string is, the tokens go on to a program.
pub data Ending (w : List Item) (k : ℕ) : Type 0 where
  -- at a line's beginning: by nothing, or line ends
  at_line : at_beginning_of_line (last_of no_token w) ≡ true → IsEven w → ((n : ℕ) → Goes (bare w ++ (copies n newline ++ copies k dedent))) → Ending w k
  -- before a block: by one with a line `pass`
  before_block : last_of no_token w ≡ a_line_end → IsEven w → ((n : ℕ) → Goes (bare w ++ (indent ∷ keyword_pass ∷ newline ∷ (copies n newline ++ copies (suc k) dedent)))) → Ending w k
  -- in a block that has line ends alone, or nothing yet: by such a line
  in_block : begins_block (last_of no_token w) ≡ true → IsEven w → ((n : ℕ) → Goes (bare w ++ (keyword_pass ∷ newline ∷ (copies n newline ++ copies k dedent)))) → Ending w k

pub record CanEnd (w : List Item) : Type 0 where
  pub depth : ℕ
  pub blocks : count_by indent_item w ≡ depth + count_by dedent_item w
  pub ending : Ending w depth

-- At a line's beginning: tokens that go on by line ends and as many Dedents as blocks are open.
pub record IsAtLine (w : List Item) : Type 0 where
  pub depth : ℕ
  pub blocks : count_by indent_item w ≡ depth + count_by dedent_item w
  pub even : IsEven w
  pub goes : (n : ℕ) → Goes (bare w ++ (copies n newline ++ copies depth dedent))

-- Behind a Dedent: tokens that go on by so many Dedents more, a line `pass` there, line ends, and as many Dedents as blocks are left open.
pub record IsBehindBlock (w : List Item) : Type 0 where
  pub depth : ℕ
  pub blocks : count_by indent_item w ≡ depth + count_by dedent_item w
  pub goes : (j k n : ℕ) → depth ≡ j + k → Goes (bare w ++ (copies j dedent ++ (keyword_pass ∷ newline ∷ (copies n newline ++ copies k dedent))))
