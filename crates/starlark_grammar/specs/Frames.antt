-- What is left to read of the constructs that have begun, with what they have read so far.
use Rattle.std.specs.Prelude.{ℕ, List, Option}
use Rattle.starlark_ast.specs.declared.ast.AssignOp.{AssignOp}
use Rattle.starlark_ast.specs.Tree.{Annotation, Expr, Members, Name, Sequence, Stars, Statement, Symbol, Symbols}
use Rattle.starlark_grammar.specs.Tables.{Kind, loose, targets}
use Rattle.starlark_grammar.specs.Points.{Frame, Point}

mutual
  -- what waits for a statement at a line's beginning: the module, or an indented suite
  pub data Blocks : Type 0 where
    outer : Sequence → Blocks
    inner : Sequence → Suites → Blocks

  -- what waits for the tree of an `if` or an `elif`: a line, or an `if` that begins there with its test and suite
  pub data Ifs : Type 0 where
    at_if : Blocks → Ifs
    at_elif : Expr → Statement → ℕ → Ifs → Ifs

  -- What waits for a suite. A number is where the construct begins.
  pub data Suites : Type 0 where
    of_if : Expr → ℕ → Ifs → Suites
    of_else : Expr → Statement → ℕ → Ifs → Suites
    of_for : Expr → Expr → ℕ → Blocks → Suites
    of_def : Head → Members → Annotation → Suites

  -- a `def`: where it begins, its name, and the line
  pub data Head : Type 0 where
    head : ℕ → Name → Blocks → Head

-- where small statements stand
pub data Rows : Type 0 where
  at_block : Blocks → Rows
  at_suite : Suites → Rows

-- the small statements of a line so far
pub data Line : Type 0 where
  line : Sequence → Rows → Line

-- What waits for an expression of a statement.
pub data Spots : Type 0 where
  -- a small statement that begins with an expression, which may be all of it
  first : ℕ → Line → Spots
  -- l ":" [type]
  annotation : Expr → ℕ → Line → Spots
  test : ℕ → Ifs → Spots
  -- "for" l "in" [source]
  source : Expr → ℕ → Blocks → Spots
  param_type : Head → Members → Stars → Name → ℕ → Spots
  param_default : Head → Members → Name → Annotation → ℕ → Spots
  result_type : Head → Members → Spots

-- What waits for a list of them without brackets.
pub data Lists : Type 0 where
  -- the left side of an assignment, behind its first comma
  left : ℕ → Line → Lists
  -- l [":" type] operator [right side]
  right : Expr → Annotation → Option AssignOp → ℕ → Line → Lists
  returned : ℕ → Line → Lists
  -- "for" [targets]
  target : ℕ → Blocks → Lists

-- which members it has
abbrev pub kind_listed : Lists → Kind
kind_listed (target p k) = targets
kind_listed _ = loose

-- What waits for an expression.
pub data Frames : Type 0 where
  -- an expression of that level, which a suffix or an operator of it may follow
  tail : ℕ → Frames → Frames
  inside : Frame → Frames → Frames
  -- one more of a list without brackets: those so far, and where the first begins
  listed : Members → ℕ → Lists → Frames
  spot : Spots → Frames

pub data State : Type 0 where
  -- an expression of that level has to come
  wants : ℕ → Frames → State
  -- one has come, whose last token ends there
  has : Expr → ℕ → Frames → State
  -- between two parts of an expression
  stands : Point → Frames → State
  -- an identifier at the beginning of an argument: a name, or an expression
  perhaps_named : Expr → Members → ℕ → List ℕ → ℕ → ℕ → Frames → State
  -- the first expression of a list without brackets
  wants_list : Lists → State
  -- another one, behind a comma that ends there
  wants_next : Members → ℕ → ℕ → Lists → State
  -- a line's beginning, behind a token that ends there
  at_line : Blocks → ℕ → State
  -- the same behind a `for` statement with that target
  behind_for : Expr → Blocks → ℕ → State
  -- behind the suite of an `if` or `elif`: its test, its suite, where it begins and ends
  behind_if : Expr → Statement → ℕ → ℕ → Ifs → State
  -- ":" and a suite
  wants_colon : Suites → State
  wants_suite : Suites → State
  -- behind the line end that a suite begins with
  wants_indent : Suites → State
  -- behind a small statement, and behind the semicolon
  behind_small : Statement → Line → State
  wants_small : Line → State
  -- behind `return`, from there to there
  behind_return : ℕ → ℕ → Line → State
  -- a load that begins there: "(", its module, a comma, a symbol or ")", `=`, a string, a comma or ")"
  load_opens : ℕ → Line → State
  load_module : ℕ → Line → State
  load_named : ℕ → Name → Line → State
  load_symbol : ℕ → Name → Symbols → Line → State
  load_equal : ℕ → Name → Symbols → Name → Line → State
  load_other : ℕ → Name → Symbols → Name → Line → State
  load_behind : ℕ → Name → Symbols → Symbol → Line → State
  -- a `def` that begins there: its name, "(", a parameter or ")"
  def_name : ℕ → Blocks → State
  def_opens : Head → State
  wants_param : Head → Members → State
  -- behind `*` from there to there, and `**`
  behind_star : Head → Members → ℕ → ℕ → State
  behind_stars : Head → Members → ℕ → State
  -- behind the name of a parameter from there to there
  behind_name : Head → Members → Stars → Name → ℕ → ℕ → State
  -- behind a whole parameter, and behind ")"
  behind_param : Head → Members → State
  wants_result : Head → Members → State
