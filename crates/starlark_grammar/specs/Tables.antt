-- What tokens begin, and what they go on with.
use Rattle.std.specs.Prelude.{ℕ, suc, ◌-◌, List, [], ◌∷◌, Option, Some, None, Bool, true, false, if◌then◌else◌, nat_eq}
use Rattle.starlark_place.specs.Place.{Extent}
use Rattle.starlark_lexer.specs.Items.{Lexeme, equal, plus_equal, minus_equal, star_equal, slash_equal, slash_slash_equal, percent_equal, ampersand_equal, pipe_equal, caret_equal, less_less_equal, greater_greater_equal, identifier, integer, float, string, bytes, fstring_start, keyword_and, keyword_if, keyword_in, keyword_lambda, keyword_not, keyword_or, equal_equal, bang_equal, less_than, greater_than, less_equal, greater_equal, plus, minus, star, slash, slash_slash, percent, ampersand, pipe, caret, less_less, greater_greater, tilde, dot, ellipsis, opening_round, closing_round, opening_square, closing_square, opening_curly, closing_curly}
use Rattle.starlark_ast.specs.declared.ast.AssignOp.{AssignOp}
use Rattle.starlark_ast.specs.declared.ast.AssignOp.TheVariants as assign_op
use Rattle.starlark_ast.specs.declared.ast.BinOp.{BinOp}
use Rattle.starlark_ast.specs.declared.ast.BinOp.TheVariants as op
use Rattle.starlark_ast.specs.Tree as tree
use Rattle.starlark_ast.specs.Tree.{Leaf, Sign}
use Rattle.starlark_grammar.specs.Nodes.{grouped}

-- brackets that stand by themselves
pub data Bracket : Type 0 where
  round : Bracket
  square : Bracket
  curly : Bracket

-- what the first token of an expression tells
pub data Beginning : Type 0 where
  leaf : Leaf → Beginning
  bracket : Bracket → Beginning
  quoted : Beginning
  signed : Sign → Beginning
  lambda : Beginning

abbrev pub beginning : Lexeme → Option Beginning
beginning (identifier n) = Some (leaf (tree.name n))
beginning (integer n) = Some (leaf (tree.int n))
beginning (float n) = Some (leaf (tree.float n))
beginning (string t) = Some (leaf (tree.string t))
beginning (bytes t) = Some (leaf (tree.bytes t))
beginning ellipsis = Some (leaf tree.ellipsis)
beginning opening_round = Some (bracket round)
beginning opening_square = Some (bracket square)
beginning opening_curly = Some (bracket curly)
beginning (fstring_start q) = Some quoted
beginning keyword_not = Some (signed tree.Not)
beginning minus = Some (signed tree.Minus)
beginning plus = Some (signed tree.Plus)
beginning tilde = Some (signed tree.BitNot)
beginning keyword_lambda = Some lambda
beginning _ = None

-- `not` stands before comparisons and others before a unary expression
abbrev pub sign_level : Sign → ℕ
sign_level tree.Not = 9
sign_level _ = 1

-- the level of the expression that begins so
abbrev pub begins_at : Beginning → ℕ
begins_at (signed s) = sign_level s
begins_at lambda = 12
begins_at _ = 0

-- what a token behind an expression goes on with
pub data Suffix : Type 0 where
  dotted : Suffix
  indexed : Suffix
  called : Suffix
  joined : BinOp → Suffix
  -- the first word of `not in`
  negated : Suffix
  -- the `if` of a ternary
  chosen : Suffix

abbrev pub suffix : Lexeme → Option Suffix
suffix dot = Some dotted
suffix opening_square = Some indexed
suffix opening_round = Some called
suffix keyword_or = Some (joined op.Or)
suffix keyword_and = Some (joined op.And)
suffix equal_equal = Some (joined op.Equal)
suffix bang_equal = Some (joined op.NotEqual)
suffix less_than = Some (joined op.Less)
suffix greater_than = Some (joined op.Greater)
suffix less_equal = Some (joined op.LessOrEqual)
suffix greater_equal = Some (joined op.GreaterOrEqual)
suffix keyword_in = Some (joined op.In)
suffix pipe = Some (joined op.BitOr)
suffix caret = Some (joined op.BitXor)
suffix ampersand = Some (joined op.BitAnd)
suffix less_less = Some (joined op.LeftShift)
suffix greater_greater = Some (joined op.RightShift)
suffix plus = Some (joined op.Add)
suffix minus = Some (joined op.Subtract)
suffix star = Some (joined op.Multiply)
suffix slash = Some (joined op.Divide)
suffix slash_slash = Some (joined op.FloorDivide)
suffix percent = Some (joined op.Percent)
suffix keyword_not = Some negated
suffix keyword_if = Some chosen
suffix _ = None

-- the level of an operation, whose right operand is one of the level below
abbrev pub below : BinOp → ℕ
below op.Or = 10
below op.And = 9
below op.BitOr = 6
below op.BitXor = 5
below op.BitAnd = 4
below op.LeftShift = 3
below op.RightShift = 3
below op.Add = 2
below op.Subtract = 2
below op.Multiply = 1
below op.Divide = 1
below op.FloorDivide = 1
below op.Percent = 1
below _ = 7

-- comparisons and the ternary do not associate
abbrev pub associates : ℕ → Bool
associates n = if nat_eq n 8 then false else if nat_eq n 12 then false else true

-- the level of what stands before an operator of that level
abbrev pub left_of : ℕ → ℕ
left_of n = if associates n then n else n - 1

-- the level of what a suffix or an operator makes
abbrev pub grade : Suffix → ℕ
grade (joined o) = suc (below o)
grade negated = 8
grade chosen = 12
grade _ = 0

abbrev pub grade_of : Option Suffix → ℕ
grade_of None = 13
grade_of (Some s) = grade s

-- what closes brackets
abbrev pub closing_bracket : Bracket → Lexeme
closing_bracket round = closing_round
closing_bracket square = closing_square
closing_bracket curly = closing_curly

-- what stands between commas
pub data Kind : Type 0 where
  tests : Kind
  pairs : Kind
  arguments : Kind
  parameters : Kind
  -- in a list without brackets: of a TestList, and of an ExprList
  loose : Kind
  targets : Kind

abbrev pub kind_in : Bracket → Kind
kind_in curly = pairs
kind_in _ = tests

-- the level of the members of a list without brackets
abbrev pub level_of : Kind → ℕ
level_of targets = 7
level_of _ = 12

-- round brackets hold no comprehension
abbrev pub comprises : Bracket → Bool
comprises round = false
comprises _ = true

-- the tree of members in brackets: the members that were read, whether a comma is behind the last, and the spans with the brackets and without
abbrev pub enclosed : Bracket → tree.Members → Bool → Extent → Extent → tree.Expr
enclosed round ms t outer inner = grouped ms t outer inner
enclosed square ms t outer inner = tree.list ms outer
enclosed curly ms t outer inner = tree.dict ms outer

-- a text in a format has its braces doubled
abbrev pub doubled : List ℕ → List ℕ
doubled [] = []
doubled (c ∷ cs) = if nat_eq c 123 then c ∷ c ∷ doubled cs else if nat_eq c 125 then c ∷ c ∷ doubled cs else c ∷ doubled cs

-- {}
abbrev pub field_format : List ℕ
field_format = 123 ∷ 125 ∷ []

-- behind `!`, `s` stands for {} and `r` for {!r}
abbrev pub conversion : List ℕ → Option (List ℕ)
conversion [] = None
conversion (c ∷ []) = if nat_eq c 115 then Some field_format else if nat_eq c 114 then Some (123 ∷ 33 ∷ 114 ∷ 125 ∷ []) else None
conversion (c ∷ d ∷ cs) = None

-- what an operator that assigns does
abbrev pub assigner : Lexeme → Option (Option AssignOp)
assigner equal = Some None
assigner plus_equal = Some (Some assign_op.Add)
assigner minus_equal = Some (Some assign_op.Subtract)
assigner star_equal = Some (Some assign_op.Multiply)
assigner slash_equal = Some (Some assign_op.Divide)
assigner slash_slash_equal = Some (Some assign_op.FloorDivide)
assigner percent_equal = Some (Some assign_op.Percent)
assigner ampersand_equal = Some (Some assign_op.BitAnd)
assigner pipe_equal = Some (Some assign_op.BitOr)
assigner caret_equal = Some (Some assign_op.BitXor)
assigner less_less_equal = Some (Some assign_op.LeftShift)
assigner greater_greater_equal = Some (Some assign_op.RightShift)
assigner _ = None
