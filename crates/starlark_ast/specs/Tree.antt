-- Trees as plain data, with all their places and without payloads. A target is the node of its form, and no list.
use Rattle.std.specs.Prelude.{ℕ, List, Option}
use Rattle.starlark_place.specs.Place.{Extent}
use Rattle.starlark_lexer.specs.Items.{Number}
use Rattle.starlark_ast.specs.declared.ast.BinOp.{BinOp}
use Rattle.starlark_ast.specs.declared.ast.AssignOp.{AssignOp}

-- what one token is as an expression
pub data Leaf : Type 0 where
  name : List ℕ → Leaf
  int : Number → Leaf
  float : List ℕ → Leaf
  string : List ℕ → Leaf
  bytes : List ℕ → Leaf
  ellipsis : Leaf

-- what stands before its operand
pub data Sign : Type 0 where
  Not : Sign
  Minus : Sign
  Plus : Sign
  BitNot : Sign

-- a parameter with a name: plain, behind `*`, behind `**`
pub data Stars : Type 0 where
  plain : Stars
  starred : Stars
  double_starred : Stars

mutual
  -- An expression. The last place is its own.
  pub data Expr : Type 0 where
    -- the name or literal has a place of its own; for `...` both are one
    leaf : Leaf → Extent → Extent → Expr
    tuple : Members → Extent → Expr
    list : Members → Extent → Expr
    dict : Members → Extent → Expr
    -- of a list where the member is an item, of a dict where it is a pair; the first clause is a `for`
    comprehension : Member → Clauses → Extent → Expr
    -- the attribute, and its place
    dot : Expr → List ℕ → Extent → Extent → Expr
    index : Expr → Subscript → Extent → Expr
    call : Expr → Members → Extent → Expr
    lambda : Members → Expr → Extent → Expr
    signed : Sign → Expr → Extent → Expr
    operation : Expr → BinOp → Expr → Extent → Expr
    -- the condition, what it gives where that holds, what it gives else
    choice : Expr → Expr → Expr → Extent → Expr
    -- the format and its place, the fields, and the place of the f-string
    fstring : List ℕ → Extent → Members → Extent → Extent → Expr

  -- What stands between commas. Arguments and parameters have places of their own, the last ones.
  pub data Member : Type 0 where
    -- of a tuple, a list or an f-string
    item : Expr → Member
    -- of a dict
    pair : Expr → Expr → Member
    -- of a call
    positional : Expr → Extent → Member
    named : List ℕ → Extent → Expr → Extent → Member
    args : Expr → Extent → Member
    kwargs : Expr → Extent → Member
    -- of a `def` or a lambda: `/`, `*` alone, or a name with its place, its type and its default
    slash : Extent → Member
    no_args : Extent → Member
    parameter : Stars → List ℕ → Extent → Annotation → Bound → Extent → Member

  pub data Members : Type 0 where
    none : Members
    more : Members → Member → Members

  -- an expression, or none
  pub data Bound : Type 0 where
    absent : Bound
    present : Expr → Bound

  -- a type and its place, or none
  pub data Annotation : Type 0 where
    untyped : Annotation
    typed : Expr → Extent → Annotation

  -- what stands in the brackets behind an expression
  pub data Subscript : Type 0 where
    single : Expr → Subscript
    double : Expr → Expr → Subscript
    slice : Bound → Bound → Bound → Subscript

  -- a clause of a comprehension: its target and what it goes over, or its condition
  pub data Clause : Type 0 where
    for_clause : Expr → Expr → Clause
    if_clause : Expr → Clause

  pub data Clauses : Type 0 where
    no_clauses : Clauses
    and_clause : Clauses → Clause → Clauses

-- a text with its place: an identifier that is assigned, or a string
pub data Name : Type 0 where
  name_at : List ℕ → Extent → Name

-- what a load binds: the local name, and that in the other module
pub data Symbol : Type 0 where
  symbol : Name → Name → Symbol

-- each with the place of the comma behind it, where there is one
pub data Symbols : Type 0 where
  no_symbols : Symbols
  add_symbol : Symbols → Symbol → Option Extent → Symbols

mutual
  -- A statement. The last place is its own.
  pub data Statement : Type 0 where
    break : Extent → Statement
    continue : Extent → Statement
    pass : Extent → Statement
    return : Option Expr → Extent → Statement
    -- the module, what it binds
    load : Name → Symbols → Extent → Statement
    expression : Expr → Extent → Statement
    -- the left side, its type, the operator before `=` where there is one, the right side
    assign : Expr → Annotation → Option AssignOp → Expr → Extent → Statement
    when : Expr → Statement → Extent → Statement
    either : Expr → Statement → Statement → Extent → Statement
    -- the target, what it goes over, the body
    repeat : Expr → Expr → Statement → Extent → Statement
    -- the name, the parameters, the type of the result, the body
    define : Name → Members → Annotation → Statement → Extent → Statement
    block : Sequence → Extent → Statement

  pub data Sequence : Type 0 where
    no_statements : Sequence
    add_statement : Sequence → Statement → Sequence

-- the place of an expression
abbrev pub place : Expr → Extent
place (leaf l t s) = s
place (tuple ms s) = s
place (list ms s) = s
place (dict ms s) = s
place (comprehension m cs s) = s
place (dot x n t s) = s
place (index x b s) = s
place (call x ms s) = s
place (lambda ms x s) = s
place (signed o x s) = s
place (operation x o y s) = s
place (choice c x y s) = s
place (fstring f t ms u s) = s

-- the place of a statement
abbrev pub statement_place : Statement → Extent
statement_place (break s) = s
statement_place (continue s) = s
statement_place (pass s) = s
statement_place (return x s) = s
statement_place (load m ss s) = s
statement_place (expression x s) = s
statement_place (assign x t o y s) = s
statement_place (when c a s) = s
statement_place (either c a b s) = s
statement_place (repeat x y a s) = s
statement_place (define n ps t a s) = s
statement_place (block ss s) = s
