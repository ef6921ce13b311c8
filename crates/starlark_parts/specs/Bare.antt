-- Trees without their places: each place is that of nothing.
use Rattle.std.specs.Prelude.{Option, Some, None}
use Rattle.starlark_place.specs.Place.{Extent}
use Rattle.starlark_ast.specs.Shown.{nowhere}
use Rattle.starlark_ast.specs.Tree as t
use Rattle.starlark_ast.specs.Tree.{Expr, Member, Members, Bound, Annotation, Subscript, Clause, Clauses, Name, Symbol, Symbols, Statement, Sequence}

abbrev mutual
  pub bare_expr : Expr → Expr
  bare_expr (t.leaf l u s) = t.leaf l nowhere nowhere
  bare_expr (t.tuple ms s) = t.tuple (bare_members ms) nowhere
  bare_expr (t.list ms s) = t.list (bare_members ms) nowhere
  bare_expr (t.dict ms s) = t.dict (bare_members ms) nowhere
  bare_expr (t.comprehension m cs s) = t.comprehension (bare_member m) (bare_clauses cs) nowhere
  bare_expr (t.dot x n u s) = t.dot (bare_expr x) n nowhere nowhere
  bare_expr (t.index x b s) = t.index (bare_expr x) (bare_subscript b) nowhere
  bare_expr (t.call x ms s) = t.call (bare_expr x) (bare_members ms) nowhere
  bare_expr (t.lambda ms x s) = t.lambda (bare_members ms) (bare_expr x) nowhere
  bare_expr (t.signed o x s) = t.signed o (bare_expr x) nowhere
  bare_expr (t.operation x o y s) = t.operation (bare_expr x) o (bare_expr y) nowhere
  bare_expr (t.choice x y z s) = t.choice (bare_expr x) (bare_expr y) (bare_expr z) nowhere
  bare_expr (t.fstring f u ms v s) = t.fstring f nowhere (bare_members ms) nowhere nowhere

  pub bare_member : Member → Member
  bare_member (t.item x) = t.item (bare_expr x)
  bare_member (t.pair x y) = t.pair (bare_expr x) (bare_expr y)
  bare_member (t.positional x s) = t.positional (bare_expr x) nowhere
  bare_member (t.named n u x s) = t.named n nowhere (bare_expr x) nowhere
  bare_member (t.args x s) = t.args (bare_expr x) nowhere
  bare_member (t.kwargs x s) = t.kwargs (bare_expr x) nowhere
  bare_member (t.slash s) = t.slash nowhere
  bare_member (t.no_args s) = t.no_args nowhere
  bare_member (t.parameter k n u a b s) = t.parameter k n nowhere (bare_annotation a) (bare_bound b) nowhere

  pub bare_members : Members → Members
  bare_members t.none = t.none
  bare_members (t.more ms m) = t.more (bare_members ms) (bare_member m)

  pub bare_bound : Bound → Bound
  bare_bound t.absent = t.absent
  bare_bound (t.present x) = t.present (bare_expr x)

  pub bare_annotation : Annotation → Annotation
  bare_annotation t.untyped = t.untyped
  bare_annotation (t.typed x s) = t.typed (bare_expr x) nowhere

  pub bare_subscript : Subscript → Subscript
  bare_subscript (t.single x) = t.single (bare_expr x)
  bare_subscript (t.double x y) = t.double (bare_expr x) (bare_expr y)
  bare_subscript (t.slice a b c) = t.slice (bare_bound a) (bare_bound b) (bare_bound c)

  pub bare_clause : Clause → Clause
  bare_clause (t.for_clause x y) = t.for_clause (bare_expr x) (bare_expr y)
  bare_clause (t.if_clause x) = t.if_clause (bare_expr x)

  pub bare_clauses : Clauses → Clauses
  bare_clauses t.no_clauses = t.no_clauses
  bare_clauses (t.and_clause cs c) = t.and_clause (bare_clauses cs) (bare_clause c)

abbrev pub bare_name : Name → Name
bare_name (t.name_at n s) = t.name_at n nowhere

abbrev pub bare_symbol : Symbol → Symbol
bare_symbol (t.symbol a b) = t.symbol (bare_name a) (bare_name b)

-- a comma, if there is one
abbrev pub bare_comma : Option Extent → Option Extent
bare_comma None = None
bare_comma (Some s) = Some nowhere

abbrev pub bare_symbols : Symbols → Symbols
bare_symbols t.no_symbols = t.no_symbols
bare_symbols (t.add_symbol ss s o) = t.add_symbol (bare_symbols ss) (bare_symbol s) (bare_comma o)

-- an expression, if there is one
abbrev pub bare_value : Option Expr → Option Expr
bare_value None = None
bare_value (Some x) = Some (bare_expr x)

abbrev mutual
  pub bare : Statement → Statement
  bare (t.break s) = t.break nowhere
  bare (t.continue s) = t.continue nowhere
  bare (t.pass s) = t.pass nowhere
  bare (t.return x s) = t.return (bare_value x) nowhere
  bare (t.load m ss s) = t.load (bare_name m) (bare_symbols ss) nowhere
  bare (t.expression x s) = t.expression (bare_expr x) nowhere
  bare (t.assign x a o y s) = t.assign (bare_expr x) (bare_annotation a) o (bare_expr y) nowhere
  bare (t.when x a s) = t.when (bare_expr x) (bare a) nowhere
  bare (t.either x a b s) = t.either (bare_expr x) (bare a) (bare b) nowhere
  bare (t.repeat x y a s) = t.repeat (bare_expr x) (bare_expr y) (bare a) nowhere
  bare (t.define n ps a b s) = t.define (bare_name n) (bare_members ps) (bare_annotation a) (bare b) nowhere
  bare (t.block ss s) = t.block (bare_sequence ss) nowhere

  pub bare_sequence : Sequence → Sequence
  bare_sequence t.no_statements = t.no_statements
  bare_sequence (t.add_statement ss s) = t.add_statement (bare_sequence ss) (bare s)
