-- Trees in which operations are calls of names. A renaming gives for an operator the name that is called in its place, or none.
use Rattle.std.specs.HashMap.{HashMap, get_by_text}
use Rattle.std.specs.Option.{option_map}
use Rattle.std.specs.Prelude.{ℕ, List, Option, Some, None, codes, string_bytes}
use Rattle.std.specs.declared.alloc.Global.{Global}
use Rattle.std.specs.declared.string.String.{String}
use Rattle.starlark_place.specs.Place.{Extent}
use Rattle.starlark_ast.specs.declared.ast.BinOp.{BinOp}
use Rattle.starlark_ast.specs.declared.ast.BinOp.TheVariants as operator
use Rattle.starlark_ast.specs.Tree.{name, Expr, leaf, tuple, list, dict, comprehension, dot, index, call, lambda, signed, operation, choice, fstring, place, Member, item, pair, positional, named, args, kwargs, slash, no_args, parameter, Members, none, more, Bound, absent, present, Annotation, untyped, typed, Subscript, single, double, slice, Clause, for_clause, if_clause, Clauses, no_clauses, and_clause, Statement, break, continue, pass, return, load, expression, assign, when, either, repeat, define, block, Sequence, no_statements, add_statement}

abbrev pub Renaming : Type 0
Renaming = BinOp → Option (List ℕ)

-- an operator as it is written, without spaces around it
abbrev pub bare_text : BinOp → List ℕ
bare_text operator.Or = codes "or"
bare_text operator.And = codes "and"
bare_text operator.Equal = codes "=="
bare_text operator.NotEqual = codes "!="
bare_text operator.Less = codes "<"
bare_text operator.Greater = codes ">"
bare_text operator.LessOrEqual = codes "<="
bare_text operator.GreaterOrEqual = codes ">="
bare_text operator.In = codes "in"
bare_text operator.NotIn = codes "not in"
bare_text operator.Subtract = codes "-"
bare_text operator.Add = codes "+"
bare_text operator.Multiply = codes "*"
bare_text operator.Percent = codes "%"
bare_text operator.Divide = codes "/"
bare_text operator.FloorDivide = codes "//"
bare_text operator.BitAnd = codes "&"
bare_text operator.BitOr = codes "|"
bare_text operator.BitXor = codes "^"
bare_text operator.LeftShift = codes "<<"
bare_text operator.RightShift = codes ">>"

-- Of a map: the name at the operator's text.
abbrev pub renaming : {S : Type 0} → HashMap (String Global) (String Global) S → Renaming
renaming names o = option_map string_bytes (get_by_text names (bare_text o))

-- An operation, or the call of a name on its two operands. The call, the name and the expression that is called have the place of the operation, each argument that of its operand.
abbrev pub operated : Option (List ℕ) → Expr → BinOp → Expr → Extent → Expr
operated None x o y s = operation x o y s
operated (Some n) x o y s = call (leaf (name n) s s) (more (more none (positional x (place x))) (positional y (place y))) s

-- Operands are replaced too, and so are types, targets and defaults.
abbrev mutual
  pub replaced : Renaming → Expr → Expr
  replaced r (leaf l t s) = leaf l t s
  replaced r (tuple ms s) = tuple (replaced_members r ms) s
  replaced r (list ms s) = list (replaced_members r ms) s
  replaced r (dict ms s) = dict (replaced_members r ms) s
  replaced r (comprehension m cs s) = comprehension (replaced_member r m) (replaced_clauses r cs) s
  replaced r (dot x n t s) = dot (replaced r x) n t s
  replaced r (index x b s) = index (replaced r x) (replaced_subscript r b) s
  replaced r (call x ms s) = call (replaced r x) (replaced_members r ms) s
  replaced r (lambda ms x s) = lambda (replaced_members r ms) (replaced r x) s
  replaced r (signed o x s) = signed o (replaced r x) s
  replaced r (operation x o y s) = operated (r o) (replaced r x) o (replaced r y) s
  replaced r (choice c x y s) = choice (replaced r c) (replaced r x) (replaced r y) s
  replaced r (fstring f t ms u s) = fstring f t (replaced_members r ms) u s

  pub replaced_member : Renaming → Member → Member
  replaced_member r (item x) = item (replaced r x)
  replaced_member r (pair k v) = pair (replaced r k) (replaced r v)
  replaced_member r (positional x s) = positional (replaced r x) s
  replaced_member r (named n t x s) = named n t (replaced r x) s
  replaced_member r (args x s) = args (replaced r x) s
  replaced_member r (kwargs x s) = kwargs (replaced r x) s
  replaced_member r (slash s) = slash s
  replaced_member r (no_args s) = no_args s
  replaced_member r (parameter k n t a b s) = parameter k n t (replaced_type r a) (replaced_bound r b) s

  pub replaced_members : Renaming → Members → Members
  replaced_members r none = none
  replaced_members r (more ms m) = more (replaced_members r ms) (replaced_member r m)

  pub replaced_bound : Renaming → Bound → Bound
  replaced_bound r absent = absent
  replaced_bound r (present x) = present (replaced r x)

  pub replaced_type : Renaming → Annotation → Annotation
  replaced_type r untyped = untyped
  replaced_type r (typed x t) = typed (replaced r x) t

  pub replaced_subscript : Renaming → Subscript → Subscript
  replaced_subscript r (single x) = single (replaced r x)
  replaced_subscript r (double x y) = double (replaced r x) (replaced r y)
  replaced_subscript r (slice a b c) = slice (replaced_bound r a) (replaced_bound r b) (replaced_bound r c)

  pub replaced_clause : Renaming → Clause → Clause
  replaced_clause r (for_clause x y) = for_clause (replaced r x) (replaced r y)
  replaced_clause r (if_clause x) = if_clause (replaced r x)

  pub replaced_clauses : Renaming → Clauses → Clauses
  replaced_clauses r no_clauses = no_clauses
  replaced_clauses r (and_clause cs c) = and_clause (replaced_clauses r cs) (replaced_clause r c)

abbrev pub replaced_value : Renaming → Option Expr → Option Expr
replaced_value r None = None
replaced_value r (Some x) = Some (replaced r x)

abbrev mutual
  pub replaced_statement : Renaming → Statement → Statement
  replaced_statement r (break s) = break s
  replaced_statement r (continue s) = continue s
  replaced_statement r (pass s) = pass s
  replaced_statement r (return x s) = return (replaced_value r x) s
  replaced_statement r (load m ss s) = load m ss s
  replaced_statement r (expression x s) = expression (replaced r x) s
  replaced_statement r (assign x a o y s) = assign (replaced r x) (replaced_type r a) o (replaced r y) s
  replaced_statement r (when c a s) = when (replaced r c) (replaced_statement r a) s
  replaced_statement r (either c a b s) = either (replaced r c) (replaced_statement r a) (replaced_statement r b) s
  replaced_statement r (repeat x y a s) = repeat (replaced r x) (replaced r y) (replaced_statement r a) s
  replaced_statement r (define n ps a b s) = define n (replaced_members r ps) (replaced_type r a) (replaced_statement r b) s
  replaced_statement r (block ss s) = block (replaced_sequence r ss) s

  pub replaced_sequence : Renaming → Sequence → Sequence
  replaced_sequence r no_statements = no_statements
  replaced_sequence r (add_statement ss a) = add_statement (replaced_sequence r ss) (replaced_statement r a)
