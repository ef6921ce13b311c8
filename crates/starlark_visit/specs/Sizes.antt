-- How large an expression is, and what stands in it. Of statements, how many hold others.
use Rattle.std.specs.Prelude.{ℕ, suc, ◌+◌}
use Rattle.starlark_ast.specs.Tree as t
use Rattle.starlark_ast.specs.Tree.{Expr, Member, Members, Bound, Annotation, Subscript, Clause, Clauses, Statement, Sequence}

abbrev mutual
  pub size : Expr → ℕ
  size (t.leaf l u s) = 0
  size (t.tuple ms s) = suc (sizes ms)
  size (t.list ms s) = suc (sizes ms)
  size (t.dict ms s) = suc (sizes ms)
  size (t.comprehension m cs s) = suc (clause_sizes cs + member_size m)
  size (t.dot x n u s) = suc (size x)
  size (t.index x b s) = suc (suc (size x + subscript_size b))
  size (t.call x ms s) = suc (size x + sizes ms)
  size (t.lambda ms x s) = suc (suc (sizes ms + size x))
  size (t.signed o x s) = suc (size x)
  size (t.operation x o y s) = suc (suc (size x + size y))
  size (t.choice x y z s) = suc (suc (size x + size y + size z))
  size (t.fstring f u ms v s) = suc (sizes ms)

  pub member_size : Member → ℕ
  member_size (t.item x) = size x
  member_size (t.pair x y) = suc (size x + size y)
  member_size (t.positional x s) = size x
  member_size (t.named n u x s) = size x
  member_size (t.args x s) = size x
  member_size (t.kwargs x s) = size x
  member_size (t.slash s) = 0
  member_size (t.no_args s) = 0
  member_size (t.parameter k n u a b s) = suc (annotation_size a + bound_size b)

  pub sizes : Members → ℕ
  sizes t.none = 0
  sizes (t.more ms m) = suc (sizes ms + member_size m)

  pub bound_size : Bound → ℕ
  bound_size t.absent = 0
  bound_size (t.present x) = suc (size x)

  pub annotation_size : Annotation → ℕ
  annotation_size t.untyped = 0
  annotation_size (t.typed x s) = suc (size x)

  pub subscript_size : Subscript → ℕ
  subscript_size (t.single x) = size x
  subscript_size (t.double x y) = suc (size x + size y)
  subscript_size (t.slice a b c) = suc (bound_size a + bound_size b + bound_size c)

  pub clause_size : Clause → ℕ
  clause_size (t.for_clause x y) = suc (size x + size y)
  clause_size (t.if_clause x) = size x

  pub clause_sizes : Clauses → ℕ
  clause_sizes t.no_clauses = 0
  clause_sizes (t.and_clause cs c) = suc (suc (clause_sizes cs + clause_size c))

abbrev mutual
  pub statement_size : Statement → ℕ
  statement_size (t.when x a s) = suc (statement_size a)
  statement_size (t.either x a b s) = suc (statement_size a + statement_size b)
  statement_size (t.repeat x y a s) = suc (statement_size a)
  statement_size (t.define n ps a b s) = suc (statement_size b)
  statement_size (t.block ss s) = suc (sequence_size ss)
  statement_size a = 0

  pub sequence_size : Sequence → ℕ
  sequence_size t.no_statements = 0
  sequence_size (t.add_statement ss a) = sequence_size ss + statement_size a
