-- How large an expression is, and what stands in it: more than all parts together.
use Rattle.std.proofs.Common.{ℕ, ◌+◌}
use Rattle.starlark_ast.specs.Tree as t
use Rattle.starlark_ast.specs.Tree.{Expr, Member, Members, Bound, Annotation, Subscript, Clause, Clauses}

abbrev mutual
  pub size : Expr → ℕ
  size (t.leaf l u s) = 0
  size (t.tuple ms s) = 4 + sizes ms
  size (t.list ms s) = 4 + sizes ms
  size (t.dict ms s) = 4 + sizes ms
  size (t.comprehension m cs s) = 4 + (member_size m + clause_sizes cs)
  size (t.dot x n u s) = 4 + size x
  size (t.index x b s) = 4 + (size x + subscript_size b)
  size (t.call x ms s) = 4 + (size x + sizes ms)
  size (t.lambda ms x s) = 4 + (sizes ms + size x)
  size (t.signed o x s) = 4 + size x
  size (t.operation x o y s) = 4 + (size x + size y)
  size (t.choice x y z s) = 4 + (size x + size y + size z)
  size (t.fstring f u ms v s) = 4 + sizes ms

  pub member_size : Member → ℕ
  member_size (t.item x) = 2 + size x
  member_size (t.pair x y) = 2 + (size x + size y)
  member_size (t.positional x s) = 2 + size x
  member_size (t.named n u x s) = 2 + size x
  member_size (t.args x s) = 2 + size x
  member_size (t.kwargs x s) = 2 + size x
  member_size (t.slash s) = 0
  member_size (t.no_args s) = 0
  member_size (t.parameter k n u a b s) = 2 + (annotation_size a + bound_size b)

  pub sizes : Members → ℕ
  sizes t.none = 0
  sizes (t.more ms m) = 1 + (sizes ms + member_size m)

  pub bound_size : Bound → ℕ
  bound_size t.absent = 0
  bound_size (t.present x) = 2 + size x

  pub annotation_size : Annotation → ℕ
  annotation_size t.untyped = 0
  annotation_size (t.typed x s) = 2 + size x

  pub subscript_size : Subscript → ℕ
  subscript_size (t.single x) = size x
  subscript_size (t.double x y) = size x + size y
  subscript_size (t.slice a b c) = bound_size a + bound_size b + bound_size c

  pub clause_size : Clause → ℕ
  clause_size (t.for_clause x y) = 4 + (size x + size y)
  clause_size (t.if_clause x) = 4 + size x

  pub clause_sizes : Clauses → ℕ
  clause_sizes t.no_clauses = 0
  clause_sizes (t.and_clause cs c) = 2 + (clause_sizes cs + clause_size c)
