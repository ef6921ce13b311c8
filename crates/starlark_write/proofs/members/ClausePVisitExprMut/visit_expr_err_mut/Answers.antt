use Rattle.starlark_write.specs.Beside as beside
use Rattle.starlark_write.specs.Beside.{KeepsClause, KeepsForClause}
use Rattle.starlark_write.proofs.Lent.{seen, seen_left}
use Rattle.starlark_write.proofs.members.ClausePVisitExprMut.visit_expr_err_mut.Goals as goal

pub returns-in-For-clause-kept : goal.returns-in-For-clause-kept
returns-in-For-clause-kept g c =
    seen KeepsClause c.in-For.is (beside.for_clause _ _ (seen_left KeepsForClause c.in-For.x-is c.visit_expr_err_mut.ensures.kept))

pub returns-in-If-clause-kept : goal.returns-in-If-clause-kept
returns-in-If-clause-kept g c = seen KeepsClause c.in-If.is (beside.if_clause _ _)
