use Rattle.std.proofs.Common.{refl}
use Rattle.starlark_write.proofs.members.AstParameterPVisitExprMut.visit_expr_err_mut.Goals as goal

pub returns-clause-calls : goal.returns-clause-calls
returns-clause-calls g c = c.visit_expr_err_mut.ensures.calls

pub returns-clause-kept : goal.returns-clause-kept
returns-clause-kept g c = record { span = refl; node = c.visit_expr_err_mut.ensures.kept }

pub returns-clause-callable : goal.returns-clause-callable
returns-clause-callable g c = c.visit_expr_err_mut.ensures.callable
