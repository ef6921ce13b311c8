use Rattle.std.proofs.Common.{refl, sym, ap, flat_map}
use Rattle.starlark_visit.proofs.GoesOn.{out_err}
use Rattle.starlark_write.specs.Beside as beside
use Rattle.starlark_write.specs.Beside.{KeepsForClause}
use Rattle.starlark_ast.specs.Places.{clause_places, for_clause_places}
use Rattle.starlark_write.proofs.Lent.{seen_left}
use Rattle.starlark_write.proofs.Writes.{writes_at, writes_stop, writes_then}
use Rattle.starlark_write.proofs.expressions.clauses.Goals as goal

pub returns-in_err-visit_expr_err_mut-clause-calls : goal.returns-in_err-visit_expr_err_mut-clause-calls
returns-in_err-visit_expr_err_mut-clause-calls g c = writes_stop g.F.FnMut (flat_map clause_places c.args.rest.now.items) (writes_at g.F.FnMut (ap for_clause_places (sym c.deref_mut.ensures.value)) refl c.visit_expr_err_mut.ensures.calls) c.in_err-visit_expr_err_mut.was (out_err c.from_residual.result c.from_residual.ensures.1)

pub returns-in_err-visit_expr_err_mut-clause-first : goal.returns-in_err-visit_expr_err_mut-clause-first
returns-in_err-visit_expr_err_mut-clause-first g c = seen_left KeepsForClause c.deref_mut.ensures.value c.visit_expr_err_mut.ensures.kept

pub returns-in_err-visit_expr_err_mut-clause-rest : goal.returns-in_err-visit_expr_err_mut-clause-rest
returns-in_err-visit_expr_err_mut-clause-rest g c = beside.rest _

pub returns-clause-calls : goal.returns-clause-calls
returns-clause-calls g c = writes_then g.F.FnMut (writes_at g.F.FnMut (ap for_clause_places (sym c.deref_mut.ensures.value)) refl c.visit_expr_err_mut.ensures.calls) c.in_ok-visit_expr_err_mut.was c.parts.ensures.calls

pub returns-clause-first : goal.returns-clause-first
returns-clause-first g c = seen_left KeepsForClause c.deref_mut.ensures.value c.visit_expr_err_mut.ensures.kept

pub returns-clause-rest : goal.returns-clause-rest
returns-clause-rest g c = c.parts.ensures.kept
