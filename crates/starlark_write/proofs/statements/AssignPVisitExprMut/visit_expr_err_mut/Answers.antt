use Rattle.std.proofs.Common.{refl, [], ◌∷◌, ◌++◌}
use Rattle.starlark_ast.specs.Statements.{maybe_type_here}
use Rattle.starlark_visit.proofs.GoesOn.{out_err}
use Rattle.starlark_write.proofs.KeptStatements.{type_here_same}
use Rattle.starlark_write.proofs.Writes.{writes_stop, writes_then}
use Rattle.starlark_write.proofs.statements.AssignPVisitExprMut.visit_expr_err_mut.Goals as goal

pub returns-in_err-visit_expr_err_mut-clause-calls : goal.returns-in_err-visit_expr_err_mut-clause-calls
returns-in_err-visit_expr_err_mut-clause-calls g c = writes_stop g.F.FnMut (maybe_type_here c.args.self.now.ty ++ c.args.self.now.rhs ∷ []) c.visit_expr_err_mut.ensures.calls c.in_err-visit_expr_err_mut.was (out_err c.from_residual.result c.from_residual.ensures.1)

pub returns-in_err-visit_expr_err_mut-clause-kept : goal.returns-in_err-visit_expr_err_mut-clause-kept
returns-in_err-visit_expr_err_mut-clause-kept g c = record { lhs = record { span = refl; node = c.visit_expr_err_mut.ensures.kept }; ty = type_here_same _ }

pub returns-in_err-held_type-clause-calls : goal.returns-in_err-held_type-clause-calls
returns-in_err-held_type-clause-calls g c = writes_then g.F.FnMut c.visit_expr_err_mut.ensures.calls c.in_ok-visit_expr_err_mut.was (writes_stop g.F.FnMut (c.args.self.now.rhs ∷ []) c.held_type.ensures.calls c.in_err-held_type.was (out_err c.from_residual-in_err-held_type.result c.from_residual-in_err-held_type.ensures.1))

pub returns-in_err-held_type-clause-kept : goal.returns-in_err-held_type-clause-kept
returns-in_err-held_type-clause-kept g c = record { lhs = record { span = refl; node = c.visit_expr_err_mut.ensures.kept }; ty = c.held_type.ensures.kept }

pub returns-clause-calls : goal.returns-clause-calls
returns-clause-calls g c = writes_then g.F.FnMut c.visit_expr_err_mut.ensures.calls c.in_ok-visit_expr_err_mut.was (writes_then g.F.FnMut c.held_type.ensures.calls c.in_ok-held_type.was c.one.ensures.calls)

pub returns-clause-kept : goal.returns-clause-kept
returns-clause-kept g c = record { lhs = record { span = refl; node = c.visit_expr_err_mut.ensures.kept }; ty = c.held_type.ensures.kept }
