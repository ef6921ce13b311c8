use Rattle.std.proofs.Common.{refl}
use Rattle.starlark_ast.specs.Places.{maybe_type_place}
use Rattle.starlark_visit.proofs.GoesOn.{out_err}
use Rattle.starlark_write.proofs.KeptStatements.{maybe_type_same}
use Rattle.starlark_write.proofs.Writes.{writes_stop, writes_then}
use Rattle.starlark_write.proofs.statements.DefPVisitExprMut.visit_expr_err_mut.Goals as goal

pub returns-in_err-parts-clause-calls : goal.returns-in_err-parts-clause-calls
returns-in_err-parts-clause-calls g c = writes_stop g.F.FnMut (maybe_type_place c.args.self.now.return_type) c.parts.ensures.calls c.in_err-parts.was (out_err c.from_residual.result c.from_residual.ensures.1)

pub returns-in_err-parts-clause-kept : goal.returns-in_err-parts-clause-kept
returns-in_err-parts-clause-kept g c = record { name = refl; params_block = c.parts.ensures.block; params = c.parts.ensures.kept; return_type = maybe_type_same _; body = refl; payload = refl }

pub returns-clause-calls : goal.returns-clause-calls
returns-clause-calls g c = writes_then g.F.FnMut c.parts.ensures.calls c.in_ok-parts.was c.maybe_type.ensures.calls

pub returns-clause-kept : goal.returns-clause-kept
returns-clause-kept g c = record { name = refl; params_block = c.parts.ensures.block; params = c.parts.ensures.kept; return_type = c.maybe_type.ensures.kept; body = refl; payload = refl }
