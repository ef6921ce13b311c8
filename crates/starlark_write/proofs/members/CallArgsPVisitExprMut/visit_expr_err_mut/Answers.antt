use Rattle.std.proofs.Common.{sym}
use Rattle.starlark_ast.specs.Places.{argument_place}
use Rattle.std.proofs.lemmas.List.Concat.{flat_map_single}
use Rattle.starlark_write.proofs.Writes.{writes_at}
use Rattle.starlark_write.proofs.members.CallArgsPVisitExprMut.visit_expr_err_mut.Goals as goal

pub returns-clause-calls : goal.returns-clause-calls
returns-clause-calls g c = writes_at g.F.FnMut (sym (flat_map_single argument_place _)) (sym (flat_map_single argument_place _)) c.parts.ensures.calls

pub returns-clause-kept : goal.returns-clause-kept
returns-clause-kept g c = record { block = c.parts.ensures.block; args = c.parts.ensures.kept }

pub returns-clause-callable : goal.returns-clause-callable
returns-clause-callable g c = c.parts.ensures.callable
