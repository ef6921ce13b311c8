use Rattle.std.proofs.Common.{ap, refl, ◌∙◌}
use Rattle.starlark_ast.specs.View.{stmt_view}
use Rattle.starlark_payload.specs.Payloads.{stmt_payloads}
use Rattle.starlark_payload.proofs.StatementOpening.{Modify_payloads_of, Modify_view_of}
use Rattle.starlark_payload.proofs.statement_openers.open_modify.Goals as goal

pub returns-clause-kept : goal.returns-clause-kept
returns-clause-kept g c = ap stmt_view c.in-AssignModify.is ∙ Modify_view_of c.in-AssignModify.lhs c.in-AssignModify.op c.in-AssignModify.rhs _ refl

pub returns-clause-payloads : goal.returns-clause-payloads
returns-clause-payloads g c = ap stmt_payloads c.in-AssignModify.is ∙ Modify_payloads_of c.in-AssignModify.lhs c.in-AssignModify.op c.in-AssignModify.rhs _ refl
