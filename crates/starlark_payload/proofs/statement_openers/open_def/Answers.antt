use Rattle.std.proofs.Common.{ap, ◌∙◌}
use Rattle.starlark_ast.specs.View.{stmt_view}
use Rattle.starlark_payload.specs.Payloads.{stmt_payloads}
use Rattle.starlark_payload.specs.StatementWeights.{stmt_weight}
use Rattle.starlark_payload.proofs.StatementOpening.{Def_payloads, Def_view, Def_weight}
use Rattle.starlark_payload.proofs.statement_openers.open_def.Goals as goal

pub returns-clause-kept : goal.returns-clause-kept
returns-clause-kept g c = ap stmt_view c.in-Def.is ∙ Def_view c.in-Def.x

pub returns-clause-payloads : goal.returns-clause-payloads
returns-clause-payloads g c = ap stmt_payloads c.in-Def.is ∙ Def_payloads c.in-Def.x

pub returns-clause-weight : goal.returns-clause-weight
returns-clause-weight g c = ap stmt_weight c.in-Def.is ∙ Def_weight c.in-Def.x
