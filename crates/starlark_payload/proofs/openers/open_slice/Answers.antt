use Rattle.std.proofs.Common.{ap, ◌∙◌}
use Rattle.starlark_ast.specs.View.{expr_view}
use Rattle.starlark_payload.specs.Payloads.{expr_payloads}
use Rattle.starlark_payload.specs.Weights.{expr_weight}
use Rattle.starlark_payload.proofs.Opening.{Slice_payloads, Slice_view, Slice_weight}
use Rattle.starlark_payload.proofs.openers.open_slice.Goals as goal

pub returns-clause-kept : goal.returns-clause-kept
returns-clause-kept g c = ap expr_view c.in-Slice.is ∙ Slice_view c.in-Slice.x c.in-Slice.a c.in-Slice.b c.in-Slice.c

pub returns-clause-payloads : goal.returns-clause-payloads
returns-clause-payloads g c = ap expr_payloads c.in-Slice.is ∙ Slice_payloads c.in-Slice.x c.in-Slice.a c.in-Slice.b c.in-Slice.c

pub returns-clause-weight : goal.returns-clause-weight
returns-clause-weight g c = ap expr_weight c.in-Slice.is ∙ Slice_weight c.in-Slice.x c.in-Slice.a c.in-Slice.b c.in-Slice.c
