use Rattle.starlark_place.specs.Place.{Extent}
use Rattle.starlark_ast.specs.Tree as tree
use Rattle.starlark_ast.specs.View.{for_clause_view}
use Rattle.starlark_payload.specs.Payloads.{for_clause_payloads}
use Rattle.starlark_payload.proofs.Parts.{both, late, made, stops, stops_behind, stops_first, with}
use Rattle.starlark_payload.proofs.single.for_clause.Goals as goal

pub returns-in_err-node : goal.returns-in_err-node
returns-in_err-node g c = late _ _ _ _ _ c.from_residual.ensures.1 (stops c.open_for_clause-var.ensures.payloads (stops_first _ c.in_err-node.ensures))

pub returns-in_err-over : goal.returns-in_err-over
returns-in_err-over g c = late _ _ _ _ _ c.from_residual-in_err-over.ensures.1 (stops c.open_for_clause-var.ensures.payloads (stops_behind c.in_ok-node.ensures c.in_err-over.ensures))

pub returns : goal.returns
returns g c = made for_clause_view for_clause_payloads c.for_clause.result (λ (q : tree.Expr × tree.Expr). tree.for_clause q.0 q.1) (both (with (λ (q : Extent → tree.Expr). q c.open_for_clause-var.result.0.span) c.in_ok-node.ensures) c.in_ok-over.ensures) c.open_for_clause-var.ensures.kept c.open_for_clause-var.ensures.payloads c.for_clause.ensures.kept c.for_clause.ensures.payloads
