use Rattle.starlark_ast.specs.Tree as tree
use Rattle.starlark_ast.specs.View.{type_view}
use Rattle.starlark_payload.specs.Payloads.{OfType, type_payloads}
use Rattle.starlark_payload.proofs.Parts.{behind, late, made, stops, stops_first}
use Rattle.starlark_payload.proofs.single.type_expr.Goals as goal

pub returns : goal.returns
returns g c = made type_view type_payloads c.type_expr.result (λ (q : tree.Expr). tree.typed q) (behind (OfType c.open_type_expr-x.result.1) (OfType c.map_type_expr.result) c.in_ok-x.ensures c.map_type_expr.ensures) c.open_type_expr-x.ensures.kept c.open_type_expr-x.ensures.payloads c.type_expr.ensures.kept c.type_expr.ensures.payloads

pub returns-in_err-x : goal.returns-in_err-x
returns-in_err-x g c = late _ _ _ _ _ c.from_residual.ensures.1 (stops c.open_type_expr-x.ensures.payloads (stops_first _ c.in_err-x.ensures))
