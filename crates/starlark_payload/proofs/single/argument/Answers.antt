use Rattle.starlark_ast.specs.Tree as tree
use Rattle.starlark_ast.specs.View.{argument_view}
use Rattle.starlark_payload.specs.Around.{argument_of}
use Rattle.starlark_payload.specs.Payloads.{argument_payloads}
use Rattle.starlark_payload.proofs.Parts.{made}
use Rattle.starlark_payload.proofs.single.argument.Goals as goal

pub returns : goal.returns
returns g c = made argument_view argument_payloads c.argument.result (λ (q : tree.Expr). argument_of c.open_argument-around.result.0 q) c.in_ok-x.ensures c.open_argument-around.ensures.kept c.open_argument-around.ensures.payloads c.argument.ensures.kept c.argument.ensures.payloads
