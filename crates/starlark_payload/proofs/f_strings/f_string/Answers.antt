use Rattle.std.proofs.Common.{List, string_bytes}
use Rattle.starlark_place.specs.Place.{Extent}
use Rattle.starlark_ast.specs.Tree as tree
use Rattle.starlark_ast.specs.View.{fstring_view, members}
use Rattle.starlark_payload.specs.Payloads.{fstring_payloads}
use Rattle.starlark_payload.proofs.FStrings.{fstring_is, fstring_payloads_are}
use Rattle.starlark_payload.proofs.Parts.{late, made, stops}
use Rattle.starlark_payload.proofs.f_strings.f_string.Goals as goal

pub returns : goal.returns
returns g c = made fstring_view fstring_payloads _ (λ (q : List tree.Expr) (u s : Extent). tree.fstring (string_bytes c.args.x.format.node) c.args.x.format.span (members tree.item q) u s) c.in_ok-expressions.ensures (fstring_is c.args.x) (fstring_payloads_are c.args.x) (fstring_is _) (fstring_payloads_are _)

pub returns-in_err-expressions : goal.returns-in_err-expressions
returns-in_err-expressions g c = late _ _ _ _ _ c.from_residual.ensures.1 (stops (fstring_payloads_are c.args.x) c.in_err-expressions.ensures)
