use Rattle.starlark_place.specs.Place.{Extent}
use Rattle.starlark_ast.specs.Tree as tree
use Rattle.starlark_payload.proofs.Parts.{with}
use Rattle.starlark_payload.proofs.single.placed_type.Goals as goal

pub returns : goal.returns
returns g c = with (λ (q : Extent → tree.Annotation). q c.args.x.span) c.in_ok-node.ensures
