use Rattle.std.proofs.Common.{ap, ◌∙◌}
use Rattle.starlark_ast.specs.Calls.{lent}
use Rattle.starlark_ast.specs.Places.{maybe_place, maybe_type_place, parameter_layer, parameter_places}
use Rattle.starlark_ast.specs.declared.ast.ParameterP.TheVariants as parameter
use Rattle.starlark_visit.proofs.Taking.{front_taken, rest_taken, takes_at}
use Rattle.starlark_visit.proofs.Until.{until_at, until_then}
use Rattle.starlark_visit.proofs.visit.ParameterPVisitExpr.lend_exprs.Goals as goal

pub returns-in_ok-maybe_type-in-Normal : goal.returns-in_ok-maybe_type-in-Normal
returns-in_ok-maybe_type-in-Normal g c =
    until_at lent g.F.FnMut (ap parameter_places c.in-Normal.is ∙ ap parameter_layer (parameter.outs-Normal c.in-Normal.field-0 c.in-Normal.ty c.in-Normal.default)) (until_then lent g.F.FnMut c.maybe_type.ensures c.in_ok-maybe_type-in-Normal.was c.maybe.ensures)

pub maybe_type-requires : goal.maybe_type-requires
maybe_type-requires g c = front_taken lent g.F.FnMut (maybe_type_place c.in-Normal.ty) (maybe_place c.in-Normal.default) (takes_at lent g.F.FnMut (ap parameter_places c.in-Normal.is ∙ ap parameter_layer (parameter.outs-Normal c.in-Normal.field-0 c.in-Normal.ty c.in-Normal.default)) c.requires)

pub maybe-requires : goal.maybe-requires
maybe-requires g c = rest_taken lent g.F.FnMut (maybe_type_place c.in-Normal.ty) (maybe_place c.in-Normal.default) (takes_at lent g.F.FnMut (ap parameter_places c.in-Normal.is ∙ ap parameter_layer (parameter.outs-Normal c.in-Normal.field-0 c.in-Normal.ty c.in-Normal.default)) c.requires) c.maybe_type.ensures c.in_ok-maybe_type-in-Normal.was
