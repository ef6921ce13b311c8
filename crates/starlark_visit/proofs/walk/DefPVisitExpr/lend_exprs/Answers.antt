use Rattle.std.proofs.Common.{sym, ap, ◌++◌, flat_map}
use Rattle.starlark_ast.specs.Calls.{lent}
use Rattle.starlark_ast.specs.declared.ast.DefP.{out-DefP}
use Rattle.starlark_ast.specs.Places.{maybe_type_place, parameter_places}
use Rattle.starlark_visit.proofs.GoesOn.{out_err}
use Rattle.starlark_visit.proofs.Taking.{front_taken, rest_taken, takes_at}
use Rattle.starlark_visit.proofs.Until.{until_at, until_then, until_stop}
use Rattle.starlark_visit.proofs.walk.DefPVisitExpr.lend_exprs.Goals as goal

pub returns-in_err-parameters : goal.returns-in_err-parameters
returns-in_err-parameters g c =
    until_at lent g.F.FnMut (ap (λ q. flat_map (λ p. parameter_places p.node) q ++ maybe_type_place (out-DefP _ _ _ _ _ _ c.args.self.now).return_type) (sym c.deref.ensures.value)) (until_stop lent g.F.FnMut _ c.parameters.ensures c.in_err-parameters.was (out_err c.from_residual.result c.from_residual.ensures.1))

pub returns : goal.returns
returns g c =
    until_at lent g.F.FnMut (ap (λ q. flat_map (λ p. parameter_places p.node) q ++ maybe_type_place (out-DefP _ _ _ _ _ _ c.args.self.now).return_type) (sym c.deref.ensures.value)) (until_then lent g.F.FnMut c.parameters.ensures c.in_ok-parameters.was c.maybe_type.ensures)

pub parameters-requires : goal.parameters-requires
parameters-requires g c = front_taken lent g.F.FnMut (flat_map (λ p. parameter_places p.node) c.deref.result.now) (maybe_type_place (out-DefP _ _ _ _ _ _ c.args.self.now).return_type) (takes_at lent g.F.FnMut (ap (λ q. flat_map (λ p. parameter_places p.node) q ++ maybe_type_place (out-DefP _ _ _ _ _ _ c.args.self.now).return_type) (sym c.deref.ensures.value)) c.requires)

pub maybe_type-requires : goal.maybe_type-requires
maybe_type-requires g c = rest_taken lent g.F.FnMut (flat_map (λ p. parameter_places p.node) c.deref.result.now) (maybe_type_place (out-DefP _ _ _ _ _ _ c.args.self.now).return_type) (takes_at lent g.F.FnMut (ap (λ q. flat_map (λ p. parameter_places p.node) q ++ maybe_type_place (out-DefP _ _ _ _ _ _ c.args.self.now).return_type) (sym c.deref.ensures.value)) c.requires) c.parameters.ensures c.in_ok-parameters.was
