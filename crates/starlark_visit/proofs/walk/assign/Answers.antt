use Rattle.std.proofs.Common.{[], ◌∷◌, ◌++◌}
use Rattle.starlark_ast.specs.Calls.{lent}
use Rattle.starlark_ast.specs.Places.{target_places}
use Rattle.starlark_ast.specs.Statements.{maybe_type_here}
use Rattle.starlark_visit.proofs.GoesOn.{out_err}
use Rattle.starlark_visit.proofs.Taking.{front_taken, rest_taken}
use Rattle.starlark_visit.proofs.Until.{until_then, until_stop}
use Rattle.starlark_visit.proofs.walk.assign.Goals as goal

pub returns-in_err-target : goal.returns-in_err-target
returns-in_err-target g c =
    until_stop lent g.F.FnMut _ c.target.ensures c.in_err-target.was (out_err c.from_residual.result c.from_residual.ensures.1)

pub returns-in_err-held_type : goal.returns-in_err-held_type
returns-in_err-held_type g c =
    until_then lent g.F.FnMut c.target.ensures c.in_ok-target.was (until_stop lent g.F.FnMut _ c.held_type.ensures c.in_err-held_type.was (out_err c.from_residual-in_err-held_type.result c.from_residual-in_err-held_type.ensures.1))

pub returns : goal.returns
returns g c =
    until_then lent g.F.FnMut c.target.ensures c.in_ok-target.was (until_then lent g.F.FnMut c.held_type.ensures c.in_ok-held_type.was c.one.ensures)

pub target-requires : goal.target-requires
target-requires g c = front_taken lent g.F.FnMut (target_places c.args.x.now.lhs.node) (maybe_type_here c.args.x.now.ty ++ c.args.x.now.rhs ∷ []) c.requires

pub held_type-requires : goal.held_type-requires
held_type-requires g c = front_taken lent g.F.FnMut (maybe_type_here c.args.x.now.ty) (c.args.x.now.rhs ∷ []) (rest_taken lent g.F.FnMut (target_places c.args.x.now.lhs.node) (maybe_type_here c.args.x.now.ty ++ c.args.x.now.rhs ∷ []) c.requires c.target.ensures c.in_ok-target.was)

pub one-requires : goal.one-requires
one-requires g c = rest_taken lent g.F.FnMut (maybe_type_here c.args.x.now.ty) (c.args.x.now.rhs ∷ []) (rest_taken lent g.F.FnMut (target_places c.args.x.now.lhs.node) (maybe_type_here c.args.x.now.ty ++ c.args.x.now.rhs ∷ []) c.requires c.target.ensures c.in_ok-target.was) c.held_type.ensures c.in_ok-held_type.was
