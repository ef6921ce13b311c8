use Rattle.std.proofs.Common.{◌++◌}
use Rattle.starlark_visit.proofs.GoesOn.{out_err}
use Rattle.starlark_write.specs.BesideTypes as kept
use Rattle.starlark_write.specs.TypePlaces.{expr_types, target_types}
use Rattle.starlark_write.proofs.Writes.{writes_stop, writes_then}
use Rattle.starlark_write.proofs.type_exprs.assign.Goals as goal

pub returns-in_err-assigned-clause-calls : goal.returns-in_err-assigned-clause-calls
returns-in_err-assigned-clause-calls g c =
    writes_stop g.F.FnMut (target_types c.args.x.now.lhs.node ++ expr_types c.args.x.now.rhs.node) c.assigned.ensures.calls c.in_err-assigned.was (out_err c.from_residual.result c.from_residual.ensures.1)

pub returns-in_err-assigned-clause-kept : goal.returns-in_err-assigned-clause-kept
returns-in_err-assigned-clause-kept g c = record { ty = c.assigned.ensures.kept; lhs = kept.same_target _; rhs = kept.same _ }

pub returns-in_err-target-clause-calls : goal.returns-in_err-target-clause-calls
returns-in_err-target-clause-calls g c =
    writes_then g.F.FnMut c.assigned.ensures.calls c.in_ok-assigned.was (writes_stop g.F.FnMut (expr_types c.args.x.now.rhs.node) c.target.ensures.calls c.in_err-target.was (out_err c.from_residual-in_err-target.result c.from_residual-in_err-target.ensures.1))

pub returns-in_err-target-clause-kept : goal.returns-in_err-target-clause-kept
returns-in_err-target-clause-kept g c = record { ty = c.assigned.ensures.kept; lhs = c.target.ensures.kept; rhs = kept.same _ }

pub returns-clause-calls : goal.returns-clause-calls
returns-clause-calls g c =
    writes_then g.F.FnMut c.assigned.ensures.calls c.in_ok-assigned.was (writes_then g.F.FnMut c.target.ensures.calls c.in_ok-target.was c.expr.ensures.calls)

pub returns-clause-kept : goal.returns-clause-kept
returns-clause-kept g c = record { ty = c.assigned.ensures.kept; lhs = c.target.ensures.kept; rhs = c.expr.ensures.kept }
