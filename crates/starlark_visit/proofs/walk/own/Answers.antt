use Rattle.std.proofs.Common.{ap, ◌∙◌, [], ◌∷◌}
use Rattle.starlark_ast.specs.Calls.{lent}
use Rattle.starlark_ast.specs.Places.{target_places}
use Rattle.starlark_ast.specs.Statements.{exprs_below, exprs_layer}
use Rattle.starlark_ast.specs.declared.ast.StmtP.TheVariants as stmt
use Rattle.starlark_visit.proofs.GoesOn.{out_err}
use Rattle.starlark_visit.proofs.Taking.{front_taken, rest_taken, takes_at}
use Rattle.starlark_visit.proofs.Until.{until_at, until_then, until_stop}
use Rattle.starlark_visit.proofs.walk.own.Goals as goal

pub returns-in_err-target-in-AssignModify : goal.returns-in_err-target-in-AssignModify
returns-in_err-target-in-AssignModify g c =
    until_at lent g.F.FnMut (ap exprs_below c.in-AssignModify.is ∙ ap exprs_layer (stmt.outs-AssignModify c.in-AssignModify.lhs c.in-AssignModify.field-1 c.in-AssignModify.rhs)) (until_stop lent g.F.FnMut _ c.target.ensures c.in_err-target-in-AssignModify.was (out_err c.from_residual.result c.from_residual.ensures.1))

pub returns-in_ok-target-in-AssignModify : goal.returns-in_ok-target-in-AssignModify
returns-in_ok-target-in-AssignModify g c =
    until_at lent g.F.FnMut (ap exprs_below c.in-AssignModify.is ∙ ap exprs_layer (stmt.outs-AssignModify c.in-AssignModify.lhs c.in-AssignModify.field-1 c.in-AssignModify.rhs)) (until_then lent g.F.FnMut c.target.ensures c.in_ok-target-in-AssignModify.was c.boxed.ensures)

pub returns-in-If : goal.returns-in-If
returns-in-If g c =
    until_at lent g.F.FnMut (ap exprs_below c.in-If.is ∙ ap exprs_layer (stmt.outs-If c.in-If.c c.in-If.field-1)) c.one-in-If.ensures

pub returns-in-IfElse : goal.returns-in-IfElse
returns-in-IfElse g c =
    until_at lent g.F.FnMut (ap exprs_below c.in-IfElse.is ∙ ap exprs_layer (stmt.outs-IfElse c.in-IfElse.c c.in-IfElse.field-1)) c.one-in-IfElse.ensures

pub held-requires : goal.held-requires
held-requires g c = takes_at lent g.F.FnMut (ap exprs_below c.in-Return.is ∙ ap exprs_layer (stmt.outs-Return c.in-Return.x)) c.requires

pub one-requires : goal.one-requires
one-requires g c = takes_at lent g.F.FnMut (ap exprs_below c.in-Expression.is ∙ ap exprs_layer (stmt.outs-Expression c.in-Expression.x)) c.requires

pub assign-requires : goal.assign-requires
assign-requires g c = takes_at lent g.F.FnMut (ap exprs_below c.in-Assign.is ∙ ap exprs_layer (stmt.outs-Assign c.in-Assign.x)) c.requires

pub target-requires : goal.target-requires
target-requires g c = front_taken lent g.F.FnMut (target_places c.in-AssignModify.lhs.node) (c.in-AssignModify.rhs.value ∷ []) (takes_at lent g.F.FnMut (ap exprs_below c.in-AssignModify.is ∙ ap exprs_layer (stmt.outs-AssignModify c.in-AssignModify.lhs c.in-AssignModify.field-1 c.in-AssignModify.rhs)) c.requires)

pub boxed-requires : goal.boxed-requires
boxed-requires g c = rest_taken lent g.F.FnMut (target_places c.in-AssignModify.lhs.node) (c.in-AssignModify.rhs.value ∷ []) (takes_at lent g.F.FnMut (ap exprs_below c.in-AssignModify.is ∙ ap exprs_layer (stmt.outs-AssignModify c.in-AssignModify.lhs c.in-AssignModify.field-1 c.in-AssignModify.rhs)) c.requires) c.target.ensures c.in_ok-target-in-AssignModify.was

pub one-requires-in-If : goal.one-requires-in-If
one-requires-in-If g c = takes_at lent g.F.FnMut (ap exprs_below c.in-If.is ∙ ap exprs_layer (stmt.outs-If c.in-If.c c.in-If.field-1)) c.requires

pub one-requires-in-IfElse : goal.one-requires-in-IfElse
one-requires-in-IfElse g c = takes_at lent g.F.FnMut (ap exprs_below c.in-IfElse.is ∙ ap exprs_layer (stmt.outs-IfElse c.in-IfElse.c c.in-IfElse.field-1)) c.requires

pub for_head-requires : goal.for_head-requires
for_head-requires g c = takes_at lent g.F.FnMut (ap exprs_below c.in-For.is ∙ ap exprs_layer (stmt.outs-For c.in-For.x)) c.requires

pub lend_exprs-requires : goal.lend_exprs-requires
lend_exprs-requires g c = takes_at lent g.F.FnMut (ap exprs_below c.in-Def.is ∙ ap exprs_layer (stmt.outs-Def c.in-Def.x)) c.requires
