use Rattle.std.proofs.Common.{ap, arith, refl, sym, ◌∙◌, List, Option, Some}
use Rattle.std.proofs.lemmas.List.{nil_from_length}
use Rattle.starlark_place.specs.Place.{Extent}
use Rattle.starlark_ast.specs.Tree as tree
use Rattle.starlark_ast.specs.declared.ast.StmtP.TheVariants as stmt
use Rattle.starlark_ast.specs.View.{def_view, for_view, members, stmt_view}
use Rattle.starlark_payload.specs.Around.{annotation_of, same_member}
use Rattle.starlark_payload.specs.Payloads.{OfDef, both_of, def_payloads, for_payloads, stmt_payloads}
use Rattle.starlark_payload.specs.StatementWeights.{stmt_weight}
use Rattle.starlark_payload.specs.Mapped.{seen}
use Rattle.starlark_payload.specs.StatementsAround.{both_seen, plain_view, sequence_of}
use Rattle.starlark_payload.specs.Weights.{both_weight, node_weight, unboxed}
use Rattle.starlark_payload.proofs.Answering.{begins_all}
use Rattle.starlark_payload.proofs.Loops.{done_called, done_kept, done_more, done_none, done_stops, done_weighs}
use Rattle.starlark_payload.proofs.Parts.{behind, both, late, made, made_held, plain, stops, stops_behind, stops_first, taken, with}
use Rattle.starlark_payload.proofs.StatementOpening.{Assign_payloads, Assign_view, Break_payloads, Break_view, Continue_payloads, Continue_view, Def_payloads, Def_view, Expression_payloads, Expression_view, For_payloads, For_view, IfElse_payloads_of, IfElse_view_of, IfElse_weight_of, If_payloads_of, If_view_of, If_weight_of, Load_payloads, Load_view, Modify_payloads_of, Modify_view_of, Pass_payloads, Pass_view, Return_payloads, Return_view, Statements_payloads, Statements_view, def_of, def_payloads_of, def_view_of, def_weight_of, for_of, for_payloads_of, for_view_of, for_weight_of}
use Rattle.starlark_payload.proofs.statement_mapping.+statements.Goals as goal

pub statement-returns-in-Break : goal.statement-returns-in-Break
statement-returns-in-Break g n c = made stmt_view stmt_payloads stmt.Break (λ (q : Extent → tree.Statement). q) (plain (plain_view c.open_plain.result)) c.open_plain.ensures.kept c.open_plain.ensures.payloads (Break_view _ _ _ _ _ _ ∙ sym (ap plain_view c.in-Break.is)) (Break_payloads _ _ _ _ _ _)

pub statement-returns-in-Continue : goal.statement-returns-in-Continue
statement-returns-in-Continue g n c = made stmt_view stmt_payloads stmt.Continue (λ (q : Extent → tree.Statement). q) (plain (plain_view c.open_plain.result)) c.open_plain.ensures.kept c.open_plain.ensures.payloads (Continue_view _ _ _ _ _ _ ∙ sym (ap plain_view c.in-Continue.is)) (Continue_payloads _ _ _ _ _ _)

pub statement-returns-in-Pass : goal.statement-returns-in-Pass
statement-returns-in-Pass g n c = made stmt_view stmt_payloads stmt.Pass (λ (q : Extent → tree.Statement). q) (plain (plain_view c.open_plain.result)) c.open_plain.ensures.kept c.open_plain.ensures.payloads (Pass_view _ _ _ _ _ _ ∙ sym (ap plain_view c.in-Pass.is)) (Pass_payloads _ _ _ _ _ _)

pub statement-returns-in_ok-value-in-Return : goal.statement-returns-in_ok-value-in-Return
statement-returns-in_ok-value-in-Return g n c = made stmt_view stmt_payloads (stmt.Return c.in_ok-value-in-Return.value) (λ (q : Option tree.Expr). tree.return q) c.in_ok-value-in-Return.ensures c.open_return.ensures.kept c.open_return.ensures.payloads (Return_view c.in_ok-value-in-Return.value) (Return_payloads c.in_ok-value-in-Return.value)

pub statement-returns-in_ok-value-in-Expression : goal.statement-returns-in_ok-value-in-Expression
statement-returns-in_ok-value-in-Expression g n c = made stmt_view stmt_payloads (stmt.Expression c.in_ok-value-in-Expression.value) (λ (q : tree.Expr). tree.expression q) c.in_ok-value-in-Expression.ensures c.open_expression.ensures.kept c.open_expression.ensures.payloads (Expression_view c.in_ok-value-in-Expression.value) (Expression_payloads c.in_ok-value-in-Expression.value)

pub statement-returns-in_ok-parts-in-Assign : goal.statement-returns-in_ok-parts-in-Assign
statement-returns-in_ok-parts-in-Assign g n c = made stmt_view stmt_payloads (stmt.Assign c.in_ok-parts-in-Assign.parts) (λ (q : Extent → tree.Statement). q) c.in_ok-parts-in-Assign.ensures c.open_assign.ensures.kept c.open_assign.ensures.payloads (Assign_view c.in_ok-parts-in-Assign.parts) (Assign_payloads c.in_ok-parts-in-Assign.parts)

pub statement-returns-in_err-lhs-in-AssignModify : goal.statement-returns-in_err-lhs-in-AssignModify
statement-returns-in_err-lhs-in-AssignModify g n c = late _ _ _ _ _ c.from_residual-in_err-lhs-in-AssignModify.ensures.1 (stops c.open_modify-lhs.ensures.payloads (stops_first _ c.in_err-lhs-in-AssignModify.ensures))

pub statement-returns-in_err-rhs-in-AssignModify : goal.statement-returns-in_err-rhs-in-AssignModify
statement-returns-in_err-rhs-in-AssignModify g n c = late _ _ _ _ _ c.from_residual-in_err-rhs-in-AssignModify.ensures.1 (stops c.open_modify-lhs.ensures.payloads (stops_behind c.in_ok-lhs-in-AssignModify.ensures c.in_err-rhs-in-AssignModify.ensures))

pub statement-returns-in_ok-xs-in-Statements : goal.statement-returns-in_ok-xs-in-Statements
statement-returns-in_ok-xs-in-Statements g n c = made stmt_view stmt_payloads (stmt.Statements c.in_ok-xs-in-Statements.xs) (λ (q : List tree.Statement). tree.block (sequence_of q)) c.in_ok-xs-in-Statements.ensures c.open_statements.ensures.kept c.open_statements.ensures.payloads (Statements_view c.in_ok-xs-in-Statements.xs) (Statements_payloads c.in_ok-xs-in-Statements.xs)

pub statement-returns-in_ok-parts-in-Def : goal.statement-returns-in_ok-parts-in-Def
statement-returns-in_ok-parts-in-Def g n c = made stmt_view stmt_payloads (stmt.Def c.in_ok-parts-in-Def.parts) (λ (q : Extent → tree.Statement). q) c.in_ok-parts-in-Def.ensures c.open_def.ensures.kept c.open_def.ensures.payloads (Def_view c.in_ok-parts-in-Def.parts) (Def_payloads c.in_ok-parts-in-Def.parts)

pub statement-returns-in_ok-parts-in-Load : goal.statement-returns-in_ok-parts-in-Load
statement-returns-in_ok-parts-in-Load g n c = made stmt_view stmt_payloads (stmt.Load c.in_ok-parts-in-Load.parts) (λ (q : Extent → tree.Statement). q) c.in_ok-parts-in-Load.ensures c.open_load.ensures.kept c.open_load.ensures.payloads (Load_view c.in_ok-parts-in-Load.parts) (Load_payloads c.in_ok-parts-in-Load.parts)

pub statement-returns-in_ok-rhs-in-AssignModify : goal.statement-returns-in_ok-rhs-in-AssignModify
statement-returns-in_ok-rhs-in-AssignModify g n c = made stmt_view stmt_payloads (stmt.AssignModify c.in_ok-lhs-in-AssignModify.lhs c.open_modify-lhs.result.1 c.in_ok-rhs-in-AssignModify.rhs) (λ (q : tree.Expr × tree.Expr). tree.assign q.0 tree.untyped (Some c.open_modify-lhs.result.1) q.1) (both c.in_ok-lhs-in-AssignModify.ensures c.in_ok-rhs-in-AssignModify.ensures) c.open_modify-lhs.ensures.kept c.open_modify-lhs.ensures.payloads (Modify_view_of _ _ _ _ refl) (Modify_payloads_of _ _ _ _ refl)

pub suite-returns : goal.suite-returns
suite-returns g n c = made_held (seen stmt_view) (λ q. stmt_payloads q.node) _ c.boxed.result (taken (λ q. stmt_payloads q.node) (seen stmt_view) c.args.x.value c.opened-span.result c.opened-span.ensures (with (λ (q : Extent → tree.Statement). q c.opened-span.result.span) c.in_ok-node.ensures)) c.boxed.ensures

pub suite-returns-in_err-node : goal.suite-returns-in_err-node
suite-returns-in_err-node g n c = late _ _ _ _ _ c.from_residual.ensures.1 (stops (ap (λ q. stmt_payloads q.node) (sym c.opened-span.ensures)) c.in_err-node.ensures)

pub suite-statement-requires : goal.suite-statement-requires
suite-statement-requires g n c κs within = let less = ap (λ q. stmt_weight q.node) c.opened-span.ensures in (omega (arith, less), within)

pub suites-returns-in_err-body : goal.suites-returns-in_err-body
suites-returns-in_err-body g n c = late _ _ _ _ _ c.from_residual.ensures.1 (stops (ap (both_of stmt_payloads) (sym c.opened-x.ensures)) (stops_first _ c.in_err-body.ensures))

pub suites-returns-in_err-other : goal.suites-returns-in_err-other
suites-returns-in_err-other g n c = late _ _ _ _ _ c.from_residual-in_err-other.ensures.1 (stops (ap (both_of stmt_payloads) (sym c.opened-x.ensures)) (stops_behind c.in_ok-body.ensures c.in_err-other.ensures))

pub suites-returns : goal.suites-returns
suites-returns g n c = made_held (both_seen stmt_view) (both_of stmt_payloads) _ c.boxed.result (taken (both_of stmt_payloads) (both_seen stmt_view) c.args.x.value c.opened-x.result c.opened-x.ensures (both (with (λ (q : Extent → tree.Statement). q c.opened-x.result.0.span) c.in_ok-body.ensures) (with (λ (q : Extent → tree.Statement). q c.opened-x.result.1.span) c.in_ok-other.ensures))) c.boxed.ensures

pub suites-statement-requires : goal.suites-statement-requires
suites-statement-requires g n c κs within = let less = ap (both_weight stmt_weight) c.opened-x.ensures in (omega (arith, less), within)

pub suites-statement-requires-2 : goal.suites-statement-requires-2
suites-statement-requires-2 g n c κs within = let less = ap (both_weight stmt_weight) c.opened-x.ensures in (omega (arith, less), within)

pub def-returns-in_err-params : goal.def-returns-in_err-params
def-returns-in_err-params g n c = late _ _ _ _ _ c.from_residual.ensures.1 (stops (def_payloads_of c.args.x (unboxed c.args.x.return_type) c.args.x.body.value refl refl) (stops_behind c.assigned-name.ensures (stops_first _ c.in_err-params.ensures)))

pub def-returns-in_err-return_type : goal.def-returns-in_err-return_type
def-returns-in_err-return_type g n c = late _ _ _ _ _ c.from_residual-in_err-return_type.ensures.1 (stops (def_payloads_of c.args.x (unboxed c.args.x.return_type) c.args.x.body.value refl refl) (stops_behind c.assigned-name.ensures (stops_behind c.in_ok-params.ensures (stops_first _ c.in_err-return_type.ensures))))

pub def-returns-in_err-body : goal.def-returns-in_err-body
def-returns-in_err-body g n c = late _ _ _ _ _ c.from_residual-in_err-body.ensures.1 (stops (def_payloads_of c.args.x (unboxed c.args.x.return_type) c.args.x.body.value refl refl) (stops_behind c.assigned-name.ensures (stops_behind c.in_ok-params.ensures (stops_behind c.in_ok-return_type.ensures (stops_first _ c.in_err-body.ensures)))))

pub def-returns : goal.def-returns
def-returns g n c = let it = def_of c.assigned-name.result c.in_ok-params.params c.in_ok-return_type.return_type c.in_ok-body.body c.map_def-payload.result in made def_view def_payloads it (λ (q : tree.Name × (List tree.Member × (Option tree.Annotation × tree.Statement))). tree.define q.0 (members same_member q.1.0) (annotation_of q.1.1.0) q.1.1.1) (both c.assigned-name.ensures (both c.in_ok-params.ensures (both c.in_ok-return_type.ensures (behind (OfDef c.args.x.payload) (OfDef c.map_def-payload.result) c.in_ok-body.ensures c.map_def-payload.ensures)))) (def_view_of c.args.x _ _ refl refl) (def_payloads_of c.args.x (unboxed c.args.x.return_type) c.args.x.body.value refl refl) (def_view_of it _ _ refl refl) (def_payloads_of it _ _ refl refl)

pub def-suite-requires : goal.def-suite-requires
def-suite-requires g n c κs within = let less = def_weight_of c.args.x _ refl in (omega (arith, less), within)

pub statements-loop-x-init : goal.statements-loop-x-init
statements-loop-x-init g n c = done_none c.reverse.ensures.items c.new-done.ensures.items

pub statements-statement-requires : goal.statements-statement-requires
statements-statement-requires g n c κs within = (let less = done_weighs c.pop.new.self.items (node_weight stmt_weight) c.loop-x.invariant c.in-Some.ensures.items in (omega (arith, less), within))

pub statements-returns-in_err-node : goal.statements-returns-in_err-node
statements-returns-in_err-node g n c = late _ _ _ _ _ c.from_residual.ensures.1 (done_stops c.pop.new.self.items c.loop-x.invariant c.in-Some.ensures.items c.in_err-node.ensures)

pub statements-loop-x-preserved : goal.statements-loop-x-preserved
statements-loop-x-preserved g n c = done_more c.pop.new.self.items c.loop-x.invariant c.in-Some.ensures.items (ap (λ q. q c.in-Some.x.span) c.in_ok-node.ensures.kept) c.in_ok-node.ensures.called c.in_ok-push.ensures.items

pub statements-returns-in_err-push : goal.statements-returns-in_err-push
statements-returns-in_err-push g n c = late _ _ _ _ _ c.from_residual-in_err-push.ensures.1 (done_stops c.pop.new.self.items c.loop-x.invariant c.in-Some.ensures.items (begins_all _ c.in_ok-node.ensures.called))

pub statements-returns : goal.statements-returns
statements-returns g n c = let none = nil_from_length c.loop-x.rest.items (sym c.loop-x.rest.ok.0 ∙ c.in_default.ensures.cases.0) in record { kept = done_kept c.loop-x.invariant none; called = done_called c.loop-x.invariant none }

pub statement-returns-in_ok-parts-in-For : goal.statement-returns-in_ok-parts-in-For
statement-returns-in_ok-parts-in-For g n c = made stmt_view stmt_payloads (stmt.For c.in_ok-parts-in-For.parts) (λ (q : Extent → tree.Statement). q) c.in_ok-parts-in-For.ensures c.open_for.ensures.kept c.open_for.ensures.payloads (For_view c.in_ok-parts-in-For.parts) (For_payloads c.in_ok-parts-in-For.parts)

pub branch-returns-in_err-condition : goal.branch-returns-in_err-condition
branch-returns-in_err-condition g n c = late _ _ _ _ _ c.from_residual.ensures.1 (stops (ap stmt_payloads c.in-If.is ∙ If_payloads_of c.in-If.condition c.in-If.body c.in-If.body.value refl) (stops_first _ c.in_err-condition.ensures))

pub branch-returns-in_err-body : goal.branch-returns-in_err-body
branch-returns-in_err-body g n c = late _ _ _ _ _ c.from_residual-in_err-body.ensures.1 (stops (ap stmt_payloads c.in-If.is ∙ If_payloads_of c.in-If.condition c.in-If.body c.in-If.body.value refl) (stops_behind c.in_ok-condition.ensures c.in_err-body.ensures))

pub branch-returns : goal.branch-returns
branch-returns g n c = made stmt_view stmt_payloads (stmt.If c.in_ok-condition.condition c.in_ok-body.body) (λ (q : tree.Expr × tree.Statement). tree.when q.0 q.1) (both c.in_ok-condition.ensures c.in_ok-body.ensures) (ap stmt_view c.in-If.is ∙ If_view_of c.in-If.condition c.in-If.body c.in-If.body.value refl) (ap stmt_payloads c.in-If.is ∙ If_payloads_of c.in-If.condition c.in-If.body c.in-If.body.value refl) (If_view_of _ _ _ refl) (If_payloads_of _ _ _ refl)

pub branch-suite-requires : goal.branch-suite-requires
branch-suite-requires g n c κs within = let less = ap stmt_weight c.in-If.is ∙ If_weight_of c.in-If.condition c.in-If.body c.in-If.body.value refl in (omega (arith, less), within)

pub branches-returns-in_err-condition : goal.branches-returns-in_err-condition
branches-returns-in_err-condition g n c = late _ _ _ _ _ c.from_residual.ensures.1 (stops (ap stmt_payloads c.in-IfElse.is ∙ IfElse_payloads_of c.in-IfElse.condition c.in-IfElse.bodies c.in-IfElse.bodies.value refl) (stops_first _ c.in_err-condition.ensures))

pub branches-returns-in_err-bodies : goal.branches-returns-in_err-bodies
branches-returns-in_err-bodies g n c = late _ _ _ _ _ c.from_residual-in_err-bodies.ensures.1 (stops (ap stmt_payloads c.in-IfElse.is ∙ IfElse_payloads_of c.in-IfElse.condition c.in-IfElse.bodies c.in-IfElse.bodies.value refl) (stops_behind c.in_ok-condition.ensures c.in_err-bodies.ensures))

pub branches-returns : goal.branches-returns
branches-returns g n c = made stmt_view stmt_payloads (stmt.IfElse c.in_ok-condition.condition c.in_ok-bodies.bodies) (λ (q : tree.Expr × (tree.Statement × tree.Statement)). tree.either q.0 q.1.0 q.1.1) (both c.in_ok-condition.ensures c.in_ok-bodies.ensures) (ap stmt_view c.in-IfElse.is ∙ IfElse_view_of c.in-IfElse.condition c.in-IfElse.bodies c.in-IfElse.bodies.value refl) (ap stmt_payloads c.in-IfElse.is ∙ IfElse_payloads_of c.in-IfElse.condition c.in-IfElse.bodies c.in-IfElse.bodies.value refl) (IfElse_view_of _ _ _ refl) (IfElse_payloads_of _ _ _ refl)

pub branches-suites-requires : goal.branches-suites-requires
branches-suites-requires g n c κs within = let less = ap stmt_weight c.in-IfElse.is ∙ IfElse_weight_of c.in-IfElse.condition c.in-IfElse.bodies c.in-IfElse.bodies.value refl in (omega (arith, less), within)

pub for_loop-returns-in_err-var : goal.for_loop-returns-in_err-var
for_loop-returns-in_err-var g n c = late _ _ _ _ _ c.from_residual.ensures.1 (stops (for_payloads_of c.args.x c.args.x.body.value refl) (stops_first _ c.in_err-var.ensures))

pub for_loop-returns-in_err-over : goal.for_loop-returns-in_err-over
for_loop-returns-in_err-over g n c = late _ _ _ _ _ c.from_residual-in_err-over.ensures.1 (stops (for_payloads_of c.args.x c.args.x.body.value refl) (stops_behind c.in_ok-var.ensures (stops_first _ c.in_err-over.ensures)))

pub for_loop-returns-in_err-body : goal.for_loop-returns-in_err-body
for_loop-returns-in_err-body g n c = late _ _ _ _ _ c.from_residual-in_err-body.ensures.1 (stops (for_payloads_of c.args.x c.args.x.body.value refl) (stops_behind c.in_ok-var.ensures (stops_behind c.in_ok-over.ensures c.in_err-body.ensures)))

pub for_loop-returns : goal.for_loop-returns
for_loop-returns g n c = let it = for_of c.in_ok-var.var c.in_ok-over.over c.in_ok-body.body in made for_view for_payloads it (λ (q : tree.Expr × (tree.Expr × tree.Statement)). tree.repeat q.0 q.1.0 q.1.1) (both c.in_ok-var.ensures (both c.in_ok-over.ensures c.in_ok-body.ensures)) (for_view_of c.args.x _ refl) (for_payloads_of c.args.x _ refl) (for_view_of it _ refl) (for_payloads_of it _ refl)

pub for_loop-suite-requires : goal.for_loop-suite-requires
for_loop-suite-requires g n c κs within = let less = for_weight_of c.args.x _ refl in (omega (arith, less), within)
