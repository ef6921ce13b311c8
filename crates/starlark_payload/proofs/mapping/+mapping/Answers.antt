use Rattle.std.proofs.Common.{arith, sym, ap, ◌∙◌, List, Option, string_bytes}
use Rattle.std.proofs.lemmas.List.{nil_from_length}
use Rattle.starlark_ast.specs.Tree as tree
use Rattle.starlark_payload.specs.Around.{annotation_of, argument_of, both_at, both_view, bound_of, clauses_of, index_of, many_view, marker_of, one_view, same_member, stars_of, three_at, three_view}
use Rattle.starlark_payload.specs.Mapped.{seen}
use Rattle.starlark_payload.proofs.Answering.{answers_at, begins_all, begins_none}
use Rattle.starlark_payload.proofs.Loops.{done_called, done_kept, done_more, done_none, done_stops, done_waits, done_weighs}
use Rattle.starlark_place.specs.Place.{Extent}
use Rattle.starlark_payload.proofs.Parts.{behind, both, late, made, made_held, name_leaf, named, plain, stops, stops_behind, stops_first, taken, with}
use Rattle.starlark_payload.specs.Weights.{argument_weight, both_weight, clause_weight, expr_weight, for_clause_weight, node_weight, parameter_weight, target_weight, three_weight, type_weight}
use Rattle.starlark_payload.specs.Payloads.{OfDef, OfType, argument_payloads, both_of, clause_payloads, expr_payloads, for_clause_payloads, parameter_payloads, target_payloads, three_of, type_payloads}
use Rattle.starlark_ast.specs.View.{argument_view, clause_view, expr_view, for_clause_view, literal_view, members, parameter_view, target_view, type_view}
use Rattle.starlark_payload.proofs.mapping.+mapping.Goals as goal

pub expression-returns-in-Literal : goal.expression-returns-in-Literal
expression-returns-in-Literal g n c = made expr_view expr_payloads c.literal.result (λ (q : Extent → tree.Expr). q) (plain (literal_view c.open_literal.result)) c.open_literal.ensures.kept c.open_literal.ensures.payloads c.literal.ensures.kept c.literal.ensures.payloads

pub expression-returns-in-Name : goal.expression-returns-in-Name
expression-returns-in-Name g n c = made expr_view expr_payloads c.name-in-Name.result (λ (q : Extent → tree.Expr). q) c.name.ensures c.open_name.ensures.kept c.open_name.ensures.payloads c.name-in-Name.ensures.kept c.name-in-Name.ensures.payloads

pub expression-returns-in_err-x-in-One : goal.expression-returns-in_err-x-in-One
expression-returns-in_err-x-in-One g n c = late _ _ _ _ _ c.from_residual.ensures.1 (stops c.open_one-around.ensures.payloads c.in_err-x-in-One.ensures)

pub expression-returns-in_ok-x-in-One : goal.expression-returns-in_ok-x-in-One
expression-returns-in_ok-x-in-One g n c = made expr_view expr_payloads c.one.result (one_view c.open_one-around.result.0) c.in_ok-x-in-One.ensures c.open_one-around.ensures.kept c.open_one-around.ensures.payloads c.one.ensures.kept c.one.ensures.payloads

pub expression-returns-in_err-both-in-Index : goal.expression-returns-in_err-both-in-Index
expression-returns-in_err-both-in-Index g n c = late _ _ _ _ _ c.from_residual-in_err-both-in-Index.ensures.1 (stops c.open_index.ensures.payloads c.in_err-both-in-Index.ensures)

pub expression-returns-in_ok-both-in-Index : goal.expression-returns-in_ok-both-in-Index
expression-returns-in_ok-both-in-Index g n c = made expr_view expr_payloads c.index.result (λ (q : tree.Expr × tree.Expr). index_of q) c.in_ok-both-in-Index.ensures c.open_index.ensures.kept c.open_index.ensures.payloads c.index.ensures.kept c.index.ensures.payloads

pub expression-returns-in_err-x-in-Operation : goal.expression-returns-in_err-x-in-Operation
expression-returns-in_err-x-in-Operation g n c = late _ _ _ _ _ c.from_residual-in_err-x-in-Operation.ensures.1 (stops c.open_operation-x.ensures.payloads (stops_first _ c.in_err-x-in-Operation.ensures))

pub expression-returns-in_err-y-in-Operation : goal.expression-returns-in_err-y-in-Operation
expression-returns-in_err-y-in-Operation g n c = late _ _ _ _ _ c.from_residual-in_err-y-in-Operation.ensures.1 (stops c.open_operation-x.ensures.payloads (stops_behind c.in_ok-x-in-Operation.ensures c.in_err-y-in-Operation.ensures))

pub expression-returns-in_ok-y-in-Operation : goal.expression-returns-in_ok-y-in-Operation
expression-returns-in_ok-y-in-Operation g n c = made expr_view expr_payloads c.operation.result (λ (q : tree.Expr × tree.Expr). tree.operation q.0 c.open_operation-x.result.1 q.1) (both c.in_ok-x-in-Operation.ensures c.in_ok-y-in-Operation.ensures) c.open_operation-x.ensures.kept c.open_operation-x.ensures.payloads c.operation.ensures.kept c.operation.ensures.payloads

pub expression-returns-in_err-all-in-Three : goal.expression-returns-in_err-all-in-Three
expression-returns-in_err-all-in-Three g n c = late _ _ _ _ _ c.from_residual-in_err-all-in-Three.ensures.1 (stops c.open_three-around.ensures.payloads c.in_err-all-in-Three.ensures)

pub expression-returns-in_ok-all-in-Three : goal.expression-returns-in_ok-all-in-Three
expression-returns-in_ok-all-in-Three g n c = made expr_view expr_payloads c.three.result (λ (q : tree.Expr × tree.Expr × tree.Expr). three_view c.open_three-around.result.0 q) c.in_ok-all-in-Three.ensures c.open_three-around.ensures.kept c.open_three-around.ensures.payloads c.three.ensures.kept c.three.ensures.payloads

pub expression-returns-in_err-x-in-Slice : goal.expression-returns-in_err-x-in-Slice
expression-returns-in_err-x-in-Slice g n c = late _ _ _ _ _ c.from_residual-in_err-x-in-Slice.ensures.1 (stops c.open_slice-x.ensures.payloads (stops_first _ c.in_err-x-in-Slice.ensures))

pub expression-returns-in_err-a-in-Slice : goal.expression-returns-in_err-a-in-Slice
expression-returns-in_err-a-in-Slice g n c = late _ _ _ _ _ c.from_residual-in_err-a-in-Slice.ensures.1 (stops c.open_slice-x.ensures.payloads (stops_behind c.in_ok-x-in-Slice.ensures (stops_first _ c.in_err-a-in-Slice.ensures)))

pub expression-returns-in_err-b-in-Slice : goal.expression-returns-in_err-b-in-Slice
expression-returns-in_err-b-in-Slice g n c = late _ _ _ _ _ c.from_residual-in_err-b-in-Slice.ensures.1 (stops c.open_slice-x.ensures.payloads (stops_behind c.in_ok-x-in-Slice.ensures (stops_behind c.in_ok-a-in-Slice.ensures (stops_first _ c.in_err-b-in-Slice.ensures))))

pub expression-returns-in_err-c-in-Slice : goal.expression-returns-in_err-c-in-Slice
expression-returns-in_err-c-in-Slice g n c = late _ _ _ _ _ c.from_residual-in_err-c-in-Slice.ensures.1 (stops c.open_slice-x.ensures.payloads (stops_behind c.in_ok-x-in-Slice.ensures (stops_behind c.in_ok-a-in-Slice.ensures (stops_behind c.in_ok-b-in-Slice.ensures c.in_err-c-in-Slice.ensures))))

pub expression-returns-in_ok-c-in-Slice : goal.expression-returns-in_ok-c-in-Slice
expression-returns-in_ok-c-in-Slice g n c = made expr_view expr_payloads c.slice.result (λ (q : tree.Expr × (Option tree.Expr × (Option tree.Expr × Option tree.Expr))). tree.index q.0 (tree.slice (bound_of q.1.0) (bound_of q.1.1.0) (bound_of q.1.1.1))) (both c.in_ok-x-in-Slice.ensures (both c.in_ok-a-in-Slice.ensures (both c.in_ok-b-in-Slice.ensures c.in_ok-c-in-Slice.ensures))) c.open_slice-x.ensures.kept c.open_slice-x.ensures.payloads c.slice.ensures.kept c.slice.ensures.payloads

pub expression-returns-in_err-xs-in-Many : goal.expression-returns-in_err-xs-in-Many
expression-returns-in_err-xs-in-Many g n c = late _ _ _ _ _ c.from_residual-in_err-xs-in-Many.ensures.1 (stops c.open_many-around.ensures.payloads c.in_err-xs-in-Many.ensures)

pub expression-returns-in_ok-xs-in-Many : goal.expression-returns-in_ok-xs-in-Many
expression-returns-in_ok-xs-in-Many g n c = made expr_view expr_payloads c.many.result (λ (q : List tree.Expr). many_view c.open_many-around.result.0 q) c.in_ok-xs-in-Many.ensures c.open_many-around.ensures.kept c.open_many-around.ensures.payloads c.many.ensures.kept c.many.ensures.payloads

pub expression-returns-in_err-xs-in-Dict : goal.expression-returns-in_err-xs-in-Dict
expression-returns-in_err-xs-in-Dict g n c = late _ _ _ _ _ c.from_residual-in_err-xs-in-Dict.ensures.1 (stops c.open_dict.ensures.payloads c.in_err-xs-in-Dict.ensures)

pub expression-returns-in_ok-xs-in-Dict : goal.expression-returns-in_ok-xs-in-Dict
expression-returns-in_ok-xs-in-Dict g n c = made expr_view expr_payloads c.dict.result (λ (q : List (tree.Expr × tree.Expr)). tree.dict (members both_view q)) c.in_ok-xs-in-Dict.ensures c.open_dict.ensures.kept c.open_dict.ensures.payloads c.dict.ensures.kept c.dict.ensures.payloads

pub expression-returns-in_err-x-in-Call : goal.expression-returns-in_err-x-in-Call
expression-returns-in_err-x-in-Call g n c = late _ _ _ _ _ c.from_residual-in_err-x-in-Call.ensures.1 (stops c.open_call-x.ensures.payloads (stops_first _ c.in_err-x-in-Call.ensures))

pub expression-returns-in_err-args-in-Call : goal.expression-returns-in_err-args-in-Call
expression-returns-in_err-args-in-Call g n c = late _ _ _ _ _ c.from_residual-in_err-args-in-Call.ensures.1 (stops c.open_call-x.ensures.payloads (stops_behind c.in_ok-x-in-Call.ensures c.in_err-args-in-Call.ensures))

pub expression-returns-in_ok-args-in-Call : goal.expression-returns-in_ok-args-in-Call
expression-returns-in_ok-args-in-Call g n c = made expr_view expr_payloads c.call.result (λ (q : tree.Expr × List tree.Member). tree.call q.0 (members same_member q.1)) (both c.in_ok-x-in-Call.ensures c.in_ok-args-in-Call.ensures) c.open_call-x.ensures.kept c.open_call-x.ensures.payloads c.call.ensures.kept c.call.ensures.payloads

pub expression-returns-in_err-params-in-Lambda : goal.expression-returns-in_err-params-in-Lambda
expression-returns-in_err-params-in-Lambda g n c = late _ _ _ _ _ c.from_residual-in_err-params-in-Lambda.ensures.1 (stops c.open_lambda-params.ensures.payloads (stops_first _ c.in_err-params-in-Lambda.ensures))

pub expression-returns-in_err-body-in-Lambda : goal.expression-returns-in_err-body-in-Lambda
expression-returns-in_err-body-in-Lambda g n c = late _ _ _ _ _ c.from_residual-in_err-body-in-Lambda.ensures.1 (stops c.open_lambda-params.ensures.payloads (stops_behind c.in_ok-params-in-Lambda.ensures (stops_first _ c.in_err-body-in-Lambda.ensures)))

pub expression-returns-in_ok-body-in-Lambda : goal.expression-returns-in_ok-body-in-Lambda
expression-returns-in_ok-body-in-Lambda g n c = made expr_view expr_payloads c.lambda.result (λ (q : List tree.Member × tree.Expr). tree.lambda (members same_member q.0) q.1) (both c.in_ok-params-in-Lambda.ensures (behind (OfDef c.open_lambda-params.result.2) (OfDef c.map_def.result) c.in_ok-body-in-Lambda.ensures c.map_def.ensures)) c.open_lambda-params.ensures.kept c.open_lambda-params.ensures.payloads c.lambda.ensures.kept c.lambda.ensures.payloads

pub expression-returns-in_err-x-in-ListComprehension : goal.expression-returns-in_err-x-in-ListComprehension
expression-returns-in_err-x-in-ListComprehension g n c = late _ _ _ _ _ c.from_residual-in_err-x-in-ListComprehension.ensures.1 (stops c.open_list_comprehension-x.ensures.payloads (stops_first _ c.in_err-x-in-ListComprehension.ensures))

pub expression-returns-in_err-first-in-ListComprehension : goal.expression-returns-in_err-first-in-ListComprehension
expression-returns-in_err-first-in-ListComprehension g n c = late _ _ _ _ _ c.from_residual-in_err-first-in-ListComprehension.ensures.1 (stops c.open_list_comprehension-x.ensures.payloads (stops_behind c.in_ok-x-in-ListComprehension.ensures (stops_first _ c.in_err-first-in-ListComprehension.ensures)))

pub expression-returns-in_err-rest-in-ListComprehension : goal.expression-returns-in_err-rest-in-ListComprehension
expression-returns-in_err-rest-in-ListComprehension g n c = late _ _ _ _ _ c.from_residual-in_err-rest-in-ListComprehension.ensures.1 (stops c.open_list_comprehension-x.ensures.payloads (stops_behind c.in_ok-x-in-ListComprehension.ensures (stops_behind c.in_ok-first-in-ListComprehension.ensures c.in_err-rest-in-ListComprehension.ensures)))

pub expression-returns-in_ok-rest-in-ListComprehension : goal.expression-returns-in_ok-rest-in-ListComprehension
expression-returns-in_ok-rest-in-ListComprehension g n c = made expr_view expr_payloads c.list_comprehension.result (λ (q : tree.Expr × (tree.Clause × List tree.Clause)). tree.comprehension (tree.item q.0) (clauses_of q.1.0 q.1.1)) (both c.in_ok-x-in-ListComprehension.ensures (both c.in_ok-first-in-ListComprehension.ensures c.in_ok-rest-in-ListComprehension.ensures)) c.open_list_comprehension-x.ensures.kept c.open_list_comprehension-x.ensures.payloads c.list_comprehension.ensures.kept c.list_comprehension.ensures.payloads

pub expression-returns-in_err-x-in-DictComprehension : goal.expression-returns-in_err-x-in-DictComprehension
expression-returns-in_err-x-in-DictComprehension g n c = late _ _ _ _ _ c.from_residual-in_err-x-in-DictComprehension.ensures.1 (stops c.open_dict_comprehension-x.ensures.payloads (stops_first _ c.in_err-x-in-DictComprehension.ensures))

pub expression-returns-in_err-first-in-DictComprehension : goal.expression-returns-in_err-first-in-DictComprehension
expression-returns-in_err-first-in-DictComprehension g n c = late _ _ _ _ _ c.from_residual-in_err-first-in-DictComprehension.ensures.1 (stops c.open_dict_comprehension-x.ensures.payloads (stops_behind c.in_ok-x-in-DictComprehension.ensures (stops_first _ c.in_err-first-in-DictComprehension.ensures)))

pub expression-returns-in_err-rest-in-DictComprehension : goal.expression-returns-in_err-rest-in-DictComprehension
expression-returns-in_err-rest-in-DictComprehension g n c = late _ _ _ _ _ c.from_residual-in_err-rest-in-DictComprehension.ensures.1 (stops c.open_dict_comprehension-x.ensures.payloads (stops_behind c.in_ok-x-in-DictComprehension.ensures (stops_behind c.in_ok-first-in-DictComprehension.ensures c.in_err-rest-in-DictComprehension.ensures)))

pub expression-returns-in_ok-rest-in-DictComprehension : goal.expression-returns-in_ok-rest-in-DictComprehension
expression-returns-in_ok-rest-in-DictComprehension g n c = made expr_view expr_payloads c.dict_comprehension.result (λ (q : (tree.Expr × tree.Expr) × (tree.Clause × List tree.Clause)). tree.comprehension (both_view q.0) (clauses_of q.1.0 q.1.1)) (both c.in_ok-x-in-DictComprehension.ensures (both c.in_ok-first-in-DictComprehension.ensures c.in_ok-rest-in-DictComprehension.ensures)) c.open_dict_comprehension-x.ensures.kept c.open_dict_comprehension-x.ensures.payloads c.dict_comprehension.ensures.kept c.dict_comprehension.ensures.payloads

pub boxed_expression-returns-in_err-node : goal.boxed_expression-returns-in_err-node
boxed_expression-returns-in_err-node g n c = late _ _ _ _ _ c.from_residual.ensures.1 (stops (ap (λ q. expr_payloads q.node) (sym c.opened-span.ensures)) c.in_err-node.ensures)

pub boxed_expression-returns : goal.boxed_expression-returns
boxed_expression-returns g n c = made_held (seen expr_view) (λ q. expr_payloads q.node) _ c.boxed.result (taken (λ q. expr_payloads q.node) (seen expr_view) c.args.x.value c.opened-span.result c.opened-span.ensures (with (λ (q : Extent → tree.Expr). q c.opened-span.result.span) c.in_ok-node.ensures)) c.boxed.ensures

pub boxed_expression-expression-requires : goal.boxed_expression-expression-requires
boxed_expression-expression-requires g n c κs within = let less = ap (λ q. expr_weight q.node) c.opened-span.ensures in (omega (arith, less), within)

pub pair-returns-in_err-left : goal.pair-returns-in_err-left
pair-returns-in_err-left g n c = late _ _ _ _ _ c.from_residual.ensures.1 (stops (ap (both_of expr_payloads) (sym c.opened-x.ensures)) (stops_first _ c.in_err-left.ensures))

pub pair-returns-in_err-right : goal.pair-returns-in_err-right
pair-returns-in_err-right g n c = late _ _ _ _ _ c.from_residual-in_err-right.ensures.1 (stops (ap (both_of expr_payloads) (sym c.opened-x.ensures)) (stops_behind c.in_ok-left.ensures c.in_err-right.ensures))

pub pair-returns : goal.pair-returns
pair-returns g n c = made_held (both_at expr_view) (both_of expr_payloads) _ c.boxed.result (taken (both_of expr_payloads) (both_at expr_view) c.args.x.value c.opened-x.result c.opened-x.ensures (both (with (λ (q : Extent → tree.Expr). q c.opened-x.result.0.span) c.in_ok-left.ensures) (with (λ (q : Extent → tree.Expr). q c.opened-x.result.1.span) c.in_ok-right.ensures))) c.boxed.ensures

pub pair-expression-requires : goal.pair-expression-requires
pair-expression-requires g n c κs within = let less = ap (both_weight expr_weight) c.opened-x.ensures in (omega (arith, less), within)

pub pair-expression-requires-2 : goal.pair-expression-requires-2
pair-expression-requires-2 g n c κs within = let less = ap (both_weight expr_weight) c.opened-x.ensures in (omega (arith, less), within)

pub triple-returns-in_err-left : goal.triple-returns-in_err-left
triple-returns-in_err-left g n c = late _ _ _ _ _ c.from_residual.ensures.1 (stops (ap (three_of expr_payloads) (sym c.opened-x.ensures)) (stops_first _ c.in_err-left.ensures))

pub triple-returns-in_err-middle : goal.triple-returns-in_err-middle
triple-returns-in_err-middle g n c = late _ _ _ _ _ c.from_residual-in_err-middle.ensures.1 (stops (ap (three_of expr_payloads) (sym c.opened-x.ensures)) (stops_behind c.in_ok-left.ensures (stops_first _ c.in_err-middle.ensures)))

pub triple-returns-in_err-right : goal.triple-returns-in_err-right
triple-returns-in_err-right g n c = late _ _ _ _ _ c.from_residual-in_err-right.ensures.1 (stops (ap (three_of expr_payloads) (sym c.opened-x.ensures)) (stops_behind c.in_ok-left.ensures (stops_behind c.in_ok-middle.ensures c.in_err-right.ensures)))

pub triple-returns : goal.triple-returns
triple-returns g n c = made_held (three_at expr_view) (three_of expr_payloads) _ c.boxed.result (taken (three_of expr_payloads) (three_at expr_view) c.args.x.value c.opened-x.result c.opened-x.ensures (with (λ (q : tree.Expr × (tree.Expr × tree.Expr)). (q.0, q.1.0, q.1.1)) (both (with (λ (q : Extent → tree.Expr). q c.opened-x.result.0.span) c.in_ok-left.ensures) (both (with (λ (q : Extent → tree.Expr). q c.opened-x.result.1.span) c.in_ok-middle.ensures) (with (λ (q : Extent → tree.Expr). q c.opened-x.result.2.span) c.in_ok-right.ensures))))) c.boxed.ensures

pub triple-expression-requires : goal.triple-expression-requires
triple-expression-requires g n c κs within = let less = ap (three_weight expr_weight) c.opened-x.ensures in (omega (arith, less), within)

pub triple-expression-requires-2 : goal.triple-expression-requires-2
triple-expression-requires-2 g n c κs within = let less = ap (three_weight expr_weight) c.opened-x.ensures in (omega (arith, less), within)

pub triple-expression-requires-3 : goal.triple-expression-requires-3
triple-expression-requires-3 g n c κs within = let less = ap (three_weight expr_weight) c.opened-x.ensures in (omega (arith, less), within)

pub expressions-loop-x-init : goal.expressions-loop-x-init
expressions-loop-x-init g n c = done_none c.reverse.ensures.items c.new-done.ensures.items

pub expressions-expression-requires : goal.expressions-expression-requires
expressions-expression-requires g n c κs within = let less = done_weighs c.pop.new.self.items (node_weight expr_weight) c.loop-x.invariant c.in-Some.ensures.items in (omega (arith, less), within)

pub expressions-returns-in_err-node : goal.expressions-returns-in_err-node
expressions-returns-in_err-node g n c = late _ _ _ _ _ c.from_residual.ensures.1 (done_stops c.pop.new.self.items c.loop-x.invariant c.in-Some.ensures.items c.in_err-node.ensures)

pub expressions-loop-x-preserved : goal.expressions-loop-x-preserved
expressions-loop-x-preserved g n c = done_more c.pop.new.self.items c.loop-x.invariant c.in-Some.ensures.items (ap (λ q. q c.in-Some.x.span) c.in_ok-node.ensures.kept) c.in_ok-node.ensures.called c.in_ok-push.ensures.items

pub expressions-returns-in_err-push : goal.expressions-returns-in_err-push
expressions-returns-in_err-push g n c = late _ _ _ _ _ c.from_residual-in_err-push.ensures.1 (done_stops c.pop.new.self.items c.loop-x.invariant c.in-Some.ensures.items (begins_all _ c.in_ok-node.ensures.called))

pub parameters-loop-x-init : goal.parameters-loop-x-init
parameters-loop-x-init g n c = done_none c.reverse.ensures.items c.new-done.ensures.items

pub parameters-parameter-requires : goal.parameters-parameter-requires
parameters-parameter-requires g n c κs within = let less = done_weighs c.pop.new.self.items (node_weight parameter_weight) c.loop-x.invariant c.in-Some.ensures.items in (omega (arith, less), within)

pub parameters-returns-in_err-node : goal.parameters-returns-in_err-node
parameters-returns-in_err-node g n c = late _ _ _ _ _ c.from_residual.ensures.1 (done_stops c.pop.new.self.items c.loop-x.invariant c.in-Some.ensures.items c.in_err-node.ensures)

pub parameters-loop-x-preserved : goal.parameters-loop-x-preserved
parameters-loop-x-preserved g n c = done_more c.pop.new.self.items c.loop-x.invariant c.in-Some.ensures.items (ap (λ q. q c.in-Some.x.span) c.in_ok-node.ensures.kept) c.in_ok-node.ensures.called c.in_ok-push.ensures.items

pub parameters-returns-in_err-push : goal.parameters-returns-in_err-push
parameters-returns-in_err-push g n c = late _ _ _ _ _ c.from_residual-in_err-push.ensures.1 (done_stops c.pop.new.self.items c.loop-x.invariant c.in-Some.ensures.items (begins_all _ c.in_ok-node.ensures.called))

pub targets-loop-x-init : goal.targets-loop-x-init
targets-loop-x-init g n c = done_none c.reverse.ensures.items c.new-done.ensures.items

pub targets-target-requires : goal.targets-target-requires
targets-target-requires g n c κs within = let less = done_weighs c.pop.new.self.items (node_weight target_weight) c.loop-x.invariant c.in-Some.ensures.items in (omega (arith, less), within)

pub targets-returns-in_err-node : goal.targets-returns-in_err-node
targets-returns-in_err-node g n c = late _ _ _ _ _ c.from_residual.ensures.1 (done_stops c.pop.new.self.items c.loop-x.invariant c.in-Some.ensures.items c.in_err-node.ensures)

pub targets-loop-x-preserved : goal.targets-loop-x-preserved
targets-loop-x-preserved g n c = done_more c.pop.new.self.items c.loop-x.invariant c.in-Some.ensures.items (ap (λ q. q c.in-Some.x.span) c.in_ok-node.ensures.kept) c.in_ok-node.ensures.called c.in_ok-push.ensures.items

pub targets-returns-in_err-push : goal.targets-returns-in_err-push
targets-returns-in_err-push g n c = late _ _ _ _ _ c.from_residual-in_err-push.ensures.1 (done_stops c.pop.new.self.items c.loop-x.invariant c.in-Some.ensures.items (begins_all _ c.in_ok-node.ensures.called))

pub arguments-loop-x-init : goal.arguments-loop-x-init
arguments-loop-x-init g n c = done_none c.reverse.ensures.items c.new-done.ensures.items

pub arguments-expression-requires : goal.arguments-expression-requires
arguments-expression-requires g n c κs within = let same = c.open_argument-around.ensures.weight in let less = done_weighs c.pop.new.self.items (node_weight argument_weight) c.loop-x.invariant c.in-Some.ensures.items in (omega (arith, same, less), within)

pub arguments-returns-in_err-node : goal.arguments-returns-in_err-node
arguments-returns-in_err-node g n c = late _ _ _ _ _ c.from_residual.ensures.1 (done_stops c.pop.new.self.items c.loop-x.invariant c.in-Some.ensures.items (stops c.open_argument-around.ensures.payloads c.in_err-node.ensures))

pub arguments-loop-x-preserved : goal.arguments-loop-x-preserved
arguments-loop-x-preserved g n c = done_more c.pop.new.self.items c.loop-x.invariant c.in-Some.ensures.items (ap (λ q. q c.in-Some.x.span) (made argument_view argument_payloads c.argument-node.result (λ (q : tree.Expr). argument_of c.open_argument-around.result.0 q) (with (λ (q : Extent → tree.Expr). q c.open_argument-around.result.1.span) c.in_ok-node.ensures) c.open_argument-around.ensures.kept c.open_argument-around.ensures.payloads c.argument-node.ensures.kept c.argument-node.ensures.payloads).kept) (made argument_view argument_payloads c.argument-node.result (λ (q : tree.Expr). argument_of c.open_argument-around.result.0 q) (with (λ (q : Extent → tree.Expr). q c.open_argument-around.result.1.span) c.in_ok-node.ensures) c.open_argument-around.ensures.kept c.open_argument-around.ensures.payloads c.argument-node.ensures.kept c.argument-node.ensures.payloads).called c.in_ok-push.ensures.items

pub arguments-returns-in_err-push : goal.arguments-returns-in_err-push
arguments-returns-in_err-push g n c = late _ _ _ _ _ c.from_residual-in_err-push.ensures.1 (done_stops c.pop.new.self.items c.loop-x.invariant c.in-Some.ensures.items (begins_all _ (made argument_view argument_payloads c.argument-node.result (λ (q : tree.Expr). argument_of c.open_argument-around.result.0 q) (with (λ (q : Extent → tree.Expr). q c.open_argument-around.result.1.span) c.in_ok-node.ensures) c.open_argument-around.ensures.kept c.open_argument-around.ensures.payloads c.argument-node.ensures.kept c.argument-node.ensures.payloads).called))

pub pairs-loop-x-init : goal.pairs-loop-x-init
pairs-loop-x-init g n c = done_none c.reverse.ensures.items c.new-done.ensures.items

pub pairs-pair-requires : goal.pairs-pair-requires
pairs-pair-requires g n c κs within = let same = ap (both_weight expr_weight) c.in_ok-x.ensures in let less = done_weighs c.pop.new.self.items (both_weight expr_weight) c.loop-x.invariant c.in-Some.ensures.items in (omega (arith, same, less), within)

pub pairs-returns-in_err-x : goal.pairs-returns-in_err-x
pairs-returns-in_err-x g n c = late _ _ _ _ _ c.from_residual.ensures.1 (done_waits c.in-Some.x c.pop.new.self.items c.loop-x.invariant c.in-Some.ensures.items)

pub pairs-returns-in_err-both : goal.pairs-returns-in_err-both
pairs-returns-in_err-both g n c = late _ _ _ _ _ c.from_residual-in_err-both.ensures.1 (done_stops c.pop.new.self.items c.loop-x.invariant c.in-Some.ensures.items (stops (ap (both_of expr_payloads) (sym c.in_ok-x.ensures)) c.in_err-both.ensures))

pub pairs-loop-x-preserved : goal.pairs-loop-x-preserved
pairs-loop-x-preserved g n c = done_more c.pop.new.self.items c.loop-x.invariant c.in-Some.ensures.items (ap (both_at expr_view) c.opened.ensures ∙ (c.in_ok-both.ensures.kept ∙ ap (both_at expr_view) c.in_ok-x.ensures)) (answers_at _ (ap (both_of expr_payloads) (sym c.in_ok-x.ensures)) (ap (both_of expr_payloads) c.opened.ensures) c.in_ok-both.ensures.called) c.in_ok-push.ensures.items

pub pairs-returns-in_err-push : goal.pairs-returns-in_err-push
pairs-returns-in_err-push g n c = late _ _ _ _ _ c.from_residual-in_err-push.ensures.1 (done_stops c.pop.new.self.items c.loop-x.invariant c.in-Some.ensures.items (begins_all _ (answers_at _ (ap (both_of expr_payloads) (sym c.in_ok-x.ensures)) (ap (both_of expr_payloads) c.opened.ensures) c.in_ok-both.ensures.called)))

pub clauses-loop-x-init : goal.clauses-loop-x-init
clauses-loop-x-init g n c = done_none c.reverse.ensures.items c.new-done.ensures.items

pub clauses-clause-requires : goal.clauses-clause-requires
clauses-clause-requires g n c κs within = let same = ap (clause_weight) c.in_ok-x.ensures in let less = done_weighs c.pop.new.self.items (clause_weight) c.loop-x.invariant c.in-Some.ensures.items in (omega (arith, same, less), within)

pub clauses-returns-in_err-x : goal.clauses-returns-in_err-x
clauses-returns-in_err-x g n c = late _ _ _ _ _ c.from_residual.ensures.1 (done_waits c.in-Some.x c.pop.new.self.items c.loop-x.invariant c.in-Some.ensures.items)

pub clauses-returns-in_err-y : goal.clauses-returns-in_err-y
clauses-returns-in_err-y g n c = late _ _ _ _ _ c.from_residual-in_err-y.ensures.1 (done_stops c.pop.new.self.items c.loop-x.invariant c.in-Some.ensures.items (stops (ap (clause_payloads) (sym c.in_ok-x.ensures)) c.in_err-y.ensures))

pub clauses-loop-x-preserved : goal.clauses-loop-x-preserved
clauses-loop-x-preserved g n c = done_more c.pop.new.self.items c.loop-x.invariant c.in-Some.ensures.items (ap (clause_view) c.opened.ensures ∙ (c.in_ok-y.ensures.kept ∙ ap (clause_view) c.in_ok-x.ensures)) (answers_at _ (ap (clause_payloads) (sym c.in_ok-x.ensures)) (ap (clause_payloads) c.opened.ensures) c.in_ok-y.ensures.called) c.in_ok-push.ensures.items

pub clauses-returns-in_err-push : goal.clauses-returns-in_err-push
clauses-returns-in_err-push g n c = late _ _ _ _ _ c.from_residual-in_err-push.ensures.1 (done_stops c.pop.new.self.items c.loop-x.invariant c.in-Some.ensures.items (begins_all _ (answers_at _ (ap (clause_payloads) (sym c.in_ok-x.ensures)) (ap (clause_payloads) c.opened.ensures) c.in_ok-y.ensures.called)))

pub clauses-returns : goal.clauses-returns
clauses-returns g n c = let none = nil_from_length c.loop-x.rest.items (sym c.loop-x.rest.ok.0 ∙ c.in_default.ensures.cases.0) in record { kept = done_kept c.loop-x.invariant none; called = done_called c.loop-x.invariant none }

pub boxed_type-returns-in_err-value : goal.boxed_type-returns-in_err-value
boxed_type-returns-in_err-value g n c = late _ _ _ _ _ c.from_residual.ensures.1 (stops (ap (λ q. type_payloads q.node) (sym c.opened-span.ensures) ∙ c.open_type_expr-x.ensures.payloads) (stops_first _ c.in_err-value.ensures))

pub boxed_type-returns : goal.boxed_type-returns
boxed_type-returns g n c = made_held (seen type_view) (λ q. type_payloads q.node) _ c.boxed.result (taken (λ q. type_payloads q.node) (seen type_view) c.args.x.value c.opened-span.result c.opened-span.ensures (with (λ (q : Extent → tree.Annotation). q c.opened-span.result.span) (made type_view type_payloads c.type_expr-node.result (λ (q : tree.Expr). tree.typed q) (behind (OfType c.open_type_expr-x.result.1) (OfType c.map_type_expr.result) (with (λ (q : Extent → tree.Expr). q c.open_type_expr-x.result.0.span) c.in_ok-value.ensures) c.map_type_expr.ensures) c.open_type_expr-x.ensures.kept c.open_type_expr-x.ensures.payloads c.type_expr-node.ensures.kept c.type_expr-node.ensures.payloads))) c.boxed.ensures

pub boxed_type-expression-requires : goal.boxed_type-expression-requires
boxed_type-expression-requires g n c κs within = let same = ap (λ q. type_weight q.node) c.opened-span.ensures in let less = c.open_type_expr-x.ensures.weight in (omega (arith, same, less), within)

pub parameter-returns-in_err-ty-in-Normal : goal.parameter-returns-in_err-ty-in-Normal
parameter-returns-in_err-ty-in-Normal g n c = late _ _ _ _ _ c.from_residual.ensures.1 (stops c.open_normal-name.ensures.payloads (stops_behind c.assigned-name.ensures (stops_first _ c.in_err-ty-in-Normal.ensures)))

pub parameter-returns-in_err-default-in-Normal : goal.parameter-returns-in_err-default-in-Normal
parameter-returns-in_err-default-in-Normal g n c = late _ _ _ _ _ c.from_residual-in_err-default-in-Normal.ensures.1 (stops c.open_normal-name.ensures.payloads (stops_behind c.assigned-name.ensures (stops_behind c.in_ok-ty-in-Normal.ensures c.in_err-default-in-Normal.ensures)))

pub parameter-returns-in_ok-default-in-Normal : goal.parameter-returns-in_ok-default-in-Normal
parameter-returns-in_ok-default-in-Normal g n c = made parameter_view parameter_payloads c.normal.result (λ (q : tree.Name × (Option tree.Annotation × Option tree.Expr)). named tree.plain q.0 (annotation_of q.1.0) (bound_of q.1.1)) (both c.assigned-name.ensures (both c.in_ok-ty-in-Normal.ensures c.in_ok-default-in-Normal.ensures)) c.open_normal-name.ensures.kept c.open_normal-name.ensures.payloads c.normal.ensures.kept c.normal.ensures.payloads

pub parameter-returns-in_err-ty-in-Starred : goal.parameter-returns-in_err-ty-in-Starred
parameter-returns-in_err-ty-in-Starred g n c = late _ _ _ _ _ c.from_residual-in_err-ty-in-Starred.ensures.1 (stops c.open_starred-stars.ensures.payloads (stops_behind c.assigned-name-in-Starred.ensures c.in_err-ty-in-Starred.ensures))

pub parameter-returns-in_ok-ty-in-Starred : goal.parameter-returns-in_ok-ty-in-Starred
parameter-returns-in_ok-ty-in-Starred g n c = made parameter_view parameter_payloads c.starred.result (λ (q : tree.Name × Option tree.Annotation). named (stars_of c.open_starred-stars.result.0) q.0 (annotation_of q.1) tree.absent) (both c.assigned-name-in-Starred.ensures c.in_ok-ty-in-Starred.ensures) c.open_starred-stars.ensures.kept c.open_starred-stars.ensures.payloads c.starred.ensures.kept c.starred.ensures.payloads

pub parameter-returns-in-Marker : goal.parameter-returns-in-Marker
parameter-returns-in-Marker g n c = made parameter_view parameter_payloads c.marker.result (λ (q : Extent → tree.Member). q) (plain (marker_of c.open_marker.result)) c.open_marker.ensures.kept c.open_marker.ensures.payloads c.marker.ensures.kept c.marker.ensures.payloads

pub target-returns-in_err-xs-in-Tuple : goal.target-returns-in_err-xs-in-Tuple
target-returns-in_err-xs-in-Tuple g n c = late _ _ _ _ _ c.from_residual.ensures.1 (stops c.open_target_tuple.ensures.payloads c.in_err-xs-in-Tuple.ensures)

pub target-returns-in_ok-xs-in-Tuple : goal.target-returns-in_ok-xs-in-Tuple
target-returns-in_ok-xs-in-Tuple g n c = made target_view target_payloads c.target_tuple.result (λ (q : List tree.Expr). tree.tuple (members tree.item q)) c.in_ok-xs-in-Tuple.ensures c.open_target_tuple.ensures.kept c.open_target_tuple.ensures.payloads c.target_tuple.ensures.kept c.target_tuple.ensures.payloads

pub target-returns-in_err-both-in-Index : goal.target-returns-in_err-both-in-Index
target-returns-in_err-both-in-Index g n c = late _ _ _ _ _ c.from_residual-in_err-both-in-Index.ensures.1 (stops c.open_target_index.ensures.payloads c.in_err-both-in-Index.ensures)

pub target-returns-in_ok-both-in-Index : goal.target-returns-in_ok-both-in-Index
target-returns-in_ok-both-in-Index g n c = made target_view target_payloads c.target_index.result (λ (q : tree.Expr × tree.Expr). index_of q) c.in_ok-both-in-Index.ensures c.open_target_index.ensures.kept c.open_target_index.ensures.payloads c.target_index.ensures.kept c.target_index.ensures.payloads

pub target-returns-in_err-x-in-Dot : goal.target-returns-in_err-x-in-Dot
target-returns-in_err-x-in-Dot g n c = late _ _ _ _ _ c.from_residual-in_err-x-in-Dot.ensures.1 (stops c.open_target_dot-x.ensures.payloads c.in_err-x-in-Dot.ensures)

pub target-returns-in_ok-x-in-Dot : goal.target-returns-in_ok-x-in-Dot
target-returns-in_ok-x-in-Dot g n c = made target_view target_payloads c.target_dot.result (λ (q : tree.Expr). tree.dot q (string_bytes c.open_target_dot-x.result.1.node) c.open_target_dot-x.result.1.span) c.in_ok-x-in-Dot.ensures c.open_target_dot-x.ensures.kept c.open_target_dot-x.ensures.payloads c.target_dot.ensures.kept c.target_dot.ensures.payloads

pub target-returns-in-Name : goal.target-returns-in-Name
target-returns-in-Name g n c = made target_view target_payloads c.target_name.result name_leaf c.assigned.ensures c.open_target_name.ensures.kept c.open_target_name.ensures.payloads c.target_name.ensures.kept c.target_name.ensures.payloads

pub for_clause-returns-in_err-name : goal.for_clause-returns-in_err-name
for_clause-returns-in_err-name g n c = late _ _ _ _ _ c.from_residual.ensures.1 (stops (ap for_clause_payloads (sym c.opened.ensures) ∙ c.open_for_clause-var.ensures.payloads) (stops_first _ c.in_err-name.ensures))

pub for_clause-returns-in_err-values : goal.for_clause-returns-in_err-values
for_clause-returns-in_err-values g n c = late _ _ _ _ _ c.from_residual-in_err-values.ensures.1 (stops (ap for_clause_payloads (sym c.opened.ensures) ∙ c.open_for_clause-var.ensures.payloads) (stops_behind c.in_ok-name.ensures c.in_err-values.ensures))

pub for_clause-returns : goal.for_clause-returns
for_clause-returns g n c = made_held for_clause_view for_clause_payloads _ c.boxed.result (taken for_clause_payloads for_clause_view c.args.x.value c.opened.result c.opened.ensures (made for_clause_view for_clause_payloads c.for_clause.result (λ (q : tree.Expr × tree.Expr). tree.for_clause q.0 q.1) (both (with (λ (q : Extent → tree.Expr). q c.open_for_clause-var.result.0.span) c.in_ok-name.ensures) (with (λ (q : Extent → tree.Expr). q c.open_for_clause-var.result.1.span) c.in_ok-values.ensures)) c.open_for_clause-var.ensures.kept c.open_for_clause-var.ensures.payloads c.for_clause.ensures.kept c.for_clause.ensures.payloads)) c.boxed.ensures

pub for_clause-target-requires : goal.for_clause-target-requires
for_clause-target-requires g n c κs within = let same = ap for_clause_weight c.opened.ensures in let less = c.open_for_clause-var.ensures.weight in (omega (arith, same, less), within)

pub for_clause-expression-requires : goal.for_clause-expression-requires
for_clause-expression-requires g n c κs within = let same = ap for_clause_weight c.opened.ensures in let less = c.open_for_clause-var.ensures.weight in (omega (arith, same, less), within)

pub clause-returns-in_err-x-in-For : goal.clause-returns-in_err-x-in-For
clause-returns-in_err-x-in-For g n c = late _ _ _ _ _ c.from_residual.ensures.1 (begins_none _ _)

pub clause-returns-in_err-y-in-For : goal.clause-returns-in_err-y-in-For
clause-returns-in_err-y-in-For g n c = late _ _ _ _ _ c.from_residual-in_err-y-in-For.ensures.1 (stops (ap clause_payloads (sym c.opened-x.ensures) ∙ (c.open_next_for.ensures.payloads ∙ ap for_clause_payloads (sym c.in_ok-x-in-For.ensures))) c.in_err-y-in-For.ensures)

pub clause-returns-in_ok-y-in-For : goal.clause-returns-in_ok-y-in-For
clause-returns-in_ok-y-in-For g n c = made_held clause_view clause_payloads _ c.boxed-in-For.result (taken clause_payloads clause_view c.args.x.value c.opened-x.result c.opened-x.ensures (made clause_view clause_payloads c.next_for.result (λ (q : tree.Clause). q) c.in_ok-y-in-For.ensures (c.open_next_for.ensures.kept ∙ ap for_clause_view (sym c.in_ok-x-in-For.ensures)) (c.open_next_for.ensures.payloads ∙ ap for_clause_payloads (sym c.in_ok-x-in-For.ensures)) (c.next_for.ensures.kept ∙ ap for_clause_view c.opened.ensures) (c.next_for.ensures.payloads ∙ ap for_clause_payloads c.opened.ensures))) c.boxed-in-For.ensures

pub clause-for_clause-requires : goal.clause-for_clause-requires
clause-for_clause-requires g n c κs within = let same = ap clause_weight c.opened-x.ensures in let less = c.open_next_for.ensures.weight in let kept = ap for_clause_weight c.in_ok-x-in-For.ensures in (omega (arith, same, less, kept), within)

pub clause-returns-in_err-node-in-If : goal.clause-returns-in_err-node-in-If
clause-returns-in_err-node-in-If g n c = late _ _ _ _ _ c.from_residual-in_err-node-in-If.ensures.1 (stops (ap clause_payloads (sym c.opened-x.ensures) ∙ c.open_filter-span.ensures.payloads) c.in_err-node-in-If.ensures)

pub clause-returns-in_ok-node-in-If : goal.clause-returns-in_ok-node-in-If
clause-returns-in_ok-node-in-If g n c = made_held clause_view clause_payloads _ c.boxed-in-If.result (taken clause_payloads clause_view c.args.x.value c.opened-x.result c.opened-x.ensures (made clause_view clause_payloads c.filter.result (λ (q : tree.Expr). tree.if_clause q) (with (λ (q : Extent → tree.Expr). q c.open_filter-span.result.span) c.in_ok-node-in-If.ensures) c.open_filter-span.ensures.kept c.open_filter-span.ensures.payloads c.filter.ensures.kept c.filter.ensures.payloads)) c.boxed-in-If.ensures

pub clause-expression-requires : goal.clause-expression-requires
clause-expression-requires g n c κs within = let same = ap clause_weight c.opened-x.ensures in let less = c.open_filter-span.ensures.weight in (omega (arith, same, less), within)
