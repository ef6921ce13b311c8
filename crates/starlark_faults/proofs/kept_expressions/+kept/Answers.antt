use Rattle.std.proofs.Common.{◌∙◌, ◌++◌, sym, ap, append_assoc, arith}
use Rattle.starlark_ast.specs.Tree as tree
use Rattle.starlark_ast.specs.View.{argument_at, clause_view, expr_at, expr_view, for_clause_view, members, parameter_at, target_at, target_view}
use Rattle.starlark_ast.specs.Views.{clauses_of, items_of, pairs_of, targets_of, expr_view-Tuple, expr_view-Call, expr_view-Index2, expr_view-Lambda, expr_view-List, expr_view-Dict, expr_view-ListComprehension, expr_view-DictComprehension, expr_view-FString, target_view-Tuple, view-args, view-for_clause, view-fstring, view-lambda}
use Rattle.starlark_rulebook.specs.Calls.{first_call_fault}
use Rattle.starlark_rulebook.specs.Kept as kept
use Rattle.starlark_rulebook.specs.Rules.{first_finding, listed}
use Rattle.starlark_rulebook.specs.View.{finding_of}
use Rattle.starlark_faults.proofs.Firsts.{argument_keeps, at_clause, at_front, at_member, first_in, first_listed, given, past_clause, past_member}
use Rattle.starlark_visit.specs.Sizes.{size, sizes, clause_sizes}
use Rattle.starlark_faults.proofs.Within.{clause_is_less, member_is_less}
use Rattle.starlark_visit.proofs.Members.{argument_size, more_clauses}
use Rattle.starlark_faults.proofs.kept_expressions.+kept.Goals as goal

-- ---- lists: less in each, and the first of all

pub arguments_fault-expression_fault-requires : goal.arguments_fault-expression_fault-requires
arguments_fault-expression_fault-requires g n c κs within =
    let x = c.x-item.result in
    let here = ap (λ y. size (expr_at y)) c.expr.ensures in
    let same = argument_size x in
    let less = member_is_less argument_at c.args.xs.now c.loop-x.x-index x c.loop-x-test.true c.x-item.is in
    (omega (arith, here, same, less), within)

pub arguments_fault-returns-in-Some : goal.arguments_fault-returns-in-Some
arguments_fault-returns-in-Some g n c =
    let d = c.args.dialect.now in
    let x = c.x-item.result in
    at_member d argument_at c.args.xs.now c.loop-x.x-index x (finding_of c.in-Some.found) c.loop-x-test.true c.x-item.is c.loop-x.invariant
    (given _ _ _ c.in-Some.is (c.expression_fault.ensures ∙ ap (λ y. first_finding (kept.kept_expr d (expr_at y))) c.expr.ensures ∙ sym (ap first_finding (argument_keeps d x))))

pub arguments_fault-loop-x-preserved : goal.arguments_fault-loop-x-preserved
arguments_fault-loop-x-preserved g n c =
    let d = c.args.dialect.now in
    let x = c.x-item.result in
    past_member d argument_at c.args.xs.now c.loop-x.x-index x c.loop-x-test.true c.x-item.is c.loop-x.invariant
    (given _ _ _ c.in_default.is (c.expression_fault.ensures ∙ ap (λ y. first_finding (kept.kept_expr d (expr_at y))) c.expr.ensures ∙ sym (ap first_finding (argument_keeps d x))))

pub items_fault-expression_fault-requires : goal.items_fault-expression_fault-requires
items_fault-expression_fault-requires g n c κs within =
    let less = member_is_less (λ x. tree.item (expr_at x)) c.args.xs.now c.loop-x.x-index c.x-item.result c.loop-x-test.true c.x-item.is in
    (omega (arith, less), within)

pub items_fault-returns-in-Some : goal.items_fault-returns-in-Some
items_fault-returns-in-Some g n c =
    at_member c.args.dialect.now (λ x. tree.item (expr_at x)) c.args.xs.now c.loop-x.x-index c.x-item.result (finding_of c.in-Some.found) c.loop-x-test.true c.x-item.is c.loop-x.invariant (given _ _ _ c.in-Some.is c.expression_fault.ensures)

pub items_fault-loop-x-preserved : goal.items_fault-loop-x-preserved
items_fault-loop-x-preserved g n c =
    past_member c.args.dialect.now (λ x. tree.item (expr_at x)) c.args.xs.now c.loop-x.x-index c.x-item.result c.loop-x-test.true c.x-item.is c.loop-x.invariant (given _ _ _ c.in_default.is c.expression_fault.ensures)

pub pairs_fault-two_fault-requires : goal.pairs_fault-two_fault-requires
pairs_fault-two_fault-requires g n c κs within =
    let less = member_is_less (λ x. tree.pair (expr_at x.0) (expr_at x.1)) c.args.xs.now c.loop-x.x-index c.x-item.result c.loop-x-test.true c.x-item.is in
    (omega (arith, less), within)

pub pairs_fault-returns-in-Some : goal.pairs_fault-returns-in-Some
pairs_fault-returns-in-Some g n c =
    at_member c.args.dialect.now (λ x. tree.pair (expr_at x.0) (expr_at x.1)) c.args.xs.now c.loop-x.x-index c.x-item.result (finding_of c.in-Some.found) c.loop-x-test.true c.x-item.is c.loop-x.invariant (given _ _ _ c.in-Some.is c.two_fault.ensures)

pub pairs_fault-loop-x-preserved : goal.pairs_fault-loop-x-preserved
pairs_fault-loop-x-preserved g n c =
    past_member c.args.dialect.now (λ x. tree.pair (expr_at x.0) (expr_at x.1)) c.args.xs.now c.loop-x.x-index c.x-item.result c.loop-x-test.true c.x-item.is c.loop-x.invariant (given _ _ _ c.in_default.is c.two_fault.ensures)

pub parameters_fault-parameter_fault-requires : goal.parameters_fault-parameter_fault-requires
parameters_fault-parameter_fault-requires g n c κs within =
    let less = member_is_less parameter_at c.args.params.now c.loop-x.x-index c.x-item.result c.loop-x-test.true c.x-item.is in
    (omega (arith, less), within)

pub parameters_fault-returns-in-Some : goal.parameters_fault-returns-in-Some
parameters_fault-returns-in-Some g n c =
    at_member c.args.dialect.now parameter_at c.args.params.now c.loop-x.x-index c.x-item.result (finding_of c.in-Some.found) c.loop-x-test.true c.x-item.is c.loop-x.invariant (given _ _ _ c.in-Some.is c.parameter_fault.ensures)

pub parameters_fault-loop-x-preserved : goal.parameters_fault-loop-x-preserved
parameters_fault-loop-x-preserved g n c =
    past_member c.args.dialect.now parameter_at c.args.params.now c.loop-x.x-index c.x-item.result c.loop-x-test.true c.x-item.is c.loop-x.invariant (given _ _ _ c.in_default.is c.parameter_fault.ensures)

pub targets_fault-target_fault-requires : goal.targets_fault-target_fault-requires
targets_fault-target_fault-requires g n c κs within =
    let less = member_is_less (λ x. tree.item (target_at x)) c.args.xs.now c.loop-x.x-index c.x-item.result c.loop-x-test.true c.x-item.is in
    (omega (arith, less), within)

pub targets_fault-returns-in-Some : goal.targets_fault-returns-in-Some
targets_fault-returns-in-Some g n c =
    at_member c.args.dialect.now (λ x. tree.item (target_at x)) c.args.xs.now c.loop-x.x-index c.x-item.result (finding_of c.in-Some.found) c.loop-x-test.true c.x-item.is c.loop-x.invariant (given _ _ _ c.in-Some.is c.target_fault.ensures)

pub targets_fault-loop-x-preserved : goal.targets_fault-loop-x-preserved
targets_fault-loop-x-preserved g n c =
    past_member c.args.dialect.now (λ x. tree.item (target_at x)) c.args.xs.now c.loop-x.x-index c.x-item.result c.loop-x-test.true c.x-item.is c.loop-x.invariant (given _ _ _ c.in_default.is c.target_fault.ensures)

-- ---- clauses

pub clauses_fault-for_clause_fault-requires : goal.clauses_fault-for_clause_fault-requires
clauses_fault-for_clause_fault-requires g n c κs within =
    let more = more_clauses clause_view (tree.and_clause tree.no_clauses (for_clause_view c.args.first.now)) c.args.rest.now in
    (omega (arith, more), within)

pub clauses_fault-returns-in-Some : goal.clauses_fault-returns-in-Some
clauses_fault-returns-in-Some g n c =
    at_front c.args.dialect.now clause_view (tree.and_clause tree.no_clauses (for_clause_view c.args.first.now)) c.args.rest.now (finding_of c.in-Some.found) (given _ _ _ c.in-Some.is c.for_clause_fault.ensures)

pub clauses_fault-clause_fault-requires : goal.clauses_fault-clause_fault-requires
clauses_fault-clause_fault-requires g n c κs within =
    let less = clause_is_less clause_view (tree.and_clause tree.no_clauses (for_clause_view c.args.first.now)) c.args.rest.now c.loop-x.x-index c.x-item.result c.loop-x-test.true c.x-item.is in
    (omega (arith, less), within)

pub clauses_fault-returns-in-Some-clause_fault : goal.clauses_fault-returns-in-Some-clause_fault
clauses_fault-returns-in-Some-clause_fault g n c =
    at_clause c.args.dialect.now clause_view (tree.and_clause tree.no_clauses (for_clause_view c.args.first.now)) c.args.rest.now c.loop-x.x-index c.x-item.result (finding_of c.in-Some-clause_fault.found) c.loop-x-test.true c.x-item.is c.loop-x.invariant (given _ _ _ c.in-Some-clause_fault.is c.clause_fault.ensures)

pub clauses_fault-loop-x-preserved : goal.clauses_fault-loop-x-preserved
clauses_fault-loop-x-preserved g n c =
    past_clause c.args.dialect.now clause_view (tree.and_clause tree.no_clauses (for_clause_view c.args.first.now)) c.args.rest.now c.loop-x.x-index c.x-item.result c.loop-x-test.true c.x-item.is c.loop-x.invariant (given _ _ _ c.in_default-clause_fault.is c.clause_fault.ensures)

-- ---- a few parts, one behind the other

pub two_fault-returns : goal.two_fault-returns
two_fault-returns g n c = first_in _ _ _ _ _ c.expression_fault.ensures c.expression_fault-2.ensures c.first_of.ensures

pub three_fault-returns : goal.three_fault-returns
three_fault-returns g n c = first_in _ _ _ _ _ c.two_fault.ensures c.expression_fault.ensures c.first_of.ensures

pub slice_fault-returns : goal.slice_fault-returns
slice_fault-returns g n c =
    first_in _ _ _ _ _ c.expression_fault.ensures
    (first_in _ _ _ _ _ (first_in _ _ _ _ _ c.bound_fault.ensures c.bound_fault-2.ensures c.first_of-ends.ensures) c.bound_fault-3.ensures c.first_of.ensures)
    c.first_of-2.ensures

pub normal_fault-returns : goal.normal_fault-returns
normal_fault-returns g n c = first_in _ _ _ _ _ c.type_fault.ensures c.bound_fault.ensures c.first_of.ensures

pub for_clause_fault-returns : goal.for_clause_fault-returns
for_clause_fault-returns g n c =
    let d = c.args.dialect.now in
    first_in _ _ _ _ _ c.target_fault.ensures c.expression_fault.ensures c.first_of.ensures
    ∙ ap (λ q. first_finding (kept.kept_clauses d (tree.and_clause tree.no_clauses q))) (sym (view-for_clause c.args.x.now))

pub dict_fault-returns : goal.dict_fault-returns
dict_fault-returns g n c = first_in _ _ _ _ _ c.two_fault.ensures c.clauses_fault.ensures c.first_of.ensures

pub list_fault-returns : goal.list_fault-returns
list_fault-returns g n c = first_in _ _ _ _ _ c.expression_fault.ensures c.clauses_fault.ensures c.first_of.ensures

pub lambda_fault-returns : goal.lambda_fault-returns
lambda_fault-returns g n c =
    let d = c.args.dialect.now in
    first_in _ _ _ _ _
    (c.parameters_fault.ensures ∙ ap (λ q. first_finding (kept.kept_members d (members parameter_at q))) c.deref.ensures.value)
    (c.expression_fault.ensures ∙ ap (λ y. first_finding (kept.kept_expr d (expr_at y))) c.deref-2.ensures)
    c.first_of.ensures

pub fstring_fault-returns : goal.fstring_fault-returns
fstring_fault-returns g n c =
    let d = c.args.dialect.now in
    first_in _ _ _ _ _
    (c.items_fault.ensures ∙ ap (λ q. first_finding (kept.kept_members d (items_of q))) c.deref.ensures.value)
    (c.disabled_fault.ensures ∙ sym (first_listed _))
    c.first_of.ensures

pub whole_call_fault-returns : goal.whole_call_fault-returns
whole_call_fault-returns g n c =
    first_in _ _ _ _ _ (first_in _ _ _ _ _ c.expression_fault.ensures c.arguments_fault.ensures c.first_of.ensures) (c.call_fault.ensures ∙ sym (first_listed _)) c.first_of-2.ensures

-- ---- an expression: less in its parts

pub expression_fault-whole_call_fault-requires : goal.expression_fault-whole_call_fault-requires
expression_fault-whole_call_fault-requires g n c κs within =
    let s = c.args.x.now.span in
    let up = ap (λ y. size (expr_view y s)) c.in-Call.is ∙ ap size (expr_view-Call c.in-Call.called c.in-Call.args s) in
    let all = ap sizes (view-args c.in-Call.args) in
    let object = ap (λ y. size (expr_at y)) c.deref-in-Call.ensures in
    let here = ap (λ q. sizes (members argument_at q)) c.deref-in-Call-2.ensures.value in
    (omega (arith, up, all, object, here), within)

pub expression_fault-pairs_fault-requires : goal.expression_fault-pairs_fault-requires
expression_fault-pairs_fault-requires g n c κs within =
    let s = c.args.x.now.span in
    let up = ap (λ y. size (expr_view y s)) c.in-Dict.is ∙ ap size (expr_view-Dict c.in-Dict.xs s) in
    let here = ap (λ q. sizes (pairs_of q)) c.deref-in-Dict.ensures.value in
    (omega (arith, up, here), within)

pub expression_fault-list_fault-requires : goal.expression_fault-list_fault-requires
expression_fault-list_fault-requires g n c κs within =
    let s = c.args.x.now.span in
    let arm = c.in-ListComprehension in
    let up = ap (λ y. size (expr_view y s)) arm.is ∙ ap size (expr_view-ListComprehension arm.element arm.first arm.rest s) in
    let element = ap (λ y. size (expr_at y)) c.deref-in-ListComprehension.ensures in
    let here = ap (λ q. clause_sizes (clauses_of q c.deref-in-ListComprehension-3.result.now)) c.deref-in-ListComprehension-2.ensures ∙ ap (λ q. clause_sizes (clauses_of arm.first.value q)) c.deref-in-ListComprehension-3.ensures.value in
    (omega (arith, up, element, here), within)

pub expression_fault-dict_fault-requires : goal.expression_fault-dict_fault-requires
expression_fault-dict_fault-requires g n c κs within =
    let s = c.args.x.now.span in
    let arm = c.in-DictComprehension in
    let up = ap (λ y. size (expr_view y s)) arm.is ∙ ap size (expr_view-DictComprehension arm.entry arm.first arm.rest s) in
    let key = ap (λ y. size (expr_at y.0)) c.deref-in-DictComprehension.ensures in
    let value = ap (λ y. size (expr_at y.1)) c.deref-in-DictComprehension-2.ensures in
    let here = ap (λ q. clause_sizes (clauses_of q c.deref-in-DictComprehension-4.result.now)) c.deref-in-DictComprehension-3.ensures ∙ ap (λ q. clause_sizes (clauses_of arm.first.value q)) c.deref-in-DictComprehension-4.ensures.value in
    (omega (arith, up, key, value, here), within)

-- ---- an expression: what it breaks

pub expression_fault-returns-in-Tuple : goal.expression_fault-returns-in-Tuple
expression_fault-returns-in-Tuple g n c =
    let d = c.args.dialect.now in
    let s = c.args.x.now.span in
    c.items_fault.ensures ∙ ap first_finding
    (ap (λ q. kept.kept_members d (items_of q)) c.deref.ensures.value
    ∙ sym (ap (λ y. kept.kept_expr d (expr_view y s)) c.in-Tuple.is ∙ ap (kept.kept_expr d) (expr_view-Tuple c.in-Tuple.xs s)))

pub expression_fault-returns-in-List : goal.expression_fault-returns-in-List
expression_fault-returns-in-List g n c =
    let d = c.args.dialect.now in
    let s = c.args.x.now.span in
    c.items_fault-in-List.ensures ∙ ap first_finding
    (ap (λ q. kept.kept_members d (items_of q)) c.deref-in-List.ensures.value
    ∙ sym (ap (λ y. kept.kept_expr d (expr_view y s)) c.in-List.is ∙ ap (kept.kept_expr d) (expr_view-List c.in-List.xs s)))

pub expression_fault-returns-in-Dict : goal.expression_fault-returns-in-Dict
expression_fault-returns-in-Dict g n c =
    let d = c.args.dialect.now in
    let s = c.args.x.now.span in
    c.pairs_fault.ensures ∙ ap first_finding
    (ap (λ q. kept.kept_members d (pairs_of q)) c.deref-in-Dict.ensures.value
    ∙ sym (ap (λ y. kept.kept_expr d (expr_view y s)) c.in-Dict.is ∙ ap (kept.kept_expr d) (expr_view-Dict c.in-Dict.xs s)))

pub expression_fault-returns-in-Lambda : goal.expression_fault-returns-in-Lambda
expression_fault-returns-in-Lambda g n c =
    let d = c.args.dialect.now in
    let s = c.args.x.now.span in
    let inner = c.in-Lambda.inner in
    c.lambda_fault.ensures ∙ sym (ap first_finding (ap (λ y. kept.kept_expr d (expr_view y s)) c.in-Lambda.is ∙ ap (kept.kept_expr d) (expr_view-Lambda inner s ∙ view-lambda inner s)))

pub expression_fault-returns-in-FString : goal.expression_fault-returns-in-FString
expression_fault-returns-in-FString g n c =
    let d = c.args.dialect.now in
    let s = c.args.x.now.span in
    let inner = c.in-FString.inner in
    c.fstring_fault.ensures ∙ sym (ap first_finding (ap (λ y. kept.kept_expr d (expr_view y s)) c.in-FString.is ∙ ap (kept.kept_expr d) (expr_view-FString inner s ∙ view-fstring inner.node inner.span s)))

pub expression_fault-returns-in-Call : goal.expression_fault-returns-in-Call
expression_fault-returns-in-Call g n c =
    let d = c.args.dialect.now in
    let s = c.args.x.now.span in
    let called = kept.kept_expr d (expr_at c.in-Call.called.value) in
    let args = c.deref-in-Call-2.result.now in
    c.whole_call_fault.ensures ∙ ap first_finding
    (ap (λ y. kept.kept_expr d (expr_at y) ++ kept.kept_members d (members argument_at args) ++ listed (first_call_fault (members argument_at args))) c.deref-in-Call.ensures
    ∙ ap (λ q. called ++ kept.kept_members d (members argument_at q) ++ listed (first_call_fault (members argument_at q))) c.deref-in-Call-2.ensures.value
    ∙ sym (ap (λ y. kept.kept_expr d (expr_view y s)) c.in-Call.is ∙ ap (kept.kept_expr d) (expr_view-Call c.in-Call.called c.in-Call.args s) ∙ ap (λ q. called ++ kept.kept_members d q ++ listed (first_call_fault q)) (view-args c.in-Call.args)))

pub expression_fault-returns-in-Index2 : goal.expression_fault-returns-in-Index2
expression_fault-returns-in-Index2 g n c =
    let d = c.args.dialect.now in
    let s = c.args.x.now.span in
    let parts = c.in-Index2.parts in
    c.three_fault.ensures ∙ ap first_finding
    (append_assoc (kept.kept_expr d (expr_at c.deref-in-Index2.result.now.0)) (kept.kept_expr d (expr_at c.deref-in-Index2-2.result.now.1)) (kept.kept_expr d (expr_at c.deref-in-Index2-3.result.now.2))
    ∙ ap (λ y. kept.kept_expr d (expr_at y.0) ++ (kept.kept_expr d (expr_at c.deref-in-Index2-2.result.now.1) ++ kept.kept_expr d (expr_at c.deref-in-Index2-3.result.now.2))) c.deref-in-Index2.ensures
    ∙ ap (λ y. kept.kept_expr d (expr_at parts.value.0) ++ (kept.kept_expr d (expr_at y.1) ++ kept.kept_expr d (expr_at c.deref-in-Index2-3.result.now.2))) c.deref-in-Index2-2.ensures
    ∙ ap (λ y. kept.kept_expr d (expr_at parts.value.0) ++ (kept.kept_expr d (expr_at parts.value.1) ++ kept.kept_expr d (expr_at y.2))) c.deref-in-Index2-3.ensures
    ∙ sym (ap (λ y. kept.kept_expr d (expr_view y s)) c.in-Index2.is ∙ ap (kept.kept_expr d) (expr_view-Index2 parts s)))

pub expression_fault-returns-in-ListComprehension : goal.expression_fault-returns-in-ListComprehension
expression_fault-returns-in-ListComprehension g n c =
    let d = c.args.dialect.now in
    let s = c.args.x.now.span in
    let arm = c.in-ListComprehension in
    let rest = c.deref-in-ListComprehension-3.result.now in
    let element = kept.kept_expr d (expr_at arm.element.value) in
    c.list_fault.ensures ∙ ap first_finding
    (ap (λ y. kept.kept_expr d (expr_at y) ++ kept.kept_clauses d (clauses_of c.deref-in-ListComprehension-2.result.now rest)) c.deref-in-ListComprehension.ensures
    ∙ ap (λ q. element ++ kept.kept_clauses d (clauses_of q rest)) c.deref-in-ListComprehension-2.ensures
    ∙ ap (λ q. element ++ kept.kept_clauses d (clauses_of arm.first.value q)) c.deref-in-ListComprehension-3.ensures.value
    ∙ sym (ap (λ y. kept.kept_expr d (expr_view y s)) arm.is ∙ ap (kept.kept_expr d) (expr_view-ListComprehension arm.element arm.first arm.rest s)))

pub expression_fault-returns-in-DictComprehension : goal.expression_fault-returns-in-DictComprehension
expression_fault-returns-in-DictComprehension g n c =
    let d = c.args.dialect.now in
    let s = c.args.x.now.span in
    let arm = c.in-DictComprehension in
    let value = c.deref-in-DictComprehension-2.result.now in
    let first = c.deref-in-DictComprehension-3.result.now in
    let rest = c.deref-in-DictComprehension-4.result.now in
    let pair = kept.kept_expr d (expr_at arm.entry.value.0) ++ kept.kept_expr d (expr_at arm.entry.value.1) in
    c.dict_fault.ensures ∙ ap first_finding
    (ap (λ y. kept.kept_expr d (expr_at y.0) ++ kept.kept_expr d (expr_at value.1) ++ kept.kept_clauses d (clauses_of first rest)) c.deref-in-DictComprehension.ensures
    ∙ ap (λ y. kept.kept_expr d (expr_at arm.entry.value.0) ++ kept.kept_expr d (expr_at y.1) ++ kept.kept_clauses d (clauses_of first rest)) c.deref-in-DictComprehension-2.ensures
    ∙ ap (λ q. pair ++ kept.kept_clauses d (clauses_of q rest)) c.deref-in-DictComprehension-3.ensures
    ∙ ap (λ q. pair ++ kept.kept_clauses d (clauses_of arm.first.value q)) c.deref-in-DictComprehension-4.ensures.value
    ∙ sym (ap (λ y. kept.kept_expr d (expr_view y s)) arm.is ∙ ap (kept.kept_expr d) (expr_view-DictComprehension arm.entry arm.first arm.rest s)))

-- ---- a target

pub target_fault-returns-in-Tuple : goal.target_fault-returns-in-Tuple
target_fault-returns-in-Tuple g n c =
    let d = c.args.dialect.now in
    let s = c.args.x.now.span in
    c.targets_fault.ensures ∙ ap first_finding
    (ap (λ q. kept.kept_members d (targets_of q)) c.deref.ensures.value
    ∙ sym (ap (λ y. kept.kept_expr d (target_view y s)) c.in-Tuple.is ∙ ap (kept.kept_expr d) (target_view-Tuple c.in-Tuple.xs s)))
