use Rattle.std.proofs.Common.{◌∙◌, sym, ap, arith, ap₂}
use Rattle.starlark_clone.proofs.Made.{as_three, clause_again, literal_again, member_again}
use Rattle.starlark_ast.proofs.Anywhere.{expr_as_large, argument_as_large, parameter_as_large, target_as_large}
use Rattle.starlark_ast.proofs.Written.{clause_is_less, more_clauses, member_is_less}
use Rattle.starlark_clone.specs.Copies.{seen}
use Rattle.starlark_clone.specs.Replacing.{replaced, replaced_clauses, replaced_members}
use Rattle.starlark_ast.specs.Shown.{nowhere}
use Rattle.starlark_ast.specs.Tree as tree
use Rattle.starlark_ast.specs.View.{argument_at, clause_view, expr_at, expr_view, for_clause_view, members, parameter_at, target_at, target_view}
use Rattle.starlark_ast.specs.Views.{clauses_of, items_of, pairs_of, targets_of, expr_view-Tuple, expr_view-BitNot, expr_view-Call, expr_view-Dot, expr_view-Identifier, expr_view-If, expr_view-Index, expr_view-Index2, expr_view-List, expr_view-Literal, expr_view-Minus, expr_view-Not, expr_view-Plus, expr_view-Dict, expr_view-ListComprehension, expr_view-DictComprehension, expr_view-FString, expr_view-Lambda, target_view-Tuple, view-args, view-fstring, view-lambda}
use Rattle.starlark_clone.proofs.again.+again.Goals as goal

-- ---- less in the parts

pub spanned-expression-requires : goal.spanned-expression-requires
spanned-expression-requires g n c κs within =
    let same = expr_as_large c.args.x.now.node c.args.x.now.span nowhere in
    (omega (arith, same), within)

pub items-spanned-requires : goal.items-spanned-requires
items-spanned-requires g n c κs within =
    let less = member_is_less (λ x. tree.item (expr_at x)) c.args.xs.now c.loop-x.x-index c.x-item.result c.loop-x-test.true c.x-item.is in
    (omega (arith, less), within)

pub entries-spanned-requires : goal.entries-spanned-requires
entries-spanned-requires g n c κs within =
    let less = member_is_less (λ x. tree.pair (expr_at x.0) (expr_at x.1)) c.args.xs.now c.loop-x.x-index c.x-item.result c.loop-x-test.true c.x-item.is in
    (omega (arith, less), within)

pub arguments-argument-requires : goal.arguments-argument-requires
arguments-argument-requires g n c κs within =
    let x = c.x-item.result in
    let less = member_is_less argument_at c.args.xs.now c.loop-x.x-index x c.loop-x-test.true c.x-item.is in
    let same = argument_as_large x.node x.span nowhere in
    (omega (arith, less, same), within)

pub parameters-parameter-requires : goal.parameters-parameter-requires
parameters-parameter-requires g n c κs within =
    let x = c.x-item.result in
    let less = member_is_less parameter_at c.args.xs.now c.loop-x.x-index x c.loop-x-test.true c.x-item.is in
    let same = parameter_as_large x.node x.span nowhere in
    (omega (arith, less, same), within)

pub targets-target-requires : goal.targets-target-requires
targets-target-requires g n c κs within =
    let x = c.x-item.result in
    let less = member_is_less (λ x. tree.item (target_at x)) c.args.xs.now c.loop-x.x-index x c.loop-x-test.true c.x-item.is in
    let same = target_as_large x.node x.span nowhere in
    (omega (arith, less, same), within)

pub clauses-for_clause-requires : goal.clauses-for_clause-requires
clauses-for_clause-requires g n c κs within =
    let more = more_clauses clause_view (tree.and_clause tree.no_clauses (for_clause_view c.args.first.now)) c.args.rest.now in
    (omega (arith, more), within)

pub clauses-clause-requires : goal.clauses-clause-requires
clauses-clause-requires g n c κs within =
    let less = clause_is_less clause_view (tree.and_clause tree.no_clauses (for_clause_view c.args.first.now)) c.args.rest.now c.loop-x.x-index c.x-item.result c.loop-x-test.true c.x-item.is in
    (omega (arith, less), within)

pub entries-spanned-requires-in-loop-x : goal.entries-spanned-requires-in-loop-x
entries-spanned-requires-in-loop-x g n c κs within =
    let less = member_is_less (λ x. tree.pair (expr_at x.0) (expr_at x.1)) c.args.xs.now c.loop-x.x-index c.x-item.result c.loop-x-test.true c.x-item.is in
    (omega (arith, less), within)

-- ---- one more of a list

pub items-loop-x-preserved : goal.items-loop-x-preserved
items-loop-x-preserved g n c =
    let r = g.R.Rename.renames c.args.by.now in
    let f = g.M.Make.expr_means in
    member_again r (λ y. tree.item (seen f y)) (λ x. tree.item (expr_at x)) c.loop-x.all.items _ _ c.args.xs.now c.loop-x.x-index c.x-item.result c.in_ok-push.ensures.items c.loop-x-test.true c.x-item.is c.loop-x.invariant (ap tree.item c.in_ok-again.ensures)

pub entries-loop-x-preserved : goal.entries-loop-x-preserved
entries-loop-x-preserved g n c =
    let r = g.R.Rename.renames c.args.by.now in
    let f = g.M.Make.expr_means in
    member_again r (λ y. tree.pair (seen f y.0) (seen f y.1)) (λ x. tree.pair (expr_at x.0) (expr_at x.1)) c.loop-x.all.items _ _ c.args.xs.now c.loop-x.x-index c.x-item.result c.in_ok-push.ensures.items c.loop-x-test.true c.x-item.is c.loop-x.invariant (ap₂ tree.pair c.in_ok-key.ensures c.in_ok-value.ensures)

pub arguments-loop-x-preserved : goal.arguments-loop-x-preserved
arguments-loop-x-preserved g n c =
    let r = g.R.Rename.renames c.args.by.now in
    let x = c.x-item.result in
    member_again r (λ y. seen g.M.Make.argument_means y) argument_at c.loop-x.all.items _ _ c.args.xs.now c.loop-x.x-index x c.in_ok-push.ensures.items c.loop-x-test.true c.x-item.is c.loop-x.invariant (c.in_ok-node.ensures x.span)

pub parameters-loop-x-preserved : goal.parameters-loop-x-preserved
parameters-loop-x-preserved g n c =
    let r = g.R.Rename.renames c.args.by.now in
    let x = c.x-item.result in
    member_again r (λ y. seen g.M.Make.parameter_means y) parameter_at c.loop-x.all.items _ _ c.args.xs.now c.loop-x.x-index x c.in_ok-push.ensures.items c.loop-x-test.true c.x-item.is c.loop-x.invariant (c.in_ok-node.ensures x.span)

pub targets-loop-x-preserved : goal.targets-loop-x-preserved
targets-loop-x-preserved g n c =
    let r = g.R.Rename.renames c.args.by.now in
    let x = c.x-item.result in
    member_again r (λ y. tree.item (seen g.M.Make.target_means y)) (λ x. tree.item (target_at x)) c.loop-x.all.items _ _ c.args.xs.now c.loop-x.x-index x c.in_ok-push.ensures.items c.loop-x-test.true c.x-item.is c.loop-x.invariant (ap tree.item (c.in_ok-node.ensures x.span))

pub clauses-loop-x-preserved : goal.clauses-loop-x-preserved
clauses-loop-x-preserved g n c =
    let r = g.R.Rename.renames c.args.by.now in
    clause_again r g.M.Make.clause_means clause_view _ (tree.and_clause tree.no_clauses (for_clause_view c.args.first.now)) c.loop-x.all.items _ _ c.args.rest.now c.loop-x.x-index c.x-item.result c.in_ok-push.ensures.items c.loop-x-test.true c.x-item.is c.loop-x.invariant c.in_ok-again.ensures

-- ---- a node of its parts

pub expression-returns-in_ok-items-in-Tuple : goal.expression-returns-in_ok-items-in-Tuple
expression-returns-in_ok-items-in-Tuple g n c =
    let r = g.R.Rename.renames c.args.by.now in
    let s = c.args.span in
    let arm = c.in-Tuple in
    c.tuple.ensures s
    ∙ ap (λ q. tree.tuple q s) (c.in_ok-items-in-Tuple.ensures ∙ ap (λ q. replaced_members r (items_of q)) c.deref.ensures.value)
    ∙ sym (ap (replaced r) (ap (λ y. expr_view y s) arm.is ∙ expr_view-Tuple arm.xs s))

pub expression-returns-in_ok-items-in-List : goal.expression-returns-in_ok-items-in-List
expression-returns-in_ok-items-in-List g n c =
    let r = g.R.Rename.renames c.args.by.now in
    let s = c.args.span in
    let arm = c.in-List in
    c.list.ensures s
    ∙ ap (λ q. tree.list q s) (c.in_ok-items-in-List.ensures ∙ ap (λ q. replaced_members r (items_of q)) c.deref-in-List.ensures.value)
    ∙ sym (ap (replaced r) (ap (λ y. expr_view y s) arm.is ∙ expr_view-List arm.xs s))

pub expression-returns-in_ok-entries-in-Dict : goal.expression-returns-in_ok-entries-in-Dict
expression-returns-in_ok-entries-in-Dict g n c =
    let r = g.R.Rename.renames c.args.by.now in
    let s = c.args.span in
    let arm = c.in-Dict in
    c.dict.ensures s
    ∙ ap (λ q. tree.dict q s) (c.in_ok-entries-in-Dict.ensures ∙ ap (λ q. replaced_members r (pairs_of q)) c.deref-in-Dict.ensures.value)
    ∙ sym (ap (replaced r) (ap (λ y. expr_view y s) arm.is ∙ expr_view-Dict arm.xs s))

pub expression-returns-in_ok-text_at-in-Dot : goal.expression-returns-in_ok-text_at-in-Dot
expression-returns-in_ok-text_at-in-Dot g n c =
    let r = g.R.Rename.renames c.args.by.now in
    let s = c.args.span in
    let arm = c.in-Dot in
    c.dot.ensures s
    ∙ as_three (λ x m u. tree.dot x m u s)
    (c.in_ok-object-in-Dot.ensures ∙ ap (λ y. replaced r (expr_at y)) c.deref-in-Dot.ensures)
    c.in_ok-text_at-in-Dot.ensures.bytes c.in_ok-text_at-in-Dot.ensures.place
    ∙ sym (ap (replaced r) (ap (λ y. expr_view y s) arm.is ∙ expr_view-Dot arm.object arm.name s))

pub expression-returns-in_ok-arguments-in-Call : goal.expression-returns-in_ok-arguments-in-Call
expression-returns-in_ok-arguments-in-Call g n c =
    let r = g.R.Rename.renames c.args.by.now in
    let s = c.args.span in
    let arm = c.in-Call in
    c.call.ensures s
    ∙ ap₂ (λ x ms. tree.call x ms s)
    (c.in_ok-called-in-Call.ensures ∙ ap (λ y. replaced r (expr_at y)) c.deref-in-Call.ensures)
    (c.in_ok-arguments-in-Call.ensures ∙ ap (replaced_members r) (ap (λ q. members argument_at q) c.deref-in-Call-2.ensures.value ∙ sym (view-args arm.args)))
    ∙ sym (ap (replaced r) (ap (λ y. expr_view y s) arm.is ∙ expr_view-Call arm.called arm.args s))

pub expression-returns-in_ok-two-in-Index : goal.expression-returns-in_ok-two-in-Index
expression-returns-in_ok-two-in-Index g n c =
    let r = g.R.Rename.renames c.args.by.now in
    let s = c.args.span in
    let arm = c.in-Index in
    c.index.ensures s
    ∙ ap₂ (λ x y. tree.index x (tree.single y) s)
    (c.in_ok-two-in-Index.ensures.first ∙ ap (λ y. replaced r (expr_at y.0)) c.deref-in-Index.ensures)
    (c.in_ok-two-in-Index.ensures.second ∙ ap (λ y. replaced r (expr_at y.1)) c.deref-in-Index.ensures)
    ∙ sym (ap (replaced r) (ap (λ y. expr_view y s) arm.is ∙ expr_view-Index arm.parts s))

pub expression-returns-in_ok-three-in-Index2 : goal.expression-returns-in_ok-three-in-Index2
expression-returns-in_ok-three-in-Index2 g n c =
    let r = g.R.Rename.renames c.args.by.now in
    let s = c.args.span in
    let arm = c.in-Index2 in
    c.index_of_two.ensures s
    ∙ as_three (λ x y z. tree.index x (tree.double y z) s)
    (c.in_ok-three-in-Index2.ensures.first ∙ ap (λ y. replaced r (expr_at y.0)) c.deref-in-Index2.ensures)
    (c.in_ok-three-in-Index2.ensures.second ∙ ap (λ y. replaced r (expr_at y.1)) c.deref-in-Index2.ensures)
    (c.in_ok-three-in-Index2.ensures.third ∙ ap (λ y. replaced r (expr_at y.2)) c.deref-in-Index2.ensures)
    ∙ sym (ap (replaced r) (ap (λ y. expr_view y s) arm.is ∙ expr_view-Index2 arm.parts s))

pub expression-returns-in_ok-three-in-If : goal.expression-returns-in_ok-three-in-If
expression-returns-in_ok-three-in-If g n c =
    let r = g.R.Rename.renames c.args.by.now in
    let s = c.args.span in
    let arm = c.in-If in
    c.choice.ensures s
    ∙ as_three (λ x y z. tree.choice x y z s)
    (c.in_ok-three-in-If.ensures.first ∙ ap (λ y. replaced r (expr_at y.0)) c.deref-in-If.ensures)
    (c.in_ok-three-in-If.ensures.second ∙ ap (λ y. replaced r (expr_at y.1)) c.deref-in-If.ensures)
    (c.in_ok-three-in-If.ensures.third ∙ ap (λ y. replaced r (expr_at y.2)) c.deref-in-If.ensures)
    ∙ sym (ap (replaced r) (ap (λ y. expr_view y s) arm.is ∙ expr_view-If arm.parts s))

pub expression-returns-in_ok-boxed-in-Not : goal.expression-returns-in_ok-boxed-in-Not
expression-returns-in_ok-boxed-in-Not g n c =
    let r = g.R.Rename.renames c.args.by.now in
    let s = c.args.span in
    let arm = c.in-Not in
    c.not.ensures s
    ∙ ap (λ q. tree.signed tree.Not q s) (c.in_ok-boxed-in-Not.ensures ∙ ap (λ y. replaced r (expr_at y)) c.deref-in-Not.ensures)
    ∙ sym (ap (replaced r) (ap (λ y. expr_view y s) arm.is ∙ expr_view-Not arm.inner s))

pub expression-returns-in_ok-boxed-in-Minus : goal.expression-returns-in_ok-boxed-in-Minus
expression-returns-in_ok-boxed-in-Minus g n c =
    let r = g.R.Rename.renames c.args.by.now in
    let s = c.args.span in
    let arm = c.in-Minus in
    c.minus.ensures s
    ∙ ap (λ q. tree.signed tree.Minus q s) (c.in_ok-boxed-in-Minus.ensures ∙ ap (λ y. replaced r (expr_at y)) c.deref-in-Minus.ensures)
    ∙ sym (ap (replaced r) (ap (λ y. expr_view y s) arm.is ∙ expr_view-Minus arm.inner s))

pub expression-returns-in_ok-boxed-in-Plus : goal.expression-returns-in_ok-boxed-in-Plus
expression-returns-in_ok-boxed-in-Plus g n c =
    let r = g.R.Rename.renames c.args.by.now in
    let s = c.args.span in
    let arm = c.in-Plus in
    c.plus.ensures s
    ∙ ap (λ q. tree.signed tree.Plus q s) (c.in_ok-boxed-in-Plus.ensures ∙ ap (λ y. replaced r (expr_at y)) c.deref-in-Plus.ensures)
    ∙ sym (ap (replaced r) (ap (λ y. expr_view y s) arm.is ∙ expr_view-Plus arm.inner s))

pub expression-returns-in_ok-boxed-in-BitNot : goal.expression-returns-in_ok-boxed-in-BitNot
expression-returns-in_ok-boxed-in-BitNot g n c =
    let r = g.R.Rename.renames c.args.by.now in
    let s = c.args.span in
    let arm = c.in-BitNot in
    c.bit_not.ensures s
    ∙ ap (λ q. tree.signed tree.BitNot q s) (c.in_ok-boxed-in-BitNot.ensures ∙ ap (λ y. replaced r (expr_at y)) c.deref-in-BitNot.ensures)
    ∙ sym (ap (replaced r) (ap (λ y. expr_view y s) arm.is ∙ expr_view-BitNot arm.inner s))

pub expression-returns-in_ok-clone-in-Literal : goal.expression-returns-in_ok-clone-in-Literal
expression-returns-in_ok-clone-in-Literal g n c =
    let r = g.R.Rename.renames c.args.by.now in
    let s = c.args.span in
    c.literal.ensures s
    ∙ c.in_ok-clone-in-Literal.ensures.same s
    ∙ sym (literal_again r c.in-Literal.literal s)
    ∙ sym (ap (replaced r) (ap (λ y. expr_view y s) c.in-Literal.is ∙ expr_view-Literal _ _ _ _ _ _ c.in-Literal.literal s))

pub expression-returns-in_ok-identifier-in-Identifier : goal.expression-returns-in_ok-identifier-in-Identifier
expression-returns-in_ok-identifier-in-Identifier g n c =
    let r = g.R.Rename.renames c.args.by.now in
    let s = c.args.span in
    let arm = c.in-Identifier in
    c.identifier-in-Identifier.ensures s
    ∙ ap₂ (λ m u. tree.leaf (tree.name m) u s) c.in_ok-identifier-in-Identifier.ensures.bytes c.in_ok-identifier-in-Identifier.ensures.place
    ∙ sym (ap (replaced r) (ap (λ y. expr_view y s) arm.is ∙ expr_view-Identifier arm.name s))

pub expression-returns-in_ok-params-in-Lambda : goal.expression-returns-in_ok-params-in-Lambda
expression-returns-in_ok-params-in-Lambda g n c =
    let r = g.R.Rename.renames c.args.by.now in
    let s = c.args.span in
    let arm = c.in-Lambda in
    c.lambda.ensures s
    ∙ ap₂ (λ ms x. tree.lambda ms x s) c.in_ok-params-in-Lambda.ensures.params c.in_ok-params-in-Lambda.ensures.body
    ∙ sym (ap (replaced r) (ap (λ y. expr_view y s) arm.is ∙ expr_view-Lambda arm.inner s ∙ view-lambda arm.inner s))

pub expression-returns-in_ok-format-in-FString : goal.expression-returns-in_ok-format-in-FString
expression-returns-in_ok-format-in-FString g n c =
    let r = g.R.Rename.renames c.args.by.now in
    let s = c.args.span in
    let inner = c.in-FString.inner in
    let made = c.in_ok-format-in-FString in
    let parts = made.ensures in
    c.f_string.ensures s
    ∙ as_three (λ b u q. tree.fstring b u q inner.span s) parts.bytes parts.place parts.fields
    ∙ sym (ap (replaced r) (ap (λ y. expr_view y s) c.in-FString.is ∙ expr_view-FString inner s ∙ view-fstring inner.node inner.span s))

pub expression-returns-in_ok-boxed-in-ListComprehension : goal.expression-returns-in_ok-boxed-in-ListComprehension
expression-returns-in_ok-boxed-in-ListComprehension g n c =
    let r = g.R.Rename.renames c.args.by.now in
    let s = c.args.span in
    let arm = c.in-ListComprehension in
    c.list_comprehension.ensures s
    ∙ ap₂ (λ x cs. tree.comprehension (tree.item x) cs s)
    (c.in_ok-boxed-in-ListComprehension.ensures ∙ ap (λ y. replaced r (expr_at y)) c.deref-in-ListComprehension-3.ensures)
    (c.in_ok-first-in-ListComprehension.ensures ∙ ap (replaced_clauses r) (ap₂ clauses_of c.deref-in-ListComprehension.ensures c.deref-in-ListComprehension-2.ensures.value))
    ∙ sym (ap (replaced r) (ap (λ y. expr_view y s) arm.is ∙ expr_view-ListComprehension arm.element arm.first arm.rest s))

pub expression-returns-in_ok-two-in-DictComprehension : goal.expression-returns-in_ok-two-in-DictComprehension
expression-returns-in_ok-two-in-DictComprehension g n c =
    let r = g.R.Rename.renames c.args.by.now in
    let s = c.args.span in
    let arm = c.in-DictComprehension in
    c.dict_comprehension.ensures s
    ∙ as_three (λ k v cs. tree.comprehension (tree.pair k v) cs s)
    (c.in_ok-two-in-DictComprehension.ensures.first ∙ ap (λ y. replaced r (expr_at y.0)) c.deref-in-DictComprehension-3.ensures)
    (c.in_ok-two-in-DictComprehension.ensures.second ∙ ap (λ y. replaced r (expr_at y.1)) c.deref-in-DictComprehension-3.ensures)
    (c.in_ok-first-in-DictComprehension.ensures ∙ ap (replaced_clauses r) (ap₂ clauses_of c.deref-in-DictComprehension.ensures c.deref-in-DictComprehension-2.ensures.value))
    ∙ sym (ap (replaced r) (ap (λ y. expr_view y s) arm.is ∙ expr_view-DictComprehension arm.entry arm.first arm.rest s))

pub target-returns-in_ok-targets-in-Tuple : goal.target-returns-in_ok-targets-in-Tuple
target-returns-in_ok-targets-in-Tuple g n c s =
    let r = g.R.Rename.renames c.args.by.now in
    c.target_tuple.ensures s
    ∙ ap (λ q. tree.tuple q s) (c.in_ok-targets-in-Tuple.ensures ∙ ap (λ q. replaced_members r (targets_of q)) c.deref.ensures.value)
    ∙ sym (ap (replaced r) (ap (λ y. target_view y s) c.in-Tuple.is ∙ target_view-Tuple c.in-Tuple.xs s))
