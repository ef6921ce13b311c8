use Rattle.starlark_ast.proofs.Anywhere.{expr_anywhere, argument_anywhere, parameter_anywhere, target_anywhere, expr_as_large, argument_as_large, parameter_as_large, target_as_large}
use Rattle.starlark_ast.proofs.Sizes.{size, sizes, clause_sizes}
use Rattle.starlark_ast.proofs.Written.{reads_as, nothing, last_writes, then_writes, member_written, comma_before_next, separator_is_text, all_taken, clause_more, clause_is_less, more_clauses, member_is_less, at_once, tuple_ends, parameter_texts}
use Rattle.starlark_ast.specs.Printing.{expr_text, member_text, members_text, clause_text, clauses_text, lone_comma}
use Rattle.starlark_ast.specs.Shown.{behind, nowhere, type_behind}
use Rattle.starlark_ast.specs.Tree as tree
use Rattle.starlark_ast.specs.View.{argument_at, argument_view, boxed_expr, boxed_type, clause_view, expr_at, expr_view, for_clause_view, members, parameter_at, parameter_view, target_at, target_view}
use Rattle.starlark_ast.specs.Views.{clauses_of, items_of, pairs_of, targets_of, expr_view-Tuple, expr_view-Dot, expr_view-Call, expr_view-Index, expr_view-Index2, expr_view-Slice, expr_view-Identifier, expr_view-Lambda, expr_view-Literal, expr_view-Not, expr_view-Minus, expr_view-Plus, expr_view-BitNot, expr_view-Op, expr_view-If, expr_view-List, expr_view-Dict, expr_view-ListComprehension, expr_view-DictComprehension, expr_view-FString, argument_view-Positional, argument_view-Named, argument_view-Args, argument_view-KwArgs, parameter_view-Slash, parameter_view-Normal, parameter_view-NoArgs, parameter_view-Args, parameter_view-KwArgs, target_view-Tuple, target_view-Index, target_view-Dot, target_view-Identifier, clause_view-For, clause_view-If, view-args, view-for_clause, view-fstring, view-lambda, view-type}
use Rattle.std.proofs.Common.{◌≡◌, ◌∙◌, ◌++◌, refl, sym, ap, take, length, arith, codes, [], append_assoc}
use Rattle.std.proofs.lemmas.List.{append-nil}
use Rattle.std.specs.Prelude.{string_bytes}
use Rattle.starlark_ast.proofs.printing.+printing.Goals as goal

-- ---- less in the parts

pub write_expr-write_node-requires : goal.write_expr-write_node-requires
write_expr-write_node-requires g n c κs within =
    let same = expr_as_large c.args.x.now.node c.args.x.now.span nowhere in
    (omega (arith, same), within)

pub write_target-write_target_node-requires : goal.write_target-write_target_node-requires
write_target-write_target_node-requires g n c κs within =
    let same = target_as_large c.args.x.now.node c.args.x.now.span nowhere in
    (omega (arith, same), within)

pub write_items-write_expr-requires : goal.write_items-write_expr-requires
write_items-write_expr-requires g n c κs within =
    let less = member_is_less (λ x. tree.item (expr_at x)) c.args.xs.now c.loop-x.x-index c.x-item.result c.loop-x-test.true c.x-item.is in
    (omega (arith, less), within)

pub write_entries-write_entry-requires : goal.write_entries-write_entry-requires
write_entries-write_entry-requires g n c κs within =
    let less = member_is_less (λ x. tree.pair (expr_at x.0) (expr_at x.1)) c.args.xs.now c.loop-x.x-index c.x-item.result c.loop-x-test.true c.x-item.is in
    (omega (arith, less), within)

pub write_targets-write_target-requires : goal.write_targets-write_target-requires
write_targets-write_target-requires g n c κs within =
    let less = member_is_less (λ x. tree.item (target_at x)) c.args.xs.now c.loop-x.x-index c.x-item.result c.loop-x-test.true c.x-item.is in
    (omega (arith, less), within)

pub write_arguments-write_argument-requires : goal.write_arguments-write_argument-requires
write_arguments-write_argument-requires g n c κs within =
    let x = c.x-item.result in
    let less = member_is_less argument_at c.args.xs.now c.loop-x.x-index x c.loop-x-test.true c.x-item.is in
    let same = argument_as_large x.node x.span nowhere in
    (omega (arith, less, same), within)

pub write_parameters-write_parameter-requires : goal.write_parameters-write_parameter-requires
write_parameters-write_parameter-requires g n c κs within =
    let x = c.x-item.result in
    let less = member_is_less parameter_at c.args.params.now c.loop-x.x-index x c.loop-x-test.true c.x-item.is in
    let same = parameter_as_large x.node x.span nowhere in
    (omega (arith, less, same), within)

pub write_clauses-write_for_clause-requires : goal.write_clauses-write_for_clause-requires
write_clauses-write_for_clause-requires g n c κs within =
    let more = more_clauses clause_view (tree.and_clause tree.no_clauses (for_clause_view c.args.first.now)) c.args.rest.now in
    (omega (arith, more), within)

pub write_clauses-write_clause-requires : goal.write_clauses-write_clause-requires
write_clauses-write_clause-requires g n c κs within =
    let less = clause_is_less clause_view (tree.and_clause tree.no_clauses (for_clause_view c.args.first.now)) c.args.rest.now c.loop-x.x-index c.x-item.result c.loop-x-test.true c.x-item.is in
    (omega (arith, less), within)

pub write_node-write_call-requires : goal.write_node-write_call-requires
write_node-write_call-requires g n c κs within =
    let arm = c.in-Call in
    let up = ap (λ y. size (expr_view y nowhere)) arm.is ∙ ap size (expr_view-Call arm.called arm.args nowhere) in
    let all = ap sizes (view-args arm.args) in
    let called = ap (λ y. size (expr_at y)) c.deref-in-Call.ensures in
    let args = ap (λ q. sizes (members argument_at q)) c.deref-in-Call-2.ensures.value in
    (omega (arith, up, all, called, args), within)

pub write_node-write_dict-requires : goal.write_node-write_dict-requires
write_node-write_dict-requires g n c κs within =
    let arm = c.in-Dict in
    let up = ap (λ y. size (expr_view y nowhere)) arm.is ∙ ap size (expr_view-Dict arm.xs nowhere) in
    let here = ap (λ q. sizes (pairs_of q)) c.deref-in-Dict.ensures.value in
    (omega (arith, up, here), within)

pub write_node-write_list_comprehension-requires : goal.write_node-write_list_comprehension-requires
write_node-write_list_comprehension-requires g n c κs within =
    let arm = c.in-ListComprehension in
    let up = ap (λ y. size (expr_view y nowhere)) arm.is ∙ ap size (expr_view-ListComprehension arm.element arm.first arm.rest nowhere) in
    let element = ap (λ y. size (expr_at y)) c.deref-in-ListComprehension.ensures in
    let here = ap (λ q. clause_sizes (clauses_of q c.deref-in-ListComprehension-3.result.now)) c.deref-in-ListComprehension-2.ensures ∙ ap (λ q. clause_sizes (clauses_of arm.first.value q)) c.deref-in-ListComprehension-3.ensures.value in
    (omega (arith, up, element, here), within)

pub write_node-write_dict_comprehension-requires : goal.write_node-write_dict_comprehension-requires
write_node-write_dict_comprehension-requires g n c κs within =
    let arm = c.in-DictComprehension in
    let up = ap (λ y. size (expr_view y nowhere)) arm.is ∙ ap size (expr_view-DictComprehension arm.entry arm.first arm.rest nowhere) in
    let key = ap (λ y. size (expr_at y.0)) c.deref-in-DictComprehension.ensures in
    let value = ap (λ y. size (expr_at y.1)) c.deref-in-DictComprehension-2.ensures in
    let here = ap (λ q. clause_sizes (clauses_of q c.deref-in-DictComprehension-4.result.now)) c.deref-in-DictComprehension-3.ensures ∙ ap (λ q. clause_sizes (clauses_of arm.first.value q)) c.deref-in-DictComprehension-4.ensures.value in
    (omega (arith, up, key, value, here), within)

-- ---- what is written

pub write_items-write_str-requires-text-s : goal.write_items-write_str-requires-text-s
write_items-write_str-requires-text-s g n c κs within = separator_is_text (members (λ x. tree.item (expr_at x)) (take c.loop-x.x-index c.args.xs.now)) c.loop-x.invariant.0

pub write_items-loop-x-preserved : goal.write_items-loop-x-preserved
write_items-loop-x-preserved g n c =
    let xs = c.args.xs.now in
    let i = c.loop-x.x-index in
    let x = c.x-item.result in
    (comma_before_next (λ x. tree.item (expr_at x)) xs i x c.loop-x-test.true c.x-item.is, λ plain. member_written (λ x. tree.item (expr_at x)) xs i x c.loop-x-test.true c.x-item.is c.loop-x.invariant.0 (c.loop-x.invariant.1 plain) c.in_ok-write_str.ensures.writes c.in_ok-write_expr.ensures)

pub write_items-returns : goal.write_items-returns
write_items-returns g n c = λ plain ok.
    let xs = c.args.xs.now in
    let at_end : c.loop-x.x-index ≡ length xs = omega (arith, c.loop-x-test.false, c.loop-x.auto.x-index-end) in
    reads_as (ap (λ ys. members_text (members (λ x. tree.item (expr_at x)) ys)) (all_taken xs c.loop-x.x-index at_end)) (c.loop-x.invariant.1 plain)

pub write_items-loop-x-init : goal.write_items-loop-x-init
write_items-loop-x-init g n c = (refl, nothing)

pub write_entries-write_str-requires-text-s : goal.write_entries-write_str-requires-text-s
write_entries-write_str-requires-text-s g n c κs within = separator_is_text (members (λ x. tree.pair (expr_at x.0) (expr_at x.1)) (take c.loop-x.x-index c.args.xs.now)) c.loop-x.invariant.0

pub write_entries-loop-x-preserved : goal.write_entries-loop-x-preserved
write_entries-loop-x-preserved g n c =
    let xs = c.args.xs.now in
    let i = c.loop-x.x-index in
    let x = c.x-item.result in
    (comma_before_next (λ x. tree.pair (expr_at x.0) (expr_at x.1)) xs i x c.loop-x-test.true c.x-item.is, λ plain. member_written (λ x. tree.pair (expr_at x.0) (expr_at x.1)) xs i x c.loop-x-test.true c.x-item.is c.loop-x.invariant.0 (c.loop-x.invariant.1 plain) c.in_ok-write_str.ensures.writes c.in_ok-write_entry.ensures)

pub write_entries-returns : goal.write_entries-returns
write_entries-returns g n c = λ plain ok.
    let xs = c.args.xs.now in
    let at_end : c.loop-x.x-index ≡ length xs = omega (arith, c.loop-x-test.false, c.loop-x.auto.x-index-end) in
    reads_as (ap (λ ys. members_text (members (λ x. tree.pair (expr_at x.0) (expr_at x.1)) ys)) (all_taken xs c.loop-x.x-index at_end)) (c.loop-x.invariant.1 plain)

pub write_entries-loop-x-init : goal.write_entries-loop-x-init
write_entries-loop-x-init g n c = (refl, nothing)

pub write_targets-write_str-requires-text-s : goal.write_targets-write_str-requires-text-s
write_targets-write_str-requires-text-s g n c κs within = separator_is_text (members (λ x. tree.item (target_at x)) (take c.loop-x.x-index c.args.xs.now)) c.loop-x.invariant.0

pub write_targets-loop-x-preserved : goal.write_targets-loop-x-preserved
write_targets-loop-x-preserved g n c =
    let xs = c.args.xs.now in
    let i = c.loop-x.x-index in
    let x = c.x-item.result in
    (comma_before_next (λ x. tree.item (target_at x)) xs i x c.loop-x-test.true c.x-item.is, λ plain. member_written (λ x. tree.item (target_at x)) xs i x c.loop-x-test.true c.x-item.is c.loop-x.invariant.0 (c.loop-x.invariant.1 plain) c.in_ok-write_str.ensures.writes c.in_ok-write_target.ensures)

pub write_targets-returns : goal.write_targets-returns
write_targets-returns g n c = λ plain ok.
    let xs = c.args.xs.now in
    let at_end : c.loop-x.x-index ≡ length xs = omega (arith, c.loop-x-test.false, c.loop-x.auto.x-index-end) in
    reads_as (ap (λ ys. members_text (members (λ x. tree.item (target_at x)) ys)) (all_taken xs c.loop-x.x-index at_end)) (c.loop-x.invariant.1 plain)

pub write_targets-loop-x-init : goal.write_targets-loop-x-init
write_targets-loop-x-init g n c = (refl, nothing)

pub write_arguments-write_str-requires-text-s : goal.write_arguments-write_str-requires-text-s
write_arguments-write_str-requires-text-s g n c κs within = separator_is_text (members argument_at (take c.loop-x.x-index c.args.xs.now)) c.loop-x.invariant.0

pub write_arguments-loop-x-preserved : goal.write_arguments-loop-x-preserved
write_arguments-loop-x-preserved g n c =
    let xs = c.args.xs.now in
    let i = c.loop-x.x-index in
    let x = c.x-item.result in
    (comma_before_next argument_at xs i x c.loop-x-test.true c.x-item.is, λ plain. member_written argument_at xs i x c.loop-x-test.true c.x-item.is c.loop-x.invariant.0 (c.loop-x.invariant.1 plain) c.in_ok-write_str.ensures.writes (λ p o. reads_as (argument_anywhere x.node _ _) (c.in_ok-write_argument.ensures p o)))

pub write_arguments-returns : goal.write_arguments-returns
write_arguments-returns g n c = λ plain ok.
    let xs = c.args.xs.now in
    let at_end : c.loop-x.x-index ≡ length xs = omega (arith, c.loop-x-test.false, c.loop-x.auto.x-index-end) in
    reads_as (ap (λ ys. members_text (members argument_at ys)) (all_taken xs c.loop-x.x-index at_end)) (c.loop-x.invariant.1 plain)

pub write_arguments-loop-x-init : goal.write_arguments-loop-x-init
write_arguments-loop-x-init g n c = (refl, nothing)

pub write_parameters-write_str-requires-text-s : goal.write_parameters-write_str-requires-text-s
write_parameters-write_str-requires-text-s g n c κs within = separator_is_text (members parameter_at (take c.loop-x.x-index c.args.params.now)) c.loop-x.invariant.0

pub write_parameters-loop-x-preserved : goal.write_parameters-loop-x-preserved
write_parameters-loop-x-preserved g n c =
    let xs = c.args.params.now in
    let i = c.loop-x.x-index in
    let x = c.x-item.result in
    (comma_before_next parameter_at xs i x c.loop-x-test.true c.x-item.is, λ plain. member_written parameter_at xs i x c.loop-x-test.true c.x-item.is c.loop-x.invariant.0 (c.loop-x.invariant.1 plain) c.in_ok-write_str.ensures.writes (λ p o. reads_as (parameter_anywhere x.node _ _) (c.in_ok-write_parameter.ensures p o)))

pub write_parameters-returns : goal.write_parameters-returns
write_parameters-returns g n c = λ plain ok.
    let xs = c.args.params.now in
    let at_end : c.loop-x.x-index ≡ length xs = omega (arith, c.loop-x-test.false, c.loop-x.auto.x-index-end) in
    reads_as (ap (λ ys. members_text (members parameter_at ys)) (all_taken xs c.loop-x.x-index at_end)) (c.loop-x.invariant.1 plain)

pub write_parameters-loop-x-init : goal.write_parameters-loop-x-init
write_parameters-loop-x-init g n c = (refl, nothing)

pub write_clauses-loop-x-preserved : goal.write_clauses-loop-x-preserved
write_clauses-loop-x-preserved g n c = λ plain.
    reads_as (clause_more clause_view (tree.and_clause tree.no_clauses (for_clause_view c.args.first.now)) c.args.rest.now c.loop-x.x-index c.x-item.result c.loop-x-test.true c.x-item.is) (then_writes (c.loop-x.invariant plain) c.in_ok-write_clause.ensures)

pub write_clauses-returns : goal.write_clauses-returns
write_clauses-returns g n c = λ plain ok.
    let xs = c.args.rest.now in
    let at_end : c.loop-x.x-index ≡ length xs = omega (arith, c.loop-x-test.false, c.loop-x.auto.x-index-end) in
    reads_as (ap (λ ys. clauses_text (clauses_of c.args.first.now ys)) (all_taken xs c.loop-x.x-index at_end)) (c.loop-x.invariant plain)

pub write_list-returns : goal.write_list-returns
write_list-returns g n c = λ plain ok.
    let all = last_writes (then_writes (c.in_ok-write_str.ensures.writes plain refl) c.in_ok-write_items.ensures) c.write_str-2.ensures.writes ok in
    reads_as refl all

pub write_dict-returns : goal.write_dict-returns
write_dict-returns g n c = λ plain ok.
    let all = last_writes (then_writes (c.in_ok-write_str.ensures.writes plain refl) c.in_ok-write_entries.ensures) c.write_str-2.ensures.writes ok in
    reads_as refl all

pub write_f_string-returns : goal.write_f_string-returns
write_f_string-returns g n c = λ plain ok.
    let all = last_writes (then_writes (then_writes (c.in_ok-write_str.ensures.writes plain refl) c.in_ok-write_str-2.ensures.writes) c.in_ok-write_items.ensures) c.write_str-3.ensures.writes ok in
    reads_as refl all

pub write_call-returns : goal.write_call-returns
write_call-returns g n c = λ plain ok.
    let all = last_writes (then_writes (then_writes (c.in_ok-write_expr.ensures plain refl) c.in_ok-write_str.ensures.writes) c.in_ok-write_arguments.ensures) c.write_str-2.ensures.writes ok in
    reads_as refl all

pub write_lambda-returns : goal.write_lambda-returns
write_lambda-returns g n c = λ plain ok.
    let all = last_writes (then_writes (c.in_ok-write_str.ensures.writes plain refl) c.in_ok-write_parameters.ensures) c.write_between.ensures ok in
    reads_as (at_once (codes "(lambda " ++ members_text (members parameter_at c.args.params.now)) (codes ": ") (expr_text (expr_at c.args.body.now)) (codes ")")) all

pub write_tuple-returns : goal.write_tuple-returns
write_tuple-returns g n c = λ plain ok.
    let xs = c.args.xs.now in
    let front = codes "(" ++ members_text (members (λ x. tree.item (expr_at x)) xs) in
    let all = last_writes (then_writes (c.in_ok-write_str.ensures.writes plain refl) c.in_ok-write_items.ensures) c.write_str-2.ensures.writes ok in
    reads_as (ap (λ q. front ++ q) (c.end_of_tuple.ensures ∙ tuple_ends (λ x. tree.item (expr_at x)) xs) ∙ sym (append_assoc front (lone_comma (members (λ x. tree.item (expr_at x)) xs)) (codes ")"))) all

pub write_target_tuple-returns : goal.write_target_tuple-returns
write_target_tuple-returns g n c = λ plain ok.
    let xs = c.args.xs.now in
    let front = codes "(" ++ members_text (members (λ x. tree.item (target_at x)) xs) in
    let all = last_writes (then_writes (c.in_ok-write_str.ensures.writes plain refl) c.in_ok-write_targets.ensures) c.write_str-2.ensures.writes ok in
    reads_as (ap (λ q. front ++ q) (c.end_of_tuple.ensures ∙ tuple_ends (λ x. tree.item (target_at x)) xs) ∙ sym (append_assoc front (lone_comma (members (λ x. tree.item (target_at x)) xs)) (codes ")"))) all

pub write_list_comprehension-returns : goal.write_list_comprehension-returns
write_list_comprehension-returns g n c = λ plain ok.
    let all = last_writes (then_writes (then_writes (c.in_ok-write_str.ensures.writes plain refl) c.in_ok-write_expr.ensures) c.in_ok-write_clauses.ensures) c.write_str-2.ensures.writes ok in
    reads_as refl all

pub write_dict_comprehension-returns : goal.write_dict_comprehension-returns
write_dict_comprehension-returns g n c = λ plain ok.
    let all = last_writes (then_writes (then_writes (c.in_ok-write_str.ensures.writes plain refl) c.in_ok-write_entry.ensures) c.in_ok-write_clauses.ensures) c.write_str-2.ensures.writes ok in
    reads_as refl all

pub write_for_clause-returns : goal.write_for_clause-returns
write_for_clause-returns g n c = λ plain ok.
    let all = last_writes (then_writes (then_writes (c.in_ok-write_str.ensures.writes plain refl) c.in_ok-write_target.ensures) c.in_ok-write_str-2.ensures.writes) c.write_expr.ensures ok in
    reads_as (sym (ap clause_text (view-for_clause c.args.x.now))) all

pub write_clause-returns-in-For : goal.write_clause-returns-in-For
write_clause-returns-in-For g n c = λ plain ok.
    reads_as (sym (ap clause_text (ap clause_view c.in-For.is ∙ clause_view-For c.in-For.inner))) (c.write_for_clause.ensures plain ok)

pub write_clause-returns-in_ok-write_str-in-If : goal.write_clause-returns-in_ok-write_str-in-If
write_clause-returns-in_ok-write_str-in-If g n c = λ plain ok.
    let all = last_writes (c.in_ok-write_str-in-If.ensures.writes plain refl) c.write_expr.ensures ok in
    reads_as (sym (ap clause_text (ap clause_view c.in-If.is ∙ clause_view-If c.in-If.condition))) all

pub write_argument-returns-in-Positional : goal.write_argument-returns-in-Positional
write_argument-returns-in-Positional g n c = λ plain ok.
    reads_as (sym (ap member_text (ap (λ y. argument_view y nowhere) c.in-Positional.is ∙ argument_view-Positional c.in-Positional.value nowhere))) (c.write_expr.ensures plain ok)

pub write_argument-returns-in_ok-write_str-in-Named-2 : goal.write_argument-returns-in_ok-write_str-in-Named-2
write_argument-returns-in_ok-write_str-in-Named-2 g n c = λ plain ok.
    let arm = c.in-Named in
    let all = last_writes (then_writes (c.in_ok-write_str-in-Named.ensures.writes plain refl) c.in_ok-write_str-in-Named-2.ensures.writes) c.write_expr-in-Named.ensures ok in
    reads_as (ap (λ q. q ++ codes " = " ++ expr_text (expr_at arm.value)) c.deref.ensures ∙ sym (ap member_text (ap (λ y. argument_view y nowhere) c.in-Named.is ∙ argument_view-Named arm.name arm.value nowhere))) all

pub write_argument-returns-in_ok-write_str-in-Args : goal.write_argument-returns-in_ok-write_str-in-Args
write_argument-returns-in_ok-write_str-in-Args g n c = λ plain ok.
    let all = last_writes (c.in_ok-write_str-in-Args.ensures.writes plain refl) c.write_expr-in-Args.ensures ok in
    reads_as (sym (ap member_text (ap (λ y. argument_view y nowhere) c.in-Args.is ∙ argument_view-Args c.in-Args.value nowhere))) all

pub write_argument-returns-in_ok-write_str-in-KwArgs : goal.write_argument-returns-in_ok-write_str-in-KwArgs
write_argument-returns-in_ok-write_str-in-KwArgs g n c = λ plain ok.
    let all = last_writes (c.in_ok-write_str-in-KwArgs.ensures.writes plain refl) c.write_expr-in-KwArgs.ensures ok in
    reads_as (sym (ap member_text (ap (λ y. argument_view y nowhere) c.in-KwArgs.is ∙ argument_view-KwArgs c.in-KwArgs.value nowhere))) all

pub write_bound-returns-in_ok-write_str-in-Some : goal.write_bound-returns-in_ok-write_str-in-Some
write_bound-returns-in_ok-write_str-in-Some g n c = λ plain ok.
    let all = last_writes (c.in_ok-write_str-in-Some.ensures.writes plain refl) c.write_expr.ensures ok in
    reads_as (ap (λ y. c.args.before.now ++ expr_text (expr_at y)) c.deref.ensures ∙ sym (ap (λ b. behind c.args.before.now (boxed_expr b)) c.in-Some.is)) all

pub write_bound-returns-in-None : goal.write_bound-returns-in-None
write_bound-returns-in-None g n c = λ plain ok.
    reads_as (sym (ap (λ b. behind c.args.before.now (boxed_expr b)) c.in-None.is)) (nothing plain)

pub write_type_behind-returns-in_ok-write_str-in-Some : goal.write_type_behind-returns-in_ok-write_str-in-Some
write_type_behind-returns-in_ok-write_str-in-Some g n c = λ plain ok.
    let all = last_writes (c.in_ok-write_str-in-Some.ensures.writes plain refl) c.write_expr.ensures ok in
    reads_as (ap (λ y. c.args.before.now ++ expr_text (expr_at y.node.expr)) c.deref.ensures ∙ ap (λ q. type_behind c.args.before.now q) (sym (view-type c.in-Some.x.value.node c.in-Some.x.value.span)) ∙ sym (ap (λ b. type_behind c.args.before.now (boxed_type b)) c.in-Some.is)) all

pub write_type_behind-returns-in-None : goal.write_type_behind-returns-in-None
write_type_behind-returns-in-None g n c = λ plain ok.
    reads_as (sym (ap (λ b. type_behind c.args.before.now (boxed_type b)) c.in-None.is)) (nothing plain)

pub write_parameter-returns-in-Slash : goal.write_parameter-returns-in-Slash
write_parameter-returns-in-Slash g n c = λ plain ok.
    reads_as (sym (ap member_text (ap (λ y. parameter_view y nowhere) c.in-Slash.is ∙ parameter_view-Slash _ _ _ _ _ _ nowhere))) (c.write_str.ensures.writes plain ok)

pub write_parameter-returns-in-NoArgs : goal.write_parameter-returns-in-NoArgs
write_parameter-returns-in-NoArgs g n c = λ plain ok.
    reads_as (sym (ap member_text (ap (λ y. parameter_view y nowhere) c.in-NoArgs.is ∙ parameter_view-NoArgs _ _ _ _ _ _ nowhere))) (c.write_str-in-NoArgs.ensures.writes plain ok)

pub write_parameter-returns-in_ok-write_type_behind-in-Normal : goal.write_parameter-returns-in_ok-write_type_behind-in-Normal
write_parameter-returns-in_ok-write_type_behind-in-Normal g n c = λ plain ok.
    let arm = c.in-Normal in
    let all = last_writes (then_writes (c.in_ok-write_str-in-Normal.ensures.writes plain refl) c.in_ok-write_type_behind-in-Normal.ensures) c.write_bound.ensures ok in
    reads_as (ap (λ q. q ++ type_behind (codes ": ") (boxed_type arm.ty) ++ behind (codes " = ") (boxed_expr arm.default)) c.deref.ensures ∙ parameter_texts tree.plain (string_bytes arm.name.node.ident) arm.name.span (boxed_type arm.ty) (boxed_expr arm.default) nowhere ∙ sym (ap member_text (ap (λ y. parameter_view y nowhere) c.in-Normal.is ∙ parameter_view-Normal arm.name arm.ty arm.default nowhere))) all

pub write_parameter-returns-in-Args : goal.write_parameter-returns-in-Args
write_parameter-returns-in-Args g n c = λ plain ok.
    let arm = c.in-Args in
    reads_as (ap (λ q. codes "*" ++ q ++ type_behind (codes ": ") (boxed_type arm.ty)) c.deref-in-Args.ensures ∙ sym (append-nil (codes "*" ++ string_bytes arm.name.node.ident ++ type_behind (codes ": ") (boxed_type arm.ty))) ∙ parameter_texts tree.starred (string_bytes arm.name.node.ident) arm.name.span (boxed_type arm.ty) tree.absent nowhere ∙ sym (ap member_text (ap (λ y. parameter_view y nowhere) c.in-Args.is ∙ parameter_view-Args arm.name arm.ty nowhere))) (c.write_starred.ensures plain ok)

pub write_parameter-returns-in-KwArgs : goal.write_parameter-returns-in-KwArgs
write_parameter-returns-in-KwArgs g n c = λ plain ok.
    let arm = c.in-KwArgs in
    reads_as (ap (λ q. codes "**" ++ q ++ type_behind (codes ": ") (boxed_type arm.ty)) c.deref-in-KwArgs.ensures ∙ sym (append-nil (codes "**" ++ string_bytes arm.name.node.ident ++ type_behind (codes ": ") (boxed_type arm.ty))) ∙ parameter_texts tree.double_starred (string_bytes arm.name.node.ident) arm.name.span (boxed_type arm.ty) tree.absent nowhere ∙ sym (ap member_text (ap (λ y. parameter_view y nowhere) c.in-KwArgs.is ∙ parameter_view-KwArgs arm.name arm.ty nowhere))) (c.write_starred-in-KwArgs.ensures plain ok)

pub write_target_node-returns-in-Tuple : goal.write_target_node-returns-in-Tuple
write_target_node-returns-in-Tuple g n c = λ plain ok.
    let arm = c.in-Tuple in
    reads_as (ap (λ q. expr_text (tree.tuple (targets_of q) nowhere)) c.deref.ensures.value ∙ sym (ap (λ y. expr_text (target_view y nowhere)) c.in-Tuple.is ∙ ap expr_text (target_view-Tuple arm.xs nowhere))) (c.write_target_tuple.ensures plain ok)

pub write_target_node-returns-in-Index : goal.write_target_node-returns-in-Index
write_target_node-returns-in-Index g n c = λ plain ok.
    let arm = c.in-Index in
    reads_as (ap (λ y. expr_text (tree.index (expr_at y.0) (tree.single (expr_at c.deref-in-Index-2.result.now.1)) nowhere)) c.deref-in-Index.ensures ∙ ap (λ y. expr_text (tree.index (expr_at arm.parts.value.0) (tree.single (expr_at y.1)) nowhere)) c.deref-in-Index-2.ensures ∙ sym (ap (λ y. expr_text (target_view y nowhere)) c.in-Index.is ∙ ap expr_text (target_view-Index arm.parts nowhere))) (c.write_index.ensures plain ok)

pub write_target_node-returns-in-Dot : goal.write_target_node-returns-in-Dot
write_target_node-returns-in-Dot g n c = λ plain ok.
    let arm = c.in-Dot in
    reads_as (ap (λ y. expr_text (tree.dot (expr_at y) c.deref-in-Dot-2.result.now nowhere nowhere)) c.deref-in-Dot.ensures ∙ ap (λ q. expr_text (tree.dot (expr_at arm.object.value) q nowhere nowhere)) c.deref-in-Dot-2.ensures ∙ sym (ap (λ y. expr_text (target_view y nowhere)) c.in-Dot.is ∙ ap expr_text (target_view-Dot arm.object arm.name nowhere))) (c.write_dot.ensures plain ok)

pub write_target_node-returns-in-Identifier : goal.write_target_node-returns-in-Identifier
write_target_node-returns-in-Identifier g n c = λ plain ok.
    let arm = c.in-Identifier in
    reads_as (c.deref-in-Identifier.ensures ∙ sym (ap (λ y. expr_text (target_view y nowhere)) c.in-Identifier.is ∙ ap expr_text (target_view-Identifier arm.name nowhere))) (c.write_str.ensures.writes plain ok)

pub write_node-returns-in-Tuple : goal.write_node-returns-in-Tuple
write_node-returns-in-Tuple g n c = λ plain ok.
    let arm = c.in-Tuple in
    reads_as (ap (λ q. expr_text (tree.tuple (items_of q) nowhere)) c.deref.ensures.value ∙ sym (ap (λ y. expr_text (expr_view y nowhere)) c.in-Tuple.is ∙ ap expr_text (expr_view-Tuple arm.xs nowhere))) (c.write_tuple.ensures plain ok)

pub write_node-returns-in-List : goal.write_node-returns-in-List
write_node-returns-in-List g n c = λ plain ok.
    let arm = c.in-List in
    reads_as (ap (λ q. expr_text (tree.list (items_of q) nowhere)) c.deref-in-List.ensures.value ∙ sym (ap (λ y. expr_text (expr_view y nowhere)) c.in-List.is ∙ ap expr_text (expr_view-List arm.xs nowhere))) (c.write_list.ensures plain ok)

pub write_node-returns-in-Dict : goal.write_node-returns-in-Dict
write_node-returns-in-Dict g n c = λ plain ok.
    let arm = c.in-Dict in
    reads_as (ap (λ q. expr_text (tree.dict (pairs_of q) nowhere)) c.deref-in-Dict.ensures.value ∙ sym (ap (λ y. expr_text (expr_view y nowhere)) c.in-Dict.is ∙ ap expr_text (expr_view-Dict arm.xs nowhere))) (c.write_dict.ensures plain ok)

pub write_node-returns-in-Index : goal.write_node-returns-in-Index
write_node-returns-in-Index g n c = λ plain ok.
    let arm = c.in-Index in
    reads_as (ap (λ y. expr_text (tree.index (expr_at y.0) (tree.single (expr_at c.deref-in-Index-2.result.now.1)) nowhere)) c.deref-in-Index.ensures ∙ ap (λ y. expr_text (tree.index (expr_at arm.parts.value.0) (tree.single (expr_at y.1)) nowhere)) c.deref-in-Index-2.ensures ∙ sym (ap (λ y. expr_text (expr_view y nowhere)) c.in-Index.is ∙ ap expr_text (expr_view-Index arm.parts nowhere))) (c.write_index.ensures plain ok)

pub write_node-returns-in-Dot : goal.write_node-returns-in-Dot
write_node-returns-in-Dot g n c = λ plain ok.
    let arm = c.in-Dot in
    reads_as (ap (λ y. expr_text (tree.dot (expr_at y) c.deref-in-Dot-2.result.now nowhere nowhere)) c.deref-in-Dot.ensures ∙ ap (λ q. expr_text (tree.dot (expr_at arm.object.value) q nowhere nowhere)) c.deref-in-Dot-2.ensures ∙ sym (ap (λ y. expr_text (expr_view y nowhere)) c.in-Dot.is ∙ ap expr_text (expr_view-Dot arm.object arm.name nowhere))) (c.write_dot.ensures plain ok)

pub write_node-returns-in-Identifier : goal.write_node-returns-in-Identifier
write_node-returns-in-Identifier g n c = λ plain ok.
    let arm = c.in-Identifier in
    reads_as (c.deref-in-Identifier.ensures ∙ sym (ap (λ y. expr_text (expr_view y nowhere)) c.in-Identifier.is ∙ ap expr_text (expr_view-Identifier arm.name nowhere))) (c.write_str.ensures.writes plain ok)

pub write_node-returns-in-Call : goal.write_node-returns-in-Call
write_node-returns-in-Call g n c = λ plain ok.
    let arm = c.in-Call in
    reads_as (ap (λ y. expr_text (tree.call (expr_at y) (members argument_at c.deref-in-Call-2.result.now) nowhere)) c.deref-in-Call.ensures ∙ ap (λ q. expr_text (tree.call (expr_at arm.called.value) (members argument_at q) nowhere)) c.deref-in-Call-2.ensures.value ∙ ap (λ q. expr_text (tree.call (expr_at arm.called.value) q nowhere)) (sym (view-args arm.args)) ∙ sym (ap (λ y. expr_text (expr_view y nowhere)) c.in-Call.is ∙ ap expr_text (expr_view-Call arm.called arm.args nowhere))) (c.write_call.ensures plain ok)

pub write_node-returns-in-Index2 : goal.write_node-returns-in-Index2
write_node-returns-in-Index2 g n c = λ plain ok.
    let arm = c.in-Index2 in
    reads_as (ap (λ y. expr_text (tree.index (expr_at y.0) (tree.double (expr_at c.deref-in-Index2-2.result.now.1) (expr_at c.deref-in-Index2-3.result.now.2)) nowhere)) c.deref-in-Index2.ensures ∙ ap (λ y. expr_text (tree.index (expr_at arm.parts.value.0) (tree.double (expr_at y.1) (expr_at c.deref-in-Index2-3.result.now.2)) nowhere)) c.deref-in-Index2-2.ensures ∙ ap (λ y. expr_text (tree.index (expr_at arm.parts.value.0) (tree.double (expr_at arm.parts.value.1) (expr_at y.2)) nowhere)) c.deref-in-Index2-3.ensures ∙ sym (ap (λ y. expr_text (expr_view y nowhere)) c.in-Index2.is ∙ ap expr_text (expr_view-Index2 arm.parts nowhere))) (c.write_index2.ensures plain ok)

pub write_node-returns-in-Slice : goal.write_node-returns-in-Slice
write_node-returns-in-Slice g n c = λ plain ok.
    let arm = c.in-Slice in
    reads_as (ap (λ y. expr_text (tree.index (expr_at y) (tree.slice (boxed_expr arm.from) (boxed_expr arm.to) (boxed_expr arm.step)) nowhere)) c.deref-in-Slice.ensures ∙ sym (ap (λ y. expr_text (expr_view y nowhere)) c.in-Slice.is ∙ ap expr_text (expr_view-Slice arm.object arm.from arm.to arm.step nowhere))) (c.write_slice.ensures plain ok)

pub write_node-returns-in-Lambda : goal.write_node-returns-in-Lambda
write_node-returns-in-Lambda g n c = λ plain ok.
    let arm = c.in-Lambda in
    reads_as (ap (λ q. expr_text (tree.lambda (members parameter_at q) (expr_at c.deref-in-Lambda-2.result.now) nowhere)) c.deref-in-Lambda.ensures.value ∙ ap (λ y. expr_text (tree.lambda (members parameter_at arm.inner.params.items) (expr_at y) nowhere)) c.deref-in-Lambda-2.ensures ∙ sym (ap (λ y. expr_text (expr_view y nowhere)) c.in-Lambda.is ∙ ap expr_text (expr_view-Lambda arm.inner nowhere ∙ view-lambda arm.inner nowhere))) (c.write_lambda.ensures plain ok)

pub write_node-returns-in-Literal : goal.write_node-returns-in-Literal
write_node-returns-in-Literal g n c = λ plain ok.
    let arm = c.in-Literal in
    reads_as (sym (ap (λ y. expr_text (expr_view y nowhere)) c.in-Literal.is ∙ ap expr_text (expr_view-Literal _ _ _ _ _ _ arm.literal nowhere))) (c.fmt.ensures.writes plain ok)

pub write_node-returns-in-Not : goal.write_node-returns-in-Not
write_node-returns-in-Not g n c = λ plain ok.
    let arm = c.in-Not in
    reads_as (ap (λ y. codes "(not " ++ expr_text (expr_at y) ++ codes ")") c.deref-in-Not.ensures ∙ sym (ap (λ y. expr_text (expr_view y nowhere)) c.in-Not.is ∙ ap expr_text (expr_view-Not arm.inner nowhere))) (c.write_between.ensures plain ok)

pub write_node-returns-in-Minus : goal.write_node-returns-in-Minus
write_node-returns-in-Minus g n c = λ plain ok.
    let arm = c.in-Minus in
    reads_as (ap (λ y. codes "-" ++ expr_text (expr_at y) ++ []) c.deref-in-Minus.ensures ∙ sym (ap (λ y. expr_text (expr_view y nowhere)) c.in-Minus.is ∙ ap expr_text (expr_view-Minus arm.inner nowhere))) (c.write_between-in-Minus.ensures plain ok)

pub write_node-returns-in-Plus : goal.write_node-returns-in-Plus
write_node-returns-in-Plus g n c = λ plain ok.
    let arm = c.in-Plus in
    reads_as (ap (λ y. codes "+" ++ expr_text (expr_at y) ++ []) c.deref-in-Plus.ensures ∙ sym (ap (λ y. expr_text (expr_view y nowhere)) c.in-Plus.is ∙ ap expr_text (expr_view-Plus arm.inner nowhere))) (c.write_between-in-Plus.ensures plain ok)

pub write_node-returns-in-BitNot : goal.write_node-returns-in-BitNot
write_node-returns-in-BitNot g n c = λ plain ok.
    let arm = c.in-BitNot in
    reads_as (ap (λ y. codes "~" ++ expr_text (expr_at y) ++ []) c.deref-in-BitNot.ensures ∙ sym (ap (λ y. expr_text (expr_view y nowhere)) c.in-BitNot.is ∙ ap expr_text (expr_view-BitNot arm.inner nowhere))) (c.write_between-in-BitNot.ensures plain ok)

pub write_node-returns-in-Op : goal.write_node-returns-in-Op
write_node-returns-in-Op g n c = λ plain ok.
    let arm = c.in-Op in
    reads_as (ap (λ y. expr_text (tree.operation (expr_at y) arm.op (expr_at c.deref-in-Op-2.result.now) nowhere)) c.deref-in-Op.ensures ∙ ap (λ y. expr_text (tree.operation (expr_at arm.left.value) arm.op (expr_at y) nowhere)) c.deref-in-Op-2.ensures ∙ sym (ap (λ y. expr_text (expr_view y nowhere)) c.in-Op.is ∙ ap expr_text (expr_view-Op arm.left arm.op arm.right nowhere))) (c.write_operation.ensures plain ok)

pub write_node-returns-in-If : goal.write_node-returns-in-If
write_node-returns-in-If g n c = λ plain ok.
    let arm = c.in-If in
    reads_as (ap (λ y. expr_text (tree.choice (expr_at y.0) (expr_at c.deref-in-If-2.result.now.1) (expr_at c.deref-in-If-3.result.now.2) nowhere)) c.deref-in-If.ensures ∙ ap (λ y. expr_text (tree.choice (expr_at arm.parts.value.0) (expr_at y.1) (expr_at c.deref-in-If-3.result.now.2) nowhere)) c.deref-in-If-2.ensures ∙ ap (λ y. expr_text (tree.choice (expr_at arm.parts.value.0) (expr_at arm.parts.value.1) (expr_at y.2) nowhere)) c.deref-in-If-3.ensures ∙ sym (ap (λ y. expr_text (expr_view y nowhere)) c.in-If.is ∙ ap expr_text (expr_view-If arm.parts nowhere))) (c.write_choice.ensures plain ok)

pub write_node-returns-in-ListComprehension : goal.write_node-returns-in-ListComprehension
write_node-returns-in-ListComprehension g n c = λ plain ok.
    let arm = c.in-ListComprehension in
    reads_as (ap (λ y. expr_text (tree.comprehension (tree.item (expr_at y)) (clauses_of c.deref-in-ListComprehension-2.result.now c.deref-in-ListComprehension-3.result.now) nowhere)) c.deref-in-ListComprehension.ensures ∙ ap (λ q. expr_text (tree.comprehension (tree.item (expr_at arm.element.value)) (clauses_of q c.deref-in-ListComprehension-3.result.now) nowhere)) c.deref-in-ListComprehension-2.ensures ∙ ap (λ q. expr_text (tree.comprehension (tree.item (expr_at arm.element.value)) (clauses_of arm.first.value q) nowhere)) c.deref-in-ListComprehension-3.ensures.value ∙ sym (ap (λ y. expr_text (expr_view y nowhere)) c.in-ListComprehension.is ∙ ap expr_text (expr_view-ListComprehension arm.element arm.first arm.rest nowhere))) (c.write_list_comprehension.ensures plain ok)

pub write_node-returns-in-DictComprehension : goal.write_node-returns-in-DictComprehension
write_node-returns-in-DictComprehension g n c = λ plain ok.
    let arm = c.in-DictComprehension in
    reads_as (ap (λ y. expr_text (tree.comprehension (tree.pair (expr_at y.0) (expr_at c.deref-in-DictComprehension-2.result.now.1)) (clauses_of c.deref-in-DictComprehension-3.result.now c.deref-in-DictComprehension-4.result.now) nowhere)) c.deref-in-DictComprehension.ensures ∙ ap (λ y. expr_text (tree.comprehension (tree.pair (expr_at arm.entry.value.0) (expr_at y.1)) (clauses_of c.deref-in-DictComprehension-3.result.now c.deref-in-DictComprehension-4.result.now) nowhere)) c.deref-in-DictComprehension-2.ensures ∙ ap (λ q. expr_text (tree.comprehension (tree.pair (expr_at arm.entry.value.0) (expr_at arm.entry.value.1)) (clauses_of q c.deref-in-DictComprehension-4.result.now) nowhere)) c.deref-in-DictComprehension-3.ensures ∙ ap (λ q. expr_text (tree.comprehension (tree.pair (expr_at arm.entry.value.0) (expr_at arm.entry.value.1)) (clauses_of arm.first.value q) nowhere)) c.deref-in-DictComprehension-4.ensures.value ∙ sym (ap (λ y. expr_text (expr_view y nowhere)) c.in-DictComprehension.is ∙ ap expr_text (expr_view-DictComprehension arm.entry arm.first arm.rest nowhere))) (c.write_dict_comprehension.ensures plain ok)

pub write_node-returns-in-FString : goal.write_node-returns-in-FString
write_node-returns-in-FString g n c = λ plain ok.
    let arm = c.in-FString in
    reads_as (ap (λ q. expr_text (tree.fstring q nowhere (items_of c.deref-in-FString-2.result.now) nowhere nowhere)) c.deref-in-FString.ensures ∙ ap (λ q. expr_text (tree.fstring (string_bytes arm.inner.node.format.node) nowhere (items_of q) nowhere nowhere)) c.deref-in-FString-2.ensures.value ∙ sym (ap (λ y. expr_text (expr_view y nowhere)) c.in-FString.is ∙ ap expr_text (expr_view-FString arm.inner nowhere ∙ view-fstring arm.inner.node arm.inner.span nowhere))) (c.write_f_string.ensures plain ok)

pub write_expr-returns : goal.write_expr-returns
write_expr-returns g n c = λ plain ok.
    reads_as (expr_anywhere c.args.x.now.node nowhere c.args.x.now.span) (c.write_node.ensures plain ok)

pub write_target-returns : goal.write_target-returns
write_target-returns g n c = λ plain ok.
    reads_as (target_anywhere c.args.x.now.node nowhere c.args.x.now.span) (c.write_target_node.ensures plain ok)
