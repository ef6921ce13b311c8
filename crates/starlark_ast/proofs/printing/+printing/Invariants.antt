use Rattle.std.proofs.Common.{ℕ, ◌+◌, ◌≡◌, take}
use Rattle.std.specs.Fmt.{HasWritten, IsPlainFormatter}
use Rattle.starlark_ast.specs.Printing.{clauses_text, members_text}
use Rattle.starlark_ast.specs.Shown.{nowhere}
use Rattle.starlark_ast.specs.View.{argument_at, argument_view, boxed_expr, boxed_type, clause_view, expr_at, expr_view, for_clause_view, members, parameter_at, parameter_view, target_at, target_view}
use Rattle.starlark_ast.specs.Views.{clauses_of, items_of, pairs_of, targets_of}
use Rattle.starlark_ast.proofs.Sizes.{size, sizes, member_size, bound_size, annotation_size, clause_size, clause_sizes}
use Rattle.starlark_ast.proofs.Written.{separator}
use Rattle.starlark_ast.proofs.printing.+printing.Given as goal

abbrev pub decreases-write_node : goal.decreases-write_node
decreases-write_node g l = size (expr_view l.x.now nowhere)

abbrev pub decreases-write_expr : goal.decreases-write_expr
decreases-write_expr g l = 1 + size (expr_at l.x.now)

abbrev pub decreases-write_between : goal.decreases-write_between
decreases-write_between g l = 2 + size (expr_at l.x.now)

abbrev pub decreases-write_tuple : goal.decreases-write_tuple
decreases-write_tuple g l = 1 + sizes (items_of l.xs.now)

abbrev pub decreases-write_list : goal.decreases-write_list
decreases-write_list g l = 1 + sizes (items_of l.xs.now)

abbrev pub decreases-write_dict : goal.decreases-write_dict
decreases-write_dict g l = 1 + sizes (pairs_of l.xs.now)

abbrev pub decreases-write_items : goal.decreases-write_items
decreases-write_items g l = sizes (items_of l.xs.now)

abbrev pub decreases-write_entries : goal.decreases-write_entries
decreases-write_entries g l = sizes (pairs_of l.xs.now)

abbrev pub decreases-write_entry : goal.decreases-write_entry
decreases-write_entry g l = 2 + (size (expr_at l.key.now) + size (expr_at l.value.now))

abbrev pub decreases-write_dot : goal.decreases-write_dot
decreases-write_dot g l = 2 + size (expr_at l.object.now)

abbrev pub decreases-write_call : goal.decreases-write_call
decreases-write_call g l = 2 + (size (expr_at l.called.now) + sizes (members argument_at l.args.now))

abbrev pub decreases-write_arguments : goal.decreases-write_arguments
decreases-write_arguments g l = sizes (members argument_at l.xs.now)

abbrev pub decreases-write_argument : goal.decreases-write_argument
decreases-write_argument g l = member_size (argument_view l.x.now nowhere)

abbrev pub decreases-write_index : goal.decreases-write_index
decreases-write_index g l = 3 + (size (expr_at l.object.now) + size (expr_at l.index.now))

abbrev pub decreases-write_index2 : goal.decreases-write_index2
decreases-write_index2 g l = 3 + (size (expr_at l.object.now) + (size (expr_at l.first.now) + size (expr_at l.second.now)))

abbrev pub decreases-write_slice : goal.decreases-write_slice
decreases-write_slice g l = 3 + (size (expr_at l.object.now) + (bound_size (boxed_expr l.from.now) + bound_size (boxed_expr l.to.now) + bound_size (boxed_expr l.step.now)))

abbrev pub decreases-write_bound : goal.decreases-write_bound
decreases-write_bound g l = bound_size (boxed_expr l.bound.now)

abbrev pub decreases-write_type_behind : goal.decreases-write_type_behind
decreases-write_type_behind g l = annotation_size (boxed_type l.ty.now)

abbrev pub decreases-write_lambda : goal.decreases-write_lambda
decreases-write_lambda g l = 3 + (sizes (members parameter_at l.params.now) + size (expr_at l.body.now))

abbrev pub decreases-write_parameters : goal.decreases-write_parameters
decreases-write_parameters g l = sizes (members parameter_at l.params.now)

abbrev pub decreases-write_parameter : goal.decreases-write_parameter
decreases-write_parameter g l = member_size (parameter_view l.x.now nowhere)

abbrev pub decreases-write_starred : goal.decreases-write_starred
decreases-write_starred g l = 1 + annotation_size (boxed_type l.ty.now)

abbrev pub decreases-write_operation : goal.decreases-write_operation
decreases-write_operation g l = 3 + (size (expr_at l.left.now) + size (expr_at l.right.now))

abbrev pub decreases-write_choice : goal.decreases-write_choice
decreases-write_choice g l = 3 + (size (expr_at l.condition.now) + size (expr_at l.chosen.now) + size (expr_at l.other.now))

abbrev pub decreases-write_list_comprehension : goal.decreases-write_list_comprehension
decreases-write_list_comprehension g l = 3 + (size (expr_at l.element.now) + clause_sizes (clauses_of l.first.now l.rest.now))

abbrev pub decreases-write_dict_comprehension : goal.decreases-write_dict_comprehension
decreases-write_dict_comprehension g l = 3 + (size (expr_at l.key.now) + size (expr_at l.value.now) + clause_sizes (clauses_of l.first.now l.rest.now))

abbrev pub decreases-write_clauses : goal.decreases-write_clauses
decreases-write_clauses g l = clause_sizes (clauses_of l.first.now l.rest.now)

abbrev pub decreases-write_clause : goal.decreases-write_clause
decreases-write_clause g l = 1 + clause_size (clause_view l.x.now)

abbrev pub decreases-write_for_clause : goal.decreases-write_for_clause
decreases-write_for_clause g l = clause_size (for_clause_view l.x.now)

abbrev pub decreases-write_f_string : goal.decreases-write_f_string
decreases-write_f_string g l = 1 + sizes (items_of l.xs.now)

abbrev pub decreases-write_target : goal.decreases-write_target
decreases-write_target g l = 1 + size (target_at l.x.now)

abbrev pub decreases-write_target_node : goal.decreases-write_target_node
decreases-write_target_node g l = size (target_view l.x.now nowhere)

abbrev pub decreases-write_target_tuple : goal.decreases-write_target_tuple
decreases-write_target_tuple g l = 1 + sizes (targets_of l.xs.now)

abbrev pub decreases-write_targets : goal.decreases-write_targets
decreases-write_targets g l = sizes (targets_of l.xs.now)

abbrev pub invariant-write_items-loop-x : goal.invariant-write_items-loop-x
invariant-write_items-loop-x g l =
    (l.separator ≡ separator (items_of (take l.x-index l.xs)))
    × (IsPlainFormatter l.fn.f → HasWritten g.W.Write.write_str_gives l.fn.f (members_text (items_of (take l.x-index l.xs))) l.f)

abbrev pub invariant-write_entries-loop-x : goal.invariant-write_entries-loop-x
invariant-write_entries-loop-x g l =
    (l.separator ≡ separator (pairs_of (take l.x-index l.xs)))
    × (IsPlainFormatter l.fn.f → HasWritten g.W.Write.write_str_gives l.fn.f (members_text (pairs_of (take l.x-index l.xs))) l.f)

abbrev pub invariant-write_arguments-loop-x : goal.invariant-write_arguments-loop-x
invariant-write_arguments-loop-x g l =
    (l.separator ≡ separator (members argument_at (take l.x-index l.xs)))
    × (IsPlainFormatter l.fn.f → HasWritten g.W.Write.write_str_gives l.fn.f (members_text (members argument_at (take l.x-index l.xs))) l.f)

abbrev pub invariant-write_parameters-loop-x : goal.invariant-write_parameters-loop-x
invariant-write_parameters-loop-x g l =
    (l.separator ≡ separator (members parameter_at (take l.x-index l.params)))
    × (IsPlainFormatter l.fn.f → HasWritten g.W.Write.write_str_gives l.fn.f (members_text (members parameter_at (take l.x-index l.params))) l.f)

abbrev pub invariant-write_clauses-loop-x : goal.invariant-write_clauses-loop-x
invariant-write_clauses-loop-x g l =
    IsPlainFormatter l.fn.f → HasWritten g.W.Write.write_str_gives l.fn.f (clauses_text (clauses_of l.first (take l.x-index l.rest))) l.f

abbrev pub invariant-write_targets-loop-x : goal.invariant-write_targets-loop-x
invariant-write_targets-loop-x g l =
    (l.separator ≡ separator (targets_of (take l.x-index l.xs)))
    × (IsPlainFormatter l.fn.f → HasWritten g.W.Write.write_str_gives l.fn.f (members_text (targets_of (take l.x-index l.xs))) l.f)
