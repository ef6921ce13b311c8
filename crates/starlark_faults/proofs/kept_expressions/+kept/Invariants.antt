use Rattle.std.proofs.Common.{◌+◌, ◌*◌, ◌≡◌, None, take}
use Rattle.starlark_ast.specs.View.{argument_at, boxed_expr, boxed_type, clause_view, expr_at, for_clause_view, members, parameter_at, target_at}
use Rattle.starlark_ast.specs.Views.{clauses_of, items_of, pairs_of, targets_of}
use Rattle.starlark_rulebook.specs.Kept as kept
use Rattle.starlark_rulebook.specs.Rules.{first_finding}
use Rattle.starlark_visit.specs.Sizes.{size, sizes, member_size, bound_size, annotation_size, clause_size, clause_sizes}
use Rattle.starlark_faults.proofs.kept_expressions.+kept.Given as goal

abbrev pub decreases-expression_fault : goal.decreases-expression_fault
decreases-expression_fault g l = 3 * size (expr_at l.x.now)

abbrev pub decreases-two_fault : goal.decreases-two_fault
decreases-two_fault g l = 3 * (size (expr_at l.x.now) + size (expr_at l.y.now)) + 1

abbrev pub decreases-three_fault : goal.decreases-three_fault
decreases-three_fault g l = 3 * (size (expr_at l.x.now) + size (expr_at l.y.now) + size (expr_at l.z.now)) + 2

abbrev pub decreases-items_fault : goal.decreases-items_fault
decreases-items_fault g l = 3 * sizes (items_of l.xs.now)

abbrev pub decreases-pairs_fault : goal.decreases-pairs_fault
decreases-pairs_fault g l = 3 * sizes (pairs_of l.xs.now)

abbrev pub decreases-whole_call_fault : goal.decreases-whole_call_fault
decreases-whole_call_fault g l = 3 * (size (expr_at l.called.now) + sizes (members argument_at l.args.now)) + 1

abbrev pub decreases-arguments_fault : goal.decreases-arguments_fault
decreases-arguments_fault g l = 3 * sizes (members argument_at l.xs.now)

abbrev pub decreases-slice_fault : goal.decreases-slice_fault
decreases-slice_fault g l = 3 * (size (expr_at l.object.now) + bound_size (boxed_expr l.from.now) + bound_size (boxed_expr l.to.now) + bound_size (boxed_expr l.step.now)) + 1

abbrev pub decreases-bound_fault : goal.decreases-bound_fault
decreases-bound_fault g l = 3 * bound_size (boxed_expr l.bound.now)

abbrev pub decreases-type_fault : goal.decreases-type_fault
decreases-type_fault g l = 3 * annotation_size (boxed_type l.ty.now)

abbrev pub decreases-lambda_fault : goal.decreases-lambda_fault
decreases-lambda_fault g l = 3 * (sizes (members parameter_at l.x.now.params.items) + size (expr_at l.x.now.body.value)) + 1

abbrev pub decreases-parameters_fault : goal.decreases-parameters_fault
decreases-parameters_fault g l = 3 * sizes (members parameter_at l.params.now)

abbrev pub decreases-parameter_fault : goal.decreases-parameter_fault
decreases-parameter_fault g l = 3 * member_size (parameter_at l.x.now)

abbrev pub decreases-normal_fault : goal.decreases-normal_fault
decreases-normal_fault g l = 3 * (annotation_size (boxed_type l.ty.now) + bound_size (boxed_expr l.default.now)) + 1

abbrev pub decreases-list_fault : goal.decreases-list_fault
decreases-list_fault g l = 3 * (size (expr_at l.element.now) + clause_sizes (clauses_of l.first.now l.rest.now)) + 1

abbrev pub decreases-dict_fault : goal.decreases-dict_fault
decreases-dict_fault g l = 3 * (size (expr_at l.key.now) + size (expr_at l.value.now) + clause_sizes (clauses_of l.first.now l.rest.now)) + 2

abbrev pub decreases-clauses_fault : goal.decreases-clauses_fault
decreases-clauses_fault g l = 3 * clause_sizes (clauses_of l.first.now l.rest.now)

abbrev pub decreases-clause_fault : goal.decreases-clause_fault
decreases-clause_fault g l = 3 * clause_size (clause_view l.x.now) + 1

abbrev pub decreases-for_clause_fault : goal.decreases-for_clause_fault
decreases-for_clause_fault g l = 3 * clause_size (for_clause_view l.x.now)

abbrev pub decreases-target_fault : goal.decreases-target_fault
decreases-target_fault g l = 3 * size (target_at l.x.now)

abbrev pub decreases-targets_fault : goal.decreases-targets_fault
decreases-targets_fault g l = 3 * sizes (targets_of l.xs.now)

abbrev pub decreases-fstring_fault : goal.decreases-fstring_fault
decreases-fstring_fault g l = 3 * sizes (items_of l.x.now.node.expressions.items) + 1

abbrev pub invariant-items_fault-loop-x : goal.invariant-items_fault-loop-x
invariant-items_fault-loop-x g l = None ≡ first_finding (kept.kept_members l.dialect (items_of (take l.x-index l.xs)))

abbrev pub invariant-pairs_fault-loop-x : goal.invariant-pairs_fault-loop-x
invariant-pairs_fault-loop-x g l = None ≡ first_finding (kept.kept_members l.dialect (pairs_of (take l.x-index l.xs)))

abbrev pub invariant-arguments_fault-loop-x : goal.invariant-arguments_fault-loop-x
invariant-arguments_fault-loop-x g l = None ≡ first_finding (kept.kept_members l.dialect (members argument_at (take l.x-index l.xs)))

abbrev pub invariant-parameters_fault-loop-x : goal.invariant-parameters_fault-loop-x
invariant-parameters_fault-loop-x g l = None ≡ first_finding (kept.kept_members l.dialect (members parameter_at (take l.x-index l.params)))

abbrev pub invariant-clauses_fault-loop-x : goal.invariant-clauses_fault-loop-x
invariant-clauses_fault-loop-x g l = None ≡ first_finding (kept.kept_clauses l.dialect (clauses_of l.first (take l.x-index l.rest)))

abbrev pub invariant-targets_fault-loop-x : goal.invariant-targets_fault-loop-x
invariant-targets_fault-loop-x g l = None ≡ first_finding (kept.kept_members l.dialect (targets_of (take l.x-index l.xs)))
