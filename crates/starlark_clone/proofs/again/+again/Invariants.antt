use Rattle.std.proofs.Common.{◌+◌, ◌≡◌, take}
use Rattle.starlark_clone.specs.Copies.{clauses_by, items_by, members_by, pairs_by}
use Rattle.starlark_clone.specs.Replacing.{replaced_clauses, replaced_members}
use Rattle.starlark_ast.specs.Shown.{nowhere}
use Rattle.starlark_ast.specs.View.{argument_at, argument_view, boxed_expr, boxed_type, clause_view, expr_at, expr_view, for_clause_view, members, parameter_at, parameter_view, target_view}
use Rattle.starlark_ast.specs.Views.{clauses_of, items_of, pairs_of, targets_of}
use Rattle.starlark_ast.proofs.Sizes.{size, sizes, member_size, bound_size, annotation_size, clause_size, clause_sizes}
use Rattle.starlark_clone.proofs.again.+again.Given as goal

abbrev pub decreases-expression : goal.decreases-expression
decreases-expression g l = size (expr_view l.x.now nowhere)

abbrev pub decreases-operation : goal.decreases-operation
decreases-operation g l = 3 + (size (expr_at l.left.now) + size (expr_at l.right.now))

abbrev pub decreases-spanned : goal.decreases-spanned
decreases-spanned g l = 1 + size (expr_at l.x.now)

abbrev pub decreases-boxed : goal.decreases-boxed
decreases-boxed g l = 2 + size (expr_at l.x.now)

abbrev pub decreases-two : goal.decreases-two
decreases-two g l = 2 + (size (expr_at l.x.now.0) + size (expr_at l.x.now.1))

abbrev pub decreases-three : goal.decreases-three
decreases-three g l = 2 + (size (expr_at l.x.now.0) + size (expr_at l.x.now.1) + size (expr_at l.x.now.2))

abbrev pub decreases-items : goal.decreases-items
decreases-items g l = sizes (items_of l.xs.now)

abbrev pub decreases-entries : goal.decreases-entries
decreases-entries g l = sizes (pairs_of l.xs.now)

abbrev pub decreases-slice : goal.decreases-slice
decreases-slice g l = 3 + (size (expr_at l.object.now) + (bound_size (boxed_expr l.from.now) + bound_size (boxed_expr l.to.now) + bound_size (boxed_expr l.step.now)))

abbrev pub decreases-bound : goal.decreases-bound
decreases-bound g l = 1 + bound_size (boxed_expr l.x.now)

abbrev pub decreases-lambda_parts : goal.decreases-lambda_parts
decreases-lambda_parts g l = 3 + (sizes (members parameter_at l.x.now.params.items) + size (expr_at l.x.now.body.value))

abbrev pub decreases-f_string_parts : goal.decreases-f_string_parts
decreases-f_string_parts g l = 1 + sizes (items_of l.x.now.expressions.items)

abbrev pub decreases-argument : goal.decreases-argument
decreases-argument g l = member_size (argument_view l.x.now nowhere)

abbrev pub decreases-arguments : goal.decreases-arguments
decreases-arguments g l = sizes (members argument_at l.xs.now)

abbrev pub decreases-annotation : goal.decreases-annotation
decreases-annotation g l = 2 + size (expr_at l.x.now.expr)

abbrev pub decreases-maybe_type : goal.decreases-maybe_type
decreases-maybe_type g l = 1 + annotation_size (boxed_type l.x.now)

abbrev pub decreases-parameter : goal.decreases-parameter
decreases-parameter g l = member_size (parameter_view l.x.now nowhere)

abbrev pub decreases-parameters : goal.decreases-parameters
decreases-parameters g l = sizes (members parameter_at l.xs.now)

abbrev pub decreases-clauses : goal.decreases-clauses
decreases-clauses g l = clause_sizes (clauses_of l.first.now l.rest.now)

abbrev pub decreases-clause : goal.decreases-clause
decreases-clause g l = 1 + clause_size (clause_view l.x.now)

abbrev pub decreases-for_clause : goal.decreases-for_clause
decreases-for_clause g l = clause_size (for_clause_view l.x.now)

abbrev pub decreases-target : goal.decreases-target
decreases-target g l = size (target_view l.x.now nowhere)

abbrev pub decreases-targets : goal.decreases-targets
decreases-targets g l = sizes (targets_of l.xs.now)

abbrev pub invariant-items-loop-x : goal.invariant-items-loop-x
invariant-items-loop-x g l = items_by g.M.Make.expr_means l.all.items ≡ replaced_members (g.R.Rename.renames l.by) (items_of (take l.x-index l.xs))

abbrev pub invariant-entries-loop-x : goal.invariant-entries-loop-x
invariant-entries-loop-x g l = pairs_by g.M.Make.expr_means l.all.items ≡ replaced_members (g.R.Rename.renames l.by) (pairs_of (take l.x-index l.xs))

abbrev pub invariant-arguments-loop-x : goal.invariant-arguments-loop-x
invariant-arguments-loop-x g l = members_by g.M.Make.argument_means l.all.items ≡ replaced_members (g.R.Rename.renames l.by) (members argument_at (take l.x-index l.xs))

abbrev pub invariant-parameters-loop-x : goal.invariant-parameters-loop-x
invariant-parameters-loop-x g l = members_by g.M.Make.parameter_means l.all.items ≡ replaced_members (g.R.Rename.renames l.by) (members parameter_at (take l.x-index l.xs))

abbrev pub invariant-clauses-loop-x : goal.invariant-clauses-loop-x
invariant-clauses-loop-x g l = clauses_by (g.M.Make.for_means l.begin.value) g.M.Make.clause_means l.all.items ≡ replaced_clauses (g.R.Rename.renames l.by) (clauses_of l.first (take l.x-index l.rest))

abbrev pub invariant-targets-loop-x : goal.invariant-targets-loop-x
invariant-targets-loop-x g l = items_by g.M.Make.target_means l.all.items ≡ replaced_members (g.R.Rename.renames l.by) (targets_of (take l.x-index l.xs))
