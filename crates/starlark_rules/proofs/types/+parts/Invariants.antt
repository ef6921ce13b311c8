use Rattle.std.proofs.Common.{◌≡◌, ◌+◌, ◌*◌, take, Ok}
use Rattle.starlark_ast.specs.View.{expr_at}
use Rattle.starlark_ast.specs.Views.{items_of}
use Rattle.starlark_rules.specs.Misfits.{forms_view, role_of}
use Rattle.starlark_rulebook.specs.Types.{forms_of}
use Rattle.starlark_visit.specs.Sizes.{size, sizes}
use Rattle.starlark_rules.proofs.types.+parts.Given as goal

abbrev pub decreases-type_parts : goal.decreases-type_parts
decreases-type_parts g l = 2 * size (expr_at l.x.now)

abbrev pub decreases-each_type : goal.decreases-each_type
decreases-each_type g l = 2 * sizes (items_of l.xs.now)

abbrev pub decreases-list_parts : goal.decreases-list_parts
decreases-list_parts g l = 2 * sizes (items_of l.xs.now) + 1

abbrev pub decreases-both_types : goal.decreases-both_types
decreases-both_types g l = 2 * (size (expr_at l.x.now) + size (expr_at l.y.now)) + 1

abbrev pub decreases-operation_parts : goal.decreases-operation_parts
decreases-operation_parts g l = 2 * (size (expr_at l.x.now) + size (expr_at l.y.now)) + 2

abbrev pub decreases-index_parts : goal.decreases-index_parts
decreases-index_parts g l = 2 * (size (expr_at l.array.now) + size (expr_at l.index.now)) + 1

abbrev pub decreases-index2_parts : goal.decreases-index2_parts
decreases-index2_parts g l = 2 * (size (expr_at l.array.now) + size (expr_at l.x.now) + size (expr_at l.y.now)) + 3

abbrev pub invariant-each_type-loop-x : goal.invariant-each_type-loop-x
invariant-each_type-loop-x g l = forms_of (role_of l.role) (items_of (take l.x-index l.xs)) ≡ Ok (forms_view l.out.items)
