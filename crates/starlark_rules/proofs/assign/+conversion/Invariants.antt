use Rattle.std.proofs.Common.{◌≡◌, ◌++◌, List, length, reverse}
use Rattle.starlark_ast.specs.View.{expr_at}
use Rattle.starlark_ast.specs.Views.{items_of, targets_of}
use Rattle.starlark_rules.specs.Assignable.{weight, weights}
use Rattle.starlark_rulebook.specs.Targets as targets
use Rattle.starlark_rules.proofs.assign.+conversion.Given as goal

abbrev pub decreases-target : goal.decreases-target
decreases-target l = weight (expr_at l.x)

abbrev pub decreases-several : goal.decreases-several
decreases-several l = weights (items_of l.xs.items)

-- what is done, and what is left, last first
abbrev pub invariant-several-loop-x : goal.invariant-several-loop-x
invariant-several-loop-x l =
    (front : List _) × (front ++ reverse l.rest.items ≡ l.fn.xs.items)
    × (targets_of l.done.items ≡ targets.targets_of (items_of front))

abbrev pub decreases-several-loop-x : goal.decreases-several-loop-x
decreases-several-loop-x l = length l.rest.items
