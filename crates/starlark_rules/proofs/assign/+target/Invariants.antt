use Rattle.std.proofs.Common.{◌≡◌, ◌+◌, ◌*◌, take, None}
use Rattle.starlark_ast.specs.Views.{items_of}
use Rattle.starlark_rulebook.specs.Targets as targets
use Rattle.starlark_rules.proofs.assign.+target.Given as goal

abbrev pub decreases-target_fault : goal.decreases-target_fault
decreases-target_fault g l = 2 * goal.size-target_fault g l

abbrev pub decreases-targets_fault : goal.decreases-targets_fault
decreases-targets_fault g l = 2 * goal.size-targets_fault g l + 1

abbrev pub invariant-targets_fault-loop-x : goal.invariant-targets_fault-loop-x
invariant-targets_fault-loop-x g l = targets.targets_fault (items_of (take l.x-index l.xs)) ≡ None
