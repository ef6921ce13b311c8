use Rattle.std.proofs.Common.{◌∙◌, ◌+◌, sym, ap, take}
use Rattle.starlark_ast.specs.Tree as t
use Rattle.starlark_ast.specs.View.{expr_at, expr_view}
use Rattle.starlark_ast.specs.Views.{items_of, expr_view-Tuple, expr_view-List}
use Rattle.starlark_rulebook.specs.Targets as targets
use Rattle.starlark_rulebook.specs.View.{maybe_finding, finding_of}
use Rattle.starlark_faults.proofs.Prefixes.{target_faults, still_clean, found_first}
use Rattle.starlark_rules.proofs.assign.+target.Goals as goal

pub target_fault-returns-in-Tuple : goal.target_fault-returns-in-Tuple
target_fault-returns-in-Tuple g n c =
    c.targets_fault.ensures ∙ ap (λ xs. targets.targets_fault (items_of xs)) c.deref.ensures.value ∙ sym (ap (λ y. targets.target_fault (expr_view y c.args.x.now.span)) c.in-Tuple.is ∙ ap targets.target_fault (expr_view-Tuple c.in-Tuple.xs c.args.x.now.span))

pub target_fault-returns-in-List : goal.target_fault-returns-in-List
target_fault-returns-in-List g n c =
    c.targets_fault-in-List.ensures ∙ ap (λ xs. targets.targets_fault (items_of xs)) c.deref-in-List.ensures.value ∙ sym (ap (λ y. targets.target_fault (expr_view y c.args.x.now.span)) c.in-List.is ∙ ap targets.target_fault (expr_view-List c.in-List.xs c.args.x.now.span))

pub targets_fault-returns-in-Some : goal.targets_fault-returns-in-Some
targets_fault-returns-in-Some g n c =
    let xs = c.args.xs.now in
    sym (target_faults (items_of xs) ∙ found_first (λ _ m. targets.member_fault m) (λ x. t.item (expr_at x)) xs c.loop-x.x-index c.x-item.result (finding_of c.in-Some.found) c.loop-x-test.true c.x-item.is (sym (target_faults (items_of (take c.loop-x.x-index xs))) ∙ c.loop-x.invariant) (sym c.target_fault.ensures ∙ ap maybe_finding c.in-Some.is))

pub targets_fault-loop-x-preserved : goal.targets_fault-loop-x-preserved
targets_fault-loop-x-preserved g n c =
    let xs = c.args.xs.now in
    target_faults (items_of (take (c.loop-x.x-index + 1) xs)) ∙ still_clean (λ _ m. targets.member_fault m) (λ x. t.item (expr_at x)) xs c.loop-x.x-index c.x-item.result c.loop-x-test.true c.x-item.is (sym (target_faults (items_of (take c.loop-x.x-index xs))) ∙ c.loop-x.invariant) (sym c.target_fault.ensures ∙ ap maybe_finding c.in_default.is)
