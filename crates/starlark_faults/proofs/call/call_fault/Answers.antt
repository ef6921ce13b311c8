use Rattle.std.proofs.Common.{◌∙◌, ◌+◌, sym, ap, true, cond, take}
use Rattle.starlark_ast.specs.View.{argument_at, members}
use Rattle.starlark_rulebook.specs.Calls as calls
use Rattle.starlark_rulebook.specs.View.{maybe_finding, finding_of}
use Rattle.starlark_faults.proofs.Prefixes.{any_more, call_faults, still_clean, found_first}
use Rattle.starlark_faults.proofs.call.call_fault.Goals as goal

pub returns-in-Some : goal.returns-in-Some
returns-in-Some g c =
    let xs = c.args.args.now in
    let x = c.index-args-i.result in
    sym (call_faults (members argument_at xs) ∙ found_first calls.argument_fault argument_at xs c.loop-i.i x (finding_of c.in-Some.found) c.loop-i-test.true c.index-args-i.is (sym (call_faults (members argument_at (take c.loop-i.i xs))) ∙ c.loop-i.invariant.clean) (sym c.argument_fault.ensures ∙ ap maybe_finding c.in-Some.is))

pub loop-i-preserved : goal.loop-i-preserved
loop-i-preserved g c =
    let xs = c.args.args.now in
    let i = c.loop-i.i in
    let x = c.index-args-i.result in
    record {
      clean = call_faults (members argument_at (take (i + 1) xs)) ∙ still_clean calls.argument_fault argument_at xs i x c.loop-i-test.true c.index-args-i.is (sym (call_faults (members argument_at (take i xs))) ∙ c.loop-i.invariant.clean) (sym c.argument_fault.ensures ∙ ap maybe_finding c.in_default.is);
      others = c.with-kinds.ensures.others ∙ ap (λ b. cond (calls.is_other (argument_at x)) true b) c.loop-i.invariant.others ∙ sym (any_more calls.is_other argument_at xs i x c.loop-i-test.true c.index-args-i.is);
      stars = c.with-kinds.ensures.stars ∙ ap (λ b. cond (calls.is_star (argument_at x)) true b) c.loop-i.invariant.stars ∙ sym (any_more calls.is_star argument_at xs i x c.loop-i-test.true c.index-args-i.is);
      kwargs = c.with-kinds.ensures.kwargs ∙ ap (λ b. cond (calls.is_kwargs (argument_at x)) true b) c.loop-i.invariant.kwargs ∙ sym (any_more calls.is_kwargs argument_at xs i x c.loop-i-test.true c.index-args-i.is);
    }
