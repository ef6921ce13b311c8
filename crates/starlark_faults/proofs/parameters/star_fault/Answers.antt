use Rattle.std.proofs.Common.{◌∙◌, ◌+◌, sym, ap, take}
use Rattle.starlark_ast.specs.View.{parameter_at, members}
use Rattle.starlark_rulebook.specs.Parameters as parameters
use Rattle.starlark_rulebook.specs.Rules.{first_of as first}
use Rattle.starlark_rulebook.specs.View.{maybe_finding, finding_of}
use Rattle.starlark_faults.proofs.Prefixes.{star_faults, still_clean, found_first, ending_more}
use Rattle.starlark_faults.proofs.parameters.star_fault.Goals as goal

pub returns-in-Some : goal.returns-in-Some
returns-in-Some g c =
    let xs = c.args.params.now in
    let x = c.x-item.result in
    let i = c.loop-x.x-index in
    sym (ap (λ o. first o (parameters.last_star (parameters.ending_star (members parameter_at xs)))) (star_faults (members parameter_at xs) ∙ found_first (λ ns m. parameters.behind_star (parameters.ending_star ns) m) parameter_at xs i x (finding_of c.in-Some.found) c.loop-x-test.true c.x-item.is (sym (star_faults (members parameter_at (take i xs))) ∙ c.loop-x.invariant.clean) (ap (λ s. parameters.behind_star s (parameter_at x)) (sym c.loop-x.invariant.star) ∙ sym c.behind_star.ensures ∙ ap maybe_finding c.in-Some.is)))

pub loop-x-preserved : goal.loop-x-preserved
loop-x-preserved g c =
    let xs = c.args.params.now in
    let x = c.x-item.result in
    let i = c.loop-x.x-index in
    record {
      clean = star_faults (members parameter_at (take (i + 1) xs)) ∙ still_clean (λ ns m. parameters.behind_star (parameters.ending_star ns) m) parameter_at xs i x c.loop-x-test.true c.x-item.is (sym (star_faults (members parameter_at (take i xs))) ∙ c.loop-x.invariant.clean) (ap (λ s. parameters.behind_star s (parameter_at x)) (sym c.loop-x.invariant.star) ∙ sym c.behind_star.ensures ∙ ap maybe_finding c.in_default.is);
      star = c.star_place-star.ensures ∙ sym (ending_more parameter_at xs i x c.loop-x-test.true c.x-item.is);
    }
