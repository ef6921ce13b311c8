use Rattle.std.proofs.Common.{◌∙◌, ◌+◌, sym, ap, true, cond, take}
use Rattle.starlark_ast.specs.View.{parameter_at, members}
use Rattle.starlark_rulebook.specs.Parameters as parameters
use Rattle.starlark_rulebook.specs.View.{maybe_finding, finding_of}
use Rattle.starlark_faults.proofs.Prefixes.{any_more, parameter_faults, still_clean, found_first}
use Rattle.starlark_faults.proofs.parameters.each_fault.Goals as goal

pub returns-in-Some : goal.returns-in-Some
returns-in-Some g c =
    let xs = c.args.params.now in
    let x = c.index-params-i.result in
    sym (parameter_faults (members parameter_at xs) ∙ found_first parameters.parameter_fault parameter_at xs c.loop-i.i x (finding_of c.in-Some.found) c.loop-i-test.true c.index-params-i.is (sym (parameter_faults (members parameter_at (take c.loop-i.i xs))) ∙ c.loop-i.invariant.clean) (sym c.one_fault.ensures ∙ ap maybe_finding c.in-Some.is))

pub loop-i-preserved : goal.loop-i-preserved
loop-i-preserved g c =
    let xs = c.args.params.now in
    let i = c.loop-i.i in
    let x = c.index-params-i.result in
    record {
      clean = parameter_faults (members parameter_at (take (i + 1) xs)) ∙ still_clean parameters.parameter_fault parameter_at xs i x c.loop-i-test.true c.index-params-i.is (sym (parameter_faults (members parameter_at (take i xs))) ∙ c.loop-i.invariant.clean) (sym c.one_fault.ensures ∙ ap maybe_finding c.in_default.is);
      marks = c.with-kinds.ensures.marks ∙ ap (λ b. cond (parameters.is_mark (parameter_at x)) true b) c.loop-i.invariant.marks ∙ sym (any_more parameters.is_mark parameter_at xs i x c.loop-i-test.true c.index-params-i.is);
      stars = c.with-kinds.ensures.stars ∙ ap (λ b. cond (parameters.is_starred (parameter_at x)) true b) c.loop-i.invariant.stars ∙ sym (any_more parameters.is_starred parameter_at xs i x c.loop-i-test.true c.index-params-i.is);
      doubles = c.with-kinds.ensures.doubles ∙ ap (λ b. cond (parameters.is_double_starred (parameter_at x)) true b) c.loop-i.invariant.doubles ∙ sym (any_more parameters.is_double_starred parameter_at xs i x c.loop-i-test.true c.index-params-i.is);
      optionals = c.with-kinds.ensures.optionals ∙ ap (λ b. cond (parameters.is_optional (parameter_at x)) true b) c.loop-i.invariant.optionals ∙ sym (any_more parameters.is_optional parameter_at xs i x c.loop-i-test.true c.index-params-i.is);
    }
