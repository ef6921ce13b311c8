use Rattle.std.proofs.Common.{◌∙◌, sym, ap}
use Rattle.starlark_place.specs.Place.{merged_into}
use Rattle.starlark_ast.specs.View.{parameter_at}
use Rattle.starlark_rulebook.specs.Parameters as parameters
use Rattle.starlark_faults.proofs.Prefixes.{merged_more}
use Rattle.starlark_faults.proofs.parameters.whole_span.Goals as goal

pub loop-x-preserved : goal.loop-x-preserved
loop-x-preserved g c =
    c.merged_with-whole.ensures ∙ ap (λ w. merged_into w (parameters.parameter_place (parameter_at c.x-item.result))) c.loop-x.invariant ∙ sym (merged_more parameter_at c.args.params.now c.loop-x.x-index c.x-item.result c.loop-x-test.true c.x-item.is)
