use Rattle.std.proofs.Common.{◌∙◌, sym, ap, true, cond, string_bytes}
use Rattle.starlark_ast.specs.View.{parameter_at}
use Rattle.starlark_rulebook.specs.Parameters as parameters
use Rattle.starlark_faults.proofs.Prefixes.{any_more}
use Rattle.starlark_faults.proofs.parameters.is_taken.Goals as goal

pub loop-x-preserved : goal.loop-x-preserved
loop-x-preserved g c =
    let name = string_bytes c.args.name.now.node.ident in
    c.has_name_or-taken.ensures ∙ ap (λ n. cond (parameters.is_parameter n (parameter_at c.x-item.result)) true c.loop-x.taken) c.deref.ensures ∙ ap (λ b. cond (parameters.is_parameter name (parameter_at c.x-item.result)) true b) c.loop-x.invariant ∙ sym (any_more (parameters.is_parameter name) parameter_at c.args.params.now c.loop-x.x-index c.x-item.result c.loop-x-test.true c.x-item.is)
