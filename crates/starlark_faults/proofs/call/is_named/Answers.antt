use Rattle.std.proofs.Common.{◌∙◌, sym, ap, true, cond}
use Rattle.starlark_ast.specs.View.{argument_at}
use Rattle.starlark_rulebook.specs.Calls as calls
use Rattle.starlark_faults.proofs.Prefixes.{any_more}
use Rattle.starlark_faults.proofs.call.is_named.Goals as goal

pub loop-x-preserved : goal.loop-x-preserved
loop-x-preserved g c =
    c.has_name_or-found.ensures ∙ ap (λ b. cond (calls.has_name c.args.name.now (argument_at c.x-item.result)) true b) c.loop-x.invariant ∙ sym (any_more (calls.has_name c.args.name.now) argument_at c.args.args.now c.loop-x.x-index c.x-item.result c.loop-x-test.true c.x-item.is)
