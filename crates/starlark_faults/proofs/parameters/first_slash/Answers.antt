use Rattle.std.proofs.Common.{◌∙◌, sym}
use Rattle.starlark_ast.specs.View.{parameter_at}
use Rattle.starlark_faults.proofs.Prefixes.{slash_at_front}
use Rattle.starlark_faults.proofs.parameters.first_slash.Goals as goal

pub returns-in-len1-up : goal.returns-in-len1-up
returns-in-len1-up g c = c.slash_fault.ensures ∙ sym (slash_at_front parameter_at c.args.params.now c.x-item.result c.in-len1-up.len_at_least c.x-item.is)
