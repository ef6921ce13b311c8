use Rattle.std.proofs.Common.{◌∙◌, ap}
use Rattle.starlark_grammar.specs.Tables.{assigner}
use Rattle.starlark_read.specs.Assigning.{operation_of}
use Rattle.starlark_read.specs.Kinds.{token_of}
use Rattle.starlark_read.proofs.Plain.{assigns_alike}
use Rattle.starlark_read.proofs.assignment.assign_op_ahead.Goals as goal

pub returns : goal.returns
returns c = c.assign_op.ensures ∙ ap (λ k. operation_of (assigner (token_of k))) c.kind.ensures ∙ assigns_alike _
