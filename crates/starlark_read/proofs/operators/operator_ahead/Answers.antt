use Rattle.std.proofs.Common.{◌∙◌, ap}
use Rattle.starlark_grammar.specs.Tables.{suffix}
use Rattle.starlark_read.specs.Reads.{operator_of}
use Rattle.starlark_read.specs.Kinds.{token_of}
use Rattle.starlark_read.proofs.Plain.{operators_alike}
use Rattle.starlark_read.proofs.operators.operator_ahead.Goals as goal

pub returns : goal.returns
returns c = c.operator_of.ensures ∙ ap (λ k. operator_of (suffix (token_of k))) c.kind.ensures ∙ operators_alike _
