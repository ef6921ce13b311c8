use Rattle.std.proofs.Common.{◌∙◌, ap}
use Rattle.starlark_grammar.specs.Tables.{beginning}
use Rattle.starlark_read.specs.Reads.{sign_in}
use Rattle.starlark_read.specs.Kinds.{token_of}
use Rattle.starlark_read.proofs.Plain.{signs_alike}
use Rattle.starlark_read.proofs.signs.sign_ahead.Goals as goal

pub returns : goal.returns
returns c = c.sign_of.ensures ∙ ap (λ k. sign_in (beginning (token_of k))) c.kind.ensures ∙ signs_alike _
