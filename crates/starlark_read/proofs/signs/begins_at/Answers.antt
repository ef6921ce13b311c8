use Rattle.std.proofs.Common.{◌∙◌, ap}
use Rattle.starlark_grammar.specs.Tables.{beginning}
use Rattle.starlark_read.specs.Reads.{begins_by}
use Rattle.starlark_read.specs.Kinds.{token_of}
use Rattle.starlark_read.proofs.Plain.{levels_alike}
use Rattle.starlark_read.proofs.signs.begins_at.Goals as goal

pub returns : goal.returns
returns c = c.level_of.ensures ∙ ap (λ k. begins_by (beginning (token_of k))) c.kind.ensures ∙ levels_alike _
