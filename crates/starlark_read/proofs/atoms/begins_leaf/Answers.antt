use Rattle.std.proofs.Common.{◌∙◌, ap}
use Rattle.starlark_grammar.specs.Tables.{beginning}
use Rattle.starlark_read.specs.Gathered.{is_leaf}
use Rattle.starlark_read.specs.Kinds.{token_of}
use Rattle.starlark_read.proofs.Plain.{leaves_alike}
use Rattle.starlark_read.proofs.atoms.begins_leaf.Goals as goal

pub returns : goal.returns
returns c = c.is_leaf.ensures ∙ ap (λ k. is_leaf (beginning (token_of k))) c.kind.ensures ∙ leaves_alike _
