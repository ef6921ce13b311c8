use Rattle.std.proofs.Common.{◌∙◌, ap}
use Rattle.starlark_grammar.specs.Sorts.{is_some}
use Rattle.starlark_grammar.specs.Tables.{beginning}
use Rattle.starlark_read.specs.Kinds.{token_of}
use Rattle.starlark_read.proofs.Plain.{tests_alike}
use Rattle.starlark_read.proofs.tokens.Tokens.begins_test.Goals as goal

pub returns : goal.returns
returns c = c.begins_test.ensures ∙ ap (λ k. is_some (beginning (token_of k))) c.kind.ensures ∙ tests_alike _
