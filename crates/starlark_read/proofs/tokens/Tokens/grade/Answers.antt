use Rattle.std.proofs.Common.{◌∙◌, ap}
use Rattle.starlark_grammar.specs.Tables.{grade_of, suffix}
use Rattle.starlark_read.specs.Kinds.{token_of}
use Rattle.starlark_read.proofs.Plain.{grades_alike}
use Rattle.starlark_read.proofs.tokens.Tokens.grade.Goals as goal

pub returns : goal.returns
returns c = c.grade.ensures ∙ ap (λ k. grade_of (suffix (token_of k))) c.kind.ensures ∙ grades_alike _
