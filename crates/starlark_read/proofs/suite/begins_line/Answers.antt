use Rattle.std.proofs.Common.{◌∙◌, ap}
use Rattle.starlark_read.specs.Lines.{line_of}
use Rattle.starlark_read.proofs.Plain.{lines_alike}
use Rattle.starlark_read.proofs.suite.begins_line.Goals as goal

pub returns : goal.returns
returns c = c.is_line.ensures ∙ ap line_of c.kind.ensures ∙ lines_alike _
