use Rattle.starlark_lexer.specs.Classes.{is_blank}
use Rattle.starlark_lexer.proofs.Identifiers.{whole_run}
use Rattle.starlark_lexer.proofs.identifier.are_blanks.Goals as goal

pub returns : goal.returns
returns c = whole_run is_blank c.args.bytes.now c.blanks.result c.blanks.ensures.value
