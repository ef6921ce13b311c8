use Rattle.starlark_lexer.proofs.Reading.{one_parsed}
use Rattle.starlark_lexer.proofs.laws.one_format.Goals as goal

pub returns : goal.returns
returns c = one_parsed
