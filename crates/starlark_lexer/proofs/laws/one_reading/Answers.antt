use Rattle.starlark_lexer.proofs.Whole.{one_result}
use Rattle.starlark_lexer.proofs.laws.one_reading.Goals as goal

pub returns : goal.returns
returns c = one_result
