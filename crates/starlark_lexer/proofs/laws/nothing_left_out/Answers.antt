use Rattle.starlark_lexer.proofs.Covered.{covered}
use Rattle.starlark_lexer.proofs.laws.nothing_left_out.Goals as goal

pub returns : goal.returns
returns c = covered
