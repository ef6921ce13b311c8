use Rattle.starlark_cutting.proofs.KeptOver.{line_ended, dedent_ended}
use Rattle.starlark_cutting.proofs.laws.cut_off_whole.Goals as goal

pub returns-clause-newline : goal.returns-clause-newline
returns-clause-newline c = line_ended

pub returns-clause-dedent : goal.returns-clause-dedent
returns-clause-dedent c = dedent_ended
