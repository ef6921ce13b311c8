use Rattle.starlark_cutting.proofs.KeptFilled.{line_filled, dedent_filled}
use Rattle.starlark_cutting.proofs.laws.cut_off_blocks.Goals as goal

pub returns-clause-line : goal.returns-clause-line
returns-clause-line c = line_filled

pub returns-clause-dedent : goal.returns-clause-dedent
returns-clause-dedent c = dedent_filled
