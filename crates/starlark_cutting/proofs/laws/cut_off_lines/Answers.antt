use Rattle.starlark_cutting.proofs.KeptLayouts.{behind_line, behind_dedent}
use Rattle.starlark_cutting.proofs.laws.cut_off_lines.Goals as goal

pub returns-clause-line : goal.returns-clause-line
returns-clause-line c = behind_line

pub returns-clause-dedent : goal.returns-clause-dedent
returns-clause-dedent c = behind_dedent
