use Rattle.starlark_cutting.proofs.KeptIndents.{deeper_line, behind_indent}
use Rattle.starlark_cutting.proofs.laws.cut_off_indents.Goals as goal

pub returns-clause-line : goal.returns-clause-line
returns-clause-line c = deeper_line

pub returns-clause-indent : goal.returns-clause-indent
returns-clause-indent c = behind_indent
