use Rattle.starlark_cutting.proofs.KeptOver.{line_width}
use Rattle.starlark_cutting.proofs.laws.cut_off_kinds.Goals as goal

pub returns : goal.returns
returns c = record { newline_width = line_width }
