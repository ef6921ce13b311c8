use Rattle.starlark_cutting.proofs.KeptClosing.{behind_end}
use Rattle.starlark_cutting.proofs.laws.cut_off_ends.Goals as goal

pub returns : goal.returns
returns c = record { newline = behind_end }
