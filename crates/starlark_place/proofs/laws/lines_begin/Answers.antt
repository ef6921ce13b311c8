use Rattle.starlark_place.proofs.Lines.{line_of_begin}
use Rattle.starlark_place.proofs.laws.lines_begin.Goals as goal

pub returns : goal.returns
returns c text n h = line_of_begin text n h
