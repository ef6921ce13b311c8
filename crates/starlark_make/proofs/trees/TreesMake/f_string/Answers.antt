use Rattle.starlark_make.proofs.Making.{fstring_of}
use Rattle.starlark_make.proofs.trees.TreesMake.f_string.Goals as goal

pub returns : goal.returns
returns c = fstring_of _ c.args.span
