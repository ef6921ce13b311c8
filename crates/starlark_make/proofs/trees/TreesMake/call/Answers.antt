use Rattle.starlark_make.proofs.Making.{call_of}
use Rattle.starlark_make.proofs.trees.TreesMake.call.Goals as goal

pub returns : goal.returns
returns c = call_of c.in_ok-callee.callee _ c.args.span c.args.callee c.args.arguments c.in_ok-callee.ensures.0 c.in_ok-callee.ensures.1
