use Rattle.starlark_make.proofs.Making.{lambda_of}
use Rattle.starlark_make.proofs.trees.TreesMake.lambda.Goals as goal

pub returns : goal.returns
returns c = lambda_of _ c.args.span c.args.parameters c.args.body c.in_ok-body.ensures.1 c.in_ok-body.ensures.0
