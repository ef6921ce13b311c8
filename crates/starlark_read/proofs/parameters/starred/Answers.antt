use Rattle.std.proofs.Common.{◌∙◌, ap}
use Rattle.starlark_ast.specs.Tree as tree
use Rattle.starlark_read.proofs.Exits.{gives}
use Rattle.starlark_read.proofs.Gathering.{member_as}
use Rattle.starlark_read.proofs.Naming.{star_is, starred_read, named, unnamed, spans_as}
use Rattle.starlark_read.proofs.parameters.starred.Goals as goal

pub returns-in_default-clause-reads : goal.returns-in_default-clause-reads
returns-in_default-clause-reads g c d b ms f k = gives (star_is b ms f _ k _ (unnamed _ _ _ c.in_default.is c.in_ok-name.ensures) (c.no_args.ensures ∙ ap tree.no_args c.since.ensures))

pub returns-clause-reads : goal.returns-clause-reads
returns-clause-reads g c d b ms f k =
    let p = named _ _ _ _ c.in-Some.is c.in_ok-name.ensures in
    gives (member_as (starred_read b ms f _ _ k _ _ _ p.1) (c.args_parameter.ensures ∙ spans_as tree.starred _ _ _ _ _ p.0 c.since-span.ensures))
