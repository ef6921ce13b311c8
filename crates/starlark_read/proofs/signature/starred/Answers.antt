use Rattle.std.proofs.Common.{refl, rules, ap, ◌∙◌}
use Rattle.starlark_ast.specs.Tree as tree
use Rattle.starlark_read.proofs.Exits.{◌>>◌, exits, gives, goes}
use Rattle.starlark_read.proofs.Naming.{named, unnamed}
use Rattle.starlark_read.proofs.Signing.{name_is, param_is, param_placed, star_there, type_ends}
use Rattle.starlark_read.proofs.signature.starred.Goals as goal

pub returns-in_default-clause-reads : goal.returns-in_default-clause-reads
returns-in_default-clause-reads g c h ps = gives (param_is _ (star_there h ps _ (unnamed _ _ _ c.in_default.is c.in_ok-name.ensures)) (c.no_args.ensures ∙ ap tree.no_args c.since.ensures))

pub returns-in_err-ty-clause-reads : goal.returns-in_err-ty-clause-reads
returns-in_err-ty-clause-reads g c h ps =
    let p = named _ _ _ _ c.in-Some.is c.in_ok-name.ensures in
    exits (search rules) (name_is _ (goes p.1 refl refl) p.0) (c.in_err-ty.ensures.reads h ps tree.starred _ _)

pub returns-clause-reads : goal.returns-clause-reads
returns-clause-reads g c h ps =
    let p = named _ _ _ _ c.in-Some.is c.in_ok-name.ensures in
    gives (param_is _ (name_is _ (goes p.1 refl refl) p.0 >> (c.in_ok-ty.ensures.reads h ps tree.starred _ _).comes _ refl >> type_ends h ps tree.starred _ _ _ _ _ c.in_ok-ty.ensures.whole tt) (param_placed c.typed_args_parameter.ensures c.since-span.ensures))
