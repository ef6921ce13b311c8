use Rattle.std.proofs.Common.{refl, rules}
use Rattle.starlark_ast.specs.Tree as tree
use Rattle.starlark_read.proofs.Exits.{◌>>◌, exits, gives, goes, refuses, stays_there}
use Rattle.starlark_read.proofs.Naming.{named, unnamed}
use Rattle.starlark_read.proofs.Signing.{name_is, no_stars_name, param_is, param_placed, type_ends}
use Rattle.starlark_read.proofs.signature.double_starred.Goals as goal

pub returns-in_default-clause-reads : goal.returns-in_default-clause-reads
returns-in_default-clause-reads g c h ps =
    let u = unnamed _ _ _ c.in_default.is c.in_ok-name.ensures in
    refuses (stays_there u.0 (no_stars_name h ps _ _ u.1))

pub returns-in_err-ty-clause-reads : goal.returns-in_err-ty-clause-reads
returns-in_err-ty-clause-reads g c h ps =
    let p = named _ _ _ _ c.in-Some.is c.in_ok-name.ensures in
    exits (search rules) (name_is _ (goes p.1 refl refl) p.0) (c.in_err-ty.ensures.reads h ps tree.double_starred _ _)

pub returns-clause-reads : goal.returns-clause-reads
returns-clause-reads g c h ps =
    let p = named _ _ _ _ c.in-Some.is c.in_ok-name.ensures in
    gives (param_is _ (name_is _ (goes p.1 refl refl) p.0 >> (c.in_ok-ty.ensures.reads h ps tree.double_starred _ _).comes _ refl >> type_ends h ps tree.double_starred _ _ _ _ _ c.in_ok-ty.ensures.whole tt) (param_placed c.typed_kwargs_parameter.ensures c.since-span.ensures))
