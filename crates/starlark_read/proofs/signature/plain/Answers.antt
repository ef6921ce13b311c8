use Rattle.std.proofs.Common.{refl, rules}
use Rattle.starlark_ast.specs.Tree as tree
use Rattle.starlark_read.proofs.Exits.{◌>>◌, begins, exits, gives}
use Rattle.starlark_read.proofs.Signing.{param_is, param_placed}
use Rattle.starlark_read.proofs.signature.plain.Goals as goal

pub returns-in_err-ty-clause-reads : goal.returns-in_err-ty-clause-reads
returns-in_err-ty-clause-reads g c h ps = exits (search rules) begins (c.in_err-ty.ensures.reads h ps tree.plain _ _)

pub returns-in_err-default-clause-reads : goal.returns-in_err-default-clause-reads
returns-in_err-default-clause-reads g c h ps = exits (search rules) ((c.in_ok-ty.ensures.reads h ps tree.plain _ _).comes _ refl) (c.in_err-default.ensures.reads _ h ps _ _ _ c.in_ok-ty.ensures.whole)

pub returns-clause-reads : goal.returns-clause-reads
returns-clause-reads g c h ps = gives (param_is _ ((c.in_ok-ty.ensures.reads h ps tree.plain _ _).comes _ refl >> (c.in_ok-default.ensures.reads _ h ps _ _ _ c.in_ok-ty.ensures.whole).comes _ refl) (param_placed c.in_ok-typed_parameter.ensures c.since-span.ensures))
