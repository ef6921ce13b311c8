use Rattle.std.proofs.Common.{refl, ap, sym, rules}
use Rattle.starlark_lexer.specs.Items.{colon}
use Rattle.starlark_grammar.specs.Frames.{behind_name, param_type}
use Rattle.starlark_read.proofs.Exits.{◌>>◌, exits, gives, goes, left_it, read_it, renamed, state_is}
use Rattle.starlark_read.proofs.Signing.{typed_as}
use Rattle.starlark_read.proofs.signature.annotation.Goals as goal

pub returns-in_err-type_expression-clause-reads : goal.returns-in_err-type_expression-clause-reads
returns-in_err-type_expression-clause-reads g c h ps y n p = exits (search rules) (goes (read_it _ _ colon _ c.if-branch.true c.in_ok-accept.ensures) refl refl) (c.in_err-type_expression.ensures.reads (param_type h ps y n p) (λ q. refl))

pub returns-in_ok-type_expression-clause-reads : goal.returns-in_ok-type_expression-clause-reads
returns-in_ok-type_expression-clause-reads g c h ps y n p = gives (typed_as _ c.in_ok-type_expression.ensures.right (goes (read_it _ _ colon _ c.if-branch.true c.in_ok-accept.ensures) refl refl >> (c.in_ok-type_expression.ensures.reads (param_type h ps y n p) (λ q. refl)).comes _ refl))

pub returns-else-branch-clause-reads : goal.returns-else-branch-clause-reads
returns-else-branch-clause-reads g c h ps y n p =
    let a = left_it _ _ colon _ c.if-branch.false c.in_ok-accept.ensures in
    gives (state_is (renamed a.0) (ap (λ ts. behind_name h ps y n p ts.last) (sym a.0)))
