use Rattle.std.proofs.Common.{refl, ap, sym, rules}
use Rattle.starlark_lexer.specs.Items.{colon}
use Rattle.starlark_ast.specs.Tree as tree
use Rattle.starlark_grammar.specs.Frames.{annotation, has, left, listed}
use Rattle.starlark_read.proofs.Exits.{◌>>◌, gives, exits, left_it, read_it, renamed, state_is}
use Rattle.starlark_read.proofs.Assigning.{type_begins, type_ends}
use Rattle.starlark_read.proofs.assignment.annotation.Goals as goal

pub returns-in_err-type_expression-clause-reads : goal.returns-in_err-type_expression-clause-reads
returns-in_err-type_expression-clause-reads g c l p k = exits (search rules) (type_begins l _ p k (read_it _ _ colon _ c.if-not-branch.false c.in_ok-accept.ensures)) (c.in_err-type_expression.ensures.reads (annotation l p k) (λ q. refl))

pub returns-clause-reads : goal.returns-clause-reads
returns-clause-reads g c l p k = gives (type_ends l _ _ p k c.in_ok-type_expression.ensures.right (type_begins l _ p k (read_it _ _ colon _ c.if-not-branch.false c.in_ok-accept.ensures) >> (c.in_ok-type_expression.ensures.reads (annotation l p k) (λ q. refl)).comes _ refl))

pub returns-then-not-branch-clause-reads : goal.returns-then-not-branch-clause-reads
returns-then-not-branch-clause-reads g c l p k =
    let a = left_it _ _ colon _ c.if-not-branch.true c.in_ok-accept.ensures in
    gives (state_is (renamed a.0) (ap (λ ts. has l ts.last (listed tree.none p (left p k))) (sym a.0)))
