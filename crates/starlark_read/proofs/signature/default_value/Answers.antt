use Rattle.std.proofs.Common.{refl, rules}
use Rattle.starlark_lexer.specs.Items.{equal}
use Rattle.starlark_grammar.specs.Frames.{param_default, spot}
use Rattle.starlark_read.proofs.Exits.{◌>>◌, exits, gives, left_it, read_it}
use Rattle.starlark_read.proofs.Signing.{default_begins, default_ends, none_there}
use Rattle.starlark_read.proofs.signature.default_value.Goals as goal

pub returns-in_err-expression-clause-reads : goal.returns-in_err-expression-clause-reads
returns-in_err-expression-clause-reads g c d h ps n t p w = exits (search rules) (default_begins h ps n p t _ _ _ w (read_it _ _ equal _ c.if-branch.true c.in_ok-accept.ensures)) (c.in_err-expression.ensures.reads d (spot (param_default h ps n t p)))

pub returns-in_ok-expression-clause-reads : goal.returns-in_ok-expression-clause-reads
returns-in_ok-expression-clause-reads g c d h ps n t p w = gives (default_begins h ps n p t _ _ _ w (read_it _ _ equal _ c.if-branch.true c.in_ok-accept.ensures) >> (c.in_ok-expression.ensures.reads d (spot (param_default h ps n t p))).comes _ refl >> default_ends h ps n t p _ _ _)

pub returns-else-branch-clause-reads : goal.returns-else-branch-clause-reads
returns-else-branch-clause-reads g c d h ps n t p w = gives (none_there h ps n p t _ w (left_it _ _ equal _ c.if-branch.false c.in_ok-accept.ensures))
