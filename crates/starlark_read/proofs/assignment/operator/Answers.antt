use Rattle.std.proofs.Common.{◌∙◌, ap, sym, refl}
use Rattle.starlark_lexer.specs.Items.{equal}
use Rattle.starlark_read.specs.Assigning.{assign_op_ahead}
use Rattle.starlark_read.specs.Reads.{first_lexeme}
use Rattle.starlark_read.proofs.Exits.{◌>>◌, renamed, gives, refuses, stays_there, read_it, left_it}
use Rattle.starlark_read.proofs.Assigning.{assigns, assigns_next, no_operator, whole_there}
use Rattle.starlark_read.proofs.assignment.operator.Goals as goal

pub returns-then-branch-clause-reads : goal.returns-then-branch-clause-reads
returns-then-branch-clause-reads c d l t p k w = gives (assigns l t _ p k _ w (read_it _ _ equal _ c.if-branch.true c.in_ok-accept.ensures) refl)

pub returns-in_default-clause-reads : goal.returns-in_default-clause-reads
returns-in_default-clause-reads c d l t p k w =
    let a = left_it _ _ equal _ c.if-branch.false c.in_ok-accept.ensures in
    refuses (stays_there a.0 (no_operator l t _ p k _ w a.1 (ap (λ ts. assign_op_ahead ts.items) (sym a.0) ∙ sym c.assign_op_ahead.ensures ∙ c.in_default.is)))

pub returns-clause-reads : goal.returns-clause-reads
returns-clause-reads c d l t p k w =
    let a = left_it _ _ equal _ c.if-branch.false c.in_ok-accept.ensures in
    gives (renamed a.0 >> assigns_next _ l t _ p k c.in-Some.op (first_lexeme _) (whole_there d t a.0 w) c.in_ok-skip.ensures (sym c.assign_op_ahead.ensures ∙ c.in-Some.is))
