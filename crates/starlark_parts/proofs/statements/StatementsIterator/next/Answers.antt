use Rattle.starlark_parts.specs.Left.{tops_left}
use Rattle.starlark_parts.proofs.Iterating.{none_left}
use Rattle.starlark_parts.proofs.statements.StatementsIterator.next.Goals as goal

pub returns-in_err-statement-clause-steps : goal.returns-in_err-statement-clause-steps
returns-in_err-statement-clause-steps c = rw c.from_residual-in_err-statement.ensures (
  none_left (tops_left c.args.self.now.tops) c.args.self.now.items c.in_err-statement.ensures.steps.0,
  none_left (tops_left c.next-2.new.self) c.next.new.self c.in_err-statement.ensures.steps.1,
)
