use Rattle.std.proofs.Common.{sym}
use Rattle.starlark_script.proofs.Lines.{too_great}
use Rattle.starlark_script.proofs.command.number.Goals as goal

pub returns-then-value-gt-MOST : goal.returns-then-value-gt-MOST
returns-then-value-gt-MOST c = sym (too_great c.loop-b.value c.loop-b.b-index c.args.digits.now c.if-value-gt-MOST.true c.loop-b.invariant.value)
