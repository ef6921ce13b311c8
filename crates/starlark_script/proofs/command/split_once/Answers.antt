use Rattle.std.proofs.Common.{◌+◌, arith}
use Rattle.std.proofs.lemmas.List.{take_rest}
use Rattle.starlark_script.proofs.Lines.{split_at, more_at, whole_at}
use Rattle.starlark_script.proofs.command.split_once.Goals as goal

pub returns-then-b-eq32 : goal.returns-then-b-eq32
returns-then-b-eq32 c = rw (take_rest c.args.line.now (c.loop-i.i + 1)) (split_at c.loop-i.i c.args.line.now c.loop-i.invariant c.loop-i-test.true c.if-b-eq32.true)

pub loop-i-preserved : goal.loop-i-preserved
loop-i-preserved c = more_at 32 c.loop-i.i c.args.line.now c.loop-i.invariant c.loop-i-test.true c.if-b-eq32.false

pub returns : goal.returns
returns c = whole_at c.loop-i.i c.args.line.now c.loop-i.invariant (omega arith)
