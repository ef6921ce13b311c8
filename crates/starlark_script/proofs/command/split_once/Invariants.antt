use Rattle.std.proofs.Common.{take}
use Rattle.starlark_script.proofs.Lines.{No}
use Rattle.starlark_script.proofs.command.split_once.Given as goal

abbrev pub invariant-loop-i : goal.invariant-loop-i
invariant-loop-i l = No 32 (take l.i l.line)
