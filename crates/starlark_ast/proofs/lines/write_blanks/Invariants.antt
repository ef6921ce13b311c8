use Rattle.std.specs.Fmt.{HasWritten, IsPlainFormatter}
use Rattle.starlark_ast.specs.Printing.{blanks}
use Rattle.starlark_ast.proofs.lines.write_blanks.Given as goal

abbrev pub invariant-loop : goal.invariant-loop
invariant-loop g l =
    IsPlainFormatter l.fn.f → HasWritten g.W.Write.write_str_gives l.fn.f (blanks l.counter) l.f
