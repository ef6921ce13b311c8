use Rattle.std.proofs.Common.{◌++◌, ◌∷◌, [], flat_map}
use Rattle.std.specs.Fmt.{HasWritten, IsPlainFormatter}
use Rattle.starlark_ast.specs.Printing.{escaped}
use Rattle.starlark_ast.proofs.leaves.write_quoted.Given as goal

abbrev pub invariant-loop-c : goal.invariant-loop-c
invariant-loop-c g l =
    IsPlainFormatter l.fn.f → HasWritten g.W.Write.write_str_gives l.fn.f (34 ∷ [] ++ flat_map escaped l.yielded) l.f
