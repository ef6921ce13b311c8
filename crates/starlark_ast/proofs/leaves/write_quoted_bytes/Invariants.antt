use Rattle.std.proofs.Common.{◌++◌, ◌∷◌, [], take, flat_map}
use Rattle.std.specs.Fmt.{HasWritten, IsPlainFormatter}
use Rattle.starlark_ast.specs.Printing.{escaped_byte}
use Rattle.starlark_ast.proofs.leaves.write_quoted_bytes.Given as goal

abbrev pub invariant-loop-byte : goal.invariant-loop-byte
invariant-loop-byte g l =
    IsPlainFormatter l.fn.f → HasWritten g.W.Write.write_str_gives l.fn.f (98 ∷ 34 ∷ [] ++ flat_map escaped_byte (take l.byte-index l.bytes)) l.f
