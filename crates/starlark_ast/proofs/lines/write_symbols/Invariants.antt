use Rattle.std.proofs.Common.{◌≡◌, take}
use Rattle.std.specs.Fmt.{HasWritten, IsPlainFormatter}
use Rattle.starlark_ast.specs.Printing.{symbols_text}
use Rattle.starlark_ast.specs.View.{symbols}
use Rattle.starlark_ast.proofs.Blocks.{symbol_separator}
use Rattle.starlark_ast.proofs.lines.write_symbols.Given as goal

abbrev pub invariant-loop-x : goal.invariant-loop-x
invariant-loop-x g l =
    (l.separator ≡ symbol_separator (symbols (take l.x-index l.xs)))
    × (IsPlainFormatter l.fn.f → HasWritten g.W.Write.write_str_gives l.fn.f (symbols_text (symbols (take l.x-index l.xs))) l.f)
