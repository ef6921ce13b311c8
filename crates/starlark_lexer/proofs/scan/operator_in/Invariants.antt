use Rattle.std.proofs.Common.{◌≡◌, length}
use Rattle.starlark_lexer.specs.Classes.{texts_of}
use Rattle.starlark_lexer.specs.Scan.{first_row}
use Rattle.starlark_lexer.proofs.scan.operator_in.Given as goal

abbrev pub invariant-loop-table : goal.invariant-loop-table
invariant-loop-table l = first_row (texts_of l.table) l.bytes ≡ first_row (texts_of l.initial.table) l.bytes

abbrev pub decreases-loop-table : goal.decreases-loop-table
decreases-loop-table l = length l.table
