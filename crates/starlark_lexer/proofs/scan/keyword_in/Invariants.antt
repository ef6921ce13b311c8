use Rattle.std.proofs.Common.{◌≡◌, length}
use Rattle.starlark_lexer.specs.Classes.{lookup, texts_of}
use Rattle.starlark_lexer.proofs.scan.keyword_in.Given as goal

abbrev pub invariant-loop-table : goal.invariant-loop-table
invariant-loop-table l = lookup (texts_of l.table) l.word ≡ lookup (texts_of l.initial.table) l.word

abbrev pub decreases-loop-table : goal.decreases-loop-table
decreases-loop-table l = length l.table
