use Rattle.std.proofs.Common.{◌≡◌, true, false, length}
use Rattle.starlark_ast.specs.Tree.{no_statements}
use Rattle.starlark_grammar.specs.Frames.{at_line, outer}
use Rattle.starlark_grammar.specs.Made.{sequence_of}
use Rattle.starlark_read.specs.Reads.{Goes}
use Rattle.starlark_grammar.proofs.CleanEnds.{EndsClean}
use Rattle.starlark_read.proofs.statements.statements.Given as goal

abbrev pub invariant-loop-found : goal.invariant-loop-found
invariant-loop-found g l = record {
  reads : Goes l.fn.dialect (at_line (outer no_statements) l.fn.tokens.last) l.fn.tokens (at_line (outer (sequence_of g.B.Build.says l.found.items)) l.tokens.last) l.tokens;
  clean : l.are_clean ≡ true → EndsClean l.fn.dialect (sequence_of g.B.Build.says l.found.items);
  unclean : l.are_clean ≡ false → EndsClean l.fn.dialect (sequence_of g.B.Build.says l.found.items) → ⊥;
}

abbrev pub decreases-loop-found : goal.decreases-loop-found
decreases-loop-found g l = length l.tokens.items
