use Rattle.std.proofs.Common.{Some, ◌≢◌, ◌<◌, length}
use Rattle.starlark_lexer.specs.Items.{newline}
use Rattle.starlark_ast.specs.Tree.{no_statements}
use Rattle.starlark_grammar.specs.Frames.{Rows, line, wants_small}
use Rattle.starlark_grammar.specs.Made.{sequence_of}
use Rattle.starlark_read.specs.Reads.{Goes, first_lexeme}
use Rattle.starlark_read.proofs.row.row.Given as goal

abbrev pub invariant-loop-statements : goal.invariant-loop-statements
invariant-loop-statements g l = record {
  reads : (k : Rows) → first_lexeme l.fn.tokens.items ≢ Some newline → Goes l.fn.dialect (wants_small (line no_statements k)) l.fn.tokens (wants_small (line (sequence_of g.B.Build.says l.statements.items) k)) l.tokens;
  begins : first_lexeme l.tokens.items ≢ Some newline;
  shorter : length l.tokens.items < length l.fn.tokens.items;
}

abbrev pub decreases-loop-statements : goal.decreases-loop-statements
decreases-loop-statements g l = length l.tokens.items
