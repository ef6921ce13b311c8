use Rattle.std.proofs.Common.{ℕ, ◌+◌, ◌*◌, ◌≡◌, ◌≢◌, ◌≤◌, length, vec_len}
use Rattle.starlark_ast.specs.Tree.{no_statements}
use Rattle.starlark_grammar.specs.Frames.{Suites, at_line, inner, wants_indent}
use Rattle.starlark_grammar.specs.Made.{sequence_of}
use Rattle.starlark_read.specs.Reads.{Goes}
use Rattle.starlark_read.proofs.+statement.Given as goal

abbrev pub decreases-statement::statement : goal.decreases-statement::statement
decreases-statement::statement g l = 2 * length l.tokens.now.items

abbrev pub decreases-branches::branches : goal.decreases-branches::branches
decreases-branches::branches g l = 2 * length l.tokens.now.items

abbrev pub decreases-for_loop::for_loop : goal.decreases-for_loop::for_loop
decreases-for_loop::for_loop g l = 2 * length l.tokens.now.items

abbrev pub decreases-definition::definition : goal.decreases-definition::definition
decreases-definition::definition g l = 2 * length l.tokens.now.items

abbrev pub decreases-suite::suite : goal.decreases-suite::suite
decreases-suite::suite g l = 2 * length l.tokens.now.items

abbrev pub decreases-suite::indented : goal.decreases-suite::indented
decreases-suite::indented g l = 2 * length l.tokens.now.items

abbrev pub invariant-suite::indented-loop : goal.invariant-suite::indented-loop
invariant-suite::indented-loop g l = record {
  reads : (k : Suites) → Goes l.fn.dialect (wants_indent k) l.fn.tokens (wants_indent k) l.tokens;
  shorter : length l.tokens.items ≤ length l.fn.tokens.items;
}

abbrev pub decreases-suite::indented-loop : goal.decreases-suite::indented-loop
decreases-suite::indented-loop g l = length l.tokens.items

abbrev pub decreases-suite::lines : goal.decreases-suite::lines
decreases-suite::lines g l = 2 * length l.tokens.now.items + 1

abbrev pub invariant-suite::lines-loop-statements : goal.invariant-suite::lines-loop-statements
invariant-suite::lines-loop-statements g l = record {
  reads : (k : Suites) (e : ℕ) → Goes l.fn.dialect (at_line (inner no_statements k) e) l.fn.tokens (at_line (inner (sequence_of g.B.Build.says l.statements.items) k) l.tokens.last) l.tokens;
  empty : vec_len l.statements ≡ 0 → sequence_of g.B.Build.says l.statements.items ≡ no_statements;
  filled : vec_len l.statements ≢ 0 → sequence_of g.B.Build.says l.statements.items ≢ no_statements;
  shorter : length l.tokens.items ≤ length l.fn.tokens.items;
}

abbrev pub decreases-suite::lines-loop-statements : goal.decreases-suite::lines-loop-statements
decreases-suite::lines-loop-statements g l = length l.tokens.items
