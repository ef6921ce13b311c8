use Rattle.std.proofs.Common.{refl, sym, ◌∙◌}
use Rattle.starlark_lexer.specs.Items.{newline, semicolon}
use Rattle.starlark_read.proofs.Exits.{◌>>◌, gives, goes, left_it, read_it, refuses, renamed, stays_there}
use Rattle.starlark_read.proofs.Rows.{no_row_end, row_ends}
use Rattle.starlark_read.proofs.Suffixing.{unlike}
use Rattle.starlark_read.proofs.row.row_ends.Goals as goal

pub returns-then-branch-clause-reads : goal.returns-then-branch-clause-reads
returns-then-branch-clause-reads c d s ss k = gives (row_ends s ss k _ _ _ _ c.in_ok-goes_on.ensures (read_it _ _ newline _ c.if-branch.true c.in_ok-accept.ensures))

pub returns-then-goes_on-clause-reads : goal.returns-then-goes_on-clause-reads
returns-then-goes_on-clause-reads c d s ss k =
    let n = left_it _ _ newline _ c.if-branch.false c.in_ok-accept.ensures in
    gives (goes (read_it _ _ semicolon _ c.if-goes_on.true c.in_ok-goes_on.ensures) refl refl >> renamed n.0)

pub returns-then-goes_on-clause-goes_on : goal.returns-then-goes_on-clause-goes_on
returns-then-goes_on-clause-goes_on c h = let n = left_it _ _ newline _ c.if-branch.false c.in_ok-accept.ensures in unlike n.0 n.1

pub returns-else-goes_on-clause-reads : goal.returns-else-goes_on-clause-reads
returns-else-goes_on-clause-reads c d s ss k =
    let a = left_it _ _ semicolon _ c.if-goes_on.false c.in_ok-goes_on.ensures in
    let n = left_it _ _ newline _ c.if-branch.false c.in_ok-accept.ensures in
    refuses (stays_there (n.0 ∙ a.0) (no_row_end s ss k _ a.1 (unlike (sym a.0) n.1)))
