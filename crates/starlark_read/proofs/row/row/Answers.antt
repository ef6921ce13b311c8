use Rattle.std.proofs.Common.{◌≡◌, refl, ap, sym, rules, arith}
use Rattle.starlark_ast.specs.Tree.{add_statement, no_statements}
use Rattle.starlark_grammar.specs.Frames.{line, wants_small}
use Rattle.starlark_grammar.specs.Made.{sequence_of}
use Rattle.starlark_read.proofs.Exits.{◌>>◌, begins, exits, gives, state_is}
use Rattle.starlark_read.proofs.Rows.{row_goes_on, row_is, row_over, statement_more}
use Rattle.starlark_read.proofs.row.row.Goals as goal

pub returns-in_err-first-clause-reads : goal.returns-in_err-first-clause-reads
returns-in_err-first-clause-reads g c k w = exits (search rules) begins (c.in_err-first.ensures.reads (line no_statements k) w)

pub returns-in_err-row_ends-clause-reads : goal.returns-in_err-row_ends-clause-reads
returns-in_err-row_ends-clause-reads g c k w =
    let s = g.B.Build.says c.in_ok-first.first in
    exits (search rules) ((c.in_ok-first.ensures.reads (line no_statements k) w).comes _ refl) (c.in_err-row_ends.ensures.reads c.args.dialect s no_statements k)

pub returns-then-branch-clause-reads : goal.returns-then-branch-clause-reads
returns-then-branch-clause-reads g c k w =
    let s = g.B.Build.says c.in_ok-first.first in
    gives (row_over _ _ c.if-branch.true ((c.in_ok-first.ensures.reads (line no_statements k) w).comes _ refl >> (c.in_ok-row_ends.ensures.reads c.args.dialect s no_statements k).comes _ refl))

pub loop-statements-init : goal.loop-statements-init
loop-statements-init g c =
    let f = g.B.Build.says in
    let s = f c.in_ok-first.first in
    let one : sequence_of f c.in_ok-statements.statements.items ≡ add_statement no_statements s = ap (sequence_of f) c.in_ok-statements.ensures in
    record {
      reads = λ k w. state_is (row_goes_on _ _ c.if-branch.false ((c.in_ok-first.ensures.reads (line no_statements k) w).comes _ refl >> (c.in_ok-row_ends.ensures.reads c.args.dialect s no_statements k).comes _ refl)) (ap (λ ss. wants_small (line ss k)) (sym one));
      begins = c.in_ok-row_ends.ensures.goes_on c.if-branch.false;
      shorter = omega (arith, c.in_ok-first.ensures.shorter, c.in_ok-row_ends.ensures.shorter);
    }

pub returns-in_err-next-clause-reads : goal.returns-in_err-next-clause-reads
returns-in_err-next-clause-reads g c k w =
    let v = c.loop-statements.invariant in
    let done = sequence_of g.B.Build.says c.loop-statements.statements.items in
    exits (search rules) (v.reads k w) (c.in_err-next.ensures.reads (line done k) v.begins)

pub returns-in_err-row_ends-2-clause-reads : goal.returns-in_err-row_ends-2-clause-reads
returns-in_err-row_ends-2-clause-reads g c k w =
    let v = c.loop-statements.invariant in
    let f = g.B.Build.says in
    let done = sequence_of f c.loop-statements.statements.items in
    exits (search rules) (v.reads k w >> (c.in_ok-next.ensures.reads (line done k) v.begins).comes _ refl) (c.in_err-row_ends-2.ensures.reads c.args.dialect (f c.in_ok-next.next) done k)

pub returns-then-branch-2-clause-reads : goal.returns-then-branch-2-clause-reads
returns-then-branch-2-clause-reads g c k w =
    let v = c.loop-statements.invariant in
    let f = g.B.Build.says in
    let done = sequence_of f c.loop-statements.statements.items in
    let more = statement_more f _ _ _ c.in_ok-push.ensures.items in
    gives (row_is k _ _ _ _ _ (row_over _ _ c.if-branch-2.true (v.reads k w >> (c.in_ok-next.ensures.reads (line done k) v.begins).comes _ refl >> (c.in_ok-row_ends-2.ensures.reads c.args.dialect (f c.in_ok-next.next) done k).comes _ refl)) c.block.ensures more c.last.ensures)

pub loop-statements-preserved : goal.loop-statements-preserved
loop-statements-preserved g c =
    let v = c.loop-statements.invariant in
    let f = g.B.Build.says in
    let done = sequence_of f c.loop-statements.statements.items in
    let more = statement_more f _ _ _ c.in_ok-push.ensures.items in
    record {
      reads = λ k w. state_is (row_goes_on _ _ c.if-branch-2.false (v.reads k w >> (c.in_ok-next.ensures.reads (line done k) v.begins).comes _ refl >> (c.in_ok-row_ends-2.ensures.reads c.args.dialect (f c.in_ok-next.next) done k).comes _ refl)) (ap (λ ss. wants_small (line ss k)) (sym more));
      begins = c.in_ok-row_ends-2.ensures.goes_on c.if-branch-2.false;
      shorter = omega (arith, v.shorter, c.in_ok-next.ensures.shorter, c.in_ok-row_ends-2.ensures.shorter);
    }
