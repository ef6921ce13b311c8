use Rattle.std.proofs.Common.{◌∙◌, ap}
use Rattle.starlark_lexer.specs.Items.{keyword_break, keyword_continue, keyword_load, keyword_pass, keyword_return}
use Rattle.starlark_ast.specs.Tree as tree
use Rattle.starlark_read.proofs.Exits.{gives, behind_it, read_it, left_it}
use Rattle.starlark_read.proofs.Gathering.{before, passes_from}
use Rattle.starlark_read.proofs.Assigning.{assigned_as}
use Rattle.starlark_read.proofs.Returning.{break_begins, continue_begins, pass_begins, load_begins, return_begins, expression_begins}
use Rattle.starlark_read.proofs.small.small.Goals as goal

pub returns-then-branch-clause-reads : goal.returns-then-branch-clause-reads
returns-then-branch-clause-reads g c k n = behind_it (return_begins _ k c.begin-begin.ensures (read_it _ _ keyword_return _ c.if-branch.true c.in_ok-accept.ensures)) (c.behind_return.ensures.reads c.args.dialect k)

pub returns-then-branch-2-clause-reads : goal.returns-then-branch-2-clause-reads
returns-then-branch-2-clause-reads g c k n =
    let v = left_it _ _ keyword_return _ c.if-branch.false c.in_ok-accept.ensures in
    let p = read_it _ _ keyword_break _ c.if-branch-2.true c.in_ok-accept-2.ensures in
    gives (assigned_as _ (break_begins _ k c.begin-begin.ensures (passes_from _ v.0 p)) (c.break_statement.ensures ∙ ap tree.break c.since.ensures))

pub returns-then-branch-3-clause-reads : goal.returns-then-branch-3-clause-reads
returns-then-branch-3-clause-reads g c k n =
    let v = left_it _ _ keyword_return _ c.if-branch.false c.in_ok-accept.ensures in
    let w = left_it _ _ keyword_break _ c.if-branch-2.false c.in_ok-accept-2.ensures in
    let p = read_it _ _ keyword_continue _ c.if-branch-3.true c.in_ok-accept-3.ensures in
    gives (assigned_as _ (continue_begins _ k c.begin-begin.ensures (passes_from _ (w.0 ∙ v.0) p)) (c.continue_statement.ensures ∙ ap tree.continue c.since-then-branch-3.ensures))

pub returns-then-branch-4-clause-reads : goal.returns-then-branch-4-clause-reads
returns-then-branch-4-clause-reads g c k n =
    let v = left_it _ _ keyword_return _ c.if-branch.false c.in_ok-accept.ensures in
    let w = left_it _ _ keyword_break _ c.if-branch-2.false c.in_ok-accept-2.ensures in
    let x = left_it _ _ keyword_continue _ c.if-branch-3.false c.in_ok-accept-3.ensures in
    let p = read_it _ _ keyword_pass _ c.if-branch-4.true c.in_ok-accept-4.ensures in
    gives (assigned_as _ (pass_begins _ k c.begin-begin.ensures (passes_from _ (x.0 ∙ w.0 ∙ v.0) p)) (c.pass_statement.ensures ∙ ap tree.pass c.since-then-branch-4.ensures))

pub returns-then-branch-5-clause-reads : goal.returns-then-branch-5-clause-reads
returns-then-branch-5-clause-reads g c k n =
    let v = left_it _ _ keyword_return _ c.if-branch.false c.in_ok-accept.ensures in
    let w = left_it _ _ keyword_break _ c.if-branch-2.false c.in_ok-accept-2.ensures in
    let x = left_it _ _ keyword_continue _ c.if-branch-3.false c.in_ok-accept-3.ensures in
    let y = left_it _ _ keyword_pass _ c.if-branch-4.false c.in_ok-accept-4.ensures in
    let p = read_it _ _ keyword_load _ c.if-branch-5.true c.in_ok-accept-5.ensures in
    behind_it (load_begins _ k c.begin-begin.ensures (passes_from _ (y.0 ∙ x.0 ∙ w.0 ∙ v.0) p)) (c.load.ensures.reads c.args.dialect k)

pub returns-clause-reads : goal.returns-clause-reads
returns-clause-reads g c k n =
    let v = left_it _ _ keyword_return _ c.if-branch.false c.in_ok-accept.ensures in
    let w = left_it _ _ keyword_break _ c.if-branch-2.false c.in_ok-accept-2.ensures in
    let x = left_it _ _ keyword_continue _ c.if-branch-3.false c.in_ok-accept-3.ensures in
    let y = left_it _ _ keyword_pass _ c.if-branch-4.false c.in_ok-accept-4.ensures in
    let z = left_it _ _ keyword_load _ c.if-branch-5.false c.in_ok-accept-5.ensures in
    behind_it (expression_begins k _ _ (z.0 ∙ y.0 ∙ x.0 ∙ w.0 ∙ v.0) n v.1 (before v.0 w.1) (before (w.0 ∙ v.0) x.1) (before (x.0 ∙ w.0 ∙ v.0) y.1) (before (y.0 ∙ x.0 ∙ w.0 ∙ v.0) z.1)) (c.assignment.ensures.reads k)
