use Rattle.std.proofs.Common.{ap, sym, ◌∙◌}
use Rattle.starlark_lexer.specs.Items.{equal}
use Rattle.starlark_read.specs.Reads.{name_ahead}
use Rattle.starlark_read.proofs.Exits.{◌>>◌, answers, gives, halts, left_it, read_it, refuses, renamed, stays_there, sticks}
use Rattle.starlark_read.proofs.Loading.{equal_read, local_read, no_equal, no_other, no_symbol, own_name_read, their_read}
use Rattle.starlark_read.proofs.Suffixing.{none_of, some_of, unlike}
use Rattle.starlark_read.proofs.load.names.Goals as goal

pub returns-in-Some-clause-reads : goal.returns-in-Some-clause-reads
returns-in-Some-clause-reads c d p m ss k w = gives (own_name_read p m ss k _ _ _ _ _ (c.in_ok-node.ensures.ok ∙ c.as_str.ensures.value) (some_of _ _ _ _ c.in-Some.is c.in_ok-their.ensures))

pub returns-in_default-2-clause-reads : goal.returns-in_default-2-clause-reads
returns-in_default-2-clause-reads c d p m ss k w =
    let t = none_of _ _ _ c.in_default.is c.in_ok-their.ensures in
    let n = none_of _ _ _ c.in_default-2.is c.in_ok-local.ensures in
    refuses (stays_there (n.0 ∙ t.0) (no_symbol p m ss k _ w t.1 (ap (λ ts. name_ahead ts.items) (sym t.0) ∙ n.1)))

pub returns-then-not-branch-clause-reads : goal.returns-then-not-branch-clause-reads
returns-then-not-branch-clause-reads c d p m ss k w =
    let t = none_of _ _ _ c.in_default.is c.in_ok-their.ensures in
    let l = some_of _ _ _ _ c.in-Some-2.is c.in_ok-local.ensures in
    let e = left_it _ _ equal _ c.if-not-branch.true c.in_ok-accept.ensures in
    halts c.stop.ensures.broken c.stop.ensures.kept (answers (renamed t.0 >> local_read p m ss k _ _ _ _ l >> renamed e.0) (no_equal p m ss _ _ k _ (unlike e.0 e.1)))

pub returns-in_default-3-clause-reads : goal.returns-in_default-3-clause-reads
returns-in_default-3-clause-reads c d p m ss k w =
    let t = none_of _ _ _ c.in_default.is c.in_ok-their.ensures in
    let l = some_of _ _ _ _ c.in-Some-2.is c.in_ok-local.ensures in
    let e = read_it _ _ equal _ c.if-not-branch.false c.in_ok-accept.ensures in
    let o = none_of _ _ _ c.in_default-3.is c.in_ok-their-2.ensures in
    refuses (sticks (renamed t.0 >> local_read p m ss k _ _ _ _ l >> equal_read p m ss _ _ k _ _ e) (stays_there o.0 (no_other p m ss _ k _ o.1)))

pub returns-clause-reads : goal.returns-clause-reads
returns-clause-reads c d p m ss k w =
    let t = none_of _ _ _ c.in_default.is c.in_ok-their.ensures in
    let l = some_of _ _ _ _ c.in-Some-2.is c.in_ok-local.ensures in
    let e = read_it _ _ equal _ c.if-not-branch.false c.in_ok-accept.ensures in
    let o = some_of _ _ _ _ c.in-Some-3.is c.in_ok-their-2.ensures in
    gives (renamed t.0 >> local_read p m ss k _ _ _ _ l >> equal_read p m ss _ _ k _ _ e >> their_read p m ss _ k _ _ _ _ o)
