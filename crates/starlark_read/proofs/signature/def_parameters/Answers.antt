use Rattle.std.proofs.Common.{◌≡◌, refl, rules, ap, ◌∙◌, arith, length}
use Rattle.starlark_lexer.specs.Items.{closing_round, comma}
use Rattle.starlark_ast.specs.Tree as tree
use Rattle.starlark_ast.specs.View.{members}
use Rattle.starlark_read.proofs.Exits.{◌>>◌, exits, gives, goes, left_it, missing, read_it, renamed, stays_there, sticks}
use Rattle.starlark_read.proofs.Gathering.{before, one_more, still}
use Rattle.starlark_read.proofs.Signing.{no_bracket, no_param_end, params_are, results_are}
use Rattle.starlark_read.proofs.signature.def_parameters.Goals as goal

pub returns-in_err-expect-clause-reads : goal.returns-in_err-expect-clause-reads
returns-in_err-expect-clause-reads g c h = missing (search rules) c.in_err-expect.ensures.unread c.in_err-expect.ensures.no_rule (λ m. stays_there m.0 (no_bracket h _ m.1))

pub loop-found-init : goal.loop-found-init
loop-found-init g c = record {
  reads = λ h. params_are _ (goes c.in_ok-expect.ensures.read refl refl) (ap (members g.B.Make.parameter_means) c.new-found.ensures.items);
  shorter = omega (arith, ap length c.in_ok-expect.ensures.read.items);
}

pub returns-in_err-next-clause-reads : goal.returns-in_err-next-clause-reads
returns-in_err-next-clause-reads g c h =
    let n = left_it _ _ closing_round _ c.if-not-branch.true c.in_ok-accept.ensures in
    exits (search rules) (c.loop-found.invariant.reads h >> renamed n.0) (c.in_err-next.ensures.reads h _ (still n.0 n.1))

pub returns-in_err-expect-2-clause-reads : goal.returns-in_err-expect-2-clause-reads
returns-in_err-expect-2-clause-reads g c h =
    let n = left_it _ _ closing_round _ c.if-not-branch.true c.in_ok-accept.ensures in
    let m = left_it _ _ comma _ c.if-not-branch-2.true c.in_ok-accept-2.ensures in
    missing (search rules) c.in_err-expect-2.ensures.unread c.in_err-expect-2.ensures.no_rule (λ o. sticks (c.loop-found.invariant.reads h >> renamed n.0 >> (c.in_ok-next.ensures.reads h _ (still n.0 n.1)).comes _ refl) (stays_there (o.0 ∙ m.0) (no_param_end h _ _ m.1 (before m.0 o.1))))

pub returns-then-not-branch-2-clause-reads : goal.returns-then-not-branch-2-clause-reads
returns-then-not-branch-2-clause-reads g c h =
    let n = left_it _ _ closing_round _ c.if-not-branch.true c.in_ok-accept.ensures in
    let m = left_it _ _ comma _ c.if-not-branch-2.true c.in_ok-accept-2.ensures in
    let one : members g.B.Make.parameter_means c.push.new.list.items ≡ tree.more (members g.B.Make.parameter_means c.loop-found.found.items) (g.B.Make.parameter_means c.in_ok-next.next) = ap (members g.B.Make.parameter_means) c.in_ok-push.ensures.items ∙ one_more g.B.Make.parameter_means c.loop-found.found.items c.in_ok-next.next in
    gives (results_are _ (c.loop-found.invariant.reads h >> renamed n.0 >> (c.in_ok-next.ensures.reads h _ (still n.0 n.1)).comes _ refl >> renamed m.0 >> goes c.in_ok-expect-2.ensures.read refl refl) one)

pub loop-found-preserved : goal.loop-found-preserved
loop-found-preserved g c =
    let n = left_it _ _ closing_round _ c.if-not-branch.true c.in_ok-accept.ensures in
    let p = read_it _ _ comma _ c.if-not-branch-2.false c.in_ok-accept-2.ensures in
    let one : members g.B.Make.parameter_means c.push.new.list.items ≡ tree.more (members g.B.Make.parameter_means c.loop-found.found.items) (g.B.Make.parameter_means c.in_ok-next.next) = ap (members g.B.Make.parameter_means) c.in_ok-push.ensures.items ∙ one_more g.B.Make.parameter_means c.loop-found.found.items c.in_ok-next.next in
    record {
      reads = λ h. params_are _ (c.loop-found.invariant.reads h >> renamed n.0 >> (c.in_ok-next.ensures.reads h _ (still n.0 n.1)).comes _ refl >> goes p refl refl) one;
      shorter = omega (arith, c.loop-found.invariant.shorter, ap length p.items, ap (λ z. length z.items) n.0, c.in_ok-next.ensures.shorter);
    }

pub returns-clause-reads : goal.returns-clause-reads
returns-clause-reads g c h = gives (c.loop-found.invariant.reads h >> goes (read_it _ _ closing_round _ c.if-not-branch.false c.in_ok-accept.ensures) refl refl)
