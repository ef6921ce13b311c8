use Rattle.std.proofs.Common.{refl, ap, sym, ◌∙◌}
use Rattle.starlark_lexer.specs.Items.{slash, star, star_star}
use Rattle.starlark_ast.specs.Tree as tree
use Rattle.starlark_read.specs.Reads.{name_ahead}
use Rattle.starlark_read.proofs.Exits.{behind_it, gives, goes, left_it, read_it, refuses, stays_there}
use Rattle.starlark_read.proofs.Gathering.{before, passes_from, placed, span_from}
use Rattle.starlark_read.proofs.Naming.{named, unnamed}
use Rattle.starlark_read.proofs.Signing.{begins_at, name_is, no_param, param_is, star_at, stars_at}
use Rattle.starlark_read.proofs.signature.parameter.Goals as goal

pub returns-then-branch-clause-reads : goal.returns-then-branch-clause-reads
returns-then-branch-clause-reads g c h ps n = gives (param_is _ (goes (read_it _ _ slash _ c.if-branch.true c.in_ok-accept.ensures) refl refl) (c.slash.ensures ∙ ap tree.slash (placed _ _ _ c.since.ensures c.begin-begin.ensures)))

pub returns-then-branch-2-clause-reads : goal.returns-then-branch-2-clause-reads
returns-then-branch-2-clause-reads g c h ps n =
    let x = left_it _ _ slash _ c.if-branch.false c.in_ok-accept.ensures in
    behind_it (star_at _ (goes (passes_from star x.0 (read_it _ _ star _ c.if-branch-2.true c.in_ok-accept-2.ensures)) refl refl) c.begin-begin.ensures) (c.starred.ensures.reads h ps)

pub returns-then-branch-3-clause-reads : goal.returns-then-branch-3-clause-reads
returns-then-branch-3-clause-reads g c h ps n =
    let x = left_it _ _ slash _ c.if-branch.false c.in_ok-accept.ensures in
    let y = left_it _ _ star _ c.if-branch-2.false c.in_ok-accept-2.ensures in
    behind_it (stars_at _ (goes (passes_from star_star (y.0 ∙ x.0) (read_it _ _ star_star _ c.if-branch-3.true c.in_ok-accept-3.ensures)) refl refl) c.begin-begin.ensures) (c.double_starred.ensures.reads h ps)

pub returns-in_default-clause-reads : goal.returns-in_default-clause-reads
returns-in_default-clause-reads g c h ps n =
    let x = left_it _ _ slash _ c.if-branch.false c.in_ok-accept.ensures in
    let y = left_it _ _ star _ c.if-branch-2.false c.in_ok-accept-2.ensures in
    let z = left_it _ _ star_star _ c.if-branch-3.false c.in_ok-accept-3.ensures in
    let u = unnamed _ _ _ c.in_default.is c.in_ok-name.ensures in
    refuses (stays_there (u.0 ∙ z.0 ∙ y.0 ∙ x.0) (no_param h ps _ n x.1 (before x.0 y.1) (before (y.0 ∙ x.0) z.1) (ap (λ l. name_ahead l.items) (sym (z.0 ∙ y.0 ∙ x.0)) ∙ u.1)))

pub returns-clause-reads : goal.returns-clause-reads
returns-clause-reads g c h ps n =
    let x = left_it _ _ slash _ c.if-branch.false c.in_ok-accept.ensures in
    let y = left_it _ _ star _ c.if-branch-2.false c.in_ok-accept-2.ensures in
    let z = left_it _ _ star_star _ c.if-branch-3.false c.in_ok-accept-3.ensures in
    let p = named _ _ _ _ c.in-Some.is c.in_ok-name.ensures in
    behind_it (begins_at _ (name_is _ (goes (passes_from _ (z.0 ∙ y.0 ∙ x.0) p.1) refl refl) (span_from _ _ (z.0 ∙ y.0 ∙ x.0) p.0)) c.begin-begin.ensures) (c.plain.ensures.reads h ps)
