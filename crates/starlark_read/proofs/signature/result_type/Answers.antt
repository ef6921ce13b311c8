use Rattle.std.proofs.Common.{refl, rules, ◌∙◌}
use Rattle.starlark_lexer.specs.Items.{colon}
use Rattle.starlark_grammar.specs.Frames.{result_type}
use Rattle.starlark_read.proofs.Branching.{no_colon_next}
use Rattle.starlark_read.proofs.Exits.{◌>>◌, exits, gives, goes, left_it, missing, read_it, renamed, stays_there, sticks}
use Rattle.starlark_read.proofs.Gathering.{before}
use Rattle.starlark_read.proofs.Signing.{no_result, result_ends}
use Rattle.starlark_read.proofs.signature.result_type.Goals as goal

pub returns-then-branch-clause-reads : goal.returns-then-branch-clause-reads
returns-then-branch-clause-reads g c h ps = gives (goes (read_it _ _ colon _ c.if-branch.true c.in_ok-accept.ensures) refl refl)

pub returns-in_err-expect-clause-reads : goal.returns-in_err-expect-clause-reads
returns-in_err-expect-clause-reads g c h ps =
    let n = left_it _ _ colon _ c.if-branch.false c.in_ok-accept.ensures in
    missing (search rules) c.in_err-expect.ensures.unread c.in_err-expect.ensures.no_rule (λ m. stays_there (m.0 ∙ n.0) (no_result h ps _ n.1 (before n.0 m.1)))

pub returns-in_err-found-clause-reads : goal.returns-in_err-found-clause-reads
returns-in_err-found-clause-reads g c h ps =
    let n = left_it _ _ colon _ c.if-branch.false c.in_ok-accept.ensures in
    exits (search rules) (renamed n.0 >> goes c.in_ok-expect.ensures.read refl refl) (c.in_err-found.ensures.reads (result_type h ps) (λ q. refl))

pub returns-in_err-expect-2-clause-reads : goal.returns-in_err-expect-2-clause-reads
returns-in_err-expect-2-clause-reads g c h ps =
    let n = left_it _ _ colon _ c.if-branch.false c.in_ok-accept.ensures in
    missing (search rules) c.in_err-expect-2.ensures.unread c.in_err-expect-2.ensures.no_rule (λ m. sticks (renamed n.0 >> goes c.in_ok-expect.ensures.read refl refl >> (c.in_ok-found.ensures.reads (result_type h ps) (λ q. refl)).comes _ refl >> result_ends h ps _ _ _ c.in_ok-found.ensures.right) (stays_there m.0 (no_colon_next _ _ m.1)))

pub returns-clause-reads : goal.returns-clause-reads
returns-clause-reads g c h ps =
    let n = left_it _ _ colon _ c.if-branch.false c.in_ok-accept.ensures in
    gives (renamed n.0 >> goes c.in_ok-expect.ensures.read refl refl >> (c.in_ok-found.ensures.reads (result_type h ps) (λ q. refl)).comes _ refl >> result_ends h ps _ _ _ c.in_ok-found.ensures.right >> goes c.in_ok-expect-2.ensures.read refl refl)
