use Rattle.std.proofs.Common.{◌≤◌, ◌∙◌, ap, subst, sym}
use Rattle.starlark_parts.specs.Held.{all_feeds, outline_from, texts_of}
use Rattle.starlark_parts.specs.Kept.{joined}
use Rattle.starlark_parts.specs.Outlines.{IsOutline}
use Rattle.starlark_parts.proofs.JoinedStatements.{joined_parts}
use Rattle.starlark_parts.proofs.Keeping.{feeds_fit}
use Rattle.starlark_parts.proofs.parts.Parts.items.Goals as goal

pub of-requires-clause-lines : goal.of-requires-clause-lines
of-requires-clause-lines c = subst (λ ps. all_feeds ps ≤ 4294967295) (sym c.as_slice.ensures.value) (feeds_fit c.self.inside c.self.invariant)

pub returns : goal.returns
returns c =
    let a = c.self.inside in
    subst (λ v. IsOutline v.dialect (joined v.texts) c.of.result) c.self.view_is
    (subst (IsOutline a.dialect (joined (texts_of a.parts.items))) (sym (c.of.ensures ∙ ap (outline_from 0) c.as_slice.ensures.value)) (joined_parts c.joined_outline.ensures a.dialect a.parts.items c.self.invariant.parts))
