use Rattle.std.proofs.Common.{◌≤◌, ◌∙◌, ap, map, subst, sym}
use Rattle.std.specs.List.{flat_map}
use Rattle.starlark_ast.specs.View.{stmt_at}
use Rattle.starlark_parts.specs.Held.{all_feeds, outline_from, statements_of, texts_of}
use Rattle.starlark_parts.specs.Kept.{joined}
use Rattle.starlark_parts.specs.Left.{statements_left, zipped}
use Rattle.starlark_parts.specs.Outlines.{AreAllStatements, AreTops, ShowOutline}
use Rattle.starlark_parts.proofs.Held.{are_statements}
use Rattle.starlark_parts.proofs.JoinedStatements.{closed_texts, show_outline}
use Rattle.starlark_parts.proofs.Keeping.{feeds_fit}
use Rattle.starlark_parts.proofs.parts.Parts.statements.Goals as goal

pub of-requires-clause-lines : goal.of-requires-clause-lines
of-requires-clause-lines c = subst (λ ps. all_feeds ps ≤ 4294967295) (sym c.as_slice.ensures.value) (feeds_fit c.self.inside c.self.invariant)

pub returns-clause-parts : goal.returns-clause-parts
returns-clause-parts c =
    let a = c.self.inside in
    subst (λ v. AreAllStatements v.dialect 0 v.texts (statements_left c.of.result)) c.self.view_is
    (subst (AreAllStatements a.dialect 0 (texts_of a.parts.items)) (sym ((λ i. zipped (map stmt_at (c.of.ensures.tops i)) (c.of.ensures.items i)) ∙ ap (λ ps. zipped (map stmt_at (flat_map statements_of ps)) (outline_from 0 ps)) c.as_slice.ensures.value)) (are_statements a.dialect 0 a.parts.items c.self.invariant.parts))

pub returns-clause-joined : goal.returns-clause-joined
returns-clause-joined c =
    let a = c.self.inside in
    subst (λ v. ShowOutline v.dialect (joined v.texts) (statements_left c.of.result)) c.self.view_is
    (subst (ShowOutline a.dialect (joined (texts_of a.parts.items))) (sym ((λ i. zipped (map stmt_at (c.of.ensures.tops i)) (c.of.ensures.items i)) ∙ ap (λ ps. zipped (map stmt_at (flat_map statements_of ps)) (outline_from 0 ps)) c.as_slice.ensures.value)) (show_outline c.joined_outline.ensures a.dialect a.parts.items c.self.invariant.parts))

pub returns-clause-tops : goal.returns-clause-tops
returns-clause-tops c =
    let a = c.self.inside in
    let parts = c.self.invariant.parts in
    subst (λ v. AreTops v.dialect (joined v.texts) (statements_left c.of.result)) c.self.view_is
    (subst (AreTops a.dialect (joined (texts_of a.parts.items))) (sym ((λ i. zipped (map stmt_at (c.of.ensures.tops i)) (c.of.ensures.items i)) ∙ ap (λ ps. zipped (map stmt_at (flat_map statements_of ps)) (outline_from 0 ps)) c.as_slice.ensures.value))
    (c.joined_statements.ensures a.dialect (texts_of a.parts.items) _ (closed_texts a.dialect a.parts.items parts) (are_statements a.dialect 0 a.parts.items parts)))
