use Rattle.std.proofs.Common.{◌≡◌, ◌∙◌, ap, subst, sym}
use Rattle.std.specs.Prelude.{string_bytes}
use Rattle.starlark_grammar.specs.Language.{Language}
use Rattle.starlark_parts.specs.Held.{texts_of}
use Rattle.starlark_parts.specs.Kept.{joined}
use Rattle.starlark_parts.proofs.JoinedStatements.{joined_parts}
use Rattle.starlark_parts.proofs.parts.Parts.from_scratch.Goals as goal

pub read_outline-requires-clause-language : goal.read_outline-requires-clause-language
read_outline-requires-clause-language c =
    let a = c.self.inside in
    let o = joined_parts c.joined_outline.ensures a.dialect a.parts.items c.self.invariant.parts in
    let same : string_bytes c.in_ok-text.text ≡ joined (texts_of a.parts.items) = c.in_ok-text.ensures ∙ sym (ap (λ v. joined v.texts) c.self.view_is) in
    record { tree = o.tree; language = subst (λ t. Language a.dialect t o.tree) (sym same) o.language }
