use Rattle.std.proofs.Common.{◌∙◌, ap, take_all}
use Rattle.starlark_parts.specs.Held.{texts_of}
use Rattle.starlark_parts.specs.Kept.{joined}
use Rattle.starlark_parts.proofs.parts.Parts.text.Goals as goal

pub returns : goal.returns
returns c =
    c.loop-part.invariant ∙ ap (λ ps. joined (texts_of ps)) (take_all c.loop-part.part-index c.deref-part-items.result.now c.loop-part-test.false ∙ c.deref-part-items.ensures.value) ∙ ap (λ v. joined v.texts) c.self.view_is
