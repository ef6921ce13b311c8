use Rattle.std.proofs.Common.{ap, ◌∙◌, sym}
use Rattle.std.specs.Prelude.{slice_get}
use Rattle.std.specs.Str.{chars}
use Rattle.starlark_place.proofs.Characters.{offset_is, slice_get-drop, none_past}
use Rattle.starlark_place.proofs.fast_string.at.Goals as goal

pub returns-in-None : goal.returns-in-None
returns-in-None c = sym (none_past c.args.text.now c.args.i.0 c.utf8.text c.in-None.ensures)

pub returns-in-Some : goal.returns-in-Some
returns-in-Some c =
    let cut = offset_is c.args.text.now c.args.i.0 c.in-Some.offset c.utf8.text c.in-Some.ensures.0 c.in-Some.ensures.1 in
    c.next.ensures.steps.2 ∙ (ap (λ xs. slice_get (chars xs) 0) (c.chars.ensures.rest ∙ c.range_from.ensures.value) ∙ (ap (λ xs. slice_get xs 0) cut.back ∙ slice_get-drop (chars c.args.text.now) c.args.i.0))
