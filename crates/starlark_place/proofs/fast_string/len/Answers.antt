use Rattle.std.proofs.Common.{ap, ◌∙◌}
use Rattle.starlark_place.specs.Place.{characters}
use Rattle.starlark_place.proofs.Counts.{characters-chars}
use Rattle.starlark_place.proofs.fast_string.len.Goals as goal

pub returns : goal.returns
returns c = c.char_count.ensures ∙ (ap characters c.as_bytes.ensures.value ∙ characters-chars c.args.text.now c.utf8.text)
