use Rattle.std.proofs.Common.{◌∙◌, sym}
use Rattle.std.specs.Str.{chars}
use Rattle.starlark_place.proofs.Characters.{stands_in-yes}
use Rattle.starlark_place.proofs.fast_string.contains.Goals as goal

pub returns-in-Some : goal.returns-in-Some
returns-in-Some c = sym (stands_in-yes (chars c.args.needle.now) (chars c.loop-behind.rest.now) c.in-Some.ensures.0) ∙ c.loop-behind.invariant.1
