use denote.Shadow.{shadow}
use denote.Text.{Utf8}
use Rattle.std.proofs.Common.{◌≡◌, length}
use Rattle.std.specs.Str.{chars}
use Rattle.starlark_place.specs.Strings.{stands_in}
use Rattle.starlark_place.proofs.fast_string.contains.Given as goal

abbrev pub invariant-loop-behind : goal.invariant-loop-behind
invariant-loop-behind l = shadow (Utf8 l.rest) × (stands_in (chars l.needle) (chars l.rest) ≡ stands_in (chars l.needle) (chars l.text))

abbrev pub decreases-loop-behind : goal.decreases-loop-behind
decreases-loop-behind l = length l.rest
