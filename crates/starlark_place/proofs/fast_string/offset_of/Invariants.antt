use Rattle.std.proofs.Common.{◌≡◌, ◌+◌, take}
use Rattle.starlark_place.specs.Place.{characters}
use Rattle.starlark_place.proofs.fast_string.offset_of.Given as goal

abbrev pub invariant-loop-k : goal.invariant-loop-k
invariant-loop-k l = l.left + characters (take l.k l.bytes) ≡ l.i
