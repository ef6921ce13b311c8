use Rattle.std.proofs.Common.{◌≡◌, ◌%◌, ◌^◌, sum_by, take}
use Rattle.starlark_c.specs.Sums.{place_sum}
use Rattle.starlark_c.proofs.places.places_sum.Given as goal

abbrev pub invariant-loop-place : goal.invariant-loop-place
invariant-loop-place l = l.total ≡ sum_by (place_sum l.codemap.source) (take l.place-index l.fn.places) % 2 ^ 64
