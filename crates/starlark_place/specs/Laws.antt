-- What the laws on places speak of.
use Rattle.std.specs.Prelude.{◌≤◌, Bool, ◌++◌, ◌==◌}
use Rattle.std.specs.Cmp.Lexicographic.{pointwise, slice_cmp}
use Rattle.std.specs.Ordering.{eq_of_both, nat_cmp, on, then_cmp}
use Rattle.std.specs.declared.cmp.Ordering.{Ordering}
use Rattle.std.specs.Hash as fed
use Rattle.std.specs.Hash.{HashWrites}
use Rattle.starlark_place.specs.Place.{Extent, FilePlace}

-- each begins at or before the other's end
abbrev pub Intersects : Extent → Extent → Type 0
Intersects s t = (s.begin ≤ t.end) × (t.begin ≤ s.end)

-- by name, begin, end and id, in this order
abbrev pub compares : FilePlace → FilePlace → Ordering
compares = then_cmp (on (λ s. s.file.name) (slice_cmp nat_cmp)) (then_cmp (on (λ s. s.extent.begin) nat_cmp) (then_cmp (on (λ s. s.extent.end) nat_cmp) (on (λ s. s.file.id) nat_cmp)))

abbrev pub equals : FilePlace → FilePlace → Bool
equals = eq_of_both (on (λ s. s.file.name) (pointwise ◌==◌)) (eq_of_both (on (λ s. s.extent.begin) ◌==◌) (eq_of_both (on (λ s. s.extent.end) ◌==◌) (on (λ s. s.file.id) ◌==◌)))

abbrev pub hashes : FilePlace → HashWrites
hashes s = fed.str s.file.name ++ (fed.u32 s.extent.begin ++ (fed.u32 s.extent.end ++ fed.u64 s.file.id))
