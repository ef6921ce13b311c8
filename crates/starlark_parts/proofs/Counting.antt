-- How many items parts have.
use Rattle.std.proofs.Common.{◌≡◌, ℕ, ◌+◌, List, [], ◌∷◌, length, arith, length-append, refl}
use Rattle.std.proofs.lemmas.List.{length-map}
use Rattle.starlark_parts.specs.Held.{items_of, outline_from}
use Rattle.starlark_parts.specs.Left.{items_left}
use Rattle.starlark_parts.specs.Outlines.{item_down, items_down}
use Rattle.starlark_parts.specs.declared.items.Items.TheInside.{Inside}
use Rattle.starlark_parts.specs.declared.part.Part.{Part}

abbrev pub count_in : List Part → ℕ
count_in [] = 0
count_in (p ∷ ps) = length (items_of p) + count_in ps

outline_length : (n : ℕ) (ps : List Part) → length (outline_from n ps) ≡ count_in ps
outline_length n [] = refl
outline_length n (p ∷ ps) =
    let down = items_down n (items_of p) in
    let rest = outline_from (n + p.feeds) ps in
    omega (arith, length-append down rest, length-map (items_of p) (item_down n), outline_length (n + p.feeds) ps)

pub left_length : (a : Inside) → length (items_left a) ≡ length a.items.now + count_in a.parts.now
left_length a =
    omega (arith, length-append (items_down a.line a.items.now) (outline_from a.behind a.parts.now), length-map a.items.now (item_down a.line), outline_length a.behind a.parts.now)
