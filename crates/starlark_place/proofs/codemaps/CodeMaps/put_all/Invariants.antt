use Rattle.std.proofs.Common.{◌≡◌, ℕ, nat_cmp, is_eq}
use Rattle.std.specs.Map.{lookup}
use Rattle.starlark_place.specs.Maps.{map_of, or_else}
use Rattle.starlark_place.proofs.codemaps.CodeMaps.put_all.Given as goal

abbrev pub invariant-loop-id : goal.invariant-loop-id
invariant-loop-id l = (q : ℕ) → or_else (map_of l.self q) (lookup (λ k. is_eq (nat_cmp q k)) l.id-iterator) ≡ or_else (map_of l.initial.self q) (map_of l.codemaps q)
