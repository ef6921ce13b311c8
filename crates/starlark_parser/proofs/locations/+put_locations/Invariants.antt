use Rattle.std.proofs.Common.{◌≡◌, ◌++◌, flat_map, map, take}
use Rattle.starlark_place.specs.Place.{file_place}
use Rattle.starlark_ast.specs.View.{stmt_at}
use Rattle.starlark_parser.specs.Locations.{locations}
use Rattle.starlark_grammar.proofs.Variants.{count}
use Rattle.starlark_parser.proofs.locations.+put_locations.Given as goal

abbrev pub decreases-put_locations : goal.decreases-put_locations
decreases-put_locations l = count (stmt_at l.statement.now)

abbrev pub invariant-loop-x : goal.invariant-loop-x
invariant-loop-x l = l.places.items ≡ l.fn.places.items ++ map (file_place l.file) (flat_map (λ x. locations (stmt_at x)) (take l.x-index l.x-items))
