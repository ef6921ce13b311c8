-- What a module shows of its loads and statements.
use denote.Ref.{Bor}
use Rattle.std.specs.Prelude.{ℕ, List, [], map, if◌then◌else◌}
use Rattle.starlark_place.specs.Place.{FilePlace, file_place}
use Rattle.starlark_parser.specs.Loaded.{Binding, Loaded, loads_in}
use Rattle.starlark_parser.specs.Locations.{locations}
use Rattle.starlark_parser.specs.Modules.{dialect_of, file_of, tree_of}
use Rattle.starlark_parser.specs.declared.loads.AstLoad.{AstLoad}
use Rattle.starlark_parser.specs.declared.module.AstModule.{AstModule}

-- an entry of what a load binds
abbrev pub binding : Bor (List ℕ) × Bor (List ℕ) → Binding
binding e = record { local = e.0.now; their = e.1.now }

-- what a load says
abbrev pub loaded : AstLoad → Loaded
loaded x = record { name = x.module_id.now; at = x.span; binds = map binding x.symbols.entries }

-- the loads of a module: none where its dialect has no loads
abbrev pub loads_of : AstModule → List Loaded
loads_of m = if (dialect_of m).enable_load then loads_in (file_of m) (tree_of m) else []

-- where its statements stand
abbrev pub locations_of : AstModule → List FilePlace
locations_of m = map (file_place (file_of m)) (locations (tree_of m))
