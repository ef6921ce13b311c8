use Rattle.std.proofs.Common.{◌≡◌, ◌++◌, flat_map, map, take}
use Rattle.starlark_ast.specs.View.{stmt_at}
use Rattle.starlark_parser.specs.Loaded.{loads_in}
use Rattle.starlark_parser.specs.Shown.{loaded}
use Rattle.starlark_grammar.proofs.Variants.{count}
use Rattle.starlark_parser.proofs.loads.+put_loads.Given as goal

abbrev pub decreases-put_loads : goal.decreases-put_loads
decreases-put_loads l = count (stmt_at l.statement.now)

abbrev pub invariant-loop-x : goal.invariant-loop-x
invariant-loop-x l = map loaded l.loads.items ≡ map loaded l.fn.loads.items ++ flat_map (λ x. loads_in l.file (stmt_at x)) (take l.x-index l.x-items)
