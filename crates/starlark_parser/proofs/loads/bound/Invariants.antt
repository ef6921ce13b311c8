use Rattle.std.proofs.Common.{◌≡◌, map, take}
use Rattle.starlark_ast.specs.View.{symbols}
use Rattle.starlark_parser.specs.Loaded.{bindings}
use Rattle.starlark_parser.specs.Shown.{binding}
use Rattle.starlark_parser.proofs.loads.bound.Given as goal

abbrev pub invariant-loop-arg : goal.invariant-loop-arg
invariant-loop-arg l = map binding l.bound.entries ≡ bindings (symbols (take l.arg-index l.args))
