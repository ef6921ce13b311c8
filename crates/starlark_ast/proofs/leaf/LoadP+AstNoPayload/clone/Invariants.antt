use Rattle.std.proofs.Common.{◌≡◌, take}
use Rattle.starlark_ast.specs.View.{symbols}
use Rattle.starlark_ast.proofs.leaf.LoadP+AstNoPayload.clone.Given as goal

abbrev pub invariant-loop-arg : goal.invariant-loop-arg
invariant-loop-arg l = symbols l.args.items ≡ symbols (take l.arg-index l.arg-items)
