use Rattle.std.proofs.Common.{◌≡◌, ◌++◌, List, flat_map, length, reverse}
use Rattle.starlark_ast.specs.View.{symbols}
use Rattle.starlark_payload.specs.Payloads.{Answers, gives, load_arg_payloads}
use Rattle.starlark_payload.proofs.payload_map.load_args.Given as goal

-- what is done was mapped, and what is left, last first, stands behind it
abbrev pub invariant-loop-x : goal.invariant-loop-x
invariant-loop-x g l =
    (front : List _) × (front ++ reverse l.rest.items ≡ l.fn.xs.items)
    × (symbols l.done.items ≡ symbols front)
    × Answers (gives g.F.AstPayloadFunction.gives_load g.F.AstPayloadFunction.gives_ident g.F.AstPayloadFunction.gives_ident_assign g.F.AstPayloadFunction.gives_def g.F.AstPayloadFunction.gives_type_expr) l.fn.f (flat_map load_arg_payloads front) l.f (flat_map load_arg_payloads l.done.items)

abbrev pub decreases-loop-x : goal.decreases-loop-x
decreases-loop-x g l = length l.rest.items
