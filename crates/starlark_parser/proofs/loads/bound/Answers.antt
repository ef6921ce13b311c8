use Rattle.std.proofs.Common.{arith}
use Rattle.starlark_parser.proofs.Bindings.{bound_more}
use Rattle.starlark_parser.proofs.loads.bound.Goals as goal

pub loop-arg-preserved : goal.loop-arg-preserved
loop-arg-preserved c =
    bound_more c.args.args.now c.loop-arg.arg-index c.arg-item.result c.loop-arg.bound.entries c.insert.new.self.entries c.as_str.result c.as_str-in-loop-arg.result (omega (arith, c.loop-arg-test.true)) c.arg-item.is c.as_str.ensures.value c.as_str-in-loop-arg.ensures.value c.in_ok-insert.ensures.entries c.loop-arg.invariant
