use Rattle.std.proofs.Common.{arith, map}
use Rattle.starlark_parser.specs.Shown.{loaded}
use Rattle.starlark_parser.proofs.Bindings.{all_of, load_held, one_load, one_of}
use Rattle.starlark_parser.proofs.loads.+put_loads.Goals as goal

pub load_of-requires : goal.load_of-requires
load_of-requires t c = load_held c.args.file.now c.args.statement.now c.in-Load.load c.in-Load.is c.requires

pub put_loads-requires : goal.put_loads-requires
put_loads-requires t c = one_of c.args.file.now c.args.statement.now c.in-Statements.xs c.deref-x-items.result.now c.loop-x.x-index c.x-item.result _ c.in-Statements.is c.deref-x-items.ensures.value (omega (arith, c.loop-x-test.true)) c.x-item.is c.decreases c.requires

pub returns-in_ok-push-in-Load : goal.returns-in_ok-push-in-Load
returns-in_ok-push-in-Load t c =
    one_load c.args.file.now c.args.statement.now c.in-Load.load c.in_ok-load_of-in-Load.field-0 c.args.loads.now.items c.push.new.self.items c.in-Load.is c.in_ok-push-in-Load.ensures.items c.in_ok-load_of-in-Load.ensures.at c.in_ok-load_of-in-Load.ensures.name c.in_ok-load_of-in-Load.ensures.binds

pub returns-after-loop-x : goal.returns-after-loop-x
returns-after-loop-x t c =
    all_of c.args.file.now c.args.statement.now c.in-Statements.xs c.deref-x-items.result.now c.loop-x.x-index (map loaded c.args.loads.now.items) (map loaded c.loop-x.loads.items) c.in-Statements.is c.deref-x-items.ensures.value (omega (arith, c.loop-x-test.false)) c.loop-x.invariant
