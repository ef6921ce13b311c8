use Rattle.starlark_ast.proofs.Blocks.{comma_before_next_symbol, symbol_written}
use Rattle.starlark_ast.proofs.lines.write_symbols.Goals as goal

pub loop-x-preserved : goal.loop-x-preserved
loop-x-preserved g c =
    let xs = c.args.xs.now in
    let i = c.loop-x.x-index in
    let x = c.x-item.result in
    (comma_before_next_symbol xs i x c.loop-x-test.true c.x-item.is, λ plain. symbol_written xs i x c.loop-x-test.true c.x-item.is c.loop-x.invariant.0 (c.loop-x.invariant.1 plain) c.in_ok-write_str.ensures.writes c.in_ok-write_symbol.ensures)
