use Rattle.std.proofs.Common.{length, arith}
use Rattle.starlark_c.proofs.Widths.{widths-le}
use Rattle.starlark_c.proofs.lexing.cut.Goals as goal

pub cut_left-requires-clause-bytes : goal.cut_left-requires-clause-bytes
cut_left-requires-clause-bytes c =
    let lexer = c.new-lexer.result in
    let order = c.in_order.ensures.order c.args.text.now lexer.left c.new-lexer.ensures.left in
    omega (arith, widths-le 0 (length c.args.text.now) lexer.left.items lexer.left.fault order, c.new-lexer.ensures.size, c.new-lexer.ensures.fits)
