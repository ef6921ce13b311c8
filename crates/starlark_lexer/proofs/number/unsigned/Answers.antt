use Rattle.std.proofs.Common.{arith, ◌<◌, get_or, length}
use Rattle.std.proofs.lemmas.Str.{IsCharBoundary-after_ascii}
use Rattle.std.proofs.lemmas.Bool.Decides.{nat_tests}
use Rattle.starlark_lexer.proofs.number.unsigned.Goals as goal
use Rattle.starlark_lexer.proofs.number.unsigned.Goals.{then-bytes-eq45, else-bytes-eq45}

pub range_from-requires : goal.range_from-requires
range_from-requires c =
    let some : 0 < length c.args.text.now = grind (arith, nat_tests) in
    let low : get_or c.args.text.now 0 0 < 128 = elim c.if-bytes-eq45.branch [ then-bytes-eq45 w ↦ grind (arith, nat_tests) | else-bytes-eq45 w ↦ grind (arith, nat_tests) ] in
    λ _. IsCharBoundary-after_ascii c.args.text.now 0 c.utf8.text some low
