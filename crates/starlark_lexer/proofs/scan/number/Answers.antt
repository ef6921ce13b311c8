use Rattle.std.specs.Char.{is_ascii_digit}
use Rattle.starlark_lexer.proofs.Runs.{list_all_run}
use Rattle.starlark_lexer.proofs.scan.number.Goals as goal

pub is_zeros-requires : goal.is_zeros-requires
is_zeros-requires c = rw c.run-len.ensures.value (list_all_run is_ascii_digit c.args.bytes.now)
