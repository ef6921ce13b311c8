use Rattle.starlark_ast.proofs.Blocks.{blanks_more}
use Rattle.starlark_ast.proofs.Written.{reads_as, then_writes}
use Rattle.starlark_ast.proofs.lines.write_blanks.Goals as goal

pub loop-preserved : goal.loop-preserved
loop-preserved g c = λ plain.
    reads_as (blanks_more c.loop.counter) (then_writes (c.loop.invariant plain) c.in_ok-write_str.ensures.writes)
