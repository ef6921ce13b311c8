use Rattle.std.proofs.Common.{◌≡◌, ◌++◌, length}
use Rattle.starlark_lexer.specs.Literals.{value}
use Rattle.starlark_lexer.proofs.literal.bytes_value.Given as goal

abbrev pub invariant-loop-rest : goal.invariant-loop-rest
invariant-loop-rest l = l.value.items ++ value l.form l.rest ≡ value l.form l.text

abbrev pub decreases-loop-rest : goal.decreases-loop-rest
decreases-loop-rest l = length l.rest
