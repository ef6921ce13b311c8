use Rattle.std.proofs.Common.{◌∙◌, arith}
use Rattle.std.proofs.lemmas.Bool.Decides.{nat_tests}
use Rattle.starlark_parser.proofs.Pieces.{nothing_named}
use Rattle.starlark_parser.proofs.suppression.first_name.Goals as goal

pub returns-clause-first : goal.returns-clause-first
returns-clause-first c = c.loop-rest.invariant.1 ∙ nothing_named c.loop-rest.rest.now (grind (arith, nat_tests, c.loop-rest-test.false, c.is_empty.ensures))
