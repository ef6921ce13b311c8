use Rattle.std.proofs.Common.{◌∙◌, sym}
use Rattle.starlark_ast.specs.View.{argument_at}
use Rattle.starlark_rules.specs.ArgumentKinds.{is_of}
use Rattle.starlark_rules.proofs.Unpacking.{still_none, found_that}
use Rattle.starlark_rules.proofs.arguments.first_with.Goals as goal

pub returns-then-is_of : goal.returns-then-is_of
returns-then-is_of g c =
    sym (found_that (λ x. is_of c.args.kind (argument_at x)) c.args.args.now c.loop-x.x-index c.x-item.result c.loop-x-test.true c.x-item.is c.loop-x.invariant (sym c.is_of.ensures ∙ c.if-is_of.true))

pub loop-x-preserved : goal.loop-x-preserved
loop-x-preserved g c =
    still_none (λ x. is_of c.args.kind (argument_at x)) c.args.args.now c.loop-x.x-index c.x-item.result c.loop-x-test.true c.x-item.is c.loop-x.invariant (sym c.is_of.ensures ∙ c.if-is_of.false)
