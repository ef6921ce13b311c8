use Rattle.std.proofs.Common.{◌≡◌, ◌∙◌, ap, cond, not, length, ◌-◌, ℕ, arith}
use Rattle.starlark_ast.specs.View.{argument_at}
use Rattle.starlark_rules.specs.ArgumentKinds.{is_of}
use Rattle.starlark_rules.proofs.Unpacking.{left_more, left_none, unset}
use Rattle.starlark_rules.proofs.arguments.count_of.Goals as goal

pub less_if-count-requires : goal.less_if-count-requires
less_if-count-requires g c = omega (arith, c.loop-x.invariant, c.loop-x-test.true)

pub loop-x-preserved : goal.loop-x-preserved
loop-x-preserved g c =
    left_more (λ x. is_of c.args.kind (argument_at x)) c.args.args.now c.loop-x.x-index c.x-item.result c.loop-x.count _ c.loop-x-test.true c.x-item.is c.loop-x.invariant
    (c.less_if-count.ensures ∙ ap (λ b. c.loop-x.count - cond (not b) 1 0) c.is_of.ensures ∙ ap (λ (d : ℕ). c.loop-x.count - d) (unset (is_of c.args.kind (argument_at c.x-item.result))))

pub returns : goal.returns
returns g c =
    let at_end : c.loop-x.x-index ≡ length c.args.args.now = omega (arith, c.loop-x-test.false, c.loop-x.auto.x-index-end) in
    left_none (λ x. is_of c.args.kind (argument_at x)) c.args.args.now c.loop-x.x-index c.loop-x.count at_end c.loop-x.invariant
