use Rattle.std.proofs.Common.{◌≡◌, ◌∙◌, ap, take, length, arith}
use Rattle.starlark_ast.specs.View.{parameter_at, members}
use Rattle.starlark_rules.specs.declared.def.Tally.{Tally}
use Rattle.starlark_rules.specs.ParameterKinds as kinds
use Rattle.starlark_rules.specs.Tallies.{with_member}
use Rattle.starlark_rules.proofs.ParameterLists.{tally_next, count_at, positional_within}
use Rattle.starlark_rules.proofs.def.indices.Goals as goal

pub with-tally-requires-clause-counted : goal.with-tally-requires-clause-counted
with-tally-requires-clause-counted g c =
    let xs = c.args.params.now in
    let i = c.loop-x.x-index in
    let n : c.loop-x.tally.count ≡ length (kinds.params_of (members parameter_at (take i xs))) = ap (λ (a : Tally). a.count) c.loop-x.invariant in
    omega (arith, n, count_at parameter_at xs i (omega (arith, c.loop-x-test.true)), c.loop-x-test.true, c.requires)

pub with-tally-requires-clause-positional : goal.with-tally-requires-clause-positional
with-tally-requires-clause-positional g c =
    let ms = members parameter_at (take c.loop-x.x-index c.args.params.now) in
    let n : c.loop-x.tally.count ≡ length (kinds.params_of ms) = ap (λ (a : Tally). a.count) c.loop-x.invariant in
    let p : c.loop-x.tally.indices.num_positional ≡ kinds.positional_count ms = ap (λ (a : Tally). a.indices.num_positional) c.loop-x.invariant in
    omega (arith, n, p, positional_within ms)

pub loop-x-preserved : goal.loop-x-preserved
loop-x-preserved g c =
    c.with-tally.ensures ∙ ap (λ (a : Tally). with_member a (parameter_at c.x-item.result)) c.loop-x.invariant ∙ tally_next parameter_at c.args.params.now c.loop-x.x-index c.x-item.result c.loop-x-test.true c.x-item.is
