use Rattle.std.proofs.Common.{◌≡◌, ◌∙◌, ◌++◌, sym, ap, cond, take, length, nat_lt, Bool, true, List, arith}
use Rattle.starlark_ast.specs.View.{parameter_at, members}
use Rattle.starlark_rules.specs.declared.def.DefRegularParamMode.{DefRegularParamMode}
use Rattle.starlark_rules.specs.declared.def.DefRegularParamMode.TheVariants.{PosOnly, PosOrName, NameOnly}
use Rattle.starlark_rulebook.specs.Parameters as parameters
use Rattle.starlark_rules.specs.ParameterKinds as kinds
use Rattle.starlark_rules.specs.Tallies.{param_of}
use Rattle.starlark_rules.proofs.ParameterLists.{slash_left, slash_next, slashes_end, params_next, params_end}
use Rattle.starlark_faults.proofs.Prefixes.{any_more}
use Rattle.starlark_rules.proofs.def.named_params.Goals as goal

pub slashes_behind-slashes-requires : goal.slashes_behind-slashes-requires
slashes_behind-slashes-requires g c =
    slash_left (λ x. parameters.is_slash (parameter_at x)) c.args.params.now c.loop-x.x-index c.x-item.result c.loop-x.slashes c.loop-x-test.true c.x-item.is c.loop-x.invariant.left

pub loop-x-preserved : goal.loop-x-preserved
loop-x-preserved g c =
    let xs = c.args.params.now in
    let i = c.loop-x.x-index in
    let x = c.x-item.result in
    let n = c.loop-x.slashes in
    let ms = members parameter_at (take i xs) in
    let some = slash_left (λ x. parameters.is_slash (parameter_at x)) xs i x n c.loop-x-test.true c.x-item.is c.loop-x.invariant.left in
    let mode : c.mode.result ≡ kinds.mode_of (nat_lt 0 n) ms = c.mode.ensures ∙ ap (λ (a : Bool). cond (nat_lt 0 n) PosOnly (cond a NameOnly PosOrName)) c.loop-x.invariant.behind in
    record {
      made = c.in_ok-add_param.ensures
          ∙ ap (λ (ps : List kinds.Param). ps ++ param_of c.mode.result (parameter_at x)) c.loop-x.invariant.made
          ∙ ap (λ (y : DefRegularParamMode). kinds.params_before (nat_lt 0 n) ms ++ param_of y (parameter_at x)) mode
          ∙ sym (params_next parameter_at xs i x n c.slashes_behind-slashes.result c.loop-x-test.true c.x-item.is some c.slashes_behind-slashes.ensures);
      left = slash_next (λ x. parameters.is_slash (parameter_at x)) xs i x n c.slashes_behind-slashes.result c.loop-x-test.true c.x-item.is c.loop-x.invariant.left c.slashes_behind-slashes.ensures;
      behind = c.is_args_or-behind_args.ensures ∙ ap (λ (b : Bool). cond (kinds.is_args (parameter_at x)) true b) c.loop-x.invariant.behind ∙ sym (any_more kinds.is_args parameter_at xs i x c.loop-x-test.true c.x-item.is);
    }

pub returns : goal.returns
returns g c =
    let xs = c.args.params.now in
    let i = c.loop-x.x-index in
    let at_end : i ≡ length xs = omega (arith, c.loop-x-test.false, c.loop-x.auto.x-index-end) in
    c.loop-x.invariant.made ∙ params_end parameter_at xs i c.loop-x.slashes at_end (slashes_end (λ x. parameters.is_slash (parameter_at x)) xs i c.loop-x.slashes at_end c.loop-x.invariant.left)
