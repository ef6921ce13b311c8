use Rattle.std.proofs.Common.{◌++◌, [], ap, cond}
use Rattle.starlark_ast.specs.View.{parameter_at, members}
use Rattle.starlark_rulebook.specs.Late as late
use Rattle.starlark_rulebook.specs.Rules.{listed}
use Rattle.starlark_faults.proofs.Adding.{adds_then, ok_then}
use Rattle.starlark_faults.proofs.late.parameter_rules.Goals as goal

pub returns : goal.returns
returns g c =
    let d = c.args.dialect.now in
    let ms = members parameter_at c.args.params.now in
    ok_then _ _ _ _ c.add_found.result (adds_then _ _ c.in_ok-star_rules.ensures c.in_ok-slash_rules.ensures) c.add_found.ensures
    (ap (λ f. cond d.enable_keyword_only_arguments [] (late.star_rules ms) ++ cond d.enable_positional_only_arguments [] (late.slash_rules ms) ++ listed f) c.parameter_fault.ensures)
