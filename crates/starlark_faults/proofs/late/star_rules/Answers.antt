use Rattle.std.proofs.Common.{sym, ap}
use Rattle.starlark_ast.specs.View.{parameter_at}
use Rattle.starlark_rulebook.specs.Late as late
use Rattle.starlark_faults.proofs.Adding.{adds_as, adds_then}
use Rattle.starlark_ast.proofs.Written.{members_more}
use Rattle.starlark_faults.proofs.late.star_rules.Goals as goal

pub loop-x-preserved : goal.loop-x-preserved
loop-x-preserved g c =
    let xs = c.args.params.now in
    adds_as _ _ (sym (ap late.star_rules (members_more parameter_at xs c.loop-x.x-index c.x-item.result c.loop-x-test.true c.x-item.is))) (adds_then _ _ c.loop-x.invariant c.in_ok-add_star.ensures)
