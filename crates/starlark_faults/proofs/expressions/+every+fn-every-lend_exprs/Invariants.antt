use Rattle.std.proofs.Common.{suc, ◌+◌}
use Rattle.starlark_ast.specs.View.{expr_at}
use Rattle.starlark_visit.specs.Sizes.{size}
use Rattle.starlark_faults.proofs.expressions.+every+fn-every-lend_exprs.Given as goal

abbrev pub decreases-every : goal.decreases-every
decreases-every g l = size (expr_at l.x.now) + size (expr_at l.x.now)

-- between what it is lent and what stands around that
abbrev pub decreases-lend_exprs : goal.decreases-lend_exprs
decreases-lend_exprs g l = suc (size (expr_at l.below.now) + size (expr_at l.below.now))
