use Rattle.std.proofs.Common.{suc, ◌+◌}
use Rattle.starlark_ast.specs.View.{expr_at}
use Rattle.starlark_visit.specs.Sizes.{size}
use Rattle.starlark_visit.proofs.idents.+fn-names-lend_exprs+names.Given as goal

abbrev pub decreases-names : goal.decreases-names
decreases-names g l = size (expr_at l.x.now) + size (expr_at l.x.now)

-- between what it is lent and what stands around that
abbrev pub decreases-lend_exprs : goal.decreases-lend_exprs
decreases-lend_exprs g l = suc (size (expr_at l.below.now) + size (expr_at l.below.now))
