use Rattle.std.proofs.Common.{suc, ◌+◌}
use Rattle.starlark_visit.specs.Sizes.{statement_size}
use Rattle.starlark_faults.proofs.statements.+every+fn-every-lend_stmts_to.Given as goal

abbrev pub decreases-every : goal.decreases-every
decreases-every g l = statement_size (g.F.Judges.plain l.x.now) + statement_size (g.F.Judges.plain l.x.now)

-- between what it is lent and what stands around that
abbrev pub decreases-lend_stmts_to : goal.decreases-lend_stmts_to
decreases-lend_stmts_to g l = suc (statement_size (g.F.Judges.plain l.below.now) + statement_size (g.F.Judges.plain l.below.now))
