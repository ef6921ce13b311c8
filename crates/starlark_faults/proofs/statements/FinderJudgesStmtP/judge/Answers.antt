use Rattle.starlark_ast.specs.View.{stmt_at}
use Rattle.starlark_faults.proofs.StatementLevels.{each_smaller}
use Rattle.starlark_faults.proofs.statements.FinderJudgesStmtP.judge.Goals as goal
use Rattle.starlark_visit.proofs.SmallerStatements.{smaller_statements}

pub returns-clause-smaller : goal.returns-clause-smaller
returns-clause-smaller g c = each_smaller stmt_at _ _ (smaller_statements c.args.x.now)
