use Rattle.starlark_ast.specs.Calls.{lent}
use Rattle.starlark_visit.proofs.Lifted.{until_callable}
use Rattle.starlark_visit.proofs.Taking.{always_takes}
use Rattle.starlark_visit.proofs.walk.lend_always.Goals as goal

pub lend_stmts_to-requires : goal.lend_stmts_to-requires
lend_stmts_to-requires g c = always_takes lent g.F.FnMut c.requires

pub returns-clause-callable : goal.returns-clause-callable
returns-clause-callable g c = until_callable lent g.F.FnMut _ _ _ _ c.requires c.lend_stmts_to.ensures.told
