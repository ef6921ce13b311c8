use Rattle.starlark_clone.proofs.Stays.{empty_has_none, statement_stays}
use Rattle.starlark_clone.specs.Replacing.{renaming}
use Rattle.starlark_clone.proofs.laws.without_names.Goals as goal

pub returns-clause-none : goal.returns-clause-none
returns-clause-none c = statement_stays

pub returns-clause-empty : goal.returns-clause-empty
returns-clause-empty c names e = statement_stays (renaming names) (empty_has_none names e)
