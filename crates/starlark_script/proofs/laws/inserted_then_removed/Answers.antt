use Rattle.starlark_script.proofs.EditLaws.{insert_remove}
use Rattle.starlark_script.proofs.laws.inserted_then_removed.Goals as goal

pub returns : goal.returns
returns c = insert_remove
