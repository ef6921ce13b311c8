use Rattle.starlark_script.proofs.Cutting as cutting
use Rattle.starlark_script.proofs.script_laws.cut_or_whole.Goals as goal

pub returns-clause-either : goal.returns-clause-either
returns-clause-either c = cutting.cut_or_whole

pub returns-clause-never : goal.returns-clause-never
returns-clause-never c = cutting.cut_asks_nothing
