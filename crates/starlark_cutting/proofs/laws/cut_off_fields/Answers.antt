use Rattle.starlark_cutting.proofs.KeptFields.{fields_line, fields_text}
use Rattle.starlark_cutting.proofs.laws.cut_off_fields.Goals as goal

pub returns-clause-line : goal.returns-clause-line
returns-clause-line c = fields_line

pub returns-clause-text : goal.returns-clause-text
returns-clause-text c = fields_text
