-- Edits, and how they are answered.
use Rattle.std.proofs.Common.{ℕ, List, Ok, Err, Result}
use Rattle.starlark_parts.specs.Edits.{Answers}
use Rattle.starlark_parts.specs.Kept.{Edit, Kept}
use Rattle.starlark_parts.specs.declared.fault.PartFault.{PartFault}
use Rattle.starlark_script.specs.Printed.{edit_line}
use Rattle.starlark_script.specs.Script.{Does, editing}
use Rattle.starlark_script.specs.Script.Does.{taken, refused}

-- what an edit answers is a reply to its command
pub edit_does : (kept : Kept) (edit : Edit) (done : Result (Unit {0}) PartFault) (left : List (List ℕ)) → Answers kept edit done left → Does kept.limit kept.dialect kept.texts (editing edit) (edit_line done) left
edit_does kept edit (Ok x) left h = rw h.1 (taken kept.texts edit h.0)
edit_does kept edit (Err fault) left h = rw h.1 (refused kept.texts edit fault h.0)
