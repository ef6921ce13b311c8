use Rattle.starlark_parts.proofs.Scratch.{no_fault}
use Rattle.starlark_parts.proofs.part.read_outline.Goals as goal

pub unreachable-requires-in-Err-Fault : goal.unreachable-requires-in-Err-Fault
unreachable-requires-in-Err-Fault c = no_fault c.args.dialect.now _ c.parse.result c.in-Err-Fault.field-0 c.in-Err-Fault.field-0-0 c.in-Err-Fault.is c.in-Err-Fault.field-0-is c.parse.ensures.fault c.requires.language.tree c.requires.language.language c.one_refusal.ensures.other
