use Rattle.std.proofs.Common.{◌≡◌, take}
use Rattle.std.specs.Prelude.{string_bytes}
use Rattle.starlark_parts.specs.Held.{texts_of}
use Rattle.starlark_parts.specs.Kept.{joined}
use Rattle.starlark_parts.proofs.parts.Parts.text.Given as goal

abbrev pub invariant-loop-part : goal.invariant-loop-part
invariant-loop-part l = string_bytes l.text ≡ joined (texts_of (take l.part-index l.part-items))
