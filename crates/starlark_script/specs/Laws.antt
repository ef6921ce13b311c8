-- What the laws of edits speak of.
use Rattle.std.specs.Prelude.{◌≡◌}
use Rattle.starlark_parser.specs.Faults.{reason_of}
use Rattle.starlark_parts.specs.declared.fault.PartFault.{PartFault}
use Rattle.starlark_parts.specs.declared.fault.PartFault.TheVariants as faults

-- Two answers to an edit are one, but for where their texts are kept: two of reading have one reason, and one place by lines and columns.
abbrev pub SayTheSame : PartFault → PartFault → Type 0
SayTheSame (faults.Parse e p) (faults.Parse d q) = (reason_of e ≡ reason_of d) × (p.span ≡ q.span)
SayTheSame f g = f ≡ g
