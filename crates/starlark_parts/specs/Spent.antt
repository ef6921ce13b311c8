-- What the reading of an edit took.
use Rattle.std.specs.Prelude.{◌≡◌, ℕ, List, Result, Ok, Err}
use Rattle.starlark_lexer.specs.declared.dialect.Dialect.{Dialect}
use Rattle.starlark_parser.specs.Costs.{IsBounded, IsPartly, IsWhole}
use Rattle.starlark_read.specs.declared.cost.Cost.{Cost}
use Rattle.starlark_parts.specs.Kept.{Edit, inserts, replaces, removes, moves}
use Rattle.starlark_parts.specs.declared.fault.PartFault.{PartFault}
use Rattle.starlark_parts.specs.declared.fault.PartFault.TheVariants as faults

-- of no text
abbrev pub nothing_read : Cost
nothing_read = record { reads = 0; asks = 0 }

-- What the reading of a text took whose edit is refused: a text that is not closed was read to its end; one that is refused by reading, until then; and one that is refused before, not at all. Where memory runs out it is no more than such a text takes.
abbrev pub SpentUntil : Dialect → List ℕ → PartFault → Cost → Type 0
SpentUntil d text faults.Open c = IsWhole text c
SpentUntil d text (faults.Parse error place) c = IsPartly d text c
SpentUntil d text faults.Memory c = IsBounded text c
SpentUntil d text faults.Index c = c ≡ nothing_read
SpentUntil d text faults.Utf8 c = c ≡ nothing_read
SpentUntil d text faults.Long c = c ≡ nothing_read

-- the same by the answer to the edit: a text in the language was read to its end
abbrev pub SpentOn : {T : Type 0} → Dialect → List ℕ → Result T PartFault → Cost → Type 0
SpentOn d text (Ok x) c = IsWhole text c
SpentOn d text (Err f) c = SpentUntil d text f c

-- what the reading of an edit with that answer took: nothing where it brings no text
abbrev pub Spends : {T : Type 0} → Dialect → Edit → Result T PartFault → Cost → Type 0
Spends d (inserts k text) r c = SpentOn d text r c
Spends d (replaces k text) r c = SpentOn d text r c
Spends d (removes k) r c = c ≡ nothing_read
Spends d (moves k j) r c = c ≡ nothing_read
