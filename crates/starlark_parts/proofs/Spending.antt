-- What a reading took, by what is answered behind it.
use Rattle.std.proofs.Common.{List, ℕ}
use Rattle.std.specs.Prelude.{Err, IfErr, Ok, Result}
use Rattle.starlark_lexer.specs.declared.dialect.Dialect.{Dialect}
use Rattle.starlark_parser.specs.Costs.{IsBounded, IsWhole}
use Rattle.starlark_read.specs.declared.cost.Cost.{Cost}
use Rattle.starlark_parts.specs.Held.{MissesEnd}
use Rattle.starlark_parts.specs.Spent.{SpentOn}
use Rattle.starlark_parts.specs.declared.fault.PartFault.{PartFault}
use Rattle.starlark_parts.specs.declared.fault.PartFault.TheVariants as faults

pub whole_bounded : {text : List ℕ} {c : Cost} → IsWhole text c → IsBounded text c
whole_bounded w = record { few = w.few; bounded = w.bounded }

-- of a text that is in the language
pub whole_spent : {T : Type 0} (d : Dialect) (text whole : List ℕ) (r : Result T PartFault) (c : Cost) → IsWhole text c → IfErr r (MissesEnd whole) → SpentOn d text r c
whole_spent d text whole (Ok x) c w h = w
whole_spent d text whole (Err faults.Open) c w h = w
whole_spent d text whole (Err faults.Memory) c w h = whole_bounded w
whole_spent d text whole (Err faults.Index) c w h = absurd h
whole_spent d text whole (Err faults.Utf8) c w h = absurd h
whole_spent d text whole (Err faults.Long) c w h = absurd h
whole_spent d text whole (Err (faults.Parse error place)) c w h = absurd h
