use Rattle.std.proofs.Common.{◌≡◌, length}
use Rattle.std.specs.List.{list_any}
use denote.Text.{Utf8}
use denote.Shadow.{shadow}
use Rattle.starlark_parser.specs.Suppressions.{names_in, same_text}
use Rattle.starlark_parser.proofs.suppression.names.Given as goal

abbrev pub invariant-loop-first : goal.invariant-loop-first
invariant-loop-first l = shadow (Utf8 l.rest) × (list_any (same_text l.name) (names_in l.list) ≡ list_any (same_text l.name) (names_in l.rest))

abbrev pub decreases-loop-first : goal.decreases-loop-first
decreases-loop-first l = length l.rest
