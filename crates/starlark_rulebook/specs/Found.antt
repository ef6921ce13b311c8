-- What the code has found so far.
use Rattle.std.specs.Prelude.{◌≡◌, List, ◌++◌, map}
use Rattle.starlark_place.specs.declared.pos.Spanned.{Spanned}
use Rattle.starlark_rulebook.specs.declared.rule.Rule.{Rule}
use Rattle.starlark_rulebook.specs.Rules.{Finding}
use Rattle.starlark_rulebook.specs.View.{finding_of}

abbrev pub findings : List (Spanned Rule) → List Finding
findings xs = map finding_of xs

-- these are found behind those before
pub record Adds (before : List (Spanned Rule)) (found : List Finding) (after : List (Spanned Rule)) : Type 0 where
  pub all : findings after ≡ findings before ++ found
