-- What is found, one behind the other.
use Rattle.std.proofs.Common.{◌≡◌, ap, ◌∙◌, List, ◌++◌, append_assoc, Result, Ok, Err, OnOk}
use Rattle.starlark_place.specs.declared.pos.Spanned.{Spanned}
use Rattle.starlark_rulebook.specs.declared.rule.Rule.{Rule}
use Rattle.starlark_rulebook.specs.Found.{Adds, findings}
use Rattle.starlark_rulebook.specs.Rules.{Finding}

pub adds_as : {before after : List (Spanned Rule)} (found other : List Finding) → found ≡ other → Adds before found after → Adds before other after
adds_as {before} {after} found other e h = record { all = h.all ∙ ap (λ fs. findings before ++ fs) e }

pub adds_then : {before between after : List (Spanned Rule)} (first then_found : List Finding) → Adds before first between → Adds between then_found after → Adds before (first ++ then_found) after
adds_then {before} {between} {after} first then_found h k = record { all = k.all ∙ ap (λ fs. fs ++ then_found) h.all ∙ append_assoc (findings before) first then_found }

-- the same, said otherwise
pub ok_as : {A E : Type 0} (before after : List (Spanned Rule)) (found other : List Finding) (r : Result A E) → found ≡ other → OnOk r (Adds before found after) → OnOk r (Adds before other after)
ok_as before after found other (Ok a) e h = adds_as found other e h
ok_as before after found other (Err x) e h = h

-- the last one may be refused
pub ok_then : {A E : Type 0} {before between : List (Spanned Rule)} (after : List (Spanned Rule)) (first then_found whole : List Finding) (r : Result A E) → Adds before first between → OnOk r (Adds between then_found after) → first ++ then_found ≡ whole → OnOk r (Adds before whole after)
ok_then after first then_found whole (Ok a) h k e = adds_as (first ++ then_found) whole e (adds_then first then_found h k)
ok_then after first then_found whole (Err x) h k e = k
