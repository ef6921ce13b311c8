-- An option does not both have a value and have none.
use Rattle.std.proofs.Common.{◌≡◌}
use Rattle.std.specs.Prelude.{None, Some}

pub none_some : {T : Type 0} (x : T) → None ≡ Some x → ⊥
none_some x h = cc
