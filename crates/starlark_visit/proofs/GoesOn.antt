-- A call goes on or stops at an error, and not both.
use Rattle.std.proofs.Common.{◌≡◌, ◌∙◌, ap, Result, Ok, Err}
use Rattle.std.proofs.lemmas.Result.{err_from_is_err_and}
use Rattle.std.specs.Result.{IsErrAnd}

pub ok_not_err : {E : Type 0} {e : E} {r : Result (Unit {0}) E} → r ≡ Ok tt → r ≡ Err e → ⊥
ok_not_err h k = cc

pub err_not_ok : {E : Type 0} {e : E} {r : Result (Unit {0}) E} → r ≡ Err e → r ≡ Ok tt → ⊥
err_not_ok h k = cc

-- what the way out of a `?` answers
pub out_err : {E : Type 0} {e : E} (r : Result (Unit {0}) E) → IsErrAnd r (λ y. y ≡ e) → r ≡ Err e
out_err r h = let p = err_from_is_err_and r h in p.1 ∙ ap Err p.2
