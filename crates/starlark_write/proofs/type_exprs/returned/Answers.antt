use Rattle.std.proofs.Common.{sym, subst}
use Rattle.starlark_write.specs.BesideTypes as kept
use Rattle.starlark_write.specs.BesideTypes.{KeepsReturned, KeepsTypes}
use Rattle.starlark_write.proofs.Lent.{seen, seen_left}
use Rattle.starlark_write.proofs.type_exprs.returned.Goals as goal

pub returns-in-None-clause-kept : goal.returns-in-None-clause-kept
returns-in-None-clause-kept g c = subst (λ q. KeepsReturned q q) (sym c.in-None.is) kept.returns_nothing

pub returns-in-Some-clause-kept : goal.returns-in-Some-clause-kept
returns-in-Some-clause-kept g c = seen KeepsReturned c.in-Some.is (kept.returns_value _ _ (seen_left KeepsTypes c.in-Some.x-is c.expr.ensures.kept))
