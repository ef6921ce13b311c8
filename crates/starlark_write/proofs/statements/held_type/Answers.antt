use Rattle.std.proofs.Common.{refl, sym, subst}
use Rattle.starlark_write.specs.BesideStatements as beside
use Rattle.starlark_write.specs.BesideStatements.{KeepsTypeHere}
use Rattle.starlark_write.proofs.Lent.{seen}
use Rattle.starlark_write.proofs.statements.held_type.Goals as goal

pub returns-in-None-clause-kept : goal.returns-in-None-clause-kept
returns-in-None-clause-kept g c = subst (λ q. KeepsTypeHere q q) (sym c.in-None.is) beside.untyped

pub returns-in-Some-clause-kept : goal.returns-in-Some-clause-kept
returns-in-Some-clause-kept g c = seen KeepsTypeHere c.in-Some.is (beside.typed _ _ (record { span = refl; node = record { payload = refl } }))
