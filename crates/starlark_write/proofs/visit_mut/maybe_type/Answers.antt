use Rattle.std.proofs.Common.{refl, sym, ap, ◌∙◌, subst, [], ◌∷◌}
use Rattle.starlark_write.specs.Beside as beside
use Rattle.starlark_write.specs.Beside.{KeepsMaybeType}
use Rattle.starlark_ast.specs.Places.{maybe_type_place, type_place}
use Rattle.starlark_ast.specs.declared.ast.TypeExprP.{out-TypeExprP}
use Rattle.starlark_write.proofs.Lent.{seen}
use Rattle.starlark_write.proofs.Writes.{writes_at}
use Rattle.starlark_write.proofs.visit_mut.maybe_type.Goals as goal

pub returns-in-None-clause-kept : goal.returns-in-None-clause-kept
returns-in-None-clause-kept g c = subst (λ q. KeepsMaybeType q q) (sym c.in-None.is) beside.untyped

pub returns-in-Some-clause-calls : goal.returns-in-Some-clause-calls
returns-in-Some-clause-calls g c = writes_at g.F.FnMut (ap maybe_type_place c.in-Some.is ∙ ap (λ q. type_place q ∷ []) (sym c.deref_mut.ensures.value)) refl c.one.ensures.calls

pub returns-in-Some-clause-kept : goal.returns-in-Some-clause-kept
returns-in-Some-clause-kept g c =
    seen KeepsMaybeType c.in-Some.is (beside.typed _ _ refl (record { span = ap (λ q. q.span) c.deref_mut.ensures.value; node = record { payload = ap (λ q. (out-TypeExprP _ _ _ _ _ _ q.node).payload) c.deref_mut.ensures.value } }))
